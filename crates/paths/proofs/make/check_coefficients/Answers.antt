-- The lowest level that is unfit is the first whose coefficients are out of range, or else the first that has too few or too many.
use Rattle.std.proofs.Common.{◌≡◌, ℕ, ◌-◌, List, drop, Some, sym, ap, ◌∙◌, inl, inr, arith}
use Rattle.std.proofs.lemmas.Bool.{cases_lt}
use Rattle.trees.specs.declared.settings.Coefficient.{Coefficient}
use Rattle.trees.specs.Refusal.{lowest_unfit}
use Rattle.trees.proofs.Coefficients.{missing, lowest_is_first, lowest_is_behind, extra, no_extra}
use Rattle.paths.specs.Making.{coefficient_answer}
use Rattle.paths.proofs.make.check_coefficients.Goals as goal

-- The number of levels that want coefficients, as the callee gave it and as the rules define it.
told : (cs : List Coefficient) (wanted wanted' : ℕ) → wanted ≡ wanted' → coefficient_answer (lowest_unfit 0 wanted cs) ≡ coefficient_answer (lowest_unfit 0 wanted' cs)
told cs wanted wanted' e = ap (λ n. coefficient_answer (lowest_unfit 0 n cs)) e

unit : Coefficient
unit = record { a = 1; b = 0 }

pub returns-in-Some : goal.returns-in-Some
returns-in-Some c =
    let cs = c.args.coefficients.now in
    let wanted = c.levels_with_coefficients-wanted.result in
    let first = lowest_is_first cs wanted c.min-matched.result unit (omega arith) (omega arith) c.in-Some.level c.in-Some.ensures in
    sym (ap coefficient_answer first) ∙ told cs wanted _ c.levels_with_coefficients-wanted.ensures

-- What is left behind the levels that have coefficients and want them.
behind : (cs : List Coefficient) (wanted n m : ℕ) → n ≡ m → lowest_unfit n (wanted - n) (drop n cs) ≡ lowest_unfit m (wanted - m) (drop m cs)
behind cs wanted n m e = ap (λ k. lowest_unfit k (wanted - k) (drop k cs)) e

pub returns-in-None : goal.returns-in-None
returns-in-None c =
    let cs = c.args.coefficients.now in
    let wanted = c.levels_with_coefficients-wanted.result in
    let n = c.min-matched.result in
    let e : n ≡ wanted = omega (arith, c.min-matched.ensures) in
    let none = lowest_is_behind cs wanted n unit (omega arith) (omega arith) c.in-None.ensures ∙ behind cs wanted n wanted e ∙ no_extra cs wanted (omega (arith, c.min-matched.ensures)) in
    sym (ap coefficient_answer none) ∙ told cs wanted _ c.levels_with_coefficients-wanted.ensures

pub returns-in-None-2 : goal.returns-in-None-2
returns-in-None-2 c =
    let cs = c.args.coefficients.now in
    let wanted = c.levels_with_coefficients-wanted.result in
    let n = c.min-matched.result in
    let left : lowest_unfit n (wanted - n) (drop n cs) ≡ Some n =
    elim (cases_lt n wanted) [
      | inl low ↦ missing cs n wanted low (omega (arith, c.min-matched.ensures))
      | inr all ↦ (let e : n ≡ wanted = omega (arith, c.min-matched.ensures) in behind cs wanted n wanted e ∙ extra cs wanted (omega (arith, c.min-matched.ensures)) ∙ ap Some (sym e))
    ] in
    let there = lowest_is_behind cs wanted n unit (omega arith) (omega arith) c.in-None-2.ensures ∙ left in
    sym (ap coefficient_answer there) ∙ told cs wanted _ c.levels_with_coefficients-wanted.ensures

-- The lowest level whose coefficients do not fit, level by level.
use Rattle.std.proofs.Common.{◌≡◌, ℕ, zero, suc, ◌+◌, ◌-◌, ◌<◌, ◌≤◌, Bool, true, false, not, List, [], ◌∷◌, ◌++◌, length, get_or, take, drop, position, replicate, Some, None, sym, refl, ap, ◌∙◌, inl, inr, arith}
use Rattle.std.proofs.lemmas.List.{drop_more, drop_all, get_or-take, length-drop, length-take-le}
use Rattle.std.proofs.lemmas.List.Quantifiers.{position-Some}
use Rattle.std.proofs.lemmas.Bool.{cond-true, cond-false, and_from, and_parts, cases_Bool, not-false, not-true}
use Rattle.octets.proofs.Lists.{fails_everywhere}
use Rattle.trees.specs.declared.settings.Coefficient.{Coefficient}
use Rattle.trees.specs.Settings.{coefficient_fits, all_fit}
use Rattle.trees.specs.Refusal.{lowest_unfit}

module _ (cs : List Coefficient) (level wanted : ℕ) where
  -- what is still to look at, with a level to go
  more_left : level < wanted → wanted - level ≡ suc (wanted - (level + 1))
  more_left h = omega arith

  pub missing : level < wanted → length cs ≤ level → lowest_unfit level (wanted - level) (drop level cs) ≡ Some level
  missing h k = ap (λ n. lowest_unfit level n (drop level cs)) (more_left h) ∙ ap (lowest_unfit level (suc (wanted - (level + 1)))) (drop_all level cs k)

  module _ (d : Coefficient) (low : level < wanted) (has : level < length cs) where
    opened : lowest_unfit level (wanted - level) (drop level cs) ≡ lowest_unfit level (suc (wanted - (level + 1))) (get_or cs level d ∷ drop (level + 1) cs)
    opened =
        ap (λ n. lowest_unfit level n (drop level cs)) (more_left low)
        ∙ ap (lowest_unfit level (suc (wanted - (level + 1)))) (drop_more cs level d has)

    pub unfit : coefficient_fits (get_or cs level d) ≡ false → lowest_unfit level (wanted - level) (drop level cs) ≡ Some level
    unfit bad = opened ∙ cond-false _ _ _ bad

    pub fits_on : coefficient_fits (get_or cs level d) ≡ true → lowest_unfit level (wanted - level) (drop level cs) ≡ lowest_unfit (level + 1) (wanted - (level + 1)) (drop (level + 1) cs)
    fits_on good = opened ∙ cond-true _ _ _ good

-- The levels so far fit, so the lowest that does not is among the rest.
pub past_fitting : (cs : List Coefficient) (wanted : ℕ) (d : Coefficient) (n : ℕ) → n ≤ wanted → n ≤ length cs → ((k : ℕ) → k < n → coefficient_fits (get_or cs k d) ≡ true) → lowest_unfit 0 wanted cs ≡ lowest_unfit n (wanted - n) (drop n cs)
past_fitting cs wanted d zero few there fit = let all : wanted ≡ wanted - 0 = omega arith in ap (λ n. lowest_unfit 0 n cs) all
past_fitting cs wanted d (suc n) few there fit =
    let next : n + 1 ≡ suc n = omega arith in
    past_fitting cs wanted d n (omega arith) (omega arith) (λ k low. fit k (omega arith)) ∙ fits_on cs n wanted d (omega arith) (omega arith) (fit n (omega arith))
    ∙ ap (λ k. lowest_unfit k (wanted - k) (drop k cs)) next

none_left : (level : ℕ) (cs : List Coefficient) → 0 < length cs → lowest_unfit level 0 cs ≡ Some level
none_left level [] h = absurd (omega arith)
none_left level (c ∷ cs) h = refl

module _ (cs : List Coefficient) (wanted : ℕ) where
  no_more : wanted - wanted ≡ 0
  no_more = omega arith

  pub extra : wanted < length cs → lowest_unfit wanted (wanted - wanted) (drop wanted cs) ≡ Some wanted
  extra h =
      ap (λ n. lowest_unfit wanted n (drop wanted cs)) no_more
      ∙ none_left wanted (drop wanted cs) (simp length-drop (omega arith))

  pub no_extra : length cs ≤ wanted → lowest_unfit wanted (wanted - wanted) (drop wanted cs) ≡ None
  no_extra h = ap (λ n. lowest_unfit wanted n (drop wanted cs)) no_more ∙ ap (lowest_unfit wanted 0) (drop_all wanted cs h)

-- The first n coefficients, one for each of the first n levels: the lowest unfit level by the first of them that is out of range.
module _ (cs : List Coefficient) (wanted n : ℕ) (d : Coefficient) (few : n ≤ wanted) (there : n ≤ length cs) where
  abbrev out_of_range : Coefficient → Bool
  out_of_range c = not (coefficient_fits c)

  fits_before : (k : ℕ) → k < n → out_of_range (get_or (take n cs) k d) ≡ false → coefficient_fits (get_or cs k d) ≡ true
  fits_before k low h = ap coefficient_fits (sym (get_or-take n cs k d low)) ∙ not-false _ h

  pub lowest_is_first : (level : ℕ) → Some level ≡ position out_of_range (take n cs) → lowest_unfit 0 wanted cs ≡ Some level
  lowest_is_first level h =
      let at = position-Some out_of_range (take n cs) level d (sym h) in
      let low : level < n = omega (arith, at.0, length-take-le n cs there) in
      past_fitting cs wanted d level (omega arith) (omega arith) (λ k before. fits_before k (omega arith) (at.2 k before))
      ∙ unfit cs level wanted d (omega arith) (omega arith) (ap coefficient_fits (sym (get_or-take n cs level d low)) ∙ not-true _ at.1)

  pub lowest_is_behind : None ≡ position out_of_range (take n cs) → lowest_unfit 0 wanted cs ≡ lowest_unfit n (wanted - n) (drop n cs)
  lowest_is_behind h =
      past_fitting cs wanted d n few there (λ k low. fits_before k low (fails_everywhere out_of_range (take n cs) k d h (omega (arith, length-take-le n cs there))))

-- Where no level is unfit, there are as many coefficients as levels that want them, and all fit.
pub none_unfit : (level wanted : ℕ) (cs : List Coefficient) → lowest_unfit level wanted cs ≡ None → (length cs ≡ wanted) × (all_fit cs ≡ true)
none_unfit level zero [] h = (refl, refl)
none_unfit level zero (c ∷ cs) h = absurd (let z : ◌≡◌ {A = ℕ} 0 1 = cc in omega arith)
none_unfit level (suc wanted) [] h = absurd (let z : ◌≡◌ {A = ℕ} 0 1 = cc in omega arith)
none_unfit level (suc wanted) (c ∷ cs) h =
    elim (cases_Bool (coefficient_fits c)) [
      | inl good ↦
          (let rest = none_unfit (level + 1) wanted cs (sym (cond-true _ _ _ good) ∙ h) in
          (ap suc rest.0, and_from _ _ good rest.1))
      | inr bad ↦ absurd (let e = sym (cond-false _ (lowest_unfit (level + 1) wanted cs) _ bad) ∙ h in let z : ◌≡◌ {A = ℕ} 0 1 = cc in omega arith)
    ]

pub all_fit-append : (cs ds : List Coefficient) → all_fit cs ≡ true → all_fit ds ≡ true → all_fit (cs ++ ds) ≡ true
all_fit-append [] ds h k = k
all_fit-append (c ∷ cs) ds h k = let parts = and_parts (coefficient_fits c) (all_fit cs) h in and_from _ _ parts.0 (all_fit-append cs ds parts.1 k)

pub all_fit-replicate : (n : ℕ) (c : Coefficient) → coefficient_fits c ≡ true → all_fit (replicate n c) ≡ true
all_fit-replicate zero c h = refl
all_fit-replicate (suc n) c h = and_from _ _ h (all_fit-replicate n c h)

pub fit_at : (cs : List Coefficient) (i : ℕ) (d : Coefficient) → i < length cs → all_fit cs ≡ true → coefficient_fits (get_or cs i d) ≡ true
fit_at [] i d h k = absurd (omega arith)
fit_at (c ∷ cs) zero d h k = (and_parts (coefficient_fits c) (all_fit cs) k).0
fit_at (c ∷ cs) (suc i) d h k = fit_at cs i d (omega arith) (and_parts (coefficient_fits c) (all_fit cs) k).1

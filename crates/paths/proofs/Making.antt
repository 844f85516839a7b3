-- What the checks of a rule's settings, coefficients and size leave when all of them pass.
use Rattle.std.proofs.Common.{◌≡◌, ℕ, ◌-◌, ◌≤◌, true, leb, List, ◌++◌, length, take, replicate, Some, None, Ok, Err, Option, refl, ap, ◌∙◌, inl, inr, arith}
use Rattle.std.proofs.lemmas.List.{take_at}
use Rattle.std.proofs.lemmas.Bool.{and_from, le-leb, leb-true, cond-true, cond-false, cases_Bool}
use Rattle.trees.specs.declared.fault.RuleFault.TheVariants.{Size}
use Rattle.trees.specs.declared.settings.Coefficient.{Coefficient as Pair}
use Rattle.trees.specs.declared.settings.Scheme.{Scheme}
use Rattle.trees.specs.declared.settings.Scheme.TheVariants.{Thin, Fat, Trie}
use Rattle.trees.specs.declared.settings.Settings.{Settings}
use Rattle.trees.specs.Geometry.{largest_total}
use Rattle.trees.specs.Settings.{RuleSettings, wanted, in_range, all_fit}
use Rattle.trees.specs.Refusal.{coefficients_of, lowest_unfit, coefficient_refusal, size_refusal, rule_refusal, sized, total_answer, total_of}
use Rattle.trees.proofs.Coefficients.{none_unfit, all_fit-append, all_fit-replicate}
use Rattle.paths.specs.declared.shape.Shape.{Shape}
use Rattle.paths.specs.Making.{coefficient_answer}

abbrev of_shape : Shape → List Pair → RuleSettings
of_shape s cs = record { scheme = s.scheme; cells = s.cells; children = s.children; levels = s.levels; tries = s.tries; coefficients = cs }

-- A shape's numbers are in range.
pub shape_in_range : (s : Shape) → in_range s.scheme s.cells s.children s.levels s.tries ≡ true
shape_in_range s =
    and_from _ _ (and_from _ _ (le-leb _ _ s.node.0) (le-leb _ _ s.node.1))
    (and_from _ _ (and_from _ _ (le-leb _ _ s.fork.0) (le-leb _ _ s.fork.1))
    (and_from _ _ (and_from _ _ (le-leb _ _ s.depth.0) (le-leb _ _ s.depth.1))
    (and_from _ _ (and_from _ _ (le-leb _ _ s.width.0) (le-leb _ _ s.width.1)) s.taken)))

pub passed : (o : Option ℕ) → Ok tt ≡ coefficient_answer o → o ≡ None
passed None h = refl
passed (Some level) h = absurd (let z : ◌≡◌ {A = ℕ} 0 1 = cc in omega arith)

pub fits_size : (n total : ℕ) → Ok total ≡ sized n → (total ≡ n) × (n ≤ largest_total)
fits_size n total h =
    elim (cases_Bool (leb n largest_total)) [
      | inl small ↦ (let e = h ∙ cond-true _ _ _ small in (cc, leb-true n largest_total small))
      | inr large ↦ absurd (let e = h ∙ cond-false _ (Ok n) (Err Size) large in let z : ◌≡◌ {A = ℕ} 0 1 = cc in omega arith)
    ]

few : (scheme : Scheme) (levels : ℕ) → coefficients_of scheme levels ≤ levels
few Thin levels = omega arith
few Fat levels = omega arith
few Trie levels = omega arith

module _ (s : Shape) (cs : List Pair) (fit : Ok tt ≡ coefficient_answer (lowest_unfit 0 (coefficients_of s.scheme s.levels) cs)) where
  counted : (length cs ≡ coefficients_of s.scheme s.levels) × (all_fit cs ≡ true)
  counted = none_unfit 0 (coefficients_of s.scheme s.levels) cs (passed _ fit)

  pub at_most_16 : length cs ≤ 16
  at_most_16 = omega (arith, counted.0, few s.scheme s.levels, s.depth.1)

  module _ (table : List Pair) (filled : table ≡ cs ++ replicate (16 - length cs) (record { a = 1; b = 0 })) where
    pub table_fits : all_fit table ≡ true
    table_fits = ap all_fit filled ∙ all_fit-append cs _ counted.1 (all_fit-replicate (16 - length cs) _ refl)

    pub table_holds : take (coefficients_of s.scheme s.levels) table ≡ cs
    table_holds = ap (take (coefficients_of s.scheme s.levels)) filled ∙ take_at cs _ _ counted.0

  pub not_refused : (total : ℕ) → Ok total ≡ total_answer s.cells s.children s.levels → rule_refusal (of_shape s cs) ≡ None
  not_refused total size =
      cond-true _ _ _ (shape_in_range s)
      ∙ ap (λ o. coefficient_refusal o (size_refusal (of_shape s cs))) (passed _ fit)
      ∙ cond-true _ _ _ (le-leb _ _ (fits_size (total_of (of_shape s cs)) total size).1)

-- The settings of a shape that was made with these.
pub shaped :
    (s : Shape) (w : Settings) (cs : List Pair) → (s.scheme ≡ w.scheme) × (s.cells ≡ w.cells) × (s.children ≡ w.children) × (s.levels ≡ w.levels) × (s.tries ≡ w.tries)
    → of_shape s cs ≡ wanted w cs
shaped s w cs e i = record { scheme = e.0 i; cells = e.1 i; children = e.2 i; levels = e.3 i; tries = e.4 i; coefficients = cs }

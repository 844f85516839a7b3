-- The levels' first cells and spans, one level on from another.
use Rattle.std.proofs.Common.{◌≡◌, ℕ, zero, suc, ◌+◌, ◌*◌, ◌^◌, ◌<◌, ◌≤◌, Ok, Err, sym, ap, ◌∙◌, inl, inr, mul_assoc, pow-suc, mul-one, add-one, arith}
use native.Mathlib.Nat.{pow-zero}
use Rattle.std.proofs.lemmas.Nat.{mul-le}
use Rattle.std.proofs.lemmas.Bool.{cond-true, cond-false, le-leb, lt-leb, cases_eq}
use Rattle.trees.specs.declared.fault.RuleFault.TheVariants.{Size}
use Rattle.trees.specs.Geometry.{first_cell, span, largest_total}
use Rattle.trees.specs.Refusal.{sized, first_cell_answer}

pub span_top : (m k : ℕ) → span m k 0 ≡ m
span_top m k = ap (λ n. m * n) (pow-zero k) ∙ mul-one m

pub span_more : (m k i : ℕ) → span m k (i + 1) ≡ span m k i * k
span_more m k i = ap (span m k) (add-one i) ∙ ap (λ n. m * n) (pow-suc k i) ∙ sym (mul_assoc m (k ^ i) k)

pub first_cell_more : (m k i : ℕ) → first_cell m k (i + 1) ≡ first_cell m k i + span m k i
first_cell_more m k i = ap (first_cell m k) (add-one i)

-- A deeper level begins no earlier.
pub first_cell_rises : (m k i j : ℕ) → i ≤ j → first_cell m k i ≤ first_cell m k j
first_cell_rises m k i zero h = let e : i ≡ 0 = omega arith in omega (arith, ap (first_cell m k) e)
first_cell_rises m k i (suc j) h =
    elim (cases_eq i (suc j)) [ inl e ↦ omega (arith, ap (first_cell m k) e) | inr ne ↦ omega (arith, first_cell_rises m k i j (omega arith)) ]

pub span_some : (m k i : ℕ) → 1 ≤ m → 1 ≤ k → 1 ≤ span m k i
span_some m k zero some fork = omega (arith, span_top m k)
span_some m k (suc i) some fork = omega (arith, ap (span m k) (add-one i), span_more m k i, mul-le 1 1 (span m k i) k (span_some m k i some fork) fork)

pub sized-small : (n : ℕ) → n ≤ largest_total → Ok n ≡ sized n
sized-small n h = sym (cond-true _ _ _ (le-leb n largest_total h))

pub sized_large : (n : ℕ) → largest_total < n → Err Size ≡ sized n
sized_large n h = sym (cond-false _ _ _ (lt-leb n largest_total h))

pub first_cell-asked : (m k levels level : ℕ) → level ≤ levels → sized (first_cell m k level) ≡ first_cell_answer m k levels level
first_cell-asked m k levels level h = sym (cond-true _ _ _ (le-leb level levels h))

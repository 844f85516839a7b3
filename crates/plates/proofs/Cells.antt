-- The cells of a plate after a write.
use Rattle.std.proofs.Common.{◌≡◌, ℕ, ◌+◌, ◌*◌, ◌<◌, ◌≤◌, List, length, get_or, take, drop, inl, inr, arith, length-drop, length-take}
use Rattle.std.proofs.lemmas.List.{get_or-take, get_or-drop}
use Rattle.std.proofs.lemmas.Bool.{cases_lt}
use Rattle.std.proofs.lemmas.Bool.Decides.{nat_tests}
use Rattle.std.proofs.lemmas.Grind.{elements}
use Rattle.stores.specs.Cells.{written, changed}
use Rattle.plates.specs.Plates.{plate_cells, plate_cell, flag, place, Plated}

module _ (old new : List ℕ) (long : length new ≡ length old) where
  -- a part whose bytes are as they were
  same_part : (n a : ℕ) → ((k e : ℕ) → a ≤ k → k < a + n → get_or new k e ≡ get_or old k e) → take n (drop a new) ≡ take n (drop a old)
  same_part n a h = grind (arith, elements, length-drop, length-take, get_or-take, get_or-drop)

  -- a cell whose 25 bytes are as they were
  same_cell : (count d : ℕ) → ((k e : ℕ) → 25 * d ≤ k → k < 25 * d + 25 → get_or new k e ≡ get_or old k e) → plate_cell count new d ≡ plate_cell count old d
  same_cell count d h =
      let flags : flag new d ≡ flag old d = h (25 * d) 0 (omega arith) (omega arith) in
      let body : place new d ≡ place old d = same_part 24 (25 * d + 1) (λ k e g l. h k e (omega arith) (omega arith)) in
      cc

module _ (old new : List ℕ) (count at : ℕ) (bytes : List ℕ) (inside : at < plate_cells count old) (put : Plated old new at bytes) where
  here : plate_cell count new at ≡ written bytes
  here = grind (arith, nat_tests, put)

  apart : (d : ℕ) → (d ≡ at → ⊥) → plate_cell count new d ≡ plate_cell count old d
  apart d ne =
      elim (cases_lt d at) [
        | inl lt ↦ same_cell old new put.long count d (λ k e g l. put.front k e (omega arith))
        | inr ge ↦ same_cell old new put.long count d (λ k e g l. put.back k e (omega (arith, ne)))
      ]

  pub cell_after : (d : ℕ) → plate_cell count new d ≡ changed (plate_cell count old) at (written bytes) d
  cell_after d = grind (arith, nat_tests, here, apart)

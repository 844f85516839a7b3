-- A slot among pairs, by what is found there.
use Rattle.std.proofs.Common.{◌≡◌, ℕ, zero, suc, cond, eqb, List, [], ◌∷◌, slice_get, Some, None, Ok, Err, refl, ap}
use Rattle.keeps.specs.declared.fault.KeepFault.TheVariants.{Stranger}
use Rattle.keeps.specs.Groups.{Pair, in_slot}

-- A slot that was not given out.
pub slot_none : (pairs : List Pair) (slot cell : ℕ) → None ≡ slice_get pairs slot → Err (Stranger cell) ≡ in_slot pairs slot cell
slot_none [] slot cell e = refl
slot_none (p ∷ pairs) zero cell e = absurd cc
slot_none (p ∷ pairs) (suc slot) cell e = slot_none pairs slot cell e

-- A slot that was given out.
pub slot_some : (pairs : List Pair) (slot cell : ℕ) (p : Pair) → Some p ≡ slice_get pairs slot → cond (eqb p.cell cell) (Ok p.locator) (Err (Stranger cell)) ≡ in_slot pairs slot cell
slot_some [] slot cell p e = absurd cc
slot_some (q ∷ pairs) zero cell p e = let same : p ≡ q = cc in ap (λ (r : Pair). cond (eqb r.cell cell) (Ok r.locator) (Err (Stranger cell))) same
slot_some (q ∷ pairs) (suc slot) cell p e = slot_some pairs slot cell p e

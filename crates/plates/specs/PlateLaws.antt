-- A plate is a store.
use Rattle.std.specs.Prelude.{◌≡◌, ℕ, ◌+◌, ◌*◌, ◌<◌, ◌≤◌, Bool, true, false, cond, ◌&&◌, List, length, drop, ◌==◌, nat_lt, refl}
use Rattle.std.proofs.Common.{div-mul-le_self, arith, ap, sym, ◌∙◌, length-take, length-drop}
use Rattle.std.proofs.lemmas.Bool.{cond-false, and_left, le-ltb, ltb-true}
use Rattle.stores.specs.Cells.{Cell, blank, written}
use Rattle.stores.specs.Laws.{StoreLaws}
use Rattle.plates.specs.declared.plate.Plate.{Plate}
use Rattle.plates.specs.Plates.{plate_cells, plate_cell, plate_takes, flag, place}

once_by : (inside zero : Bool) (x : List ℕ) → (inside && zero) ≡ true → cond inside (cond zero blank (written x)) blank ≡ blank
once_by true true x e = refl
once_by true false x e = refl_of e
  where
    refl_of : false ≡ true → written x ≡ blank
    refl_of z = absurd (let w : ◌≡◌ {A = ℕ} 0 1 = cc in omega arith)
once_by false zero x e = refl

held : (inside zero : Bool) (x y : List ℕ) → cond inside (cond zero blank (written x)) blank ≡ written y → (inside ≡ true) × (x ≡ y)
held true true x y e = absurd (let z : ◌≡◌ {A = ℕ} 0 1 = cc in omega arith)
held true false x y e = (refl, cc)
held false zero x y e = absurd (let z : ◌≡◌ {A = ℕ} 0 1 = cc in omega arith)

-- A cell that there is memory for has all its bytes.
pub room_for : (count : ℕ) (memory : List ℕ) (d : ℕ) → d < plate_cells count memory → 25 * d + 25 ≤ length memory
room_for count memory d h = omega (arith, div-mul-le_self (length memory) 25)

length_place : (memory : List ℕ) (d : ℕ) → 25 * d + 25 ≤ length memory → length (place memory d) ≡ 24
length_place memory d h = length-take 24 (drop (25 * d + 1) memory) ∙ (let e = length-drop (25 * d + 1) memory in omega (arith, e))

-- Over any type that has a count and memory.
pub plate_laws_of : {P : Type 0} (count : P → ℕ) (memory : P → List ℕ) → StoreLaws (λ p. plate_cells (count p) (memory p)) (λ p. plate_cell (count p) (memory p)) (λ p. plate_takes (count p) (memory p))
plate_laws_of count memory =
    record {
      small = λ p. omega arith;
      beyond = λ p d h. cond-false _ _ _ (le-ltb d _ h);
      outside = λ p d h. and_left _ _ (le-ltb d _ h);
      once = λ p d. once_by (nat_lt d (plate_cells (count p) (memory p))) (flag (memory p) d == 0) (place (memory p) d);
      long = λ p d x e.
          let parts = held (nat_lt d (plate_cells (count p) (memory p))) (flag (memory p) d == 0) (place (memory p) d) x e in
          ap length (sym parts.1) ∙ length_place (memory p) d (room_for (count p) (memory p) d (ltb-true d _ parts.0));
    }

-- What a plate shows of itself.
abbrev pub cells_of : Plate → ℕ
cells_of p = plate_cells p.count p.memory.now

abbrev pub cell_of : Plate → ℕ → Cell
cell_of p = plate_cell p.count p.memory.now

abbrev pub takes_of : Plate → ℕ → Bool
takes_of p = plate_takes p.count p.memory.now

pub plate_laws : StoreLaws cells_of cell_of takes_of
plate_laws = plate_laws_of (λ p. p.count) (λ p. p.memory.now)

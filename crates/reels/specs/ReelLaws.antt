-- A reel is a store.
use Rattle.std.specs.Prelude.{◌≡◌, ℕ, zero, suc, ◌+◌, ◌-◌, ◌*◌, ◌<◌, ◌≤◌, Bool, true, false, cond, not, ◌&&◌, List, length, drop, is_some, Some, None, Option, ◌==◌, nat_lt, refl}
use Rattle.std.proofs.Common.{div-mul-le_self, arith, ap, sym, ◌∙◌, length-take, length-drop}
use Rattle.std.proofs.lemmas.Bool.{cond-false, and_left, le-ltb}
use Rattle.std.specs.Option.{option_or}
use Rattle.stores.specs.Cells.{Cell, blank, written, cell_length}
use Rattle.stores.specs.Laws.{StoreLaws}
use Rattle.reels.specs.declared.reel.Reel.{Reel}
use Rattle.reels.specs.Reels.{reel_cells, reel_room, reel_used, line_number, line_bytes, found, cell_on, reel_cell, reel_takes}

-- A line is found among those looked at.
one_more_below : (n i : ℕ) (before : Option ℕ) (b : Bool) → ((j : ℕ) → before ≡ Some j → j < n) → option_or before (cond b (Some n) None) ≡ Some i → i < suc n
one_more_below n i (Some j) b low e = let k : j ≡ i = cc in let l = low j refl in omega arith
one_more_below n i None true low e = let k : n ≡ i = cc in omega arith
one_more_below n i None false low e = absurd (let z : ◌≡◌ {A = ℕ} 0 1 = cc in omega arith)

pub found_below : (memory : List ℕ) (d n i : ℕ) → found memory d n ≡ Some i → i < n
found_below memory d zero i e = absurd (let z : ◌≡◌ {A = ℕ} 0 1 = cc in omega arith)
found_below memory d (suc n) i e = one_more_below n i (found memory d n) (line_number memory n == d) (λ j. found_below memory d n j) e

-- A line that there is memory for has all its bytes.
pub line_inside : (lines : ℕ) (memory : List ℕ) (i : ℕ) → i < reel_room lines memory → 32 + 28 * i ≤ length memory
line_inside lines memory i h = omega (arith, div-mul-le_self (length memory - 4) 28)

length_line : (memory : List ℕ) (i : ℕ) → 32 + 28 * i ≤ length memory → length (line_bytes memory i) ≡ 24
length_line memory i h = length-take 24 (drop (8 + 28 * i) memory) ∙ (let e = length-drop (8 + 28 * i) memory in omega (arith, e))

once_by : (inside left : Bool) (memory : List ℕ) (line : Option ℕ) → (inside && (not (is_some line) && left)) ≡ true → cond inside (cell_on memory line) blank ≡ blank
once_by true left memory None e = refl
once_by true left memory (Some i) e = absurd (let z : ◌≡◌ {A = ℕ} 0 1 = cc in omega arith)
once_by false left memory line e = refl

held : (inside : Bool) (memory : List ℕ) (line : Option ℕ) (x : List ℕ) → cond inside (cell_on memory line) blank ≡ written x → (i : ℕ) × ((line ≡ Some i) × (line_bytes memory i ≡ x))
held true memory None x e = absurd (let z : ◌≡◌ {A = ℕ} 0 1 = cc in omega arith)
held true memory (Some i) x e = (i, (refl, cc))
held false memory line x e = absurd (let z : ◌≡◌ {A = ℕ} 0 1 = cc in omega arith)

long_by : (inside : Bool) (lines : ℕ) (memory : List ℕ) (d : ℕ) (x : List ℕ) → cond inside (cell_on memory (found memory d (reel_used lines memory))) blank ≡ written x → length x ≡ cell_length
long_by inside lines memory d x e =
    let h = held inside memory (found memory d (reel_used lines memory)) x e in
    let low : h.0 < reel_used lines memory = found_below memory d (reel_used lines memory) h.0 h.1.0 in
    ap length (sym h.1.1) ∙ length_line memory h.0 (line_inside lines memory h.0 (omega arith))

-- Over any type that has a number of cells, one of lines, and memory.
pub reel_laws_of :
    {R : Type 0} (cells lines : R → ℕ) (memory : R → List ℕ)
    → StoreLaws (λ r. reel_cells (cells r)) (λ r. reel_cell (cells r) (lines r) (memory r)) (λ r. reel_takes (cells r) (lines r) (memory r))
reel_laws_of cells lines memory =
    record {
      small = λ r. omega arith;
      beyond = λ r d h. cond-false _ _ _ (le-ltb d _ h);
      outside = λ r d h. and_left _ _ (le-ltb d _ h);
      once = λ r d. once_by (nat_lt d (reel_cells (cells r))) (nat_lt (reel_used (lines r) (memory r)) (reel_room (lines r) (memory r))) (memory r) (found (memory r) d (reel_used (lines r) (memory r)));
      long = λ r d x. long_by (nat_lt d (reel_cells (cells r))) (lines r) (memory r) d x;
    }

-- What a reel shows of itself.
abbrev pub cells_of : Reel → ℕ
cells_of r = reel_cells r.cells

abbrev pub cell_of : Reel → ℕ → Cell
cell_of r = reel_cell r.cells r.lines r.memory.now

abbrev pub takes_of : Reel → ℕ → Bool
takes_of r = reel_takes r.cells r.lines r.memory.now

pub reel_laws : StoreLaws cells_of cell_of takes_of
reel_laws = reel_laws_of (λ r. r.cells) (λ r. r.lines) (λ r. r.memory.now)

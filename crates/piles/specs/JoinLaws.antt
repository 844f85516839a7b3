-- A join is a store.
use Rattle.std.specs.Prelude.{◌≡◌, ℕ, ◌-◌, Bool, true, false, cond, List, length, nat_lt}
use Rattle.std.proofs.Common.{arith}
use Rattle.std.proofs.lemmas.Bool.{cond-false, le-ltb, false≢true}
use Rattle.stores.specs.Cells.{Cell, blank, written, cell_length}
use Rattle.stores.specs.Laws.{StoreLaws}
use Rattle.piles.specs.declared.join.Join.{Join}
use Rattle.piles.specs.Joins.{join_cells, join_cell, join_takes}

once_by :
    (inside side t u : Bool) (c d : Cell) → (t ≡ true → c ≡ blank) → (u ≡ true → d ≡ blank) → cond inside (cond side t u) false ≡ true
    → cond inside (cond side c d) blank ≡ blank
once_by true true t u c d h k e = h e
once_by true false t u c d h k e = k e
once_by false side t u c d h k e = absurd (false≢true e)

long_by :
    (inside side : Bool) (c d : Cell) (x : List ℕ) → (c ≡ written x → length x ≡ cell_length) → (d ≡ written x → length x ≡ cell_length)
    → cond inside (cond side c d) blank ≡ written x → length x ≡ cell_length
long_by true true c d x h k e = h e
long_by true false c d x h k e = k e
long_by false side c d x h k e = absurd (let z : ◌≡◌ {A = ℕ} 0 1 = cc in omega arith)

-- Over any type that has two stores.
pub join_laws_of :
    {J S T : Type 0} {cells : S → ℕ} {cell : S → ℕ → Cell} {takes : S → ℕ → Bool} {cells' : T → ℕ} {cell' : T → ℕ → Cell} {takes' : T → ℕ → Bool} (first : J → S) (second : J → T)
    → StoreLaws cells cell takes → StoreLaws cells' cell' takes'
    → StoreLaws (λ j. join_cells (cells (first j)) (cells' (second j)))
    (λ j. join_cell (cells (first j)) (cells' (second j)) (cell (first j)) (cell' (second j)))
    (λ j. join_takes (cells (first j)) (cells' (second j)) (takes (first j)) (takes' (second j)))
join_laws_of {cells = cells} {cells' = cells'} first second laws laws' =
    record {
      small = λ j. omega arith;
      beyond = λ j d h. cond-false _ _ _ (le-ltb d _ h);
      outside = λ j d h. cond-false _ _ _ (le-ltb d _ h);
      once = λ j d. once_by (nat_lt d (join_cells (cells (first j)) (cells' (second j)))) (nat_lt d (cells (first j))) _ _ _ _ (laws.once (first j) d) (laws'.once (second j) (d - cells (first j)));
      long = λ j d x. long_by (nat_lt d (join_cells (cells (first j)) (cells' (second j)))) (nat_lt d (cells (first j))) _ _ x (laws.long (first j) d x) (laws'.long (second j) (d - cells (first j)) x);
    }

pub join_laws :
    {S T : Type 0} {cells : S → ℕ} {cell : S → ℕ → Cell} {takes : S → ℕ → Bool} {cells' : T → ℕ} {cell' : T → ℕ → Cell} {takes' : T → ℕ → Bool} {g h : _}
    → StoreLaws cells cell takes → StoreLaws cells' cell' takes'
    → StoreLaws (λ (j : Join S T g h). join_cells (cells j.first) (cells' j.second))
    (λ j. join_cell (cells j.first) (cells' j.second) (cell j.first) (cell' j.second))
    (λ j. join_takes (cells j.first) (cells' j.second) (takes j.first) (takes' j.second))
join_laws = join_laws_of (λ j. j.first) (λ j. j.second)

-- A join: the first store's cells, then the second's.
use Rattle.std.specs.Prelude.{ℕ, ◌+◌, ◌-◌, min, Bool, false, cond, Ok, Err, Result, nat_le, nat_lt}
use Rattle.stores.specs.Cells.{Cell, blank}
use Rattle.stores.specs.Laws.{largest_store}
use Rattle.stores.specs.declared.fault.SetUpFault.{SetUpFault}
use Rattle.stores.specs.declared.fault.SetUpFault.TheVariants.{Size}

-- Its cells: those of both, of which no store has more than the largest.
abbrev pub join_cells : (first second : ℕ) → ℕ
join_cells first second = min (first + second) largest_store

-- What stands at a cell of either store, by what stands at the cells of each.
abbrev pub on_side : {A : Type 0} (first : ℕ) (f g : ℕ → A) → ℕ → A
on_side first f g d = cond (nat_lt d first) (f d) (g (d - first))

abbrev pub join_cell : (first second : ℕ) (f g : ℕ → Cell) → ℕ → Cell
join_cell first second f g d = cond (nat_lt d (join_cells first second)) (on_side first f g d) blank

-- A cell can be taken if its own store says so.
abbrev pub join_takes : (first second : ℕ) (f g : ℕ → Bool) → ℕ → Bool
join_takes first second f g d = cond (nat_lt d (join_cells first second)) (on_side first f g d) false

-- SIZE for more cells than a store has.
abbrev pub join_fit : (first second : ℕ) → Result (Unit {0}) SetUpFault
join_fit first second = cond (nat_le (first + second) largest_store) (Ok tt) (Err Size)

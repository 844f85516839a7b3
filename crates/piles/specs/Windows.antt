-- A window: a run of cells of the store below, numbered from 0.
use Rattle.std.specs.Prelude.{ℕ, ◌+◌, ◌-◌, min, Bool, false, cond, Ok, Err, Result, ◌==◌, nat_le, nat_lt}
use Rattle.stores.specs.Cells.{Cell, blank}
use Rattle.stores.specs.declared.fault.SetUpFault.{SetUpFault}
use Rattle.stores.specs.declared.fault.SetUpFault.TheVariants.{Setting, Size}

-- Its cells: those of the count that there are below.
abbrev pub window_cells : (first count size : ℕ) → ℕ
window_cells first count size = min count (size - first)

abbrev pub window_cell : (first count size : ℕ) (cell : ℕ → Cell) → ℕ → Cell
window_cell first count size cell d = cond (nat_lt d (window_cells first count size)) (cell (first + d)) blank

-- It can be taken if the store below says so.
abbrev pub window_takes : (first count size : ℕ) (takes : ℕ → Bool) → ℕ → Bool
window_takes first count size takes d = cond (nat_lt d (window_cells first count size)) (takes (first + d)) false

-- SETTING for no cells, then SIZE past the end.
abbrev pub window_fit : (first count size : ℕ) → Result (Unit {0}) SetUpFault
window_fit first count size = cond (count == 0) (Err Setting) (cond (nat_le (first + count) size) (Ok tt) (Err Size))

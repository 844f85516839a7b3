-- What every store shows of itself.
use Rattle.std.specs.Prelude.{◌≡◌, ℕ, ◌≤◌, Bool, true, false, List, length}
use Rattle.stores.specs.Cells.{Cell, blank, written, cell_length}

-- The most cells of a store.
abbrev pub largest_store : ℕ
largest_store = 1048576

-- Over the size, what each cell holds, and whether it can be taken now.
pub record StoreLaws {S : Type 0} (cells : S → ℕ) (cell : S → ℕ → Cell) (takes : S → ℕ → Bool) : Type 0 where
  pub small : (s : S) → cells s ≤ largest_store
  -- outside it nothing is held, and nothing can be taken
  pub beyond : (s : S) (d : ℕ) → cells s ≤ d → cell s d ≡ blank
  pub outside : (s : S) (d : ℕ) → cells s ≤ d → takes s d ≡ false
  -- only a blank cell can be taken
  pub once : (s : S) (d : ℕ) → takes s d ≡ true → cell s d ≡ blank
  -- a written cell holds as many bytes as a cell has
  pub long : (s : S) (d : ℕ) (x : List ℕ) → cell s d ≡ written x → length x ≡ cell_length

-- A plate: 25 bytes for each cell, a flag (0 blank, else written) and the 24 bytes that it holds.
use Rattle.std.specs.Prelude.{◌≡◌, ℕ, ◌+◌, ◌*◌, ◌/◌, ◌<◌, ◌≤◌, min, Bool, cond, ◌&&◌, List, length, take, drop, Ok, Err, Result, ◌==◌, nat_le, nat_lt, slice_index, slice_index_or}
use Rattle.stores.specs.Cells.{Cell, blank, written}
use Rattle.stores.specs.Laws.{largest_store}
use Rattle.stores.specs.declared.fault.SetUpFault.{SetUpFault}
use Rattle.stores.specs.declared.fault.SetUpFault.TheVariants.{Setting, Size}

-- Its cells: those of the count that there is memory for.
abbrev pub plate_cells : (count : ℕ) → List ℕ → ℕ
plate_cells count memory = min (min count largest_store) (length memory / 25)

abbrev pub flag : List ℕ → ℕ → ℕ
flag memory d = slice_index memory (25 * d)

abbrev pub place : List ℕ → ℕ → List ℕ
place memory d = take 24 (drop (25 * d + 1) memory)

abbrev pub plate_cell : (count : ℕ) → List ℕ → ℕ → Cell
plate_cell count memory d = cond (nat_lt d (plate_cells count memory)) (cond (flag memory d == 0) blank (written (place memory d))) blank

-- Every blank cell can be taken.
abbrev pub plate_takes : (count : ℕ) → List ℕ → ℕ → Bool
plate_takes count memory d = nat_lt d (plate_cells count memory) && flag memory d == 0

-- All the memory after a write at a cell: its flag, its place, and every other byte as it was.
pub record Plated (before after : List ℕ) (at : ℕ) (bytes : List ℕ) : Type 0 where
  pub flagged : flag after at ≡ 1
  pub placed : place after at ≡ bytes
  pub front : (k d : ℕ) → k < 25 * at → slice_index_or after k d ≡ slice_index_or before k d
  pub back : (k d : ℕ) → 25 * at + 25 ≤ k → slice_index_or after k d ≡ slice_index_or before k d
  pub long : length after ≡ length before

-- Setting up and opening: SETTING for a count out of range, then SIZE where memory is too short.
abbrev pub plate_fit : (count long : ℕ) → Result (Unit {0}) SetUpFault
plate_fit count long = cond (nat_le 1 count && nat_le count largest_store) (cond (nat_le (25 * count) long) (Ok tt) (Err Size)) (Err Setting)

-- A reel: a count of 4 bytes, then lines of 28, each the 4-byte number of a cell and the 24 bytes that it holds, in the order of writing.
use Rattle.std.specs.Prelude.{◌≡◌, ℕ, zero, suc, ◌+◌, ◌-◌, ◌*◌, ◌/◌, ◌<◌, min, Bool, cond, not, ◌&&◌, List, ◌++◌, length, take, drop, is_some, Some, None, Ok, Err, Option, Result, ◌==◌, nat_le, nat_lt}
use Rattle.std.specs.Option.{option_or}
use Rattle.octets.specs.Numbers.{big_endian, spelled}
use Rattle.octets.specs.Overwriting.{overwritten}
use Rattle.stores.specs.Cells.{Cell, blank, written}
use Rattle.stores.specs.Laws.{largest_store}
use Rattle.stores.specs.declared.fault.SetUpFault.{SetUpFault}
use Rattle.stores.specs.declared.fault.SetUpFault.TheVariants.{Setting, Size}

abbrev pub reel_cells : (cells : ℕ) → ℕ
reel_cells cells = min cells largest_store

-- The lines that there is memory for.
abbrev pub reel_room : (lines : ℕ) → List ℕ → ℕ
reel_room lines memory = min (min lines largest_store) ((length memory - 4) / 28)

-- The lines used: as many as the count says, and no more than there is memory for.
abbrev pub reel_used : (lines : ℕ) → List ℕ → ℕ
reel_used lines memory = min (spelled (take 4 memory)) (reel_room lines memory)

-- The number of the cell on line i, and its bytes.
abbrev pub line_number : List ℕ → ℕ → ℕ
line_number memory i = spelled (take 4 (drop (4 + 28 * i) memory))

abbrev pub line_bytes : List ℕ → ℕ → List ℕ
line_bytes memory i = take 24 (drop (8 + 28 * i) memory)

-- The first of n lines that has the number of cell d.
abbrev pub found : List ℕ → (d n : ℕ) → Option ℕ
found memory d zero = None
found memory d (suc n) = option_or (found memory d n) (cond (line_number memory n == d) (Some n) None)

abbrev pub cell_on : List ℕ → Option ℕ → Cell
cell_on memory None = blank
cell_on memory (Some i) = written (line_bytes memory i)

abbrev pub reel_cell : (cells lines : ℕ) → List ℕ → ℕ → Cell
reel_cell cells lines memory d = cond (nat_lt d (reel_cells cells)) (cell_on memory (found memory d (reel_used lines memory))) blank

-- A blank cell can be taken while a line is left.
abbrev pub reel_takes : (cells lines : ℕ) → List ℕ → ℕ → Bool
reel_takes cells lines memory d = nat_lt d (reel_cells cells) && (not (is_some (found memory d (reel_used lines memory))) && nat_lt (reel_used lines memory) (reel_room lines memory))

-- Line n is the one that a write of these bytes at a cell goes to.
pub record FreeLine (cells lines : ℕ) (memory : List ℕ) (at : ℕ) (bytes : List ℕ) (n : ℕ) : Type 0 where
  pub long : length bytes ≡ 24
  pub low : at < reel_cells cells
  pub next : n ≡ reel_used lines memory
  pub blank_yet : found memory at n ≡ None
  pub left : n < reel_room lines memory

-- All the memory after a write: one line more behind the n used ones, the count, and nothing else.
abbrev pub line_added : (n at : ℕ) (bytes memory : List ℕ) → List ℕ
line_added n at bytes memory = overwritten 0 (big_endian 4 (n + 1)) (overwritten (4 + 28 * n) (big_endian 4 at ++ bytes) memory)

abbrev pub in_range : ℕ → Bool
in_range n = nat_le 1 n && nat_le n largest_store

-- Setting up and opening: SETTING for cells or lines out of range, then SIZE where memory is too short.
abbrev pub reel_fit : (cells lines long : ℕ) → Result (Unit {0}) SetUpFault
reel_fit cells lines long = cond (in_range cells && in_range lines) (cond (nat_le (4 + 28 * lines) long) (Ok tt) (Err Size)) (Err Setting)

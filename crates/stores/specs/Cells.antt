-- What a store answers and leaves, by its size, what its cells hold and which of them can be taken.
use Rattle.std.specs.Prelude.{ℕ, Bool, true, false, cond, List, length, replicate, Option, Some, None, Ok, Err, Result, ◌==◌, nat_lt}
use Rattle.stores.specs.declared.fault.StoreFault.{StoreFault}
use Rattle.stores.specs.declared.fault.StoreFault.TheVariants.{Length, Beyond, Written, NoCell}

-- A cell is blank, or holds bytes.
pub data Cell : Type 0 where
  blank : Cell
  written : List ℕ → Cell

-- The bytes of a cell.
abbrev pub cell_length : ℕ
cell_length = 24

abbrev pub is_written : Cell → Bool
is_written blank = false
is_written (written x) = true

-- What a reader sees: zeros in a blank cell.
abbrev pub content : Cell → List ℕ
content blank = replicate cell_length 0
content (written x) = x

-- What every read and write looks at first.
abbrev pub check_answer : (size at long : ℕ) → Result (Unit {0}) StoreFault
check_answer size at long = cond (long == cell_length) (cond (nat_lt at size) (Ok tt) (Err (Beyond at))) (Err Length)

-- What a cell holds, nothing where it is blank.
abbrev pub held_in : Cell → Option (List ℕ)
held_in blank = None
held_in (written x) = Some x

abbrev pub held_answer : (size : ℕ) (cell : ℕ → Cell) (at : ℕ) → Result (Option (List ℕ)) StoreFault
held_answer size cell at = cond (nat_lt at size) (Ok (held_in (cell at))) (Err (Beyond at))

abbrev pub read_answer : (size : ℕ) (cell : ℕ → Cell) (at long : ℕ) → Result Bool StoreFault
read_answer size cell at long =
    cond (long == cell_length) (cond (nat_lt at size) (Ok (is_written (cell at))) (Err (Beyond at))) (Err Length)

-- What the buffer holds after a read; a refused read leaves it as it was.
abbrev pub read_fill : (size : ℕ) (cell : ℕ → Cell) (at : ℕ) (buffer : List ℕ) → List ℕ
read_fill size cell at buffer = cond (length buffer == cell_length) (cond (nat_lt at size) (content (cell at)) buffer) buffer

abbrev pub write_in : Cell → (takes : Bool) (at : ℕ) → Result (Unit {0}) StoreFault
write_in (written x) takes at = Err (Written at)
write_in blank takes at = cond takes (Ok tt) (Err (NoCell at))

abbrev pub write_answer : (size : ℕ) (cell : ℕ → Cell) (takes : ℕ → Bool) (at : ℕ) (bytes : List ℕ) → Result (Unit {0}) StoreFault
write_answer size cell takes at bytes =
    cond (length bytes == cell_length) (cond (nat_lt at size) (write_in (cell at) (takes at) at) (Err (Beyond at))) (Err Length)

-- The function f with the value x at i.
abbrev pub changed : {A : Type 0} → (ℕ → A) → ℕ → A → ℕ → A
changed f i x j = cond (i == j) x (f j)

-- The cells after a write: that one is written, and no other has changed; a refused write leaves all.
abbrev pub after_write : {A E : Type 0} → Result A E → (cell : ℕ → Cell) (at : ℕ) (bytes : List ℕ) → ℕ → Cell
after_write (Ok u) cell at bytes d = changed cell at (written bytes) d
after_write (Err f) cell at bytes d = cell d

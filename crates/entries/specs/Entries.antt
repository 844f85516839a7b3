-- An entry in the 24 bytes of its cell, and which bytes are one. The kind is the number of the archive's kind of key, and
-- admissible says which bytes are those of a key.
use Rattle.std.specs.Prelude.{◌≡◌, ℕ, ◌^◌, ◌<◌, Bool, cond, ◌&&◌, List, ◌∷◌, ◌++◌, length, take, drop, Some, None, Option, ◌==◌, slice_index}
use Rattle.octets.specs.Numbers.{big_endian, number_at}
use Rattle.stores.specs.Cells.{cell_length}
use Rattle.entries.specs.declared.entry.Entry.{Entry}

-- The first byte of every entry.
abbrev pub mark : ℕ
mark = 0x45

-- An entry whose parts fit their bytes, as those of the program do.
pub record Fits (e : Entry) : Type 0 where
  pub key : length e.key ≡ 12
  pub group : e.group < 2 ^ 16
  pub slot : e.slot < 2 ^ 32
  pub filing : e.filing < 2 ^ 32

-- The mark, the kind, then 12 bytes of key, 2 of group, 4 of slot and 4 of filing number.
unfoldable pub entry_bytes : (kind : ℕ) → Entry → List ℕ
entry_bytes kind e = mark ∷ (kind ∷ (e.key ++ (big_endian 2 e.group ++ (big_endian 4 e.slot ++ big_endian 4 e.filing))))

-- The first two bytes of an entry.
abbrev pub is_marked : (kind first second : ℕ) → Bool
is_marked kind first second = first == mark && second == kind

-- Bytes are an entry if they fill a cell, and the mark, the kind and the key fit.
abbrev pub is_entry : (kind : ℕ) (admissible : List ℕ → Bool) → List ℕ → Bool
is_entry kind admissible bytes =
    (length bytes == cell_length) && (is_marked kind (slice_index bytes 0) (slice_index bytes 1) && admissible (take 12 (drop 2 bytes)))

unfoldable pub entry_in : (kind : ℕ) (admissible : List ℕ → Bool) → List ℕ → Option Entry
entry_in kind admissible bytes =
    cond (is_entry kind admissible bytes) (Some (record { key = take 12 (drop 2 bytes); group = number_at bytes 14 2; slot = number_at bytes 16 4; filing = number_at bytes 20 4 })) None

-- The same of the 22 bytes behind the mark and the kind.
abbrev pub keyed_entry : (admissible : List ℕ → Bool) → List ℕ → Option Entry
keyed_entry admissible rest =
    cond (admissible (take 12 rest)) (Some (record { key = take 12 rest; group = number_at rest 12 2; slot = number_at rest 14 4; filing = number_at rest 18 4 })) None

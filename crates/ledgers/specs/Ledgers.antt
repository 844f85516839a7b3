-- A ledger: a state byte for each group, 0 for a live one, then a count of 4 bytes, then lines of 14, each the 2-byte number of a
-- group, the 4-byte cell and the 8-byte locator of a pair, in the order of the puts.
use Rattle.std.specs.Prelude.{ℕ, ◌+◌, ◌*◌, ◌≤◌, min, Bool, cond, ◌&&◌, List, [], ◌∷◌, ◌++◌, map, length, take, drop, replicate, is_ok, Ok, Err, Result, ◌==◌, nat_le, nat_lt, slice_index, slice_index_or, slice_set}
use Rattle.std.specs.List.{range_with_len, flat_map}
use Rattle.octets.specs.Numbers.{big_endian, number_at}
use Rattle.octets.specs.Overwriting.{overwritten}
use Rattle.stores.specs.declared.fault.SetUpFault.{SetUpFault}
use Rattle.stores.specs.declared.fault.SetUpFault.TheVariants.{Setting, Size}
use Rattle.keeps.specs.Groups.{Group, Pair, live, retired}
use Rattle.keeps.specs.History.{Put, erased}
use Rattle.keeps.specs.Laws.{most_groups}

-- The most lines of a ledger.
abbrev pub most_lines : ℕ
most_lines = 65536

-- The bytes of a ledger.
abbrev pub ledger_size : (groups lines : ℕ) → ℕ
ledger_size groups lines = groups + 4 + lines * 14

abbrev pub in_range : (n most : ℕ) → Bool
in_range n most = nat_le 1 n && nat_le n most

-- Setting up and opening: SETTING for groups or lines out of range, then SIZE where memory is too short.
abbrev pub ledger_fit : (groups lines long : ℕ) → Result (Unit {0}) SetUpFault
ledger_fit groups lines long = cond (in_range groups most_groups && in_range lines most_lines) (cond (nat_le (ledger_size groups lines) long) (Ok tt) (Err Size)) (Err Setting)

-- How many groups there are: none where the numbers are out of range or memory is too short.
abbrev pub ledger_groups : (groups lines : ℕ) → List ℕ → ℕ
ledger_groups groups lines memory = cond (is_ok (ledger_fit groups lines (length memory))) groups 0

-- The state byte of group i; 1 where there is no such group.
abbrev pub ledger_state : (groups lines : ℕ) → List ℕ → ℕ → ℕ
ledger_state groups lines memory i = slice_index_or (take (ledger_groups groups lines memory) memory) i 1

-- Whether group i is there and live.
abbrev pub ledger_live : (groups lines : ℕ) → List ℕ → ℕ → Bool
ledger_live groups lines memory i = ledger_state groups lines memory i == 0

-- The lines used: as many as the count says, and no more than there are.
abbrev pub used : (groups lines : ℕ) → List ℕ → ℕ
used groups lines memory = min (number_at memory groups 4) lines

-- Line j of those that begin at a place.
abbrev pub line : (at : ℕ) → List ℕ → (j : ℕ) → List ℕ
line at memory j = take 14 (drop (at + j * 14) memory)

-- The first n of them.
unfoldable pub rows : (at : ℕ) → List ℕ → (n : ℕ) → List (List ℕ)
rows at memory n = map (line at memory) (range_with_len 0 n)

-- The pair on a line.
abbrev pub pair_on : List ℕ → Pair
pair_on line = record { cell = number_at line 2 4; locator = number_at line 6 8 }

-- The pairs that lines have for group i.
abbrev pub pairs_of : (i : ℕ) → List (List ℕ) → List Pair
pairs_of i [] = []
pairs_of i (line ∷ lines) = cond (number_at line 0 2 == i) (pair_on line ∷ pairs_of i lines) (pairs_of i lines)

-- What group i holds: the pairs on its lines, where it is live.
abbrev pub ledger_pairs : (groups lines : ℕ) → List ℕ → ℕ → Group
ledger_pairs groups lines memory i = cond (ledger_live groups lines memory i) (live (pairs_of i (rows (groups + 4) memory (used groups lines memory)))) retired

-- A live group takes a pair while a line is left.
abbrev pub ledger_room : (groups lines : ℕ) → List ℕ → ℕ → Bool
ledger_room groups lines memory i = ledger_live groups lines memory i && nat_lt (number_at memory groups 4) lines

-- What numbers and memory that are not refused are like.
pub record Fitting (groups lines long : ℕ) : Type 0 where
  pub some : 1 ≤ groups
  pub few : groups ≤ most_groups
  pub any : 1 ≤ lines
  pub short : lines ≤ most_lines
  pub enough : ledger_size groups lines ≤ long

-- The bytes of a line.
abbrev pub line_of : (group cell locator : ℕ) → List ℕ
line_of group cell locator = big_endian 2 group ++ (big_endian 4 cell ++ big_endian 8 locator)

-- All the memory after a put: one line more behind the used ones, the count, and nothing else.
abbrev pub ledger_put : (groups : ℕ) (memory : List ℕ) (group cell locator : ℕ) → List ℕ
ledger_put groups memory group cell locator = overwritten groups (big_endian 4 (number_at memory groups 4 + 1)) (overwritten (groups + 4 + number_at memory groups 4 * 14) (line_of group cell locator) memory)

-- A line of group g loses its cell and its locator; any other stays.
abbrev pub struck_line : (g : ℕ) → List ℕ → List ℕ
struck_line g line = cond (number_at line 0 2 == g) (line_of g 0 0) line

-- Memory with the first n lines from a place on struck.
abbrev pub lines_struck : (at n g : ℕ) → List ℕ → List ℕ
lines_struck at n g memory = overwritten at (flat_map (λ j. struck_line g (line at memory j)) (range_with_len 0 n)) memory

-- All the memory after a strike: the used lines struck, the state byte 1, and nothing else.
abbrev pub ledger_struck : (groups lines : ℕ) (memory : List ℕ) (g : ℕ) → List ℕ
ledger_struck groups lines memory g = slice_set (lines_struck (groups + 4) (used groups lines memory) g memory) g 1

-- The line of a put. No group has a number above 65535.
abbrev pub put_line : Put → List ℕ
put_line p = line_of (min p.group 65535) p.cell p.locator

abbrev pub no_put : Put
no_put = record { group = 0; cell = 0; locator = 0 }

-- Line j: that of a put, without its cell and its locator where the group is retired, and zeros where nothing was put.
abbrev pub drawn_line : (puts : List Put) (gone : ℕ → Bool) (j : ℕ) → List ℕ
drawn_line puts gone j = cond (nat_lt j (length puts)) (put_line (erased gone (slice_index_or puts j no_put))) (replicate 14 0)

-- The state byte of group i.
abbrev pub drawn_state : (gone : ℕ → Bool) (i : ℕ) → ℕ
drawn_state gone i = cond (gone i) 1 0

-- The bytes of a ledger with these puts and retired groups. Its numbers are those of groups and of lines.
abbrev pub drawn_ledger : (numbers : List ℕ) (puts : List Put) (gone : ℕ → Bool) → List ℕ
drawn_ledger numbers puts gone =
    map (drawn_state gone) (range_with_len 0 (slice_index numbers 0))
    ++ (big_endian 4 (min (length puts) (slice_index numbers 1)) ++ flat_map (drawn_line puts gone) (range_with_len 0 (slice_index numbers 1)))

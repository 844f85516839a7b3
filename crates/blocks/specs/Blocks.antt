-- Blocks: for each group a 4-byte count, all ones once it is retired, and its records, each a 4-byte cell and an 8-byte locator.
use Rattle.std.specs.Prelude.{ℕ, ◌+◌, ◌*◌, ◌≤◌, min, Bool, cond, ◌&&◌, List, ◌++◌, map, length, take, drop, replicate, is_ok, Some, None, Ok, Err, Option, Result, ◌==◌, nat_le, nat_lt}
use Rattle.std.specs.List.{range_with_len}
use Rattle.octets.specs.Numbers.{big_endian, number_at}
use Rattle.octets.specs.Overwriting.{overwritten}
use Rattle.stores.specs.declared.fault.SetUpFault.{SetUpFault}
use Rattle.stores.specs.declared.fault.SetUpFault.TheVariants.{Setting, Size}
use Rattle.keeps.specs.Groups.{Group, Pair, live, retired}
use Rattle.keeps.specs.Laws.{most_groups}

-- The bytes of one block, and of all of them.
abbrev pub block_size : (slots : ℕ) → ℕ
block_size slots = 4 + 12 * slots

abbrev pub blocks_size : (groups slots : ℕ) → ℕ
blocks_size groups slots = groups * block_size slots

abbrev pub in_range : (groups slots : ℕ) → Bool
in_range groups slots = (nat_le 1 groups && nat_le groups most_groups) && (nat_le 1 slots && nat_le slots 65535)

-- Setting up and opening: SETTING for groups or slots out of range, then SIZE where memory is too short.
abbrev pub blocks_fit : (groups slots long : ℕ) → Result (Unit {0}) SetUpFault
blocks_fit groups slots long = cond (in_range groups slots) (cond (nat_le (blocks_size groups slots) long) (Ok tt) (Err Size)) (Err Setting)

-- What numbers and memory that are not refused are like.
pub record Fitting (groups slots long : ℕ) : Type 0 where
  pub some : 1 ≤ groups
  pub few : groups ≤ most_groups
  pub wide : 1 ≤ slots
  pub narrow : slots ≤ 65535
  pub enough : blocks_size groups slots ≤ long

-- The groups: none where the numbers or the memory do not fit.
abbrev pub blocks_groups : (groups slots : ℕ) (memory : List ℕ) → ℕ
blocks_groups groups slots memory = cond (is_ok (blocks_fit groups slots (length memory))) groups 0

-- The block of group i.
abbrev pub block_of : (slots : ℕ) (memory : List ℕ) (i : ℕ) → List ℕ
block_of slots memory i = take (block_size slots) (drop (i * block_size slots) memory)

abbrev pub count_in : (block : List ℕ) → ℕ
count_in block = number_at block 0 4

-- In place of the count, once a group is retired.
abbrev pub all_ones : ℕ
all_ones = 0xFFFFFFFF

-- The record of slot j.
abbrev pub pair_in : (block : List ℕ) (j : ℕ) → Pair
pair_in block j = record { cell = number_at block (4 + 12 * j) 4; locator = number_at block (8 + 12 * j) 8 }

-- A count above the slots stands for all of them.
abbrev pub used_in : (slots : ℕ) (block : List ℕ) → ℕ
used_in slots block = min (count_in block) slots

unfoldable pub pairs_in : (block : List ℕ) (n : ℕ) → List Pair
pairs_in block n = map (pair_in block) (range_with_len 0 n)

abbrev pub group_in : (slots : ℕ) (block : List ℕ) → Group
group_in slots block = cond (count_in block == all_ones) retired (live (pairs_in block (used_in slots block)))

abbrev pub blocks_pairs : (groups slots : ℕ) (memory : List ℕ) (i : ℕ) → Group
blocks_pairs groups slots memory i = cond (nat_lt i (blocks_groups groups slots memory)) (group_in slots (block_of slots memory i)) retired

-- A group takes a pair while it has fewer than there are slots.
abbrev pub blocks_room : (groups slots : ℕ) (memory : List ℕ) (i : ℕ) → Bool
blocks_room groups slots memory i = nat_lt i (blocks_groups groups slots memory) && nat_lt (count_in (block_of slots memory i)) slots

-- The first slot that is not used.
abbrev pub free_slot : (slots : ℕ) (block : List ℕ) → Option ℕ
free_slot slots block = cond (nat_lt (count_in block) slots) (Some (count_in block)) None

abbrev pub record_of : Pair → List ℕ
record_of p = big_endian 4 p.cell ++ big_endian 8 p.locator

-- A block with one more pair.
abbrev pub block_put : (block : List ℕ) → Pair → List ℕ
block_put block p = overwritten 0 (big_endian 4 (count_in block + 1)) (overwritten (4 + 12 * count_in block) (record_of p) block)

-- A block once its group is retired.
abbrev pub block_gone : (slots : ℕ) → List ℕ
block_gone slots = big_endian 4 all_ones ++ replicate (12 * slots) 0

-- All the memory after a put and after a strike: the block of that group, and nothing else.
abbrev pub blocks_put : (slots : ℕ) (memory : List ℕ) (g : ℕ) → Pair → List ℕ
blocks_put slots memory g p = overwritten (g * block_size slots) (block_put (block_of slots memory g) p) memory

abbrev pub blocks_struck : (slots : ℕ) (memory : List ℕ) (g : ℕ) → List ℕ
blocks_struck slots memory g = overwritten (g * block_size slots) (block_gone slots) memory

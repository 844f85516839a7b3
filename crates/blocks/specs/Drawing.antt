-- The bytes of blocks, by their history.
use Rattle.std.specs.Prelude.{ℕ, ◌-◌, ◌*◌, Bool, cond, List, [], ◌∷◌, ◌++◌, length, take, replicate, ◌==◌, slice_index}
use Rattle.std.specs.List.{range_with_len, flat_map}
use Rattle.octets.specs.Numbers.{big_endian}
use Rattle.keeps.specs.Groups.{Pair}
use Rattle.keeps.specs.History.{Put}
use Rattle.blocks.specs.Blocks.{block_gone, record_of}

-- The pairs put into group i, in order.
abbrev pub puts_of : (i : ℕ) → List Put → List Pair
puts_of i [] = []
puts_of i (p ∷ puts) = cond (p.group == i) (record { cell = p.cell; locator = p.locator } ∷ puts_of i puts) (puts_of i puts)

-- The block of a live group with these pairs: their number, their records, and zeros.
unfoldable pub block_with : (slots : ℕ) (pairs : List Pair) → List ℕ
block_with slots pairs = big_endian 4 (length pairs) ++ (flat_map record_of pairs ++ replicate (12 * (slots - length pairs)) 0)

-- The block of group i: of a retired group nothing is left, and a live one has its first pairs, as many as there are slots.
abbrev pub drawn_block : (slots : ℕ) (puts : List Put) (gone : ℕ → Bool) (i : ℕ) → List ℕ
drawn_block slots puts gone i = cond (gone i) (block_gone slots) (block_with slots (take slots (puts_of i puts)))

-- One block after the other. The numbers are those of groups and of slots.
abbrev pub drawn_blocks : (numbers : List ℕ) (puts : List Put) (gone : ℕ → Bool) → List ℕ
drawn_blocks numbers puts gone = flat_map (drawn_block (slice_index numbers 1) puts gone) (range_with_len 0 (slice_index numbers 0))

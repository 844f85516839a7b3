-- A digest has 32 bits.
use Rattle.std.proofs.Common.{ℕ, ◌*◌, ◌%◌, ◌^◌, ◌<◌, List, [], ◌∷◌, mod-lt, arith}
use lib.Bits.{bit_xor}
use Rattle.keys.specs.Hashes.{fnv1a_from, fnv1a_of}

fnv1a_from_below : (bs : List ℕ) (h : ℕ) → h < 2 ^ 32 → fnv1a_from h bs < 2 ^ 32
fnv1a_from_below [] h small = small
fnv1a_from_below (b ∷ bs) h small = fnv1a_from_below bs ((bit_xor h b * 16777619) % 2 ^ 32) (mod-lt (bit_xor h b * 16777619) (omega arith))

pub fnv1a_below : (bs : List ℕ) → fnv1a_of bs < 2 ^ 32
fnv1a_below bs = fnv1a_from_below bs 2166136261 (omega arith)

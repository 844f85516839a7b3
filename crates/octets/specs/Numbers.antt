-- Numbers and their bytes, highest byte first.
use Rattle.std.specs.Prelude.{ℕ, zero, suc, ◌/◌, ◌%◌, ◌^◌, cond, List, [], ◌∷◌, take, drop, Some, None, Option, nat_lt}
use Rattle.std.specs.Int.Digits.{number_from_digits}

-- The last n bytes of a number.
abbrev pub big_endian : (n value : ℕ) → List ℕ
big_endian zero value = []
big_endian (suc n) value = (value / 256 ^ n) % 256 ∷ big_endian n value

-- The number that bytes spell.
abbrev pub spelled : List ℕ → ℕ
spelled bytes = number_from_digits 256 bytes

-- The number that n bytes of memory from a place on spell.
abbrev pub number_at : (memory : List ℕ) (at n : ℕ) → ℕ
number_at memory at n = spelled (take n (drop at memory))

-- A number that 64 bits hold, or nothing.
abbrev pub in_64_bits : ℕ → Option ℕ
in_64_bits n = cond (nat_lt n (2 ^ 64)) (Some n) None

-- Bytes as hexadecimal digits of either case, the higher half of a byte first.
use Rattle.std.specs.Fmt.{digit_glyph}
use Rattle.std.specs.List.{flat_map}
use Rattle.std.specs.Prelude.{ℕ, ◌+◌, ◌-◌, ◌*◌, ◌/◌, ◌%◌, cond, false, ◌&&◌, List, [], ◌∷◌, Some, None, Option, nat_le}

-- 0 to 9, a to f, A to F
abbrev pub nibble_of : ℕ → Option ℕ
nibble_of d =
    cond (nat_le 48 d && nat_le d 57) (Some (d - 48)) (cond (nat_le 97 d && nat_le d 102) (Some (d - 97 + 10)) (cond (nat_le 65 d && nat_le d 70) (Some (d - 65 + 10)) None))

-- a byte of two halves
abbrev pub byte_of : (high low : Option ℕ) → Option ℕ
byte_of None low = None
byte_of (Some high) None = None
byte_of (Some high) (Some low) = Some (high * 16 + low)

-- a byte in front of the others
abbrev pub with_byte : Option ℕ → Option (List ℕ) → Option (List ℕ)
with_byte None bytes = None
with_byte (Some byte) None = None
with_byte (Some byte) (Some bytes) = Some (byte ∷ bytes)

abbrev pub bytes_of : List ℕ → Option (List ℕ)
bytes_of [] = Some []
bytes_of (high ∷ []) = None
bytes_of (high ∷ low ∷ rest) = with_byte (byte_of (nibble_of high) (nibble_of low)) (bytes_of rest)

-- the digits that a byte is printed as, and those of many bytes
abbrev pub digits_of : ℕ → List ℕ
digits_of b = digit_glyph false (b / 16) ∷ digit_glyph false (b % 16) ∷ []

abbrev pub text_of : List ℕ → List ℕ
text_of bytes = flat_map digits_of bytes

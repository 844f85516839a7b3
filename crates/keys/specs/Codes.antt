-- Drawing codes: 1 to 12 letters, digits and hyphens, then zero bytes up to 12.
use Rattle.std.specs.Prelude.{ℕ, ◌-◌, Bool, true, false, cond, ◌&&◌, ◌||◌, List, [], ◌∷◌, ◌++◌, length, replicate, Some, None, Option, ◌==◌, nat_le, nat_lt, slice_index}
use Rattle.std.specs.List.{list_all}

-- A to Z, 0 to 9 and the hyphen.
abbrev pub of_code : ℕ → Bool
of_code b = (nat_le 65 b && nat_le b 90) || (nat_le 48 b && nat_le b 57) || b == 45

abbrev pub only_padding : List ℕ → Bool
only_padding bytes = list_all (λ b. b == 0) bytes

abbrev pub text_then_padding : List ℕ → Bool
text_then_padding [] = true
text_then_padding (b ∷ bs) = cond (of_code b) (text_then_padding bs) (only_padding (b ∷ bs))

-- What a byte at a place makes of a code whose text has ended or not: whether it has ended now, or nothing where the
-- byte does not belong there. Padding may not stand first.
abbrev pub after_byte : (b : ℕ) (ended : Bool) (place : ℕ) → Option Bool
after_byte b true place = cond (b == 0 && nat_lt 0 place) (Some true) None
after_byte b false place = cond (of_code b) (Some false) (cond (b == 0 && nat_lt 0 place) (Some true) None)

-- Which bytes are those of a drawing code.
abbrev pub code_admissible : List ℕ → Bool
code_admissible bytes = length bytes == 12 && (of_code (slice_index bytes 0) && text_then_padding bytes)

-- A text made as long as a key by zero bytes.
abbrev pub padded : List ℕ → List ℕ
padded text = text ++ replicate (12 - length text) 0

-- Which texts are drawing codes: as they are written, with no zero byte in them.
abbrev pub all_of_code : List ℕ → Bool
all_of_code text = list_all of_code text

abbrev pub code_text : List ℕ → Bool
code_text text = (nat_lt 0 (length text) && nat_le (length text) 12) && all_of_code text

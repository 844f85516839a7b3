-- What the bytes of an input mean: its lines, the fields of a line, and the number that a field writes.
use Rattle.std.specs.Prelude.{ℕ, ◌+◌, ◌-◌, ◌*◌, ◌^◌, cond, ◌&&◌, List, [], ◌∷◌, Some, None, Option, ◌==◌, nat_lt}
use Rattle.std.specs.List.{onto_first, slice_split}
use Rattle.std.specs.Str.{all_ascii_digits}

-- a line ends at byte 10 or at the input's end, and no line follows a last byte 10
abbrev pub lines_of : List ℕ → List (List ℕ)
lines_of [] = []
lines_of (b ∷ bs) = cond (b == 10) ([] ∷ lines_of bs) (onto_first b (lines_of bs))

-- a line is cut at each space, so the empty line has one field, which is empty
abbrev pub fields_of : List ℕ → List (List ℕ)
fields_of line = slice_split (λ b. b == 32) line

-- what the digits write, after those of n
abbrev pub value_after : ℕ → List ℕ → ℕ
value_after n [] = n
value_after n (b ∷ bs) = value_after (n * 10 + (b - 48)) bs

-- that value, where all bytes are digits and it is below 2^64
abbrev pub number_after : ℕ → List ℕ → Option ℕ
number_after n bs = cond (all_ascii_digits bs && nat_lt (value_after n bs) (2 ^ 64)) (Some (value_after n bs)) None

-- the number that a field writes, which is one digit or more
abbrev pub number_of : List ℕ → Option ℕ
number_of [] = None
number_of (b ∷ bs) = number_after 0 (b ∷ bs)

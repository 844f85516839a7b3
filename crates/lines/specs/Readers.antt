-- What the two readers have left to read, and what one step of them gives.
use Rattle.std.specs.Prelude.{◌≡◌, ℕ, ◌+◌, ◌-◌, ◌^◌, min, Bool, true, false, List, [], ◌∷◌, Some, None, Option}
use Rattle.std.specs.Option.{option_map}
use Rattle.lines.specs.declared.field.Field.{Field}
use Rattle.lines.specs.Text.{fields_of, lines_of}

abbrev pub first_of : List (List ℕ) → Option (List ℕ)
first_of [] = None
first_of (t ∷ ts) = Some t

abbrev pub past_first : List (List ℕ) → List (List ℕ)
past_first [] = []
past_first (t ∷ ts) = ts

abbrev pub none_left : List (List ℕ) → Bool
none_left [] = true
none_left (t ∷ ts) = false

-- what is left of a line: the number of the last field that was read, 0 before the first, and the fields that follow it
pub record Unread : Type 0 where
  pub read : ℕ
  pub left : List (List ℕ)

-- a line of which no field was read
abbrev pub all_of : List ℕ → Unread
all_of line = record { read = 0; left = fields_of line }

-- the fields of what is left of a line, where anything is
abbrev pub fields_of_rest : Option (List ℕ) → List (List ℕ)
fields_of_rest None = []
fields_of_rest (Some line) = fields_of line

-- the number of the field after field n: numbers stop at 2^32 - 1
abbrev pub next_number : ℕ → ℕ
next_number n = min (n + 1) (2 ^ 32 - 1)

-- a field as its number and its bytes
abbrev pub numbered : Field → ℕ × List ℕ
numbered f = (f.number, f.text.now)

-- what is left of some line: so no space stands in a field that is left, also where the reader was lent
abbrev pub OfLine : Unread → Type 0
OfLine u = (rest : Option (List ℕ)) × (u.left ≡ fields_of_rest rest)

-- the lines that are left of some input: so no byte 10 stands in one
abbrev pub OfInput : List (List ℕ) → Type 0
OfInput lines = (rest : List ℕ) × (lines ≡ lines_of rest)

-- the next field, if one is left
abbrev pub next_field : Unread → Option (ℕ × List ℕ)
next_field u = option_map (λ t. (next_number u.read, t)) (first_of u.left)

-- the number of the last field that was read, after such a step
abbrev pub read_on : ℕ → List (List ℕ) → ℕ
read_on n [] = n
read_on n (t ∷ ts) = next_number n

-- what is left after such a step: all stays where no field is left
abbrev pub onward : Unread → Unread
onward u = record { read = read_on u.read u.left; left = past_first u.left }

-- one step: the next field, and what is left then; what was left, and what is, is of some line
abbrev pub GivesField : Unread → Option Field → Unread → Type 0
GivesField u f v = (option_map numbered f ≡ next_field u) × (v ≡ onward u) × OfLine u × OfLine v

-- What is read of what is left of a line, field by field.
use Rattle.std.specs.Prelude.{ℕ, cond, List, [], ◌∷◌, length, Some, None, Ok, Err, Option, Result, nat_le, option_and_then}
use Rattle.std.specs.Option.{ok_or}
use Rattle.std.specs.Str.{bytes_eq}
use Rattle.lines.specs.declared.fault.LineFault.{LineFault}
use Rattle.lines.specs.Readers.{Unread, first_of, next_field, next_number, none_left, onward}
use Rattle.lines.specs.Text.{number_of}

-- whether a line is looked at: one of more than 80 bytes is refused as a whole
abbrev pub length_check : List ℕ → Result (Unit {0}) LineFault
length_check line = cond (nat_le (length line) 80) (Ok tt) (Err (record { field = 0 }))

-- what is read of a line from here on
abbrev pub Reading : Type 0 → Type 0
Reading A = Unread → Result A LineFault

-- the refusal of the next field, which is wrong, missing or extra
abbrev pub wrong_field : Unread → LineFault
wrong_field u = record { field = next_number u.read }

-- the next field, which must be there, as its number and its bytes
abbrev pub one_field : Reading (ℕ × List ℕ)
one_field u = ok_or (next_field u) (wrong_field u)

-- what the next field means, where it is there and means anything
abbrev pub field_as : {A : Type 0} → (List ℕ → Option A) → Reading A
field_as meaning u = ok_or (option_and_then meaning (first_of u.left)) (wrong_field u)

-- a field of one byte or more, with its number n
abbrev pub some_text : (n : ℕ) → List ℕ → Option (ℕ × List ℕ)
some_text n [] = None
some_text n (b ∷ bs) = Some (n, b ∷ bs)

-- some text, with the number of its field
abbrev pub text_field : Reading (ℕ × List ℕ)
text_field u = field_as (some_text (next_number u.read)) u

-- the word w, byte for byte
abbrev pub word_field : List ℕ → Reading (Unit {0})
word_field w u = field_as (λ t. cond (bytes_eq t w) (Some tt) None) u

-- a number
abbrev pub number_field : Reading ℕ
number_field u = field_as number_of u

-- a number of at most so much
abbrev pub up_to : (largest : ℕ) → Option ℕ → Option ℕ
up_to largest None = None
up_to largest (Some x) = cond (nat_le x largest) (Some x) None

abbrev pub number_up_to : (largest : ℕ) → List ℕ → Option ℕ
number_up_to largest t = up_to largest (number_of t)

abbrev pub bounded_field : (largest : ℕ) → Reading ℕ
bounded_field largest u = field_as (number_up_to largest) u

-- the line's end
abbrev pub line_end : Reading (Unit {0})
line_end u = cond (none_left u.left) (Ok tt) (Err (wrong_field u))

-- what is read on after a field that is right; the first that is not is the answer
abbrev pub then : {A B E : Type 0} → Result A E → (A → Result B E) → Result B E
then (Ok x) f = f x
then (Err e) f = Err e

-- one field, and then the others
abbrev pub and_next : {A B : Type 0} → Reading A → (A → Reading B) → Reading B
and_next first others u = then (first u) (λ x. others x (onward u))

-- no more fields
abbrev pub and_end : {A : Type 0} → A → Reading A
and_end x u = then (line_end u) (λ _. Ok x)

-- The first field and the first line are what stands before the cut, and the others are those of what follows it.
use Rattle.std.proofs.Common.{◌≡◌, ℕ, ◌<◌, not, List, [], ◌∷◌, length, is_some, Some, None, Option, unwrap_or, refl, arith, Bor}
use Rattle.std.specs.Option.{option_map}
use Rattle.std.proofs.lemmas.Grind.{common_steps}
use Rattle.lines.specs.Cutting.{before, after}
use Rattle.lines.specs.Readers.{fields_of_rest, none_left}
use Rattle.lines.specs.Text.{lines_of, fields_of}

pub fields_split : (bs : List ℕ) → fields_of bs ≡ before 32 bs ∷ fields_of_rest (after 32 bs)
fields_split [] = refl
fields_split (b ∷ bs) = grind (arith, common_steps, fields_split bs)

pub lines_split : (bs : List ℕ) → 0 < length bs → lines_of bs ≡ before 10 bs ∷ lines_of (unwrap_or (after 10 bs) [])
lines_split [] some = grind arith
lines_split (b ∷ []) some = grind (arith, common_steps)
lines_split (b ∷ c ∷ bs) some = grind (arith, common_steps, lines_split (c ∷ bs))

-- what an `unwrap_or` with the empty text refers to
pub now_valueOr : (o : Option (Bor (List ℕ))) (d r : Bor (List ℕ)) → r ≡ unwrap_or o d → d.now ≡ [] → r.now ≡ unwrap_or (option_map (λ x. x.now) o) []
now_valueOr None d r is none = grind arith
now_valueOr (Some x) d r is none = grind arith

-- a line has a field, so none is left only where no line is
pub none_left_is : (o : Option (Bor (List ℕ))) → not (is_some o) ≡ none_left (fields_of_rest (option_map (λ x. x.now) o))
none_left_is None = refl
none_left_is (Some line) = grind (arith, common_steps, fields_split line.now)

-- A text before and after the first of a byte.
use Rattle.std.specs.Prelude.{ℕ, cond, List, [], ◌∷◌, Some, None, Option, ◌==◌}

-- all of the text where the byte is not there
abbrev pub before : ℕ → List ℕ → List ℕ
before b [] = []
before b (x ∷ xs) = cond (x == b) [] (x ∷ before b xs)

abbrev pub after : ℕ → List ℕ → Option (List ℕ)
after b [] = None
after b (x ∷ xs) = cond (x == b) (Some xs) (after b xs)

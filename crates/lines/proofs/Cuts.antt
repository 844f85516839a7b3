-- A cut at a byte, by the place where the byte stands first.
use Rattle.std.proofs.Common.{◌≡◌, ◌==◌, ℕ, ◌+◌, cond, not, nat_lt, List, [], ◌∷◌, length, take, drop, Some, None, arith}
use Rattle.std.specs.List.{position_or_len}
use Rattle.std.proofs.lemmas.List.Sums.{take_while-cons}
use Rattle.std.proofs.lemmas.Grind.{common_steps}
use Rattle.lines.specs.Cutting.{before, after}

module _ (b : ℕ) where
  pub before_place : (xs : List ℕ) → before b xs ≡ take (position_or_len (λ x. x == b) xs) xs
  before_place [] = grind (arith, common_steps)
  before_place (x ∷ xs) = grind (arith, common_steps, before_place xs, take_while-cons (λ y. not (y == b)) x xs)

  pub after_place : (xs : List ℕ) → after b xs ≡ cond (nat_lt (position_or_len (λ x. x == b) xs) (length xs)) (Some (drop (position_or_len (λ x. x == b) xs + 1) xs)) None
  after_place [] = grind (arith, common_steps)
  after_place (x ∷ xs) = grind (arith, common_steps, after_place xs)

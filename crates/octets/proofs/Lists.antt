-- Lists: where nothing passes a test, and a front written over one repeated element.
use Rattle.std.proofs.Common.{◌≡◌, ℕ, ◌-◌, ◌<◌, Bool, false, List, ◌++◌, length, get_or, drop, replicate, position, None, sym, ap, ◌∙◌, inl, inr, arith}
use Rattle.std.specs.List.{position_or_len}
use Rattle.std.proofs.lemmas.Bool.{cases_lt, cond_below}
use Rattle.std.proofs.lemmas.List.{drop-replicate}
use Rattle.std.proofs.lemmas.List.Sums.{fails_before_first}
use Rattle.std.proofs.lemmas.Option.{none-some}

-- Where no place passes, each element fails.
pub fails_everywhere : {X : Type 0} (p : X → Bool) (xs : List X) (k : ℕ) (d : X) → None ≡ position p xs → k < length xs → p (get_or xs k d) ≡ false
fails_everywhere p xs k d h low =
    elim (cases_lt (position_or_len p xs) (length xs)) [
      | inl inside ↦ absurd (none-some _ (h ∙ sym (cond_below _ _ _ None inside)))
      | inr past ↦ fails_before_first p xs k d (omega (arith, past))
    ]

-- What was copied stands before what is left of the repeated element.
pub over_repeated : {X : Type 0} (xs front : List X) (n : ℕ) (y : X) → front ≡ xs → front ++ drop (length xs) (replicate n y) ≡ xs ++ replicate (n - length xs) y
over_repeated xs front n y e = ap (λ ys. ys ++ drop (length xs) (replicate n y)) e ∙ ap (λ ys. xs ++ ys) (drop-replicate (length xs) n y)

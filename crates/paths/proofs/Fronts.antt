-- The front of a path, one cell longer, and level by level.
use Rattle.std.proofs.Common.{◌≡◌, ℕ, ◌+◌, ◌*◌, ◌<◌, ◌≤◌, List, [], ◌∷◌, ◌++◌, length, get_or, take, is_some, true, Some, None, Option, sym, ap, ◌∙◌, inl, inr, arith}
use Rattle.std.proofs.lemmas.Bool.{both_ways, cases_lt}
use Rattle.std.proofs.lemmas.List.{length-take-le, take_more}
use Rattle.std.proofs.lemmas.Nat.{mul-le}
use Rattle.std.proofs.lemmas.Option.{none-some}

pub front_more : (path : List ℕ) (n next cell : ℕ) → n < length path → n + 1 ≡ next → cell ≡ get_or path n 0 → take n path ++ cell ∷ [] ≡ take next path
front_more path n next cell inside e here =
    ap (λ c. take n path ++ c ∷ []) here ∙ sym (take_more path n 0 inside) ∙ ap (λ k. take k path) e

-- A step that gives tries had a level to go to.
pub level_there : {T X : Type 0} (depth level : ℕ) (tries : T) → (depth ≤ level → (Some tries ≡ None) × X) → level < depth
level_there depth level tries ended =
    elim (cases_lt level depth) [
      | inl low ↦ low
      | inr past ↦ absurd (none-some tries (sym (ended past).0))
    ]

-- As many cells as the levels so far have tries.
pub so_many : (path : List ℕ) (depth width level : ℕ) (cells : List ℕ) → length path ≡ depth * width → level ≤ depth → cells ≡ take (level * width) path → length cells ≡ level * width
so_many path depth width level cells long few front =
    ap length front ∙ length-take-le (level * width) path (omega (arith, long, mul-le level width depth width few (omega arith)))

-- A step that gives none was past the last level.
pub level_last : {T X : Type 0} (depth level : ℕ) (found : Option T) → found ≡ None → (level < depth → (is_some found ≡ true) × X) → depth ≤ level
level_last depth level found none onward =
    elim (cases_lt level depth) [
      | inl low ↦ absurd (both_ways (is_some found) (ap is_some none) (onward low).0)
      | inr past ↦ past
    ]

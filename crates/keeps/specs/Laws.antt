-- What every keep shows of itself.
use Rattle.std.specs.Prelude.{◌≡◌, ℕ, ◌≤◌, Bool, true, List, ◌≢◌}
use Rattle.keeps.specs.Groups.{Group, retired}
use Rattle.keeps.specs.History.{Forgets, Put}

-- The most groups of a keep.
abbrev pub most_groups : ℕ
most_groups = 256

-- Over the number of groups, what each holds, whether it takes a pair now, and the bytes of a keep with these numbers and this history.
pub record KeepLaws {K : Type 0} (groups : K → ℕ) (pairs : K → ℕ → Group) (room : K → ℕ → Bool) (drawn : List ℕ → List Put → (ℕ → Bool) → List ℕ) : Type 0 where
  pub few : (k : K) → groups k ≤ most_groups
  -- outside it nothing is live
  pub outside : (k : K) (i : ℕ) → groups k ≤ i → pairs k i ≡ retired
  -- only a live group takes a pair
  pub live_only : (k : K) (i : ℕ) → room k i ≡ true → pairs k i ≢ retired
  -- the cells and locators of a retired group have left no trace in the bytes
  pub forgets : Forgets drawn

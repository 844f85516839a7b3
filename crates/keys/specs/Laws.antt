-- What every kind of key shows of itself.
use Rattle.std.specs.Prelude.{◌≡◌, ℕ, Bool, true, List, length}

pub record KeyLaws {K : Type 0} (bytes : K → List ℕ) (admissible : List ℕ → Bool) : Type 0 where
  -- only 12 bytes are admissible
  pub twelve : (bs : List ℕ) → admissible bs ≡ true → length bs ≡ 12
  -- the bytes of a key are
  pub own : (k : K) → admissible (bytes k) ≡ true
  -- different keys have different bytes
  pub apart : (a b : K) → bytes a ≡ bytes b → a ≡ b

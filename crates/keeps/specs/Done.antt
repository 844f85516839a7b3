-- What a put and a strike answer and leave, over the members of a keep.
use Rattle.std.specs.Prelude.{◌≡◌, ℕ, Bool, false, List, is_ok, Result}
use Rattle.keeps.specs.declared.fault.KeepFault.{KeepFault}
use Rattle.keeps.specs.Groups.{Group, after_put, after_strike, put_answer, strike_answer}
use Rattle.keeps.specs.History.{Put, with_gone, with_put}

-- Refused, a put leaves the keep as it was.
pub record PutDone {K : Type 0} (groups : K → ℕ) (pairs : K → ℕ → Group) (room : K → ℕ → Bool) (numbers bytes : K → List ℕ) (drawn : List ℕ → List Put → (ℕ → Bool) → List ℕ) (old new : K) (group cell locator : ℕ) (result : Result ℕ KeepFault) : Type 0 where
  pub value : result ≡ put_answer (groups old) (pairs old) (room old) group
  pub after : (i : ℕ) → pairs new i ≡ after_put result (pairs old) group (record { cell = cell; locator = locator }) i
  pub history : (puts : List Put) (gone : ℕ → Bool) → bytes old ≡ drawn (numbers old) puts gone → bytes new ≡ drawn (numbers old) (with_put result puts (record { group = group; cell = cell; locator = locator })) gone
  pub size : groups new ≡ groups old
  pub made : numbers new ≡ numbers old
  pub same : is_ok result ≡ false → new ≡ old

-- Refused, a strike leaves the keep as it was.
pub record StrikeDone {K : Type 0} (groups : K → ℕ) (pairs : K → ℕ → Group) (numbers bytes : K → List ℕ) (drawn : List ℕ → List Put → (ℕ → Bool) → List ℕ) (old new : K) (group : ℕ) (result : Result ℕ KeepFault) : Type 0 where
  pub value : result ≡ strike_answer (groups old) (pairs old) group
  pub after : (i : ℕ) → pairs new i ≡ after_strike result (pairs old) group i
  pub history : (puts : List Put) (gone : ℕ → Bool) → bytes old ≡ drawn (numbers old) puts gone → bytes new ≡ drawn (numbers old) puts (with_gone result gone group)
  pub size : groups new ≡ groups old
  pub made : numbers new ≡ numbers old
  pub same : is_ok result ≡ false → new ≡ old

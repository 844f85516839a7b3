-- A run of writes on one store, each accepted or refused.
use Rattle.std.specs.Prelude.{◌≡◌, ℕ, List, ◌≢◌}
use Rattle.stores.specs.Cells.{Cell, written}

-- What was written stays: cells after are those before, wherever those were written.
abbrev pub Kept : (before after : ℕ → Cell) → Type 0
Kept before after = (d : ℕ) (x : List ℕ) → before d ≡ written x → after d ≡ written x

-- What one accepted write leaves: that cell, and no other.
pub record Only (before after : ℕ → Cell) (at : ℕ) (bytes : List ℕ) : Type 0 where
  pub here : after at ≡ written bytes
  pub elsewhere : (d : ℕ) → (d ≢ at) → after d ≡ before d

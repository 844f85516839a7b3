-- What a write answers and leaves, over the members of a store.
use Rattle.std.specs.Prelude.{◌≡◌, ℕ, Bool, false, List, is_ok, Result}
use Rattle.stores.specs.declared.fault.StoreFault.{StoreFault}
use Rattle.stores.specs.Cells.{Cell, after_write, write_answer}

-- Refused, a write leaves the store as it was.
pub record WriteDone {S : Type 0} (cells : S → ℕ) (cell : S → ℕ → Cell) (takes : S → ℕ → Bool) (old new : S) (at : ℕ) (bytes : List ℕ) (result : Result (Unit {0}) StoreFault) : Type 0 where
  pub value : result ≡ write_answer (cells old) (cell old) (takes old) at bytes
  pub after : (d : ℕ) → cell new d ≡ after_write result (cell old) at bytes d
  pub size : cells new ≡ cells old
  pub same : is_ok result ≡ false → new ≡ old

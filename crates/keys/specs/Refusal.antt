-- The refusal of a key: its number and its detail.
use Rattle.std.specs.Prelude.{ℕ, None, Option}
use Rattle.keys.specs.declared.fault.KeyFault.{KeyFault}
use Rattle.keys.specs.declared.fault.KeyFault.TheVariants.{Inadmissible}

-- 4 KEY, no detail
abbrev pub key_number : KeyFault → ℕ
key_number Inadmissible = 4

abbrev pub key_detail : KeyFault → Option ℕ
key_detail Inadmissible = None

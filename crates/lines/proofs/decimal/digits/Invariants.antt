-- What was read and the digits that are left give the number.
use Rattle.std.proofs.Common.{◌≡◌, ◌^◌, ◌<◌, drop}
use Rattle.lines.specs.Text.{number_after}
use Rattle.lines.proofs.decimal.digits.Given as goal

abbrev pub invariant-loop-byte : goal.invariant-loop-byte
invariant-loop-byte l = (l.value < 2 ^ 64) × (number_after l.value (drop l.byte-index l.text) ≡ number_after 0 l.text)

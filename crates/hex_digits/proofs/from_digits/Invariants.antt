-- The bytes so far, in front of those that the rest writes, are all that the text writes.
use Rattle.std.proofs.Common.{◌≡◌, drop, vec_items}
use Rattle.hex_digits.specs.Hex.{bytes_of}
use Rattle.hex_digits.proofs.Fronts.{behind, bytes_of_pairs}
use Rattle.hex_digits.proofs.from_digits.Given as goal

abbrev pub invariant-loop-high : goal.invariant-loop-high
invariant-loop-high l = behind (vec_items l.bytes) (bytes_of_pairs (drop l.high-index l.pairs)) ≡ bytes_of l.text

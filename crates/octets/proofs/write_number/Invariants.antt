-- The bytes from i on are done, and those before it will hold what is left of the number.
use Rattle.std.proofs.Common.{◌≡◌, ◌≤◌, ◌++◌, length, drop}
use Rattle.octets.specs.Numbers.{big_endian}
use Rattle.octets.proofs.write_number.Given as goal

abbrev pub invariant-loop-i : goal.invariant-loop-i
invariant-loop-i l = (l.i ≤ length l.bytes) × (big_endian (length l.bytes) l.value ≡ big_endian l.i l.rest ++ drop l.i l.bytes)

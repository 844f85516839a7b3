-- What is still to be hashed, from the value reached, gives the hash of all.
use Rattle.std.proofs.Common.{◌≡◌, drop}
use Rattle.keys.specs.Hashes.{fnv1a_from, fnv1a_of}
use Rattle.keys.proofs.hash.fnv1a.Given as goal

abbrev pub invariant-loop-b : goal.invariant-loop-b
invariant-loop-b l = fnv1a_from l.hash (drop l.b-index l.bytes) ≡ fnv1a_of l.bytes

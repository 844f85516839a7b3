-- The remainder so far is that of the bytes so far.
use Rattle.std.proofs.Common.{◌≡◌, take}
use Rattle.keys.specs.Hashes.{fold_of}
use Rattle.keys.proofs.hash.fold.Given as goal

abbrev pub invariant-loop-b : goal.invariant-loop-b
invariant-loop-b l = l.rest ≡ fold_of (take l.b-index l.key)

-- Each turn takes a line off those that are left.
use Rattle.std.proofs.Common.{length}
use Rattle.std.specs.Iterator.Adapters.{zip_second}
use Rattle.keepshow.proofs.on_memory.Given as goal

abbrev pub decreases-loop-number : goal.decreases-loop-number
decreases-loop-number g l = length (zip_second l.session.lines)

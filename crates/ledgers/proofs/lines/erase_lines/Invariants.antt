-- The lines so far are struck.
use Rattle.std.proofs.Common.{◌≡◌}
use Rattle.ledgers.specs.Ledgers.{lines_struck}
use Rattle.ledgers.proofs.lines.erase_lines.Given as goal

abbrev pub invariant-loop-j : goal.invariant-loop-j
invariant-loop-j l = l.memory ≡ lines_struck l.first l.j l.group l.initial.memory

-- The line of the slot answers for its cell alone.
use Rattle.std.proofs.Common.{arith}
use Rattle.std.proofs.lemmas.Bool.Decides.{nat_tests}
use Rattle.keeps.proofs.Slots.{slot_some}
use Rattle.ledgers.specs.Ledgers.{pair_on, pairs_of}
use Rattle.ledgers.proofs.lines.locator_in.Goals as goal

pub returns-in-Some : goal.returns-in-Some
returns-in-Some c = grind (arith, nat_tests, slot_some (pairs_of c.args.group c.args.lines.now) c.args.slot c.args.cell (pair_on c.in-Some.line.now) c.in-Some.ensures)

pub returns-in_default : goal.returns-in_default
returns-in_default c = grind (arith, nat_tests, slot_some (pairs_of c.args.group c.args.lines.now) c.args.slot c.args.cell (pair_on c.in-Some.line.now) c.in-Some.ensures)

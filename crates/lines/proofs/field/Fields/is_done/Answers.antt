-- No field is left just where nothing of the line is.
use Rattle.std.proofs.Common.{arith}
use Rattle.std.proofs.lemmas.Grind.{common_steps}
use Rattle.lines.proofs.Splits.{none_left_is}
use Rattle.lines.proofs.field.Fields.is_done.Goals as goal

pub returns-clause-value : goal.returns-clause-value
returns-clause-value c = rw (← c.self.view_is) (grind (arith, common_steps, none_left_is c.self.inside.rest))

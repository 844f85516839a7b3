-- What was copied stands in front of what is left of the table.
use Rattle.octets.proofs.Lists.{over_repeated}
use Rattle.paths.proofs.make.table_of.Goals as goal

pub returns : goal.returns
returns c = over_repeated c.args.coefficients.now _ 16 (record { a = 1; b = 0 }) c.copy_from_slice.ensures.after

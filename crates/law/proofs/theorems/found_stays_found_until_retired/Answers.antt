-- A written cell takes no other write.
use Rattle.law.proofs.Found.{found_stays}
use Rattle.law.proofs.theorems.found_stays_found_until_retired.Goals as goal

pub returns : goal.returns
returns c = found_stays

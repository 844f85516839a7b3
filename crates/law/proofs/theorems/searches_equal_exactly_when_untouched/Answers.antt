-- Cells and groups over a run.
use Rattle.law.proofs.Law.{searches_law}
use Rattle.law.proofs.theorems.searches_equal_exactly_when_untouched.Goals as goal

pub returns : goal.returns
returns c = searches_law

-- Replayed from the filings, and read back from the cells.
use Rattle.law.proofs.Law.{archives_law}
use Rattle.law.proofs.theorems.archives_equal_exactly_when_histories_agree.Goals as goal

pub returns : goal.returns
returns c = archives_law

-- Puts that are alike give equal bytes.
use Rattle.law.proofs.Law.{keeps_law}
use Rattle.law.proofs.theorems.keeps_hold_equal_bytes_when_histories_agree.Goals as goal

pub returns : goal.returns
returns c = keeps_law

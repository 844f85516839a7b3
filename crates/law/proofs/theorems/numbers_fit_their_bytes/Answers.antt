-- Each filing takes a blank cell below the total.
use Rattle.law.proofs.Small.{numbers_fit}
use Rattle.law.proofs.theorems.numbers_fit_their_bytes.Goals as goal

pub returns : goal.returns
returns c = numbers_fit

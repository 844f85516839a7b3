-- The search right after the filing, and that it stays.
use Rattle.law.proofs.Found.{filed_is_found}
use Rattle.law.proofs.theorems.filed_is_found_until_retired.Goals as goal

pub returns : goal.returns
returns c = filed_is_found

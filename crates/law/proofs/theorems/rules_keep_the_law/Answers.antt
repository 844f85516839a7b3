-- Each call is a step of a run.
use Rattle.law.proofs.Law.{law_on}
use Rattle.law.proofs.theorems.rules_keep_the_law.Goals as goal

pub returns : goal.returns
returns c σ lawful room s t call e = law_on lawful room s t call e

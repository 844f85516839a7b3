-- Drawing codes are a kind of key.
use Rattle.std.specs.Prelude.{◌≡◌, true}
use Rattle.std.proofs.Math.Bool.{Bool-set}
use mathlib.Core.HLevel.{is_prop→PathP}
use Rattle.std.proofs.lemmas.Bool.{and_parts, eqb-true}
use Rattle.keys.specs.Codes.{code_admissible}
use Rattle.keys.specs.Laws.{KeyLaws}
use Rattle.keys.specs.declared.code.DrawingCode.{DrawingCode}

same_bytes : (a b : DrawingCode) → a.bytes ≡ b.bytes → a ≡ b
same_bytes a b e i =
    record { bytes = e i; good = is_prop→PathP (λ j. code_admissible (e j) ≡ true) (λ j. Bool-set (code_admissible (e j)) true) a.good b.good i }

pub code_laws : KeyLaws {K = DrawingCode} (λ c. c.bytes) code_admissible
code_laws = record { twelve = λ bs h. eqb-true _ _ (and_parts _ _ h).0; own = λ c. c.good; apart = same_bytes }

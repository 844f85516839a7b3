-- The text stands over the first of twelve zero bytes: it is padded.
use Rattle.std.proofs.Common.{◌≡◌, ℕ, ◌<◌, false, eqb, length, sym, ap, ◌∙◌, arith, List}
use Rattle.std.proofs.lemmas.Bool.{eqb-false}
use Rattle.octets.proofs.Lists.{over_repeated}
use Rattle.keys.specs.Codes.{code_admissible}
use Rattle.keys.proofs.Codes.{padded_admissible, code_text_from}
use Rattle.keys.proofs.code.DrawingCode.new.Goals as goal

some : (text : List ℕ) → false ≡ eqb (length text) 0 → 0 < length text
some text h = omega (arith, eqb-false (length text) 0 (sym h))

pub invariant_of-result : goal.invariant_of-result
invariant_of-result c =
    let text = c.args.text.now in
    record { good = ap code_admissible (over_repeated text _ 12 0 c.copy_from_slice.ensures.after) ∙ padded_admissible text (some text c.if-is_empty.ensures) c.if-text-gt12.false (sym c.if-not-is_text.ensures) }

pub returns : goal.returns
returns c =
    let text = c.args.text.now in
    (code_text_from text (some text c.if-is_empty.ensures) c.if-text-gt12.false (sym c.if-not-is_text.ensures), over_repeated text _ 12 0 c.copy_from_slice.ensures.after)

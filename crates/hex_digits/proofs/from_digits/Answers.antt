-- Each turn reads one byte off the rest.
use Rattle.std.proofs.Common.{◌≡◌, ◌+◌, ◌/◌, [], length, arith}
use Rattle.std.proofs.lemmas.Grind.{common_steps}
use Rattle.std.proofs.lemmas.List.{at_drop_more}
use Rattle.hex_digits.proofs.Fronts.{behind_byte, bytes_of_pairs, in_pairs, none_of_odd}
use Rattle.hex_digits.proofs.from_digits.Goals as goal

pub returns-then-not-is_empty : goal.returns-then-not-is_empty
returns-then-not-is_empty c =
    let text = c.args.text.now in
    let odd : length text ≡ length text / 2 + length text / 2 + 1 = grind (arith, common_steps) in
    grind (arith, none_of_odd (length text / 2) text odd)

pub loop-high-init : goal.loop-high-init
loop-high-init c =
    let text = c.args.text.now in
    let even : length text ≡ length text / 2 + length text / 2 = grind (arith, common_steps) in
    grind (arith, common_steps, in_pairs (length text / 2) text even)

pub loop-high-preserved : goal.loop-high-preserved
loop-high-preserved c =
    let pairs = c.as_chunks.result.0.now in
    grind (arith, common_steps, behind_byte, at_drop_more bytes_of_pairs pairs c.loop-high.high-index [] c.loop-high-test.true)

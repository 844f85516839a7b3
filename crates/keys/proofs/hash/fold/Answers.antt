-- Each turn puts one byte more behind the number.
use Rattle.std.proofs.Common.{◌+◌, ◌*◌, ◌%◌, get_or, sym, ap, ◌∙◌, arith}
use Rattle.keys.specs.Hashes.{modulus}
use Rattle.keys.proofs.Folds.{fold_more}
use Rattle.keys.proofs.hash.fold.Goals as goal

pub loop-b-preserved : goal.loop-b-preserved
loop-b-preserved c =
    ap (λ b. (c.loop-b.rest * 256 + b) % modulus) c.from.ensures
    ∙ ap (λ r. (r * 256 + get_or c.args.key.now c.loop-b.b-index 0) % modulus) c.loop-b.invariant
    ∙ sym (fold_more c.args.key.now c.loop-b.b-index (omega arith))

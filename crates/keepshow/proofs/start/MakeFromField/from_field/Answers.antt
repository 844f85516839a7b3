-- Words of six bytes, byte by byte.
use Rattle.std.proofs.Common.{◌≡◌, arith, refl, codes}
use Rattle.std.proofs.lemmas.Slice.Eq.{text_from_reads}
use Rattle.keepshow.proofs.start.MakeFromField.from_field.Goals as goal

pub returns-in-blocks : goal.returns-in-blocks
returns-in-blocks c =
    let word : c.args.text.now ≡ codes "blocks" = text_from_reads c.args.text.now (codes "blocks") (omega arith) (omega arith, (omega arith, (omega arith, (omega arith, (omega arith, (omega arith, tt)))))) in
    rw word refl

pub returns-in-ledger : goal.returns-in-ledger
returns-in-ledger c =
    let word : c.args.text.now ≡ codes "ledger" = text_from_reads c.args.text.now (codes "ledger") (omega arith) (omega arith, (omega arith, (omega arith, (omega arith, (omega arith, (omega arith, tt)))))) in
    rw word refl

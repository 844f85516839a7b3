-- A word of six bytes, byte by byte.
use Rattle.std.proofs.Common.{◌≡◌, arith, refl, codes}
use Rattle.std.proofs.lemmas.Slice.Eq.{text_from_reads}
use Rattle.keepcommands.proofs.command.VerbFromField.from_field.Goals as goal

pub returns-in-strike : goal.returns-in-strike
returns-in-strike c =
    let word : c.args.text.now ≡ codes "strike" = text_from_reads c.args.text.now (codes "strike") (omega arith) (omega arith, (omega arith, (omega arith, (omega arith, (omega arith, (omega arith, tt)))))) in
    rw word refl

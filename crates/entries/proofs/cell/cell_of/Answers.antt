-- The bytes that are spelled out are read as the entry.
use Rattle.std.proofs.Common.{ℕ, List, ap, ◌∙◌}
use Rattle.entries.specs.Entries.{entry_bytes, entry_in}
use Rattle.entries.proofs.Codec.{read_back}
use Rattle.entries.proofs.cell.cell_of.Goals as goal

pub returns-clause-back : goal.returns-clause-back
returns-clause-back g c =
    let e = c.args.entry.now in
    let kind = g.K.Key.mark in
    let value = c.spelled_out.ensures.value ∙ ap (λ k. entry_bytes k e) c.kind.ensures in
    ap (λ (xs : List ℕ). entry_in kind g.K.Key.admissible xs) value ∙ read_back kind g.K.Key.admissible e c.spelled_out.ensures.fits

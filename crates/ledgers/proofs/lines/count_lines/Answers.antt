-- The lines counted are those of the group.
use Rattle.std.proofs.Common.{rules}
use borrow.Author.Tests.{tests}
use Rattle.std.specs.List.{filter}
use Rattle.std.proofs.lemmas.Iterator.{YieldsList-from_slice}
use Rattle.std.proofs.lemmas.Iterator.Consumers.{YieldsList-from_filter, count_from_yields_List}
use Rattle.std.proofs.lemmas.List.{length-map}
use Rattle.ledgers.specs.Ledgers.{pair_on}
use Rattle.ledgers.proofs.Rows.{own, pairs_filtered}
use Rattle.ledgers.proofs.lines.count_lines.Goals as goal

pub returns-clause-value : goal.returns-clause-value
returns-clause-value c =
    let g = c.args.group in
    let lines = c.args.lines.now in
    rw (pairs_filtered g lines, length-map (filter (own g) lines) pair_on)
    (count_from_yields_List c.filter.result _ c.count.ensures.ran (YieldsList-from_filter _ (own g) (YieldsList-from_slice lines (cc)) c.filter.ensures.closure (λ x r q k. search (rules, tests))))

-- The line found is the group's at the slot.
use Rattle.std.proofs.Common.{rules}
use borrow.Author.Tests.{tests}
use Rattle.std.proofs.lemmas.Iterator.{YieldsList-from_slice}
use Rattle.std.proofs.lemmas.Iterator.Consumers.{YieldsList-from_filter, nth_from_yields_List}
use Rattle.ledgers.proofs.Rows.{own, pair_at}
use Rattle.ledgers.proofs.lines.find_line.Goals as goal

pub returns : goal.returns
returns c =
    let g = c.args.group in
    let lines = c.args.lines.now in
    pair_at g lines c.nth.result c.args.slot (nth_from_yields_List c.nth.result c.nth.new.self c.args.slot c.nth.ensures.ran (YieldsList-from_filter _ (own g) (YieldsList-from_slice lines (cc)) c.filter.ensures.closure (λ x r q k. search (rules, tests))))

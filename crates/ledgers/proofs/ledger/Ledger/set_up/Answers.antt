-- Zeroes are a ledger with no put.
use Rattle.std.proofs.Common.{List, length, take, is_ok, sym, ap, ◌∙◌}
use Rattle.ledgers.specs.LedgerLaws.{fitting}
use Rattle.ledgers.specs.Ledgers.{ledger_pairs, ledger_size}
use Rattle.ledgers.proofs.Blank.{blank_drawn, blank_live}
use Rattle.ledgers.proofs.ledger.Ledger.set_up.Goals as goal

pub returns-clause-blank : goal.returns-clause-blank
returns-clause-blank c =
    let groups = c.args.groups in
    let lines = c.args.lines in
    let m = c.args.memory.now in
    let cleared = c.in_ok-clear.ensures.after in
    let fits = fitting groups lines (length m) (ap is_ok (sym c.in_ok-clear.ensures.value)) in
    (ap (take (ledger_size groups lines)) cleared ∙ blank_drawn groups lines m, λ i l. ap (λ (xs : List _). ledger_pairs groups lines xs i) cleared ∙ blank_live groups lines m fits i l)

-- The used lines are struck, and the state byte is set.
use Rattle.std.proofs.Common.{◌≡◌, ℕ, ◌+◌, List, length, take, set, sym, refl, ap, ◌∙◌, arith, rules}
use Rattle.ledgers.specs.Ledgers.{ledger_groups, ledger_pairs, ledger_size, lines_struck, pairs_of}
use Rattle.ledgers.proofs.Live.{live_passed, strike_live}
use Rattle.ledgers.proofs.Striking.{groups_kept, strike_after, strike_drawn}
use Rattle.ledgers.proofs.ledger.LedgerKeep.strike.Goals as goal

pub returns : goal.returns
returns c =
    let self = c.args.self.now in
    let m = self.memory.now in
    let groups = self.groups in
    let lines = self.lines in
    let g = c.args.group in
    let alive = live_passed groups lines m g (sym c.in_ok-check.ensures) in
    let start : c.line_start-start.result ≡ groups + 4 = omega arith in
    let erased = c.erase_lines.ensures ∙ ap (λ (k : ℕ). lines_struck k c.used-n.result g m) start ∙ ap (λ (k : ℕ). lines_struck (groups + 4) k g m) c.used-n.ensures in
    let all = ap (λ (xs : List ℕ). set xs g 1) erased in
    record {
      done = record {
        value = strike_live groups lines m g c.count_lines-had.result (omega arith) alive (c.count_lines-had.ensures.value ∙ ap (λ ls. length (pairs_of g ls)) c.used_lines.ensures.value);
        after = λ i. ap (λ (xs : List ℕ). ledger_pairs groups lines xs i) all ∙ strike_after groups lines m g alive i;
        history = λ puts gone drawn. ap (take (ledger_size groups lines)) all ∙ strike_drawn groups lines m g alive puts gone drawn;
        size = ap (ledger_groups groups lines) all ∙ groups_kept groups lines m g alive;
        made = refl;
        same = search rules;
      };
      memory = all;
    }

-- There is one line more behind the used ones, and the count.
use Rattle.std.proofs.Common.{ℕ, ◌+◌, ◌*◌, ◌<◌, List, length, take, sym, refl, ap, ◌∙◌, arith, rules}
use Rattle.octets.specs.Numbers.{big_endian, number_at}
use Rattle.octets.specs.Overwriting.{overwritten}
use Rattle.octets.proofs.Overwrites.{written_where_it_fits}
use Rattle.ledgers.specs.Ledgers.{ledger_groups, ledger_pairs, ledger_size, line_of, pairs_of}
use Rattle.ledgers.proofs.Live.{live_passed, put_live}
use Rattle.ledgers.proofs.Putting.{groups_new, put_after, put_drawn}
use Rattle.ledgers.proofs.ledger.LedgerKeep.put.Goals as goal

pub returns : goal.returns
returns c =
    let self = c.args.self.now in
    let m = self.memory.now in
    let groups = self.groups in
    let lines = self.lines in
    let g = c.args.group in
    let cell = c.args.cell in
    let locator = c.args.locator in
    let alive = live_passed groups lines m g (sym c.in_ok-check.ensures) in
    let is = c.count-count.ensures in
    let free : number_at m groups 4 < lines = omega (arith, is) in
    let part = line_of g cell locator in
    let count = big_endian 4 (c.count-count.result + 1) in
    let line = c.write_line.ensures ∙ ap (λ (k : ℕ). overwritten k part m) c.line_start-start.ensures in
    let counted = written_where_it_fits groups 4 count c.write_line.new.memory c.write_at.new.memory c.write_at.result c.write_at.ensures.fits c.write_at.ensures.after (omega (arith, self.fits.enough, c.write_line.auto.memory)) in
    let all = counted ∙ ap (overwritten groups count) line ∙ ap (λ (k : ℕ). overwritten groups (big_endian 4 (k + 1)) (overwritten (groups + 4 + k * 14) part m)) is in
    let g16 = c.ranges.group.fits in
    let c32 = c.ranges.cell.fits in
    let l64 = c.ranges.locator.fits in
    record {
      done = record {
        value = put_live groups lines m g c.count_lines-slot.result (omega arith) alive free (c.count_lines-slot.ensures.value ∙ ap (λ ls. length (pairs_of g ls)) c.used_lines.ensures.value);
        after = λ i. ap (λ (xs : List ℕ). ledger_pairs groups lines xs i) all ∙ put_after groups lines m g cell locator g16 c32 l64 alive free i;
        history = λ puts gone drawn. ap (take (ledger_size groups lines)) all ∙ put_drawn groups lines m g cell locator g16 c32 l64 alive free puts gone drawn;
        size = ap (ledger_groups groups lines) all ∙ groups_new groups lines m g cell locator g16 c32 l64 alive free;
        made = refl;
        same = search rules;
      };
      memory = all;
    }

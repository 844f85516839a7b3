-- Another length, another mark or kind, or what the key decides.
use Rattle.std.proofs.Common.{◌-◌, length, take, drop, sym, refl, ◌∙◌, arith}
use Rattle.octets.proofs.Numbers.{under_each}
use Rattle.entries.proofs.Codec.{found_back, keyed_same, other_length, unmarked}
use Rattle.entries.proofs.cell.entry_of.Goals as goal

pub returns-then-cell-ne-CELL_LENGTH-clause-value : goal.returns-then-cell-ne-CELL_LENGTH-clause-value
returns-then-cell-ne-CELL_LENGTH-clause-value g c = other_length g.K.Key.mark g.K.Key.admissible c.args.cell.now c.if-cell-ne-CELL_LENGTH.true

pub returns-then-not-is_marked-clause-value : goal.returns-then-not-is_marked-clause-value
returns-then-not-is_marked-clause-value g c = unmarked g.K.Key.mark g.K.Key.admissible c.args.cell.now (sym c.is_marked.ensures ∙ c.if-not-is_marked.true)

pub returns : goal.returns
returns g c =
    let cell = c.args.cell.now in
    let kind = g.K.Key.mark in
    let admissible = g.K.Key.admissible in
    let value =
    c.keyed_entry.ensures
    ∙ keyed_same kind admissible cell c.if-cell-ne-CELL_LENGTH.false (sym c.is_marked.ensures ∙ c.if-not-is_marked.false) (take (length cell - 2) (drop 2 cell)) refl in
    record {
      value = value;
      back = found_back kind admissible cell (under_each cell (λ i. omega (arith, c.type_inv.cell i))) c.keyed_entry.result value;
    }

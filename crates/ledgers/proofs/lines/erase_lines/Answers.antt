-- Each turn strikes one line more.
use Rattle.std.proofs.Common.{◌+◌, ◌*◌, List, sym, ap, ◌∙◌, arith}
use Rattle.octets.specs.Numbers.{number_at}
use Rattle.octets.specs.Overwriting.{overwritten}
use Rattle.ledgers.specs.Ledgers.{line_of}
use Rattle.ledgers.proofs.Erasing.{next_number, other_struck, own_struck}
use Rattle.octets.proofs.Overwrites.{overwritten_same}
use Rattle.ledgers.proofs.lines.erase_lines.Goals as goal
use Rattle.ledgers.proofs.lines.erase_lines.Goals.{then-read_at-group, else-read_at-group}

pub loop-j-init : goal.loop-j-init
loop-j-init c = sym (overwritten_same c.args.first 0 c.args.memory.now (omega arith))

pub loop-j-preserved : goal.loop-j-preserved
loop-j-preserved c =
    let at = c.args.first in
    let g = c.args.group in
    let j = c.loop-j.j in
    let m = c.args.memory.now in
    let number = c.read_at.ensures ∙ ap (λ (xs : List _). number_at xs (at + j * 14) 2) c.loop-j.invariant ∙ next_number at g m j (omega arith) in
    elim c.if-read_at-group.branch [
      | then-read_at-group w ↦
          w.memory-is ∙ w.write_line.ensures
          ∙ ap (overwritten (at + j * 14) (line_of g 0 0)) c.loop-j.invariant
          ∙ own_struck at g m j (omega arith) (sym number ∙ w.if-read_at-group.true)
      | else-read_at-group w ↦ w.memory-is ∙ c.loop-j.invariant ∙ other_struck at g m j (omega arith) (λ e. w.if-read_at-group.false (number ∙ e))
    ]

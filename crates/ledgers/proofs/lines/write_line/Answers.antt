-- Three numbers, each of which fits, one behind the other.
use Rattle.std.proofs.Common.{◌+◌, ap, ◌∙◌, arith}
use Rattle.octets.specs.Numbers.{big_endian}
use Rattle.octets.specs.Overwriting.{overwritten}
use Rattle.octets.proofs.Overwrites.{written_where_it_fits}
use Rattle.ledgers.proofs.Rows.{line_written}
use Rattle.ledgers.proofs.lines.write_line.Goals as goal

pub returns : goal.returns
returns c =
    let at = c.args.at in
    let m = c.args.memory.now in
    let group = big_endian 2 c.args.group in
    let cell = big_endian 4 c.args.cell in
    let locator = big_endian 8 c.args.locator in
    let one = written_where_it_fits at 2 group m c.write_at.new.memory c.write_at.result c.write_at.ensures.fits c.write_at.ensures.after (omega arith) in
    let two = written_where_it_fits (at + 2) 4 cell c.write_at.new.memory c.write_at-2.new.memory c.write_at-2.result c.write_at-2.ensures.fits c.write_at-2.ensures.after (omega arith) in
    let three = written_where_it_fits (at + 6) 8 locator c.write_at-2.new.memory c.write_at-3.new.memory c.write_at-3.result c.write_at-3.ensures.fits c.write_at-3.ensures.after (omega arith) in
    three ∙ ap (overwritten (at + 6) locator) (two ∙ ap (overwritten (at + 2) cell) one) ∙ line_written c.args.group c.args.cell c.args.locator at m c.requires

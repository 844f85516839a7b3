-- The record behind those that are there, and the count.
use Rattle.std.proofs.Common.{ℕ, ◌+◌, ◌*◌, ap, ◌∙◌, arith}
use Rattle.octets.specs.Numbers.{big_endian}
use Rattle.octets.specs.Overwriting.{overwritten}
use Rattle.octets.proofs.Overwrites.{written_where_it_fits}
use Rattle.blocks.proofs.Single.{put_by_parts}
use Rattle.blocks.proofs.block.add.Goals as goal

pub returns-clause-after : goal.returns-clause-after
returns-clause-after c =
    let b = c.args.block.now in
    let n = c.read_at-count.result in
    let count = c.read_at-count.ensures in
    let cell = big_endian 4 c.args.cell in
    let locator = big_endian 8 c.args.locator in
    let first = written_where_it_fits (4 + 12 * n) 4 cell b c.write_at.new.memory c.write_at.result c.write_at.ensures.fits c.write_at.ensures.after (omega arith) in
    let second = written_where_it_fits (4 + 12 * n + 4) 8 locator c.write_at.new.memory c.write_at-2.new.memory c.write_at-2.result c.write_at-2.ensures.fits c.write_at-2.ensures.after (omega arith) in
    let third = written_where_it_fits 0 4 (big_endian 4 (n + 1)) c.write_at-2.new.memory c.write_at-3.new.memory c.write_at-3.result c.write_at-3.ensures.fits c.write_at-3.ensures.after (omega arith) in
    put_by_parts b c.write_at.new.memory c.write_at-2.new.memory c.write_at-3.new.memory (record { cell = c.args.cell; locator = c.args.locator }) (omega arith)
    (first ∙ ap (λ (k : ℕ). overwritten (4 + 12 * k) cell b) count)
    (second ∙ ap (λ (k : ℕ). overwritten (4 + 12 * k + 4) locator c.write_at.new.memory) count)
    (third ∙ ap (λ (k : ℕ). overwritten 0 (big_endian 4 (k + 1)) c.write_at-2.new.memory) count)

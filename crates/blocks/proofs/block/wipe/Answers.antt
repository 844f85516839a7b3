-- Zeros, and the mark over the count.
use Rattle.std.proofs.Common.{length, ap, ◌∙◌, arith}
use Rattle.octets.specs.Numbers.{big_endian}
use Rattle.octets.specs.Overwriting.{overwritten}
use Rattle.octets.proofs.Overwrites.{written_where_it_fits}
use Rattle.blocks.specs.Blocks.{all_ones}
use Rattle.blocks.proofs.Single.{wiped}
use Rattle.blocks.proofs.block.wipe.Goals as goal

pub returns : goal.returns
returns c =
    written_where_it_fits 0 4 (big_endian 4 all_ones) c.fill.new.self c.write_at.new.memory c.write_at.result c.write_at.ensures.fits c.write_at.ensures.after (omega arith)
    ∙ ap (overwritten 0 (big_endian 4 all_ones)) (c.fill.ensures.after (λ y e. e))
    ∙ wiped c.args.slots (length c.args.block.now) c.requires

-- The bytes and the groups of zeroed memory.
use Rattle.std.proofs.Common.{List, length, take, is_ok, sym, ap, ◌∙◌}
use Rattle.blocks.specs.Blocks.{blocks_pairs, blocks_size}
use Rattle.blocks.specs.BlocksLaws.{fitting}
use Rattle.blocks.proofs.Blank.{blank_drawn, blank_groups}
use Rattle.blocks.proofs.keep.Blocks.set_up.Goals as goal

pub returns-clause-blank : goal.returns-clause-blank
returns-clause-blank c =
    let groups = c.args.groups in
    let slots = c.args.slots in
    let memory = c.args.memory.now in
    let cleared = c.in_ok-clear.ensures.after in
    let fits = fitting groups slots (length memory) (ap is_ok (sym c.in_ok-clear.ensures.value)) in (
      ap (take (blocks_size groups slots)) cleared ∙ blank_drawn groups slots memory fits,
      λ i l. ap (λ (x : List _). blocks_pairs groups slots x i) cleared ∙ blank_groups groups slots memory fits i l,
    )

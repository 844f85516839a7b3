-- The block of a group that is there and live takes the pair, or is full.
use Rattle.std.proofs.Common.{◌≡◌, ℕ, ◌-◌, cond, List, take, drop, is_ok, is_some, length, Option, sym, refl, ap, ◌∙◌, arith}
use Rattle.std.specs.Option.{ok_or}
use Rattle.keeps.specs.declared.fault.KeepFault.TheVariants.{NoSlot}
use Rattle.keeps.specs.Groups.{Pair}
use Rattle.blocks.specs.Blocks.{block_of, block_put, block_size, free_slot}
use Rattle.blocks.proofs.Calls.{put_done, same_blocks}
use Rattle.blocks.proofs.Group.{block_cut, given, length_block, put_back, put_standing, standing_checked}
use Rattle.blocks.proofs.keep.BlocksKeep.put.Goals as goal

pub returns : goal.returns
returns c =
    let self = c.args.self.now in
    let memory = self.memory.now in
    let g = c.args.group in
    let at = c.place_of-place.result.start in
    let p : Pair = record { cell = c.args.cell; locator = c.args.locator } in
    let block = block_of self.slots memory g in
    let standing = standing_checked self.groups self.slots memory g (sym c.in_ok-check.ensures) in
    let n = c.place_of-place.result.end - at in
    let wide : n ≡ block_size self.slots = omega arith in
    let cut = block_cut self.slots memory at g c.place_of-place.ensures.first n wide in
    let r = c.ok_or.result in
    let slot = c.add.ensures.value ∙ ap (free_slot self.slots) cut in
    let added = c.add.ensures.after ∙ ap (λ t. cond t (block_put (take n (drop at memory)) p) (take n (drop at memory))) (sym c.ok_or.ensures.variant) ∙ ap (λ (b : List ℕ). cond (is_ok r) (block_put b p) b) cut in
    let put = put_back self.groups self.slots memory g standing (is_ok r) at n c.add.new.block (block_put block p) added c.place_of-place.ensures.first wide (c.add.auto.block ∙ ap length cut ∙ length_block self.groups self.slots memory g standing) in
    let left = put_done self.groups self.slots memory _ g p c.ranges.cell.fits c.ranges.locator.fits r put standing (c.ok_or.ensures.variant ∙ ap is_some slot ∙ given self.slots block) in
    record {
      done = record {
        value = c.ok_or.ensures.value ∙ ap (λ (o : Option ℕ). ok_or o (NoSlot g)) slot ∙ put_standing self.groups self.slots memory g standing;
        after = left.after;
        history = left.history;
        size = left.size;
        made = refl;
        same = λ refused. same_blocks _ self (ap (λ (xs : List ℕ). record self.memory { now = xs }) (left.kept refused)) refl refl;
      };
      memory = put;
    }

-- The block of a group that is there and live is wiped.
use Rattle.std.proofs.Common.{◌≡◌, ◌-◌, true, length, Ok, sym, refl, ap, ◌∙◌, arith, rules}
use Rattle.blocks.specs.Blocks.{block_gone, block_size, used_in}
use Rattle.blocks.proofs.Calls.{strike_done}
use Rattle.blocks.proofs.Drawn.{length_gone}
use Rattle.blocks.proofs.Group.{block_cut, put_back, standing_checked, strike_standing}
use Rattle.blocks.proofs.keep.BlocksKeep.strike.Goals as goal

pub returns : goal.returns
returns c =
    let self = c.args.self.now in
    let memory = self.memory.now in
    let g = c.args.group in
    let at = c.place_of-place.result.start in
    let standing = standing_checked self.groups self.slots memory g (sym c.in_ok-check.ensures) in
    let n = c.place_of-place.result.end - at in
    let wide : n ≡ block_size self.slots = omega arith in
    let cut = block_cut self.slots memory at g c.place_of-place.ensures.first n wide in
    let struck = put_back self.groups self.slots memory g standing true at n c.wipe.new.block (block_gone self.slots) c.wipe.ensures c.place_of-place.ensures.first wide (ap length c.wipe.ensures ∙ length_gone self.slots) in
    let left = strike_done self.groups self.slots memory _ g (Ok c.used-pairs.result) struck standing in
    record {
      done = record {
        value = ap Ok (c.used-pairs.ensures ∙ ap (used_in self.slots) cut) ∙ strike_standing self.groups self.slots memory g standing;
        after = left.after;
        history = left.history;
        size = left.size;
        made = refl;
        same = search rules;
      };
      memory = struck;
    }

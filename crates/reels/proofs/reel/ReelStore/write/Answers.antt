-- An accepted write leaves that cell written and no other changed.
use Rattle.std.proofs.Common.{rules, ℕ, ◌+◌, ◌-◌, ◌++◌, List, length, sym, refl, ap, ◌∙◌, arith}
use Rattle.octets.specs.Numbers.{big_endian}
use Rattle.octets.specs.Overwriting.{overwritten}
use Rattle.octets.proofs.Overwrites.{put_part, overwritten_two, written_where_it_fits, length-overwritten}
use Rattle.reels.proofs.Cells.{cell_after}
use Rattle.reels.specs.ReelLaws.{line_inside}
use Rattle.reels.specs.Reels.{line_added, reel_cell}
use Rattle.reels.proofs.reel.ReelStore.write.Goals as goal

pub returns-clause-memory : goal.returns-clause-memory
returns-clause-memory c =
    let free = c.in_ok-n.ensures.line in
    let n = c.in_ok-n.n in
    let old = c.args.self.now.memory.now in
    let bytes = c.args.bytes.now in
    let first = c.place-first.result in
    let number = big_endian 4 c.args.at in
    let inside = line_inside c.args.self.now.lines old n free.left in
    let numbered = written_where_it_fits first 4 number old _ _ c.write_at.ensures.fits c.write_at.ensures.after (omega arith) in
    let placed = put_part (first + 4) 24 ((first + 28) - (first + 4)) c.write_at.new.memory c.copy_from_slice.new.self bytes c.copy_from_slice.ensures.after (omega arith) free.long in
    let line = placed ∙ ap (overwritten (first + 4) bytes) numbered ∙ overwritten_two first 4 number bytes old refl (omega arith) in
    let long = ap length line ∙ length-overwritten first (number ++ bytes) old (omega (arith, free.long)) in
    written_where_it_fits 0 4 (big_endian 4 (n + 1)) _ _ _ c.write_at-2.ensures.fits c.write_at-2.ensures.after (omega (arith, long))
    ∙ ap (overwritten 0 (big_endian 4 (n + 1))) line
    ∙ ap (λ (k : ℕ). overwritten 0 (big_endian 4 (n + 1)) (overwritten k (number ++ bytes) old)) c.place-first.ensures
    ∙ ap (λ (k : ℕ). line_added k c.args.at bytes old) free.next

pub returns-clause-done : goal.returns-clause-done
returns-clause-done c =
    let free = c.in_ok-n.ensures.line in
    let reel = c.args.self.now in
    let old = reel.memory.now in
    record {
      value = search rules;
      after = λ d. ap (λ (m : List ℕ). reel_cell reel.cells reel.lines m d) (returns-clause-memory c ∙ ap (λ (k : ℕ). line_added k c.args.at c.args.bytes.now old) (sym free.next))
          ∙ cell_after reel.cells reel.lines c.in_ok-n.n c.args.at c.args.bytes.now old free d;
      size = search rules;
      same = search rules;
    }

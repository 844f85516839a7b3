-- The flag, the bytes behind it, and nothing else.
use Rattle.std.proofs.Common.{◌≡◌, ◌+◌, ◌-◌, ◌*◌, ◌≤◌, length, take, drop, set, ap, ◌∙◌, arith, length-set, rules}
use borrow.Rule.Slice.PartMut.{put_mid}
use Rattle.std.proofs.lemmas.List.{places}
use Rattle.std.proofs.lemmas.Slice.{between-put_mid}
use Rattle.plates.proofs.memory.put.Goals as goal

pub returns : goal.returns
returns c =
    let first = 25 * c.args.at in
    let k = (first + 25) - (first + 1) in
    let flagged = set c.args.memory.now first 1 in
    let n : 24 ≡ k = omega arith in
    let a : first + 1 ≤ length flagged = simp length-set (omega arith) in
    let same = c.copy_from_slice.ensures.after in
    record {
      flagged = search (rules, places);
      placed = ap (λ m. take m (drop (first + 1) (put_mid (first + 1) k flagged c.copy_from_slice.new.self))) n
          ∙ between-put_mid (first + 1) k flagged c.copy_from_slice.new.self (first + 25) a (ap length same ∙ c.requires.long ∙ n) ∙ same;
      front = λ k d h. search (rules, places);
      back = λ k d h. search (rules, places);
      long = search (rules, places);
    }

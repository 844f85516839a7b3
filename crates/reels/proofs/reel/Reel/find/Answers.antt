-- The first line with the number, among the lines as parts of the memory.
use Rattle.std.proofs.Common.{◌≡◌, ◌==◌, ℕ, ◌*◌, ◌<◌, List, take, drop, position, IfSome, Some, None, Option, sym, refl, ap, ◌∙◌}
use Rattle.std.specs.Simd.{first_chunks}
use Rattle.octets.specs.Numbers.{number_at}
use Rattle.reels.specs.ReelLaws.{found_below}
use Rattle.reels.specs.Reels.{found, reel_used}
use Rattle.reels.specs.declared.reel.Reel.{Reel}
use Rattle.reels.proofs.Finding.{line_found}
use Rattle.reels.proofs.reel.Reel.find.Goals as goal

-- What is found among the used lines of a reel.
searched : (r : Reel) (cell : ℕ) (lines : List (List ℕ)) (o : Option ℕ) → lines ≡ first_chunks 28 (reel_used r.lines r.memory.now) (take (reel_used r.lines r.memory.now * 28) (drop 4 r.memory.now)) → o ≡ position (λ line. number_at line 0 4 == cell) lines → o ≡ found r.memory.now cell (reel_used r.lines r.memory.now)
searched r cell lines o cut first =
    let n = reel_used r.lines r.memory.now in
    line_found r.memory.now cell n (take (n * 28) (drop 4 r.memory.now)) refl o (first ∙ ap (position (λ line. number_at line 0 4 == cell)) cut)

pub returns-clause-value : goal.returns-clause-value
returns-clause-value c = searched c.args.self.now c.args.cell c.used_lines.result.now c.first_with.result c.used_lines.ensures c.first_with.ensures

below : (m : List ℕ) (cell n : ℕ) (o : Option ℕ) → o ≡ found m cell n → IfSome o (λ i. i < n)
below m cell n None e = tt
below m cell n (Some i) e = found_below m cell n i (sym e)

pub returns-clause-below : goal.returns-clause-below
returns-clause-below c = below c.args.self.now.memory.now c.args.cell (reel_used c.args.self.now.lines c.args.self.now.memory.now) c.first_with.result (returns-clause-value c)

-- The used lines, cut from the memory behind the count.
use Rattle.std.proofs.Common.{◌≡◌, ℕ, ◌+◌, ◌-◌, ◌*◌, ◌/◌, length, take, drop, ap, ◌∙◌, arith, length-drop, length-take}
use Rattle.std.specs.Simd.{first_chunks}
use Rattle.ledgers.specs.Ledgers.{used}
use Rattle.ledgers.proofs.Rows.{chunked}
use Rattle.ledgers.proofs.ledger.Ledger.used_lines.Goals as goal

pub returns : goal.returns
returns c =
    let self = c.args.self.now in
    let m = self.memory.now in
    let at = self.groups + 4 in
    let n = used self.groups self.lines m in
    let wide : c.line_start-2.result - c.line_start.result ≡ n * 14 = omega (arith, c.used.ensures) in
    let start : c.line_start.result ≡ at = omega arith in
    let xs = take (c.line_start-2.result - c.line_start.result) (drop c.line_start.result m) in
    let cut : xs ≡ take (n * 14) (drop at m) = ap (λ k. take k (drop c.line_start.result m)) wide ∙ ap (λ k. take (n * 14) (drop k m)) start in
    let long : length xs ≡ n * 14 = simp (length-take, length-drop) (omega (arith, self.fits.enough)) in
    let all : length xs / 14 ≡ n = omega (arith, long) in
    record {
      few = omega (arith, c.as_chunks.ensures.front_len, all);
      value = c.as_chunks.ensures.front ∙ ap (λ (k : ℕ). first_chunks 14 k xs) all ∙ chunked at m n xs cut;
    }

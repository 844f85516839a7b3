-- Each turn puts one byte more before those that are done.
use Rattle.std.proofs.Common.{◌≡◌, ℕ, ◌+◌, ◌-◌, ◌%◌, ◌++◌, length, drop, ap, ◌∙◌, arith, length-set}
use Rattle.octets.specs.Numbers.{big_endian}
use Rattle.octets.proofs.Numbers.{big_endian_more}
use Rattle.octets.proofs.write_number.Goals as goal

pub loop-i-preserved : goal.loop-i-preserved
loop-i-preserved c =
    let i = c.loop-i.i - 1 in
    let xs = c.loop-i.bytes in
    let r = c.loop-i.rest in
    let e : c.loop-i.i ≡ i + 1 = omega arith in
    let l = length-set xs i (r % 256) in (
      simp length-set (omega arith),
      ap (λ n. big_endian n c.args.value) l
          ∙ big_endian_more i r xs (big_endian (length xs) c.args.value) (omega arith) (c.loop-i.invariant.1 ∙ ap (λ (j : ℕ). big_endian j r ++ drop j xs) e),
    )

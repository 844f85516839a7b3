-- Each turn puts one byte more behind the number; past 2^56 one byte more passes 64 bits.
use Rattle.std.proofs.Common.{◌+◌, ◌^◌, ◌≤◌, Some, None, refl, arith}
use Rattle.std.proofs.lemmas.Int.Digits.{number_more}
use Rattle.std.proofs.lemmas.Bool.{cond_above}
use Rattle.octets.specs.Numbers.{spelled}
use Rattle.octets.proofs.Numbers.{spelled_front}
use Rattle.octets.proofs.number_of.Goals as goal

pub returns-then-number : goal.returns-then-number
returns-then-number c =
    let all = c.args.bytes.now in
    let one_more = number_more 256 all c.loop-b.b-index (omega arith) in
    let past : 2 ^ 64 ≤ spelled all = omega (arith, one_more, spelled_front all (c.loop-b.b-index + 1)) in
    cond_above (spelled all) (2 ^ 64) (Some (spelled all)) None None past refl

pub loop-b-preserved : goal.loop-b-preserved
loop-b-preserved c =
    let one_more = number_more 256 c.args.bytes.now c.loop-b.b-index (omega arith) in
    (omega (arith, one_more), omega arith)

-- At most 8 bytes spell a number that 64 bits hold.
use Rattle.std.proofs.Common.{drop, ap, ◌∙◌, arith}
use Rattle.std.specs.Option.{unwrap_or}
use Rattle.std.specs.Int.Digits.{AllBelowBase}
use Rattle.octets.specs.Numbers.{spelled}
use Rattle.octets.proofs.Numbers.{held_of_few, small_of_few, under_drop, under_each, under_take}
use Rattle.octets.proofs.memory.number_from.Goals as goal

pub returns : goal.returns
returns c =
    let bytes = c.part.result.now in
    let memory = c.args.memory.now in
    let part = c.part.ensures.value in
    let under : AllBelowBase 256 bytes = rw part (under_take c.args.count (drop c.args.at memory) (under_drop c.args.at memory (under_each memory (λ i. omega (arith, c.type_inv.memory i))))) in
    let e = c.unwrap_or.ensures ∙ ap (λ n. unwrap_or n 0) (c.number_of.ensures ∙ held_of_few bytes under (omega arith)) in
    record {
      value = e ∙ ap spelled part;
      small = omega (arith, e, small_of_few bytes c.args.count under c.part.ensures.few);
    }

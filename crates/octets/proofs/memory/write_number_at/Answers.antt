-- That many bytes, and no others.
use Rattle.std.proofs.Common.{◌≡◌, ℕ, ◌+◌, ◌-◌, length, take, drop, ap, ◌∙◌, arith, length-drop, length-take}
use Rattle.octets.specs.Numbers.{big_endian}
use Rattle.octets.proofs.Numbers.{length-big_endian}
use Rattle.octets.proofs.Overwrites.{put_part}
use Rattle.octets.proofs.memory.write_number_at.Goals as goal

pub returns-clause-after : goal.returns-clause-after
returns-clause-after c =
    let at = c.args.at in
    let n = c.args.count in
    let memory = c.args.memory.now in
    let wide : (at + n) - at ≡ n = omega arith in
    let long : length (take ((at + n) - at) (drop at memory)) ≡ n = simp (length-take, length-drop) (omega arith) in
    put_part at n ((at + n) - at) memory c.write_number.new.bytes (big_endian n c.args.value) (c.write_number.ensures ∙ ap (λ (k : ℕ). big_endian k c.args.value) long) wide (length-big_endian n c.args.value)

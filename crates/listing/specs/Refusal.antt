-- The number and the detail of each refusal of a line.
use Rattle.std.specs.Prelude.{ℕ, None, Option}
use Rattle.keys.specs.Refusal.{key_number, key_detail}
use Rattle.lines.specs.Fault.{refusal_number as line_number, refusal_detail as line_detail}
use Rattle.trees.specs.Refusal.{rule_number, rule_detail}
use Rattle.listing.specs.declared.fault.Fault.{Fault}
use Rattle.listing.specs.declared.fault.Fault.TheVariants.{Line, Key, Rule, Memory}

abbrev pub refusal_number : Fault → ℕ
refusal_number (Line f) = line_number f
refusal_number (Key f) = key_number f
refusal_number (Rule f) = rule_number f
refusal_number Memory = 0

abbrev pub refusal_detail : Fault → Option ℕ
refusal_detail (Line f) = line_detail f
refusal_detail (Key f) = key_detail f
refusal_detail (Rule f) = rule_detail f
refusal_detail Memory = None

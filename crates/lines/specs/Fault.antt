-- The number and the detail of the refusal of a line.
use Rattle.std.specs.Prelude.{ℕ, Some, Option}
use Rattle.lines.specs.declared.fault.LineFault.{LineFault}

-- 15 is LINE
abbrev pub refusal_number : LineFault → ℕ
refusal_number f = 15

abbrev pub refusal_detail : LineFault → Option ℕ
refusal_detail f = Some f.field

-- The number and the detail of each refusal of a keep.
use Rattle.std.specs.Prelude.{ℕ}
use Rattle.keeps.specs.declared.fault.KeepFault.{KeepFault}
use Rattle.keeps.specs.declared.fault.KeepFault.TheVariants.{Group, Gone, NoSlot, Stranger}

-- 5 GROUP (group), 6 GONE (group), 10 NO SLOT (group), 13 STRANGER (the cell asked with)
abbrev pub keep_number : KeepFault → ℕ
keep_number (Group group) = 5
keep_number (Gone group) = 6
keep_number (NoSlot group) = 10
keep_number (Stranger cell) = 13

abbrev pub keep_detail : KeepFault → ℕ
keep_detail (Group group) = group
keep_detail (Gone group) = group
keep_detail (NoSlot group) = group
keep_detail (Stranger cell) = cell

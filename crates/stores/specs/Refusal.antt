-- The number and the detail of each refusal of a store.
use Rattle.std.specs.Prelude.{ℕ, Some, None, Ok, Err, Option, Result}
use Rattle.stores.specs.declared.fault.SetUpFault.{SetUpFault}
use Rattle.stores.specs.declared.fault.SetUpFault.TheVariants.{Setting, Size}
use Rattle.stores.specs.declared.fault.StoreFault.{StoreFault}
use Rattle.stores.specs.declared.fault.StoreFault.TheVariants.{Length, Beyond, Written, NoCell}

-- 14 LENGTH, 11 BEYOND (cell), 12 WRITTEN (cell), 9 NO CELL (cell)
abbrev pub store_number : StoreFault → ℕ
store_number Length = 14
store_number (Beyond cell) = 11
store_number (Written cell) = 12
store_number (NoCell cell) = 9

abbrev pub store_detail : StoreFault → Option ℕ
store_detail Length = None
store_detail (Beyond cell) = Some cell
store_detail (Written cell) = Some cell
store_detail (NoCell cell) = Some cell

-- The same refusal, told of another number of the cell.
abbrev pub at_own : ℕ → StoreFault → StoreFault
at_own cell Length = Length
at_own cell (Beyond below) = Beyond cell
at_own cell (Written below) = Written cell
at_own cell (NoCell below) = NoCell cell

abbrev pub seen_as : {A : Type 0} → ℕ → Result A StoreFault → Result A StoreFault
seen_as cell (Ok x) = Ok x
seen_as cell (Err f) = Err (at_own cell f)

-- 1 SETTING, 3 SIZE, neither with a detail
abbrev pub set_up_number : SetUpFault → ℕ
set_up_number Setting = 1
set_up_number Size = 3

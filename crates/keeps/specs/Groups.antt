-- What a keep answers and leaves, by what its groups hold and which of them take a pair now.
use Rattle.std.specs.Prelude.{ℕ, zero, suc, ◌%◌, ◌^◌, Bool, cond, List, [], ◌∷◌, ◌++◌, length, Ok, Err, Result, ◌==◌, nat_lt}
pub use Rattle.stores.specs.Cells.{changed}
use Rattle.keeps.specs.declared.fault.KeepFault.{KeepFault}
use Rattle.keeps.specs.declared.fault.KeepFault.TheVariants.{Group as NoGroup, Gone, NoSlot, Stranger}

-- A cell, and the locator: where the drawing lies that is filed there.
pub record Pair : Type 0 where
  pub cell : ℕ
  pub locator : ℕ

-- A live group's pairs stand in the order in which they were put; a pair's slot is its place there, from 0.
pub data Group : Type 0 where
  live : List Pair → Group
  retired : Group

-- A count as 32 bits hold it.
abbrev pub as_u32 : ℕ → ℕ
as_u32 n = n % 2 ^ 32

-- What a live group gives. Every call checks GROUP, then GONE.
abbrev pub of_live : {A : Type 0} → Group → (g : ℕ) → (List Pair → Result A KeepFault) → Result A KeepFault
of_live retired g gives = Err (Gone g)
of_live (live pairs) g gives = gives pairs

abbrev pub with_live : {A : Type 0} (groups : ℕ) (group : ℕ → Group) (g : ℕ) → (List Pair → Result A KeepFault) → Result A KeepFault
with_live groups group g gives = cond (nat_lt g groups) (of_live (group g) g gives) (Err (NoGroup g))

abbrev pub check_answer : (groups : ℕ) (group : ℕ → Group) (g : ℕ) → Result (Unit {0}) KeepFault
check_answer groups group g = with_live groups group g (λ pairs. Ok tt)

-- A slot that was not given out, and one that was given to another cell, are told in the same words.
abbrev pub in_slot : List Pair → (slot cell : ℕ) → Result ℕ KeepFault
in_slot [] slot cell = Err (Stranger cell)
in_slot (p ∷ pairs) zero cell = cond (p.cell == cell) (Ok p.locator) (Err (Stranger cell))
in_slot (p ∷ pairs) (suc slot) cell = in_slot pairs slot cell

abbrev pub get_answer : (groups : ℕ) (group : ℕ → Group) (g slot cell : ℕ) → Result ℕ KeepFault
get_answer groups group g slot cell = with_live groups group g (λ pairs. in_slot pairs slot cell)

-- The slot of the new pair; NO SLOT where the live group takes none.
abbrev pub put_answer : (groups : ℕ) (group : ℕ → Group) (room : ℕ → Bool) (g : ℕ) → Result ℕ KeepFault
put_answer groups group room g = with_live groups group g (λ pairs. cond (room g) (Ok (as_u32 (length pairs))) (Err (NoSlot g)))

-- How many pairs the group had.
abbrev pub strike_answer : (groups : ℕ) (group : ℕ → Group) (g : ℕ) → Result ℕ KeepFault
strike_answer groups group g = with_live groups group g (λ pairs. Ok (as_u32 (length pairs)))

abbrev pub with_pair : Group → Pair → Group
with_pair retired p = retired
with_pair (live pairs) p = live (pairs ++ (p ∷ []))

-- The groups after a put and after a strike: that one has changed, and no other; a refusal leaves all.
abbrev pub after_put : {A E : Type 0} → Result A E → (group : ℕ → Group) (g : ℕ) → Pair → ℕ → Group
after_put (Ok slot) group g p i = changed group g (with_pair (group g) p) i
after_put (Err f) group g p i = group i

abbrev pub after_strike : {A E : Type 0} → Result A E → (group : ℕ → Group) (g : ℕ) → ℕ → Group
after_strike (Ok n) group g i = changed group g retired i
after_strike (Err f) group g i = group i

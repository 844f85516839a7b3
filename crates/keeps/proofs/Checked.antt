-- What a check says of the group, and for the other calls.
use Rattle.std.proofs.Common.{◌≡◌, ℕ, ◌<◌, Bool, true, false, cond, ltb, List, Ok, Err, Result, refl}
use Rattle.std.proofs.lemmas.Bool.{ltb-true}
use Rattle.keeps.specs.declared.fault.KeepFault.{KeepFault}
use Rattle.keeps.specs.declared.fault.KeepFault.TheVariants.{Group as NoGroup}
use Rattle.keeps.specs.Groups.{Group, Pair, live, retired, of_live, with_live, check_answer}

-- A group that is there and live, with these pairs.
pub record Live (groups : ℕ) (group : ℕ → Group) (g : ℕ) : Type 0 where
  pub there : g < groups
  pub pairs : List Pair
  pub holds : group g ≡ live pairs

checked_live : (o : Group) (g : ℕ) → of_live {A = Unit {0}} o g (λ ps. Ok tt) ≡ Ok tt → (pairs : List Pair) × (o ≡ live pairs)
checked_live (live pairs) g e = (pairs, refl)
checked_live retired g e = absurd cc

checked_by : (there : Bool) (o : Group) (g : ℕ) → cond there (of_live {A = Unit {0}} o g (λ ps. Ok tt)) (Err (NoGroup g)) ≡ Ok tt → (there ≡ true) × ((pairs : List Pair) × (o ≡ live pairs))
checked_by true o g e = (refl, checked_live o g e)
checked_by false o g e = absurd cc

-- What a check that passed says.
pub live_checked : (groups : ℕ) (group : ℕ → Group) (g : ℕ) → check_answer groups group g ≡ Ok tt → Live groups group g
live_checked groups group g e =
    let both = checked_by (ltb g groups) (group g) g e in
    record { there = ltb-true g groups both.0; pairs = both.1.0; holds = both.1.1 }

refused_live : {A : Type 0} (o : Group) (g : ℕ) (f : KeepFault) (gives : List Pair → Result A KeepFault) → of_live {A = Unit {0}} o g (λ ps. Ok tt) ≡ Err f → of_live o g gives ≡ Err f
refused_live (live pairs) g f gives e = absurd cc
refused_live retired g f gives e = cc

refused_by : {A : Type 0} (there : Bool) (o : Group) (g : ℕ) (f : KeepFault) (gives : List Pair → Result A KeepFault) → cond there (of_live {A = Unit {0}} o g (λ ps. Ok tt)) (Err (NoGroup g)) ≡ Err f → cond there (of_live o g gives) (Err (NoGroup g)) ≡ Err f
refused_by true o g f gives e = refused_live o g f gives e
refused_by false o g f gives e = cc

-- What a check refuses, every other call refuses in the same words.
pub refused_checked : {A : Type 0} (groups : ℕ) (group : ℕ → Group) (g : ℕ) (f : KeepFault) (gives : List Pair → Result A KeepFault) → check_answer groups group g ≡ Err f → with_live groups group g gives ≡ Err f
refused_checked groups group g f gives e = refused_by (ltb g groups) (group g) g f gives e

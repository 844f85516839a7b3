-- Blocks are a keep.
use Rattle.std.specs.Prelude.{◌≡◌, ℕ, ◌<◌, ◌≤◌, Bool, true, false, cond, ◌&&◌, List, [], ◌∷◌, map, length, take, is_ok, Ok, Err, ◌==◌, ◌≢◌, nat_lt, slice_index, refl}
use Rattle.std.proofs.Common.{ap, sym, ◌∙◌, inl, inr, arith}
use Rattle.std.proofs.Math.Path.{fun_ext}
use Rattle.std.specs.List.{range_with_len, flat_map}
use Rattle.std.proofs.lemmas.Bool.Decides.{nat_tests}
use Rattle.std.proofs.lemmas.Bool.{cases_Bool, cond-false, le-ltb, ne_eqb, both_ways}
use Rattle.stores.specs.declared.fault.SetUpFault.{SetUpFault}
use Rattle.stores.specs.declared.fault.SetUpFault.TheVariants.{Setting, Size}
use Rattle.keeps.specs.Groups.{Group, Pair, retired}
use Rattle.keeps.specs.History.{Put, erased}
use Rattle.keeps.specs.Laws.{KeepLaws}
use Rattle.blocks.specs.declared.keep.Blocks.{Blocks}
use Rattle.blocks.specs.Blocks.{Fitting, blocks_fit, blocks_groups, blocks_pairs, blocks_room, blocks_size, count_in, group_in}
use Rattle.blocks.specs.Drawing.{drawn_block, drawn_blocks, puts_of}

-- Where the numbers and the memory fit, all groups are there.
pub all_groups : (groups slots : ℕ) (memory : List ℕ) → Fitting groups slots (length memory) → blocks_groups groups slots memory ≡ groups
all_groups groups slots memory fits = grind (arith, nat_tests)

-- Of any two tests: where nothing is refused, both are passed.
fitting_by : (range enough : Bool) → is_ok {T = Unit {0}} {E = SetUpFault} (cond range (cond enough (Ok tt) (Err Size)) (Err Setting)) ≡ true → (range ≡ true) × (enough ≡ true)
fitting_by true true e = (refl, refl)
fitting_by true false e = absurd (both_ways false refl e)
fitting_by false enough e = absurd (both_ways false refl e)

pub fitting : (groups slots long : ℕ) → is_ok (blocks_fit groups slots long) ≡ true → Fitting groups slots long
fitting groups slots long e =
    record {
      some = grind (arith, nat_tests);
      few = grind (arith, nat_tests);
      wide = grind (arith, nat_tests);
      narrow = grind (arith, nat_tests);
      enough = grind (arith, nat_tests);
    }

-- Where there is a group, all fits.
pub fitting_there : (groups slots : ℕ) (memory : List ℕ) (g : ℕ) → g < blocks_groups groups slots memory → (g < groups) × Fitting groups slots (length memory)
fitting_there groups slots memory g there = (grind (arith, nat_tests), fitting groups slots (length memory) (grind (arith, nat_tests)))

-- Of any numbers and memory: there are few groups, and a group with fewer pairs than slots is not retired.
few_groups : (groups slots : ℕ) (memory : List ℕ) → blocks_groups groups slots memory ≤ 256
few_groups groups slots memory = grind (arith, nat_tests)

-- The same of any test and any number of groups, and of any block.
few_by : (fits : Bool) (groups : ℕ) → (fits ≡ true → groups ≤ 256) → cond fits groups 0 ≤ 256
few_by true groups h = h refl
few_by false groups h = omega arith

live_group : (inside : Bool) (slots : ℕ) (block : List ℕ) → slots ≤ 65535 → (inside && nat_lt (count_in block) slots) ≡ true → cond inside (group_in slots block) retired ≢ retired
live_group inside slots block narrow room gone = grind (arith, nat_tests, room, gone)

room_live : (groups slots : ℕ) (memory : List ℕ) (i : ℕ) → blocks_room groups slots memory i ≡ true → blocks_pairs groups slots memory i ≢ retired
room_live groups slots memory i room gone = grind (arith, nat_tests, room, gone)

module _ (gone : ℕ → Bool) (i : ℕ) (alive : gone i ≡ false) where
  put_erased : (p : Put) (xs ys : List Pair) → xs ≡ ys → cond ((erased gone p).group == i) (record { cell = (erased gone p).cell; locator = (erased gone p).locator } ∷ xs) xs ≡ cond (p.group == i) (record { cell = p.cell; locator = p.locator } ∷ ys) ys
  put_erased p xs ys e =
      elim (cases_Bool (gone p.group)) [
        | inl t ↦ let n = ne_eqb p.group i (λ z. both_ways (gone i) alive (ap gone (sym z) ∙ t)) in simp (t, n) e
        | inr f ↦ simp f (ap (λ zs. cond (p.group == i) (record { cell = p.cell; locator = p.locator } ∷ zs) zs) e)
      ]

  puts_erased : (puts : List Put) → puts_of i (map (erased gone) puts) ≡ puts_of i puts
  puts_erased [] = refl
  puts_erased (p ∷ puts) = put_erased p (puts_of i (map (erased gone) puts)) (puts_of i puts) (puts_erased puts)

block_erased : (slots : ℕ) (gone : ℕ → Bool) (puts : List Put) (i : ℕ) → drawn_block slots (map (erased gone) puts) gone i ≡ drawn_block slots puts gone i
block_erased slots gone puts i =
    elim (cases_Bool (gone i)) [ inl t ↦ simp t | inr f ↦ simp (f, puts_erased gone i f puts) ]

-- The members of the keep.
abbrev pub groups_of : Blocks → ℕ
groups_of b = blocks_groups b.groups b.slots b.memory.now

abbrev pub pairs_of : Blocks → ℕ → Group
pairs_of b = blocks_pairs b.groups b.slots b.memory.now

abbrev pub room_of : Blocks → ℕ → Bool
room_of b = blocks_room b.groups b.slots b.memory.now

abbrev pub numbers_of : Blocks → List ℕ
numbers_of b = b.groups ∷ (b.slots ∷ [])

abbrev pub bytes_of : Blocks → List ℕ
bytes_of b = take (blocks_size b.groups b.slots) b.memory.now

-- Over any type that has the numbers and memory.
pub blocks_laws_of : {B : Type 0} (groups slots : B → ℕ) (memory : B → List ℕ) → KeepLaws (λ b. blocks_groups (groups b) (slots b) (memory b)) (λ b. blocks_pairs (groups b) (slots b) (memory b)) (λ b. blocks_room (groups b) (slots b) (memory b)) drawn_blocks
blocks_laws_of groups slots memory =
    record {
      few = λ b. few_groups (groups b) (slots b) (memory b);
      outside = λ b i h. cond-false _ _ _ (le-ltb i _ h);
      live_only = λ b i. room_live (groups b) (slots b) (memory b) i;
      forgets = λ numbers puts gone. ap (λ (f : ℕ → List ℕ). flat_map f (range_with_len 0 (slice_index numbers 0))) (fun_ext (block_erased (slice_index numbers 1) gone puts));
    }

pub blocks_laws : KeepLaws groups_of pairs_of room_of drawn_blocks
blocks_laws = blocks_laws_of (λ b. b.groups) (λ b. b.slots) (λ b. b.memory.now)

-- A group that is there and live: where its block lies, and what the keep answers.
use Rattle.std.proofs.Common.{◌≡◌, ℕ, ◌+◌, ◌*◌, ◌<◌, ◌≤◌, Bool, true, false, cond, ltb, ◌&&◌, List, length, take, drop, is_some, Some, None, Ok, Err, Result, sym, refl, ap, ◌∙◌, inl, inr, mod-eq_of_lt, add-mul, arith, length-drop, length-take}
use Rattle.std.proofs.lemmas.Nat.{mul-le}
use Rattle.std.proofs.lemmas.Bool.{cases_Bool, cond-true, lt-ltb, ltb-true}
use Rattle.std.proofs.lemmas.Bool.Decides.{nat_tests}
use Rattle.keeps.specs.declared.fault.KeepFault.{KeepFault}
use Rattle.keeps.specs.declared.fault.KeepFault.TheVariants.{NoSlot}
use Rattle.keeps.specs.Groups.{Pair, as_u32, check_answer, of_live, put_answer, strike_answer, with_live}
use borrow.Rule.Slice.PartMut.{put_mid}
use Rattle.std.specs.Option.{ok_or}
use Rattle.octets.specs.Overwriting.{overwritten}
use Rattle.octets.proofs.Overwrites.{put_part_if}
use Rattle.keeps.proofs.Checked.{live_checked}
use Rattle.blocks.specs.Blocks.{Fitting, all_ones, block_of, block_size, blocks_groups, blocks_pairs, blocks_room, count_in, free_slot, group_in, pairs_in, used_in}
use Rattle.blocks.specs.BlocksLaws.{fitting_there}
use Rattle.blocks.proofs.Single.{group_live, length_pairs}

-- The block as it is cut out of the memory.
pub block_cut : (slots : ℕ) (memory : List ℕ) (at g : ℕ) → at ≡ g * block_size slots → (wide : ℕ) → wide ≡ block_size slots → take wide (drop at memory) ≡ block_of slots memory g
block_cut slots memory at g e wide f = ap (λ k. take k (drop at memory)) f ∙ ap (λ k. take (block_size slots) (drop k memory)) e

-- Whether a slot is left.
pub given : (slots : ℕ) (block : List ℕ) → is_some (free_slot slots block) ≡ ltb (count_in block) slots
given slots block = elim (cases_Bool (ltb (count_in block) slots)) [ inl t ↦ simp t | inr f ↦ simp f ]

-- Group g is there, and not retired.
pub record Standing (groups slots : ℕ) (memory : List ℕ) (g : ℕ) : Type 0 where
  pub fits : Fitting groups slots (length memory)
  pub there : g < blocks_groups groups slots memory
  pub alive : count_in (block_of slots memory g) ≡ all_ones → ⊥
  pub inside : g * block_size slots + block_size slots ≤ length memory

-- What a check that passed says.
pub standing_checked : (groups slots : ℕ) (memory : List ℕ) (g : ℕ) → check_answer (blocks_groups groups slots memory) (blocks_pairs groups slots memory) g ≡ Ok tt → Standing groups slots memory g
standing_checked groups slots memory g passed =
    let l = live_checked (blocks_groups groups slots memory) (blocks_pairs groups slots memory) g passed in
    let there = fitting_there groups slots memory g l.there in
    record {
      fits = there.1;
      there = l.there;
      alive = λ ones. grind (arith, nat_tests, l.there, l.holds, ones);
      inside = omega (arith, there.1.enough, mul-le (g + 1) (block_size slots) groups (block_size slots) (omega (arith, there.0)) (omega arith), add-mul g 1 (block_size slots));
    }

module _ (groups slots : ℕ) (memory : List ℕ) (g : ℕ) (standing : Standing groups slots memory g) where
  abbrev block : List ℕ
  block = block_of slots memory g

  pub length_block : length block ≡ block_size slots
  length_block = simp (length-take, length-drop) (omega (arith, standing.inside))

  seen : ltb g (blocks_groups groups slots memory) ≡ true
  seen = lt-ltb g (blocks_groups groups slots memory) standing.there

  pub group_there : group_in slots block ≡ blocks_pairs groups slots memory g
  group_there = sym (cond-true _ _ _ seen)

  with_standing : {A : Type 0} (gives : List Pair → Result A KeepFault) → with_live (blocks_groups groups slots memory) (blocks_pairs groups slots memory) g gives ≡ gives (pairs_in block (used_in slots block))
  with_standing gives = cond-true _ _ _ seen ∙ ap (λ o. of_live o g gives) (sym group_there ∙ group_live slots block standing.alive)

  counted : as_u32 (length (pairs_in block (used_in slots block))) ≡ used_in slots block
  counted = ap as_u32 (length_pairs block (used_in slots block)) ∙ mod-eq_of_lt (omega (arith, standing.fits.narrow))

  -- What a strike and a put answer.
  pub strike_standing : Ok (used_in slots block) ≡ strike_answer (blocks_groups groups slots memory) (blocks_pairs groups slots memory) g
  strike_standing = ap Ok (sym counted) ∙ sym (with_standing (λ pairs. Ok (as_u32 (length pairs))))

  by_free : (free : Bool) (n m : ℕ) → (free ≡ true → n ≡ m) → ok_or (cond free (Some n) None) (NoSlot g) ≡ cond free (Ok m) (Err (NoSlot g))
  by_free true n m same = ap Ok (same refl)
  by_free false n m same = refl

  pub put_standing : ok_or (free_slot slots block) (NoSlot g) ≡ put_answer (blocks_groups groups slots memory) (blocks_pairs groups slots memory) (blocks_room groups slots memory) g
  put_standing =
      let room : blocks_room groups slots memory g ≡ ltb (count_in block) slots = ap (λ t. t && ltb (count_in block) slots) seen in
      by_free (ltb (count_in block) slots) (count_in block) (used_in slots block) (λ t. omega (arith, ltb-true (count_in block) slots t))
      ∙ ap (λ n. cond (ltb (count_in block) slots) (Ok n) (Err (NoSlot g))) (sym counted)
      ∙ ap (λ t. cond t (Ok (as_u32 (length (pairs_in block (used_in slots block))))) (Err (NoSlot g))) (sym room)
      ∙ sym (with_standing (λ pairs. cond (blocks_room groups slots memory g) (Ok (as_u32 (length pairs))) (Err (NoSlot g))))

  -- What the checker says of a write to the block, of one that is written or left as it was.
  pub put_back : (done : Bool) (at wide : ℕ) (put part : List ℕ) → put ≡ cond done part block → at ≡ g * block_size slots → wide ≡ block_size slots → length put ≡ block_size slots → put_mid at wide memory put ≡ cond done (overwritten (g * block_size slots) part memory) memory
  put_back done at wide put part e f w l =
      put_part_if done at (block_size slots) wide memory put part (e ∙ ap (λ k. cond done part (take (block_size slots) (drop k memory))) (sym f)) w l
      ∙ ap (λ k. cond done (overwritten k part memory) memory) f

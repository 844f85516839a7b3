-- Blocks just set up: bytes of no put, and every group live and empty.
use Rattle.std.proofs.Common.{◌≡◌, ℕ, ◌+◌, ◌-◌, ◌*◌, ◌<◌, min, cond, List, [], ◌∷◌, length, take, replicate, is_ok, sym, ap, ◌∙◌, add-mul, arith}
use Rattle.std.proofs.lemmas.Nat.{mul-le}
use Rattle.std.proofs.lemmas.List.{replicate-append-replicate, take_all}
use Rattle.std.proofs.lemmas.Bool.{cond-true, lt-ltb}
use Rattle.octets.specs.Overwriting.{zeroed}
use Rattle.octets.proofs.Overwrites.{length-zeroed, zero_part}
use Rattle.octets.proofs.Parts.{from_parts}
use Rattle.keeps.specs.Groups.{live}
use Rattle.keeps.specs.History.{none_gone}
use Rattle.blocks.specs.Blocks.{Fitting, block_of, block_size, blocks_fit, blocks_groups, blocks_pairs, blocks_size, group_in, pairs_in}
use Rattle.blocks.specs.BlocksLaws.{all_groups}
use Rattle.blocks.specs.Drawing.{block_with, drawn_block, drawn_blocks}
use Rattle.blocks.proofs.Drawn.{count_with}
use Rattle.blocks.proofs.Single.{group_live}

module _ (groups slots : ℕ) (memory : List ℕ) (fits : Fitting groups slots (length memory)) where
  abbrev new : List ℕ
  new = zeroed (blocks_size groups slots) memory

  empty : block_with slots [] ≡ replicate (block_size slots) 0
  unfolding block_with
  empty = replicate-append-replicate 4 (12 * (slots - 0)) 0 ∙ ap (λ n. replicate n 0) (omega arith)

  blank_block : (i : ℕ) → i < groups → block_of slots new i ≡ block_with slots []
  blank_block i l =
      zero_part (blocks_size groups slots) (i * block_size slots) (block_size slots) memory (omega (arith, mul-le (i + 1) (block_size slots) groups (block_size slots) (omega arith) (omega arith), add-mul i 1 (block_size slots)))
      ∙ sym empty

  pub blank_drawn : take (blocks_size groups slots) new ≡ drawn_blocks (groups ∷ (slots ∷ [])) [] none_gone
  blank_drawn =
      from_parts (block_size slots) (drawn_block slots [] none_gone) groups 0 new
      (λ i l. blank_block i l ∙ ap (block_with slots) (sym (take_all slots [] (omega arith))))

  all_there : blocks_groups groups slots new ≡ groups
  all_there = ap (λ n. cond (is_ok (blocks_fit groups slots n)) groups 0) (length-zeroed (blocks_size groups slots) memory fits.enough) ∙ all_groups groups slots memory fits

  pub blank_groups : (i : ℕ) → i < groups → blocks_pairs groups slots new i ≡ live []
  unfolding pairs_in
  blank_groups i l =
      let count = count_with slots [] (omega arith) in
      let none : min 0 slots ≡ 0 = omega arith in
      cond-true _ _ _ (lt-ltb i (blocks_groups groups slots new) (omega (arith, all_there)))
      ∙ ap (group_in slots) (blank_block i l)
      ∙ group_live slots (block_with slots []) (λ z. omega (arith, count))
      ∙ ap (λ n. live (pairs_in (block_with slots []) (min n slots))) count
      ∙ ap (λ n. live (pairs_in (block_with slots []) n)) none

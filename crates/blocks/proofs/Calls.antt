-- What a put and a strike of a live group leave: the groups and the bytes.
use Rattle.std.proofs.Common.{◌≡◌, ℕ, ◌+◌, ◌*◌, ◌^◌, ◌<◌, Bool, true, false, cond, eqb, ltb, List, [], ◌∷◌, length, take, drop, is_ok, Ok, Err, Result, sym, refl, ap, ◌∙◌, inl, inr, arith}
use Rattle.std.proofs.Props.{props}
use mathlib.Core.HLevel.{is_prop→PathP}
use Rattle.std.proofs.lemmas.Bool.{cases_eq, cond-false, cond-true, eq-eqb, lt-ltb, ltb-true, ne_eqb}
use Rattle.octets.specs.Overwriting.{overwritten}
use Rattle.octets.proofs.Overwrites.{length-overwritten, one_of_parts}
use Rattle.keeps.specs.declared.fault.KeepFault.{KeepFault}
use Rattle.keeps.specs.Groups.{Pair, after_put, after_strike, changed, retired, with_pair}
use Rattle.keeps.specs.History.{Put, with_gone, with_put}
use Rattle.blocks.specs.declared.keep.Blocks.{Blocks}
use Rattle.blocks.specs.Blocks.{Fitting, block_gone, block_of, block_put, block_size, blocks_fit, blocks_groups, blocks_pairs, blocks_put, blocks_size, blocks_struck, count_in, group_in}
use Rattle.blocks.specs.Drawing.{drawn_blocks}
use Rattle.blocks.proofs.Drawn.{drawn_put, drawn_struck, length_gone}
use Rattle.blocks.proofs.Group.{Standing, group_there, length_block}
use Rattle.blocks.proofs.Single.{group_gone, group_put, length_put}

-- Blocks are told by their memory and their numbers.
pub same_blocks : (one other : Blocks) → one.memory ≡ other.memory → one.groups ≡ other.groups → one.slots ≡ other.slots → one ≡ other
same_blocks one other memory groups slots =
    λ i. record {
      memory = memory i;
      groups = groups i;
      slots = slots i;
      fits = is_prop→PathP (λ j. Fitting (groups j) (slots j) (length (memory j).now)) (λ j. hlevel props) one.fits other.fits i;
    }

-- One block is written anew.
module _ (groups slots : ℕ) (memory : List ℕ) (g : ℕ) (standing : Standing groups slots memory g) (b : List ℕ) (long : length b ≡ block_size slots) where
  abbrev new : List ℕ
  new = overwritten (g * block_size slots) b memory

  size_written : blocks_groups groups slots new ≡ blocks_groups groups slots memory
  size_written = ap (λ n. cond (is_ok (blocks_fit groups slots n)) groups 0) (length-overwritten (g * block_size slots) b memory (omega (arith, standing.inside)))

  block_written : (i : ℕ) → block_of slots new i ≡ cond (eqb i g) b (block_of slots memory i)
  block_written i =
      let start : g * block_size slots ≡ 0 + g * block_size slots = omega arith in
      let first : i * block_size slots ≡ 0 + i * block_size slots = omega arith in
      ap (λ k. take (block_size slots) (drop k new)) first
      ∙ ap (λ k. take (block_size slots) (drop (0 + i * block_size slots) (overwritten k b memory))) start
      ∙ one_of_parts 0 (block_size slots) memory g b long (omega (arith, standing.inside)) i
      ∙ ap (λ k. cond (eqb i g) b (take (block_size slots) (drop k memory))) (sym first)

  pairs_written : (i : ℕ) → blocks_pairs groups slots new i ≡ changed (blocks_pairs groups slots memory) g (group_in slots b) i
  pairs_written i =
      ap (λ n. cond (ltb i n) (group_in slots (block_of slots new i)) retired) size_written
      ∙ ap (λ x. cond (ltb i (blocks_groups groups slots memory)) (group_in slots x) retired) (block_written i)
      ∙ elim (cases_eq g i) [
        | inl e ↦
            ap (λ x. cond (ltb i (blocks_groups groups slots memory)) (group_in slots x) retired) (cond-true _ _ _ (eq-eqb i g (sym e)))
            ∙ cond-true _ _ _ (ap (λ k. ltb k (blocks_groups groups slots memory)) (sym e) ∙ lt-ltb g (blocks_groups groups slots memory) standing.there)
            ∙ sym (cond-true _ _ _ (eq-eqb g i e))
        | inr n ↦
            ap (λ x. cond (ltb i (blocks_groups groups slots memory)) (group_in slots x) retired) (cond-false _ _ _ (ne_eqb i g (λ e. n (sym e))))
            ∙ sym (cond-false _ _ _ (ne_eqb g i n))
      ]

-- What a put and a strike leave in all memory, by what they answer.
pub record PutLeft (groups slots : ℕ) (memory new : List ℕ) (g : ℕ) (p : Pair) (r : Result ℕ KeepFault) : Type 0 where
  pub after : (i : ℕ) → blocks_pairs groups slots new i ≡ after_put r (blocks_pairs groups slots memory) g p i
  pub history : (puts : List Put) (gone : ℕ → Bool) → take (blocks_size groups slots) memory ≡ drawn_blocks (groups ∷ (slots ∷ [])) puts gone → take (blocks_size groups slots) new ≡ drawn_blocks (groups ∷ (slots ∷ [])) (with_put r puts (record { group = g; cell = p.cell; locator = p.locator })) gone
  pub size : blocks_groups groups slots new ≡ blocks_groups groups slots memory
  pub kept : is_ok r ≡ false → new ≡ memory

pub record StrikeLeft (groups slots : ℕ) (memory new : List ℕ) (g : ℕ) (r : Result ℕ KeepFault) : Type 0 where
  pub after : (i : ℕ) → blocks_pairs groups slots new i ≡ after_strike r (blocks_pairs groups slots memory) g i
  pub history : (puts : List Put) (gone : ℕ → Bool) → take (blocks_size groups slots) memory ≡ drawn_blocks (groups ∷ (slots ∷ [])) puts gone → take (blocks_size groups slots) new ≡ drawn_blocks (groups ∷ (slots ∷ [])) puts (with_gone r gone g)
  pub size : blocks_groups groups slots new ≡ blocks_groups groups slots memory

module _ (groups slots : ℕ) (memory new : List ℕ) (g : ℕ) where
  pub put_done : (p : Pair) → p.cell < 2 ^ 32 → p.locator < 2 ^ 64 → (r : Result ℕ KeepFault) → new ≡ cond (is_ok r) (blocks_put slots memory g p) memory → Standing groups slots memory g → is_ok r ≡ ltb (count_in (block_of slots memory g)) slots → PutLeft groups slots memory new g p r
  put_done p c32 l64 (Ok slot) e standing room =
      let free = ltb-true (count_in (block_of slots memory g)) slots (sym room) in
      let long = length_put slots (block_of slots memory g) p (length_block groups slots memory g standing) standing.fits.narrow free in
      let grown = group_put slots (block_of slots memory g) p (length_block groups slots memory g standing) standing.fits.narrow free c32 l64 ∙ ap (λ o. with_pair o p) (group_there groups slots memory g standing) in
      record {
        after = λ i.
            ap (λ (x : List ℕ). blocks_pairs groups slots x i) e
            ∙ pairs_written groups slots memory g standing (block_put (block_of slots memory g) p) long i
            ∙ ap (λ o. changed (blocks_pairs groups slots memory) g o i) grown;
        history = λ puts gone drawn. ap (take (blocks_size groups slots)) e ∙ drawn_put groups slots memory g standing puts gone drawn free p;
        size = ap (blocks_groups groups slots) e ∙ size_written groups slots memory g standing (block_put (block_of slots memory g) p) long;
        kept = λ z. e ∙ ap (λ t. cond t (blocks_put slots memory g p) memory) z;
      }
  put_done p c32 l64 (Err f) e standing room =
      record {
        after = λ i. ap (λ (x : List ℕ). blocks_pairs groups slots x i) e;
        history = λ puts gone drawn. ap (take (blocks_size groups slots)) e ∙ drawn;
        size = ap (blocks_groups groups slots) e;
        kept = λ z. e;
      }

  pub strike_done : (r : Result ℕ KeepFault) → new ≡ cond (is_ok r) (blocks_struck slots memory g) memory → Standing groups slots memory g → StrikeLeft groups slots memory new g r
  strike_done (Ok n) e standing =
      let long = length_gone slots in
      record {
        after = λ i.
            ap (λ (x : List ℕ). blocks_pairs groups slots x i) e
            ∙ pairs_written groups slots memory g standing (block_gone slots) long i
            ∙ ap (λ o. changed (blocks_pairs groups slots memory) g o i) (group_gone slots);
        history = λ puts gone drawn. ap (take (blocks_size groups slots)) e ∙ drawn_struck groups slots memory g standing puts gone drawn (λ i. cond (eqb i g) true (gone i)) (λ i. refl);
        size = ap (blocks_groups groups slots) e ∙ size_written groups slots memory g standing (block_gone slots) long;
      }
  strike_done (Err f) e standing =
      record {
        after = λ i. ap (λ (x : List ℕ). blocks_pairs groups slots x i) e;
        history = λ puts gone drawn. ap (take (blocks_size groups slots)) e ∙ drawn;
        size = ap (blocks_groups groups slots) e;
      }

-- The bytes of blocks after a call are those of the history with that call.
use Rattle.std.proofs.Common.{◌≡◌, ℕ, ◌+◌, ◌-◌, ◌*◌, ◌^◌, ◌<◌, ◌≤◌, Bool, true, false, cond, eqb, List, [], ◌∷◌, ◌++◌, length, take, drop, replicate, sym, refl, ap, ◌∙◌, inl, inr, arith, length-append, length-take}
use lib.ListN.{length-replicate}
use Rattle.std.specs.List.{flat_map}
use Rattle.std.proofs.lemmas.List.{append_assoc, drop_at, flat_map_more, length_push, replicate-append-replicate, take_all, take_at}
use Rattle.std.proofs.lemmas.Bool.{cases_Bool, cases_eq, cond-false, cond-true, eq-eqb, ne_eqb}
use Rattle.octets.specs.Numbers.{big_endian, spelled}
use Rattle.octets.specs.Overwriting.{overwritten}
use Rattle.octets.proofs.Numbers.{length-big_endian, spelled_whole}
use Rattle.octets.proofs.Overwrites.{one_of_parts}
use Rattle.octets.proofs.Parts.{from_parts, to_parts}
use Rattle.keeps.specs.Groups.{Pair}
use Rattle.keeps.specs.History.{Put}
use Rattle.blocks.specs.Blocks.{all_ones, block_gone, block_of, block_put, block_size, blocks_put, blocks_size, blocks_struck, count_in, record_of}
use Rattle.blocks.specs.BlocksLaws.{fitting_there}
use Rattle.blocks.specs.Drawing.{block_with, drawn_block, drawn_blocks, puts_of}
use Rattle.blocks.proofs.Group.{Standing, length_block}
use Rattle.blocks.proofs.Single.{count_gone, length_put}

length_records : (pairs : List Pair) → length (flat_map record_of pairs) ≡ 12 * length pairs
length_records [] = refl
length_records (p ∷ pairs) =
    length-append (record_of p) (flat_map record_of pairs)
    ∙ omega (arith, length-append (big_endian 4 p.cell) (big_endian 8 p.locator), length-big_endian 4 p.cell, length-big_endian 8 p.locator, length_records pairs)

length_with : (slots : ℕ) (pairs : List Pair) → length pairs ≤ slots → length (block_with slots pairs) ≡ block_size slots
unfolding block_with
length_with slots pairs h =
    length-append (big_endian 4 (length pairs)) (flat_map record_of pairs ++ replicate (12 * (slots - length pairs)) 0)
    ∙ omega (arith, length-big_endian 4 (length pairs), length-append (flat_map record_of pairs) (replicate (12 * (slots - length pairs)) 0), length_records pairs, length-replicate {A = ℕ} (12 * (slots - length pairs)) 0)

pub length_gone : (slots : ℕ) → length (block_gone slots) ≡ block_size slots
length_gone slots = length-append (big_endian 4 all_ones) (replicate (12 * slots) 0) ∙ omega (arith, length-big_endian 4 all_ones, length-replicate {A = ℕ} (12 * slots) 0)

pub length_drawn : (slots : ℕ) (puts : List Put) (gone : ℕ → Bool) (i : ℕ) → length (drawn_block slots puts gone i) ≡ block_size slots
length_drawn slots puts gone i =
    elim (gone i) as (λ v. length (cond v (block_gone slots) (block_with slots (take slots (puts_of i puts)))) ≡ block_size slots) [
      | true ↦ length_gone slots
      | false ↦ length_with slots (take slots (puts_of i puts)) (simp length-take (omega arith))
    ]

-- What is written over a part of its own length.
overwritten_part : (front part old back : List ℕ) (at : ℕ) → length front ≡ at → length old ≡ length part → overwritten at part (front ++ (old ++ back)) ≡ front ++ (part ++ back)
unfolding overwritten
overwritten_part front part old back at l e =
    ap (λ xs. xs ++ (part ++ drop (at + length part) (front ++ (old ++ back)))) (take_at front (old ++ back) at l)
    ∙ ap (λ xs. front ++ (part ++ xs)) (ap (drop (at + length part)) (sym (append_assoc front old back)) ∙ drop_at (front ++ old) back (at + length part) (length-append front old ∙ omega arith))

pub count_with : (slots : ℕ) (pairs : List Pair) → length pairs < 2 ^ 32 → count_in (block_with slots pairs) ≡ length pairs
unfolding block_with
count_with slots pairs h =
    ap spelled (take_at (big_endian 4 (length pairs)) (flat_map record_of pairs ++ replicate (12 * (slots - length pairs)) 0) 4 (length-big_endian 4 (length pairs)))
    ∙ spelled_whole 4 (length pairs) h

-- A put on the block of these pairs gives that of one pair more.
put_with : (slots : ℕ) (pairs : List Pair) (p : Pair) → length pairs < slots → slots ≤ 65535 → block_put (block_with slots pairs) p ≡ block_with slots (pairs ++ (p ∷ []))
unfolding block_with
put_with slots pairs p h narrow =
    let n = length pairs in
    let left = 12 * (slots - (n + 1)) in
    let records = flat_map record_of pairs in
    let zeros : List ℕ = replicate left 0 in
    let over : ℕ → List ℕ = λ m. overwritten 0 (big_endian 4 (m + 1)) (overwritten (4 + 12 * m) (record_of p) (block_with slots pairs)) in
    let twelve : length (record_of p) ≡ 12 = length-append (big_endian 4 p.cell) (big_endian 8 p.locator) ∙ omega (arith, length-big_endian 4 p.cell, length-big_endian 8 p.locator) in
    let cut : replicate (12 * (slots - n)) 0 ≡ replicate 12 0 ++ zeros = ap (λ j. replicate j 0) (omega arith) ∙ sym (replicate-append-replicate 12 left 0) in
    let old : block_with slots pairs ≡ (big_endian 4 n ++ records) ++ (replicate 12 0 ++ zeros) =
    ap (λ xs. big_endian 4 n ++ (records ++ xs)) cut ∙ sym (append_assoc (big_endian 4 n) records (replicate 12 0 ++ zeros)) in
    let front : length (big_endian 4 n ++ records) ≡ 4 + 12 * n = length-append (big_endian 4 n) records ∙ omega (arith, length-big_endian 4 n, length_records pairs) in
    let recorded : overwritten (4 + 12 * n) (record_of p) (block_with slots pairs) ≡ big_endian 4 n ++ (records ++ (record_of p ++ zeros)) =
    ap (overwritten (4 + 12 * n) (record_of p)) old
    ∙ overwritten_part (big_endian 4 n ++ records) (record_of p) (replicate 12 0) zeros (4 + 12 * n) front (sym twelve)
    ∙ append_assoc (big_endian 4 n) records (record_of p ++ zeros) in
    let counted : over n ≡ big_endian 4 (n + 1) ++ (records ++ (record_of p ++ zeros)) =
    ap (overwritten 0 (big_endian 4 (n + 1))) recorded
    ∙ overwritten_part [] (big_endian 4 (n + 1)) (big_endian 4 n) (records ++ (record_of p ++ zeros)) 0 refl (length-big_endian 4 n ∙ sym (length-big_endian 4 (n + 1))) in
    let more : records ++ record_of p ≡ flat_map record_of (pairs ++ (p ∷ [])) = flat_map_more record_of [] pairs p in
    let long : length (pairs ++ (p ∷ [])) ≡ n + 1 = length_push pairs p in
    ap over (count_with slots pairs (omega arith))
    ∙ counted
    ∙ ap (λ xs. big_endian 4 (n + 1) ++ xs) (sym (append_assoc records (record_of p) zeros) ∙ ap (λ xs. xs ++ zeros) more)
    ∙ ap (λ j. big_endian 4 j ++ (flat_map record_of (pairs ++ (p ∷ [])) ++ replicate (12 * (slots - j)) 0)) (sym long)

-- The pairs of a group, with one put more.
put_own : (g : ℕ) (p : Pair) (puts : List Put) → puts_of g (puts ++ (record { group = g; cell = p.cell; locator = p.locator } ∷ [])) ≡ puts_of g puts ++ (p ∷ [])
put_own g p [] = cond-true _ _ _ (eq-eqb g g refl)
put_own g p (q ∷ puts) =
    let e = put_own g p puts in
    elim (cases_Bool (eqb q.group g)) [ inl t ↦ simp t (ap (λ pairs. record { cell = q.cell; locator = q.locator } ∷ pairs) e) | inr f ↦ simp f e ]

put_other : (i g : ℕ) (p : Pair) (puts : List Put) → (i ≡ g → ⊥) → puts_of i (puts ++ (record { group = g; cell = p.cell; locator = p.locator } ∷ [])) ≡ puts_of i puts
put_other i g p [] n = cond-false _ _ _ (ne_eqb g i (λ e. n (sym e)))
put_other i g p (q ∷ puts) n = ap (λ pairs. cond (eqb q.group i) (record { cell = q.cell; locator = q.locator } ∷ pairs) pairs) (put_other i g p puts n)

module _ (groups slots : ℕ) (memory : List ℕ) (g : ℕ) (standing : Standing groups slots memory g) (puts : List Put) (gone : ℕ → Bool) (drawn : take (blocks_size groups slots) memory ≡ drawn_blocks (groups ∷ (slots ∷ [])) puts gone) where
  old_block : (i : ℕ) → i < groups → block_of slots memory i ≡ drawn_block slots puts gone i
  old_block i l = to_parts (block_size slots) (drawn_block slots puts gone) groups 0 memory (λ k h. length_drawn slots puts gone (0 + k)) drawn i l ∙ ap (drawn_block slots puts gone) (omega arith)

  -- the block of the group is written anew, and every other is as it was
  one_block : (b : List ℕ) (puts' : List Put) (gone' : ℕ → Bool) → length b ≡ block_size slots → b ≡ drawn_block slots puts' gone' g → ((i : ℕ) → (i ≡ g → ⊥) → drawn_block slots puts gone i ≡ drawn_block slots puts' gone' i) → take (blocks_size groups slots) (overwritten (g * block_size slots) b memory) ≡ drawn_blocks (groups ∷ (slots ∷ [])) puts' gone'
  one_block b puts' gone' long here other =
      let f = drawn_block slots puts' gone' in
      let start : g * block_size slots ≡ 0 + g * block_size slots = omega arith in
      from_parts (block_size slots) f groups 0 (overwritten (g * block_size slots) b memory)
      (λ i l.
      let first : i * block_size slots ≡ 0 + i * block_size slots = omega arith in
      let each : cond (eqb i g) b (block_of slots memory i) ≡ f i =
      elim (cases_eq i g) [
        | inl e ↦ cond-true _ _ _ (eq-eqb i g e) ∙ here ∙ ap f (sym e)
        | inr n ↦ cond-false _ _ _ (ne_eqb i g n) ∙ old_block i l ∙ other i n
      ] in
      let z : i ≡ 0 + i = omega arith in
      ap (λ k. take (block_size slots) (drop k (overwritten (g * block_size slots) b memory))) first
      ∙ ap (λ k. take (block_size slots) (drop (0 + i * block_size slots) (overwritten k b memory))) start
      ∙ one_of_parts 0 (block_size slots) memory g b long (omega (arith, standing.inside)) i
      ∙ ap (λ k. cond (eqb i g) b (take (block_size slots) (drop k memory))) (sym first)
      ∙ each
      ∙ ap f z)

  pub drawn_struck : (gone' : ℕ → Bool) → ((i : ℕ) → gone' i ≡ cond (eqb i g) true (gone i)) → take (blocks_size groups slots) (blocks_struck slots memory g) ≡ drawn_blocks (groups ∷ (slots ∷ [])) puts gone'
  drawn_struck gone' is =
      one_block (block_gone slots) puts gone' (length_gone slots) (sym (cond-true _ _ _ (is g ∙ cond-true _ _ _ (eq-eqb g g refl))))
      (λ i n. ap (λ t. cond t (block_gone slots) (block_with slots (take slots (puts_of i puts)))) (sym (is i ∙ cond-false _ _ _ (ne_eqb i g n))))

  -- a group with a slot left is live, and its block has all its puts
  all_in_block : count_in (block_of slots memory g) < slots → (gone g ≡ false) × (length (puts_of g puts) < slots) × (block_of slots memory g ≡ block_with slots (puts_of g puts))
  all_in_block free =
      let old = old_block g (fitting_there groups slots memory g standing.there).0 in
      let pairs = puts_of g puts in
      elim (cases_Bool (gone g)) [
        | inl t ↦ absurd (standing.alive (ap count_in (old ∙ cond-true _ _ _ t) ∙ count_gone slots))
        | inr f ↦
            let is : block_of slots memory g ≡ block_with slots (take slots pairs) = old ∙ cond-false _ _ _ f in
            let n : count_in (block_of slots memory g) ≡ length (take slots pairs) = ap count_in is ∙ count_with slots (take slots pairs) (simp length-take (omega (arith, standing.fits.narrow))) in
            let few : length pairs < slots = omega (arith, length-take slots pairs, n) in
            (f, few, is ∙ ap (block_with slots) (take_all slots pairs (omega arith)))
      ]

  pub drawn_put : count_in (block_of slots memory g) < slots → (p : Pair) → take (blocks_size groups slots) (blocks_put slots memory g p) ≡ drawn_blocks (groups ∷ (slots ∷ [])) (puts ++ (record { group = g; cell = p.cell; locator = p.locator } ∷ [])) gone
  drawn_put free p =
      let all = all_in_block free in
      let pairs = puts_of g puts in
      let more = puts ++ (record { group = g; cell = p.cell; locator = p.locator } ∷ []) in
      one_block (block_put (block_of slots memory g) p) more gone (length_put slots (block_of slots memory g) p (length_block groups slots memory g standing) standing.fits.narrow free)
      (ap (λ b. block_put b p) all.2
      ∙ put_with slots pairs p all.1 standing.fits.narrow
      ∙ ap (block_with slots) (sym (take_all slots (pairs ++ (p ∷ [])) (omega (arith, length_push pairs p, all.1))) ∙ ap (take slots) (sym (put_own g p puts)))
      ∙ sym (cond-false _ _ _ all.0))
      (λ i n. ap (λ qs. cond (gone i) (block_gone slots) (block_with slots (take slots qs))) (sym (put_other i g p puts n)))

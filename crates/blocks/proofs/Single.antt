-- One block: its pairs, and what a put leaves in it.
use Rattle.std.proofs.Common.{◌≡◌, ℕ, ◌+◌, ◌*◌, ◌^◌, ◌<◌, ◌≤◌, cond, eqb, List, [], ◌∷◌, ◌++◌, map, length, get_or, take, drop, replicate, Ok, Err, sym, ap, ◌∙◌, arith, length-append}
use Rattle.std.specs.List.{range_with_len}
use Rattle.std.proofs.lemmas.List.FromFn.{length-map-range_with_len, get_or-map-range_with_len, map-range_with_len_more}
use Rattle.std.proofs.lemmas.List.{drop_at, drop-drop, drop-replicate, drop-take, same_lists, take_at, take-take}
use Rattle.std.proofs.lemmas.Option.{slice_get_past, slice_get_read}
use Rattle.std.proofs.lemmas.Bool.{cond-false, cond-true, eq-eqb, ne_eqb}
use Rattle.octets.specs.Numbers.{big_endian, number_at, spelled}
use Rattle.octets.specs.Overwriting.{overwritten}
use Rattle.octets.proofs.Numbers.{length-big_endian, spelled_whole}
use Rattle.octets.proofs.Overwrites.{length-overwritten, overwritten_two, part_before, part_behind, part_here}
use Rattle.keeps.specs.declared.fault.KeepFault.TheVariants.{Stranger}
use Rattle.keeps.specs.Groups.{Pair, in_slot, live, retired, with_pair}
use Rattle.keeps.proofs.Slots.{slot_none, slot_some}
use Rattle.blocks.specs.Blocks.{all_ones, block_gone, block_put, block_size, count_in, group_in, pair_in, pairs_in, record_of, used_in}

pub length_pairs : (b : List ℕ) (n : ℕ) → length (pairs_in b n) ≡ n
unfolding pairs_in
length_pairs b n = length-map-range_with_len (pair_in b) 0 n

pub pair_of_slot : (b : List ℕ) (n j : ℕ) (none : Pair) → j < n → get_or (pairs_in b n) j none ≡ pair_in b j
unfolding pairs_in
pair_of_slot b n j none h = get_or-map-range_with_len (pair_in b) 0 n j j none h (omega arith)

same_pair : (p q : Pair) → p.cell ≡ q.cell → p.locator ≡ q.locator → p ≡ q
same_pair p q e f = λ i. record { cell = e i; locator = f i }

-- What a slot answers.
pub slot_unused : (b : List ℕ) (n slot cell : ℕ) → n ≤ slot → in_slot (pairs_in b n) slot cell ≡ Err (Stranger cell)
slot_unused b n slot cell h = sym (slot_none (pairs_in b n) slot cell (sym (slice_get_past (pairs_in b n) slot (omega (arith, length_pairs b n)))))

pub slot_used : (b : List ℕ) (n slot cell : ℕ) → slot < n → in_slot (pairs_in b n) slot cell ≡ cond (eqb (number_at b (4 + 12 * slot) 4) cell) (Ok (number_at b (8 + 12 * slot) 8)) (Err (Stranger cell))
slot_used b n slot cell h =
    let found = slice_get_read (pairs_in b n) n slot (pair_in b slot) (sym (length_pairs b n)) h (sym (pair_of_slot b n slot (pair_in b slot) h)) in
    sym (slot_some (pairs_in b n) slot cell (pair_in b slot) (sym found))

-- Of a group that is not retired.
pub group_live : (slots : ℕ) (b : List ℕ) → (count_in b ≡ all_ones → ⊥) → group_in slots b ≡ live (pairs_in b (used_in slots b))
group_live slots b alive = cond-false _ _ _ (ne_eqb (count_in b) all_ones alive)

-- Zeros with the mark over the count.
pub wiped : (slots n : ℕ) → n ≡ block_size slots → overwritten 0 (big_endian 4 all_ones) (replicate n 0) ≡ block_gone slots
unfolding overwritten
wiped slots n e =
    ap (λ (m : ℕ). big_endian 4 all_ones ++ drop (0 + length (big_endian 4 all_ones)) (replicate m 0)) e
    ∙ ap (λ xs. big_endian 4 all_ones ++ xs) (drop-replicate (0 + length (big_endian 4 all_ones)) (block_size slots) 0 ∙ ap (λ m. replicate m 0) (omega arith))

pub count_gone : (slots : ℕ) → count_in (block_gone slots) ≡ all_ones
count_gone slots = ap spelled (take_at (big_endian 4 all_ones) (replicate (12 * slots) 0) 4 (length-big_endian 4 all_ones)) ∙ spelled_whole 4 all_ones (omega arith)

pub group_gone : (slots : ℕ) → group_in slots (block_gone slots) ≡ retired
group_gone slots =
    cond-true (eqb (count_in (block_gone slots)) all_ones) retired (live (pairs_in (block_gone slots) (used_in slots (block_gone slots)))) (eq-eqb (count_in (block_gone slots)) all_ones (count_gone slots))

-- A cell, a locator behind it, and the count make the put.
pub put_by_parts : (b b1 b2 b3 : List ℕ) (p : Pair) → 16 + 12 * count_in b ≤ length b → b1 ≡ overwritten (4 + 12 * count_in b) (big_endian 4 p.cell) b → b2 ≡ overwritten (4 + 12 * count_in b + 4) (big_endian 8 p.locator) b1 → b3 ≡ overwritten 0 (big_endian 4 (count_in b + 1)) b2 → b3 ≡ block_put b p
put_by_parts b b1 b2 b3 p fits e f g =
    let at = 4 + 12 * count_in b in
    g
    ∙ ap (overwritten 0 (big_endian 4 (count_in b + 1)))
    (f
    ∙ ap (overwritten (at + 4) (big_endian 8 p.locator)) e
    ∙ overwritten_two at 4 (big_endian 4 p.cell) (big_endian 8 p.locator) b (length-big_endian 4 p.cell) (omega (arith, length-big_endian 4 p.cell)))

module _ (slots : ℕ) (b : List ℕ) (p : Pair) (long : length b ≡ block_size slots) (narrow : slots ≤ 65535) (free : count_in b < slots) where
  abbrev n : ℕ
  n = count_in b

  abbrev with_record : List ℕ
  with_record = overwritten (4 + 12 * n) (record_of p) b

  length_record : length (record_of p) ≡ 12
  length_record = length-append (big_endian 4 p.cell) (big_endian 8 p.locator) ∙ omega (arith, length-big_endian 4 p.cell, length-big_endian 8 p.locator)

  record_fits : 4 + 12 * n + length (record_of p) ≤ length b
  record_fits = omega (arith, length_record)

  length_with_record : length with_record ≡ length b
  length_with_record = length-overwritten (4 + 12 * n) (record_of p) b record_fits

  count_fits : 0 + length (big_endian 4 (n + 1)) ≤ length with_record
  count_fits = omega (arith, length-big_endian 4 (n + 1), length_with_record)

  pub length_put : length (block_put b p) ≡ block_size slots
  length_put = length-overwritten 0 (big_endian 4 (n + 1)) with_record count_fits ∙ length_with_record ∙ long

  count_put : count_in (block_put b p) ≡ n + 1
  count_put = ap spelled (part_here 0 (big_endian 4 (n + 1)) with_record count_fits 4 (length-big_endian 4 (n + 1))) ∙ spelled_whole 4 (n + 1) (omega arith)

  -- behind the count
  behind : (j k : ℕ) → 4 ≤ j → take k (drop j (block_put b p)) ≡ take k (drop j with_record)
  behind j k h = part_behind 0 (big_endian 4 (n + 1)) with_record count_fits j k (omega (arith, length-big_endian 4 (n + 1)))

  kept : (j k : ℕ) → 4 ≤ j → j + k ≤ 4 + 12 * n → number_at (block_put b p) j k ≡ number_at b j k
  kept j k h l = ap spelled (behind j k h ∙ part_before (4 + 12 * n) (record_of p) b record_fits j k l)

  pair_kept : (j : ℕ) → j < n → pair_in (block_put b p) j ≡ pair_in b j
  pair_kept j h =
      let cell = kept (4 + 12 * j) 4 (omega arith) (omega arith) in
      let locator = kept (8 + 12 * j) 8 (omega arith) (omega arith) in
      cc

  record_new : take 12 (drop (4 + 12 * n) (block_put b p)) ≡ record_of p
  record_new = behind (4 + 12 * n) 12 (omega arith) ∙ part_here (4 + 12 * n) (record_of p) b record_fits 12 length_record

  pair_new : p.cell < 2 ^ 32 → p.locator < 2 ^ 64 → pair_in (block_put b p) n ≡ p
  pair_new c32 l64 =
      let new = block_put b p in
      let cell : number_at new (4 + 12 * n) 4 ≡ p.cell =
      ap spelled
      (sym (take-take 4 12 (drop (4 + 12 * n) new) (omega arith))
      ∙ ap (take 4) record_new
      ∙ take_at (big_endian 4 p.cell) (big_endian 8 p.locator) 4 (length-big_endian 4 p.cell))
      ∙ spelled_whole 4 p.cell c32 in
      let at : 8 + 12 * n ≡ 4 + 12 * n + 4 = omega arith in
      let locator : number_at new (8 + 12 * n) 8 ≡ p.locator =
      ap (λ k. spelled (take 8 (drop k new))) at
      ∙ ap (λ xs. spelled (take 8 xs)) (sym (drop-drop 4 (4 + 12 * n) new))
      ∙ ap spelled (sym (drop-take 4 8 (drop (4 + 12 * n) new)) ∙ ap (drop 4) record_new ∙ drop_at (big_endian 4 p.cell) (big_endian 8 p.locator) 4 (length-big_endian 4 p.cell))
      ∙ spelled_whole 8 p.locator l64 in
      same_pair (pair_in new n) p cell locator

  pairs_put : p.cell < 2 ^ 32 → p.locator < 2 ^ 64 → pairs_in (block_put b p) (n + 1) ≡ pairs_in b n ++ (p ∷ [])
  unfolding pairs_in
  pairs_put c32 l64 =
      let f = pair_in (block_put b p) in
      let old : map f (range_with_len 0 n) ≡ map (pair_in b) (range_with_len 0 n) =
      same_lists (map f (range_with_len 0 n)) (map (pair_in b) (range_with_len 0 n)) (length-map-range_with_len f 0 n ∙ sym (length-map-range_with_len (pair_in b) 0 n))
      (λ k d h.
      let l : k < n = omega (arith, length-map-range_with_len f 0 n) in
      get_or-map-range_with_len f 0 n k k d l (omega arith) ∙ pair_kept k l ∙ sym (get_or-map-range_with_len (pair_in b) 0 n k k d l (omega arith))) in
      map-range_with_len_more f 0 n n (omega arith) ∙ ap (λ xs. xs ++ (f n ∷ [])) old ∙ ap (λ q. map (pair_in b) (range_with_len 0 n) ++ (q ∷ [])) (pair_new c32 l64)

  -- the group has one pair more
  pub group_put : p.cell < 2 ^ 32 → p.locator < 2 ^ 64 → group_in slots (block_put b p) ≡ with_pair (group_in slots b) p
  group_put c32 l64 =
      let more : used_in slots (block_put b p) ≡ n + 1 = omega (arith, count_put) in
      let all : used_in slots b ≡ n = omega arith in
      group_live slots (block_put b p) (λ z. omega (arith, count_put))
      ∙ ap (λ m. live (pairs_in (block_put b p) m)) more
      ∙ ap live (pairs_put c32 l64)
      ∙ ap (λ m. live (pairs_in b m ++ (p ∷ []))) (sym all)
      ∙ ap (λ o. with_pair o p) (sym (group_live slots b (λ z. omega arith)))

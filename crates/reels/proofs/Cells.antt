-- The cells of a reel after a write.
use Rattle.std.proofs.Common.{◌≡◌, ℕ, zero, suc, ◌+◌, ◌*◌, ◌<◌, ◌≤◌, List, ◌++◌, length, take, drop, Some, None, Option, refl, ap, ◌∙◌, arith}
use Rattle.std.proofs.lemmas.List.{take-take, drop-take, drop-drop}
use Rattle.std.proofs.lemmas.Bool.Decides.{nat_tests}
use Rattle.octets.specs.Numbers.{big_endian, spelled}
use Rattle.octets.specs.Overwriting.{overwritten}
use Rattle.octets.proofs.Numbers.{spelled_whole}
use Rattle.octets.proofs.Overwrites.{length-overwritten, part_here, part_before, part_behind}
use Rattle.stores.specs.Cells.{written, changed}
use Rattle.reels.specs.ReelLaws.{found_below, line_inside}
use Rattle.reels.specs.Reels.{FreeLine, reel_used, line_number, line_bytes, found, cell_on, reel_cell, line_added}

module _ (cells lines n at : ℕ) (bytes old : List ℕ) (free : FreeLine cells lines old at bytes n) where
  inside : 32 + 28 * n ≤ length old
  inside = line_inside lines old n free.left

  abbrev part : List ℕ
  part = big_endian 4 at ++ bytes

  abbrev mid : List ℕ
  mid = overwritten (4 + 28 * n) part old

  abbrev new : List ℕ
  new = line_added n at bytes old

  length_part : length part ≡ 28
  length_part = omega (arith, free.long)

  fits : 4 + 28 * n + length part ≤ length old
  fits = omega (arith, length_part, inside)

  length_mid : length mid ≡ length old
  length_mid = length-overwritten (4 + 28 * n) part old fits

  length_new : length new ≡ length old
  length_new = length-overwritten 0 (big_endian 4 (n + 1)) mid (omega (arith, length_mid, inside)) ∙ length_mid

  -- behind the count
  behind : (j k : ℕ) → 4 ≤ j → take k (drop j new) ≡ take k (drop j mid)
  behind j k h = part_behind 0 (big_endian 4 (n + 1)) mid (omega (arith, length_mid, inside)) j k h

  count_new : spelled (take 4 new) ≡ n + 1
  count_new = ap spelled (part_here 0 (big_endian 4 (n + 1)) mid (omega (arith, length_mid, inside)) 4 refl) ∙ spelled_whole 4 (n + 1) (omega (arith, free.left))

  -- the lines before the new one
  kept : (j k : ℕ) → 4 ≤ j → j + k ≤ 4 + 28 * n → take k (drop j new) ≡ take k (drop j old)
  kept j k h l = behind j k h ∙ part_before (4 + 28 * n) part old fits j k l

  number_kept : (i : ℕ) → i < n → line_number new i ≡ line_number old i
  number_kept i l = ap spelled (kept (4 + 28 * i) 4 (omega arith) (omega arith))

  bytes_kept : (i : ℕ) → i < n → line_bytes new i ≡ line_bytes old i
  bytes_kept i l = kept (8 + 28 * i) 24 (omega arith) (omega arith)

  -- the new one
  line_new : take 28 (drop (4 + 28 * n) new) ≡ part
  line_new = behind (4 + 28 * n) 28 (omega arith) ∙ part_here (4 + 28 * n) part old fits 28 length_part

  number_new : line_number new n ≡ at
  number_new =
      let four = take-take 4 28 (drop (4 + 28 * n) new) (omega arith) in
      let line = ap (take 4) line_new in
      let whole = spelled_whole 4 at (omega (arith, free.low)) in
      cc

  bytes_new : line_bytes new n ≡ bytes
  bytes_new =
      let e : 8 + 28 * n ≡ 4 + 28 * n + 4 = omega arith in
      let behind_four = drop-drop 4 (4 + 28 * n) new in
      let rest = drop-take 4 24 (drop (4 + 28 * n) new) in
      let line = ap (drop 4) line_new in
      cc

  found_kept : (d k : ℕ) → k ≤ n → found new d k ≡ found old d k
  found_kept d zero l = refl
  found_kept d (suc k) l = let e = found_kept d k (omega arith) in let m = number_kept k (omega arith) in cc

  found_other : (d : ℕ) → (at ≡ d → ⊥) → found new d (suc n) ≡ found old d n
  found_other d ne = grind (arith, nat_tests, number_new, found_kept)

  found_at : found new at (suc n) ≡ Some n
  found_at = grind (arith, nat_tests, number_new, found_kept, free)

  cell_kept : (o : Option ℕ) → ((i : ℕ) → o ≡ Some i → i < n) → cell_on new o ≡ cell_on old o
  cell_kept None low = refl
  cell_kept (Some i) low = ap written (bytes_kept i (low i refl))

  used_new : reel_used lines new ≡ suc n
  used_new = omega (arith, count_new, length_new, free)

  here : reel_cell cells lines new at ≡ written bytes
  here = grind (arith, nat_tests, used_new, found_at, bytes_new, free)

  apart : (d : ℕ) → (at ≡ d → ⊥) → reel_cell cells lines new d ≡ reel_cell cells lines old d
  apart d ne = let u = used_new in let f = found_other d ne in let k = cell_kept (found old d n) (λ i. found_below old d n i) in let e = free.next in cc

  pub cell_after : (d : ℕ) → reel_cell cells lines new d ≡ changed (reel_cell cells lines old) at (written bytes) d
  cell_after d = grind (arith, nat_tests, here, apart)

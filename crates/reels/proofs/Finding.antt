-- The number at a place, and the first line with a number.
use Rattle.std.proofs.Common.{◌≡◌, ℕ, zero, suc, ◌+◌, ◌*◌, ◌<◌, ◌≤◌, eqb, List, [], ◌∷◌, length, get_or, take, drop, Bool, false, cond, position, Some, None, Option, sym, refl, ap, ◌∙◌, inl, inr, arith}
use Rattle.std.specs.Option.{option_or}
use Rattle.std.specs.Simd.{first_chunks}
use Rattle.std.proofs.lemmas.Bool.{cases_eq, cond-false, cond-true, eq-eqb, eqb-false, eqb-true, ne_eqb}
use Rattle.std.proofs.lemmas.List.{drop_more}
use Rattle.std.proofs.lemmas.List.Quantifiers.{position-Some}
use Rattle.octets.specs.Numbers.{number_at}
use Rattle.octets.proofs.Lists.{fails_everywhere}
use Rattle.octets.proofs.Parts.{chunk_in, length_chunks}
use Rattle.octets.proofs.Places.{number_in_part}
use Rattle.reels.specs.Reels.{found, line_number}

drop-one : (m : List ℕ) (i j : ℕ) → i + 1 ≡ j → i < length m → drop i m ≡ get_or m i 0 ∷ drop j m
drop-one m i j e l = drop_more m i 0 l ∙ ap (λ k. get_or m i 0 ∷ drop k m) e

-- The four bytes at a place.
pub four : (m : List ℕ) (at : ℕ) → at + 4 ≤ length m → take 4 (drop at m) ≡ get_or m at 0 ∷ (get_or m (at + 1) 0 ∷ (get_or m (at + 2) 0 ∷ (get_or m (at + 3) 0 ∷ [])))
four m at h =
    let a = drop-one m at (at + 1) refl (omega arith) in
    let b = drop-one m (at + 1) (at + 2) (omega arith) (omega arith) in
    let c = drop-one m (at + 2) (at + 3) (omega arith) (omega arith) in
    let d = drop-one m (at + 3) (at + 4) (omega arith) (omega arith) in
    ap (take 4) (a ∙ ap (λ xs. get_or m at 0 ∷ xs) (b ∙ ap (λ xs. get_or m (at + 1) 0 ∷ xs) (c ∙ ap (λ xs. get_or m (at + 2) 0 ∷ xs) d)))

module _ (memory : List ℕ) (d : ℕ) where
  -- A line with another number is passed over.
  pub found_next : (i j : ℕ) → j ≡ suc i → found memory d i ≡ None → (line_number memory i ≡ d → ⊥) → found memory d j ≡ None
  found_next i j e none ne =
      ap (found memory d) e
      ∙ ap (λ o. option_or o (cond (eqb (line_number memory i) d) (Some i) None)) none
      ∙ cond-false _ _ _ (ne_eqb (line_number memory i) d ne)

  -- The first line with the number is the one found, however many lines follow.
  pub found_first : (i n : ℕ) → i < n → found memory d i ≡ None → line_number memory i ≡ d → found memory d n ≡ Some i
  found_first i zero l none here = absurd (omega arith)
  found_first i (suc n) l none here =
      elim (cases_eq i n) [
        | inl e ↦
            ap (λ k. found memory d (suc k)) (sym e)
            ∙ ap (λ o. option_or o (cond (eqb (line_number memory i) d) (Some i) None)) none
            ∙ cond-true _ _ _ (eq-eqb (line_number memory i) d here)
        | inr ne ↦ ap (λ o. option_or o (cond (eqb (line_number memory n) d) (Some n) None)) (found_first i n (omega (arith, ne)) none here)
      ]

-- The n lines as parts of the memory behind the count.
module _ (memory : List ℕ) (d n : ℕ) (xs : List ℕ) (cut : xs ≡ take (n * 28) (drop 4 memory)) where
  abbrev lines : List (List ℕ)
  lines = first_chunks 28 n xs

  abbrev on : List ℕ → Bool
  on line = eqb (number_at line 0 4) d

  number_on : (i : ℕ) → i < n → number_at (get_or lines i []) 0 4 ≡ line_number memory i
  number_on i l =
      let start : 4 + i * 28 + 0 ≡ 4 + 28 * i = omega arith in
      ap (λ line. number_at line 0 4) (chunk_in 28 4 n memory xs cut i l)
      ∙ number_in_part 28 (4 + i * 28) 0 4 memory (omega arith)
      ∙ ap (λ k. number_at memory k 4) start

  not_before : (i : ℕ) → i ≤ n → ((k : ℕ) → k < i → on (get_or lines k []) ≡ false) → found memory d i ≡ None
  not_before zero l off = refl
  not_before (suc i) l off =
      let low : i < n = omega arith in
      found_next memory d i (suc i) refl (not_before i (omega arith) (λ k h. off k (omega arith)))
      (λ same. eqb-false (number_at (get_or lines i []) 0 4) d (off i (omega arith)) (number_on i low ∙ same))

  -- The first of them with the number is the line that is found.
  pub line_found : (o : Option ℕ) → o ≡ position on lines → o ≡ found memory d n
  line_found None e = sym (not_before n (omega arith) (λ k h. fails_everywhere on lines k [] e (omega (arith, length_chunks 28 n xs))))
  line_found (Some i) e =
      let at = position-Some on lines i [] (sym e) in
      let low : i < n = omega (arith, at.0, length_chunks 28 n xs) in
      sym (found_first memory d i n low (not_before i (omega arith) at.2) (sym (number_on i low) ∙ eqb-true (number_at (get_or lines i []) 0 4) d at.1))

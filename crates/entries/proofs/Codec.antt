-- Entries and their bytes determine each other.
use Rattle.std.proofs.Common.{◌≡◌, ℕ, ◌+◌, ◌-◌, ◌^◌, ◌<◌, ◌≤◌, Bool, true, false, cond, ◌&&◌, eqb, List, ◌∷◌, ◌++◌, length, get_or, take, drop, IfSome, Some, None, Option, sym, refl, ap, ◌∙◌, inl, inr, arith, length-append, length-drop, length-take, drop-cons}
use Rattle.std.specs.Int.Digits.{AllBelowBase}
use Rattle.std.proofs.lemmas.Int.Digits.{number_lt}
use Rattle.std.proofs.lemmas.List.{drop_at, drop-drop, take_all, take_at, take-append-drop}
use Rattle.std.proofs.lemmas.Bool.{and_from, and_left, and_parts, and_right, cases_Bool, cond-false, cond-true, eq-eqb, eqb-true, ne_eqb}
use Rattle.octets.specs.Numbers.{big_endian, number_at, spelled}
use Rattle.octets.proofs.Numbers.{length-big_endian, same_from_spelled, spelled_whole, under_big_endian, under_drop, under_take}
use Rattle.stores.specs.Cells.{cell_length}
use Rattle.entries.specs.declared.entry.Entry.{Entry}
use Rattle.entries.specs.Entries.{Fits, entry_bytes, entry_in, is_entry, is_marked, keyed_entry, mark}

-- Behind the key.
past_key : (key rest : List ℕ) → length key ≡ 12 → (k : ℕ) → drop (12 + k) (key ++ rest) ≡ drop k rest
past_key key rest h k = sym (drop-drop k 12 (key ++ rest)) ∙ ap (drop k) (drop_at key rest 12 h)

module _ (kind : ℕ) (admissible : List ℕ → Bool) (e : Entry) (fits : Fits e) where
  abbrev behind : List ℕ
  behind = big_endian 2 e.group ++ (big_endian 4 e.slot ++ big_endian 4 e.filing)

  pub length_entry : length (entry_bytes kind e) ≡ cell_length
  unfolding entry_bytes
  length_entry = omega (arith, length-append e.key behind, fits.key)

  key_back : take 12 (e.key ++ behind) ≡ e.key
  key_back = take_at e.key behind 12 fits.key

  test_back : is_entry kind admissible (entry_bytes kind e) ≡ admissible e.key
  unfolding entry_bytes
  test_back =
      let long = eq-eqb (length (entry_bytes kind e)) cell_length length_entry in
      let own : is_marked kind mark kind ≡ true = eq-eqb kind kind refl in
      let key = ap admissible key_back in
      elim (cases_Bool (admissible e.key)) [
        | inl yes-it ↦ and_from (eqb (length (entry_bytes kind e)) cell_length) _ long (and_from (is_marked kind mark kind) _ own (key ∙ yes-it)) ∙ sym yes-it
        | inr no-it ↦ and_right (eqb (length (entry_bytes kind e)) cell_length) _ (and_right (is_marked kind mark kind) _ (key ∙ no-it)) ∙ sym no-it
      ]

  -- an entry is read back exactly where its key is admissible
  pub read_back : entry_in kind admissible (entry_bytes kind e) ≡ cond (admissible e.key) (Some e) None
  unfolding entry_bytes entry_in
  read_back =
      let group : number_at (entry_bytes kind e) 14 2 ≡ e.group = ap (λ l. spelled (take 2 l)) (past_key e.key behind fits.key 0) ∙ spelled_whole 2 e.group fits.group in
      let slot : number_at (entry_bytes kind e) 16 4 ≡ e.slot = ap (λ l. spelled (take 4 l)) (past_key e.key behind fits.key 2) ∙ spelled_whole 4 e.slot fits.slot in
      let filing : number_at (entry_bytes kind e) 20 4 ≡ e.filing = ap (λ l. spelled (take 4 l)) (past_key e.key behind fits.key 6) ∙ spelled_whole 4 e.filing fits.filing in
      λ i. cond (test_back i) (Some (record { key = key_back i; group = group i; slot = slot i; filing = filing i })) None

module _ (kind : ℕ) (admissible : List ℕ → Bool) (xs : List ℕ) where
  pub other_length : (length xs ≡ cell_length → ⊥) → None ≡ entry_in kind admissible xs
  unfolding entry_in
  other_length ne = sym (cond-false _ _ _ (and_left _ _ (ne_eqb (length xs) cell_length ne)))

  pub unmarked : is_marked kind (get_or xs 0 0) (get_or xs 1 0) ≡ false → None ≡ entry_in kind admissible xs
  unfolding entry_in
  unmarked no-mark = sym (cond-false _ _ _ (and_right (eqb (length xs) cell_length) _ (and_left _ _ no-mark)))

  module _ (long : length xs ≡ cell_length) (marked : is_marked kind (get_or xs 0 0) (get_or xs 1 0) ≡ true) where
    test_same : is_entry kind admissible xs ≡ admissible (take 12 (drop 2 xs))
    test_same =
        λ i. eq-eqb (length xs) cell_length long i && (marked i && admissible (take 12 (drop 2 xs)))

    -- the rest, as a pattern gives it
    pub keyed_same : (rest : List ℕ) → rest ≡ take (length xs - 2) (drop 2 xs) → keyed_entry admissible rest ≡ entry_in kind admissible xs
    unfolding entry_in
    keyed_same rest e =
        let whole : rest ≡ drop 2 xs = e ∙ take_all (length xs - 2) (drop 2 xs) (simp length-drop (omega arith)) in
        ap (keyed_entry admissible) whole
        ∙ (let at : (k n : ℕ) → number_at (drop 2 xs) k n ≡ number_at xs (2 + k) n = λ k n. ap (λ l. spelled (take n l)) (drop-drop k 2 xs) in
        λ i. cond (sym test_same i) (Some (record { key = take 12 (drop 2 xs); group = at 12 2 i; slot = at 14 4 i; filing = at 18 4 i })) None)

-- Bytes that are read as an entry are that entry's.
spelled_back : (n : ℕ) (xs : List ℕ) → length xs ≡ n → AllBelowBase 256 xs → big_endian n (spelled xs) ≡ xs
spelled_back n xs long h =
    let low : spelled xs < 256 ^ n = omega (arith, number_lt 256 xs h, ap (λ (k : ℕ). 256 ^ k) long) in
    same_from_spelled (big_endian n (spelled xs)) xs (under_big_endian n (spelled xs)) h (length-big_endian n (spelled xs) ∙ sym long) (spelled_whole n (spelled xs) low)

module _ (kind : ℕ) (admissible : List ℕ → Bool) (xs : List ℕ) (under : AllBelowBase 256 xs) where
  number_back : (at n : ℕ) → at + n ≤ length xs → big_endian n (number_at xs at n) ≡ take n (drop at xs)
  number_back at n h = spelled_back n (take n (drop at xs)) (simp (length-take, length-drop) (omega arith)) (under_take n (drop at xs) (under_drop at xs under))

  joined_back : length xs ≡ cell_length → take 12 (drop 2 xs) ++ (big_endian 2 (number_at xs 14 2) ++ (big_endian 4 (number_at xs 16 4) ++ big_endian 4 (number_at xs 20 4))) ≡ drop 2 xs
  joined_back long =
      let last : take 4 (drop 20 xs) ≡ drop 20 xs = take_all 4 (drop 20 xs) (simp length-drop (omega arith)) in
      let slots : take 4 (drop 16 xs) ++ drop 20 xs ≡ drop 16 xs = ap (λ l. take 4 (drop 16 xs) ++ l) (sym (drop-drop 4 16 xs)) ∙ take-append-drop 4 (drop 16 xs) in
      let groups : take 2 (drop 14 xs) ++ drop 16 xs ≡ drop 14 xs = ap (λ l. take 2 (drop 14 xs) ++ l) (sym (drop-drop 2 14 xs)) ∙ take-append-drop 2 (drop 14 xs) in
      let keys : take 12 (drop 2 xs) ++ drop 14 xs ≡ drop 2 xs = ap (λ l. take 12 (drop 2 xs) ++ l) (sym (drop-drop 12 2 xs)) ∙ take-append-drop 12 (drop 2 xs) in
      ap (λ l. take 12 (drop 2 xs) ++ (l ++ (big_endian 4 (number_at xs 16 4) ++ big_endian 4 (number_at xs 20 4)))) (number_back 14 2 (omega arith))
      ∙ ap (λ l. take 12 (drop 2 xs) ++ (take 2 (drop 14 xs) ++ (l ++ big_endian 4 (number_at xs 20 4)))) (number_back 16 4 (omega arith))
      ∙ ap (λ l. take 12 (drop 2 xs) ++ (take 2 (drop 14 xs) ++ (take 4 (drop 16 xs) ++ l))) (number_back 20 4 (omega arith) ∙ last)
      ∙ ap (λ l. take 12 (drop 2 xs) ++ (take 2 (drop 14 xs) ++ l)) slots
      ∙ ap (λ l. take 12 (drop 2 xs) ++ l) groups
      ∙ keys

  pub written_back : (e : Entry) → entry_in kind admissible xs ≡ Some e → entry_bytes kind e ≡ xs
  unfolding entry_in entry_bytes
  written_back e found =
      elim (cases_Bool (is_entry kind admissible xs)) [
        | inr f ↦ absurd (let none : None ≡ Some e = sym (cond-false _ _ _ f) ∙ found in let z : ◌≡◌ {A = ℕ} 0 1 = cc in omega arith)
        | inl t ↦
            let parts = and_parts (eqb (length xs) cell_length) _ t in
            let first = and_parts (eqb (get_or xs 0 0) mark) (eqb (get_or xs 1 0) kind) (and_parts (is_marked kind (get_or xs 0 0) (get_or xs 1 0)) _ parts.1).0 in
            let long = eqb-true (length xs) cell_length parts.0 in
            let marked = eqb-true (get_or xs 0 0) mark first.0 in
            let own = eqb-true (get_or xs 1 0) kind first.1 in
            let here : Entry = record { key = take 12 (drop 2 xs); group = number_at xs 14 2; slot = number_at xs 16 4; filing = number_at xs 20 4 } in
            let is : Some here ≡ Some e = sym (cond-true _ _ _ t) ∙ found in
            let same : here ≡ e = cc in
            ap (entry_bytes kind) (sym same)
            ∙ ap (λ l. mark ∷ (kind ∷ l)) (joined_back long)
            ∙ ap (λ k. k ∷ (kind ∷ drop 2 xs)) (sym marked)
            ∙ ap (λ k. get_or xs 0 0 ∷ (k ∷ drop 2 xs)) (sym own)
            ∙ ap (λ l. get_or xs 0 0 ∷ l) (sym (drop-cons xs 1 0 (omega arith)))
            ∙ sym (drop-cons xs 0 0 (omega arith))
      ]

  -- the same, of what a reader answers
  pub found_back : (o : Option Entry) → o ≡ entry_in kind admissible xs → IfSome o (λ e. entry_bytes kind e ≡ xs)
  found_back None h = tt
  found_back (Some e) h = written_back e (sym h)

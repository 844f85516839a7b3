-- The lines of a ledger: their numbers, and the pairs that they have for a group.
use Rattle.std.proofs.Common.{◌≡◌, ℕ, ◌+◌, ◌*◌, ◌^◌, ◌<◌, ◌≤◌, Bool, eqb, List, [], ◌∷◌, ◌++◌, map, length, get_or, take, drop, Some, None, Option, sym, refl, ap, ◌∙◌, inl, inr, arith, length-append}
use Rattle.std.specs.Borrow.{Bor}
use Rattle.std.specs.List.{filter, range_with_len, slice_get}
use Rattle.std.specs.Option.{option_map}
use Rattle.std.specs.Simd.{first_chunks}
use Rattle.std.proofs.lemmas.List.FromFn.{fill_by_all, get_or-map-range_with_len, length-map-range_with_len}
use Rattle.std.proofs.lemmas.List.{append_assoc, drop_at, take_all, take_at}
use Rattle.std.proofs.lemmas.Option.{slice_get-map}
use Rattle.std.proofs.lemmas.Bool.{cases_Bool}
use Rattle.octets.specs.Numbers.{big_endian, number_at, spelled}
use Rattle.octets.specs.Overwriting.{overwritten}
use Rattle.octets.proofs.Numbers.{length-big_endian, spelled_whole}
use Rattle.octets.proofs.Overwrites.{overwritten_two}
use Rattle.octets.proofs.Parts.{chunk_in, length_chunks}
use Rattle.ledgers.specs.Ledgers.{line, line_of, pair_on, pairs_of, rows}

-- Whether a line is the group's.
abbrev pub own : (g : ℕ) → List ℕ → Bool
own g line = eqb (number_at line 0 2) g

-- The pairs of a group are those on its lines.
pub pairs_filtered : (g : ℕ) (lines : List (List ℕ)) → pairs_of g lines ≡ map pair_on (filter (own g) lines)
pairs_filtered g [] = refl
pairs_filtered g (line ∷ lines) =
    let e = pairs_filtered g lines in
    elim (cases_Bool (own g line)) [ inl t ↦ simp t (ap (λ ps. pair_on line ∷ ps) e) | inr f ↦ simp f e ]

option_map-twice : {X Y Z : Type 0} (h : Y → Z) (k : X → Y) (o : Option X) → option_map (λ x. h (k x)) o ≡ option_map h (option_map k o)
option_map-twice h k None = refl
option_map-twice h k (Some x) = refl

-- The pair of a line found, by its place among the group's.
pub pair_at : (g : ℕ) (lines : List (List ℕ)) (found : Option (Bor (List ℕ))) (slot : ℕ) → option_map (λ l. l.now) found ≡ slice_get (filter (own g) lines) slot → option_map (λ l. pair_on l.now) found ≡ slice_get (pairs_of g lines) slot
pair_at g lines found slot e =
    option_map-twice pair_on (λ (l : Bor (List ℕ)). l.now) found
    ∙ ap (option_map pair_on) e
    ∙ sym (slice_get-map pair_on (filter (own g) lines) slot)
    ∙ ap (λ ps. slice_get ps slot) (sym (pairs_filtered g lines))

-- The lines as parts of the memory.
pub chunked : (at : ℕ) (m : List ℕ) (n : ℕ) (xs : List ℕ) → xs ≡ take (n * 14) (drop at m) → first_chunks 14 n xs ≡ rows at m n
unfolding rows
chunked at m n xs e = fill_by_all (line at m) (first_chunks 14 n xs) n [] (length_chunks 14 n xs) (chunk_in 14 at n m xs e)

module _ (at : ℕ) (m : List ℕ) (n : ℕ) where
  length-rows : length (rows at m n) ≡ n
  unfolding rows
  length-rows = length-map-range_with_len (line at m) 0 n

  get_d_rows : (j : ℕ) (d : List ℕ) → j < n → get_or (rows at m n) j d ≡ line at m j
  unfolding rows
  get_d_rows j d h = get_or-map-range_with_len (line at m) 0 n j j d h (omega arith)

-- Lines that agree.
pub rows_same : (f h : ℕ → List ℕ) (n : ℕ) → ((j : ℕ) → j < n → f j ≡ h j) → map f (range_with_len 0 n) ≡ map h (range_with_len 0 n)
rows_same f h n e =
    fill_by_all h (map f (range_with_len 0 n)) n [] (length-map-range_with_len f 0 n) (λ k l. get_or-map-range_with_len f 0 n k k [] l (omega arith) ∙ e k l)

module _ (g c l : ℕ) where
  pub length_line : length (line_of g c l) ≡ 14
  length_line = length-append (big_endian 2 g) (big_endian 4 c ++ big_endian 8 l) ∙ omega (arith, length-append (big_endian 4 c) (big_endian 8 l), length-big_endian 2 g, length-big_endian 4 c, length-big_endian 8 l)

  -- What the bytes of a line say.
  pub line_group : g < 2 ^ 16 → number_at (line_of g c l) 0 2 ≡ g
  line_group h = ap spelled (take_at (big_endian 2 g) (big_endian 4 c ++ big_endian 8 l) 2 (length-big_endian 2 g)) ∙ spelled_whole 2 g h

  line_cell : c < 2 ^ 32 → number_at (line_of g c l) 2 4 ≡ c
  line_cell h =
      ap (λ (xs : List ℕ). spelled (take 4 xs)) (drop_at (big_endian 2 g) (big_endian 4 c ++ big_endian 8 l) 2 (length-big_endian 2 g))
      ∙ ap spelled (take_at (big_endian 4 c) (big_endian 8 l) 4 (length-big_endian 4 c))
      ∙ spelled_whole 4 c h

  six : length (big_endian 2 g ++ big_endian 4 c) ≡ 6
  six = length-append (big_endian 2 g) (big_endian 4 c) ∙ omega (arith, length-big_endian 2 g, length-big_endian 4 c)

  line_locator : l < 2 ^ 64 → number_at (line_of g c l) 6 8 ≡ l
  line_locator h =
      ap (λ (xs : List ℕ). spelled (take 8 (drop 6 xs))) (sym (append_assoc (big_endian 2 g) (big_endian 4 c) (big_endian 8 l)))
      ∙ ap (λ (xs : List ℕ). spelled (take 8 xs)) (drop_at (big_endian 2 g ++ big_endian 4 c) (big_endian 8 l) 6 six)
      ∙ ap spelled (take_all 8 (big_endian 8 l) (omega (arith, length-big_endian 8 l)))
      ∙ spelled_whole 8 l h

  pub line_pair : c < 2 ^ 32 → l < 2 ^ 64 → pair_on (line_of g c l) ≡ record { cell = c; locator = l }
  line_pair hc hl = let p = line_cell hc in let q = line_locator hl in cc

  -- Its three numbers, one behind the other.
  pub line_written : (at : ℕ) (m : List ℕ) → at + 14 ≤ length m → overwritten (at + 6) (big_endian 8 l) (overwritten (at + 2) (big_endian 4 c) (overwritten at (big_endian 2 g) m)) ≡ overwritten at (line_of g c l) m
  line_written at m h =
      ap (overwritten (at + 6) (big_endian 8 l)) (overwritten_two at 2 (big_endian 2 g) (big_endian 4 c) m (length-big_endian 2 g) (omega (arith, length-big_endian 2 g)))
      ∙ overwritten_two at 6 (big_endian 2 g ++ big_endian 4 c) (big_endian 8 l) m six (omega (arith, six))
      ∙ ap (λ xs. overwritten at xs m) (append_assoc (big_endian 2 g) (big_endian 4 c) (big_endian 8 l))

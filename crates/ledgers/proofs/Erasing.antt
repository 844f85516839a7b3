-- Lines that are struck one behind the other, and what each is then.
use Rattle.std.proofs.Common.{◌≡◌, ℕ, suc, ◌+◌, ◌*◌, ◌≤◌, Bool, true, false, cond, eqb, ltb, List, ◌++◌, length, take, drop, sym, ap, ◌∙◌, inl, inr, arith, length-drop, length-take}
use Rattle.std.specs.List.{range_with_len, flat_map}
use Rattle.std.proofs.lemmas.List.{drop-drop}
use Rattle.std.proofs.lemmas.Bool.{cases_lt, cond-true, cond-false, eq-eqb, le-ltb, lt-ltb, ne_eqb}
use Rattle.octets.specs.Numbers.{number_at, spelled}
use Rattle.octets.specs.Overwriting.{overwritten}
use Rattle.octets.proofs.Overwrites.{length-overwritten, overwritten_same, overwritten_two, part_before, part_behind, part_here}
use Rattle.octets.proofs.Places.{number_in_part}
use Rattle.octets.proofs.Parts.{AllWide, joined_more, length_parts, to_parts}
use Rattle.ledgers.specs.Ledgers.{line, line_of, lines_struck, struck_line}
use Rattle.ledgers.proofs.Rows.{length_line}

module _ (at g : ℕ) (m : List ℕ) where
  abbrev struck_at : ℕ → List ℕ
  struck_at j = struck_line g (line at m j)

  long_by : (own : Bool) (l : List ℕ) → length l ≡ 14 → length (cond own (line_of g 0 0) l) ≡ 14
  long_by true l e = length_line g 0 0
  long_by false l e = e

  all_long : (n : ℕ) → at + n * 14 ≤ length m → AllWide 14 struck_at 0 n
  all_long n h i l =
      let long : length (line at m (0 + i)) ≡ 14 = simp (length-take, length-drop) (omega arith) in
      long_by (eqb (number_at (line at m (0 + i)) 0 2) g) (line at m (0 + i)) long

  length_struck : (n : ℕ) → at + n * 14 ≤ length m → length (flat_map struck_at (range_with_len 0 n)) ≡ n * 14
  length_struck n h = length_parts 14 struck_at n 0 (all_long n h)

  module _ (j : ℕ) (h : at + (j + 1) * 14 ≤ length m) where
    abbrev so_far : List ℕ
    so_far = flat_map struck_at (range_with_len 0 j)

    length_so_far : length so_far ≡ j * 14
    length_so_far = length_struck j (omega arith)

    fits : at + length so_far ≤ length m
    fits = omega (arith, length_so_far)

    -- The next line is as it was.
    next_kept : (k : ℕ) → take k (drop (at + j * 14) (lines_struck at j g m)) ≡ take k (drop (at + j * 14) m)
    next_kept k = part_behind at so_far m fits (at + j * 14) k (omega (arith, length_so_far))

    pub next_number : number_at (lines_struck at j g m) (at + j * 14) 2 ≡ number_at (line at m j) 0 2
    next_number =
        let first : at + j * 14 ≡ at + j * 14 + 0 = omega arith in
        ap spelled (next_kept 2) ∙ ap (λ k. number_at m k 2) first ∙ sym (number_in_part 14 (at + j * 14) 0 2 m (omega arith))

    one_more : overwritten (at + j * 14) (struck_at j) (lines_struck at j g m) ≡ lines_struck at (j + 1) g m
    one_more =
        let e : 0 + j ≡ j = omega arith in
        let s : suc j ≡ j + 1 = omega arith in
        overwritten_two at (j * 14) so_far (struck_at j) m length_so_far fits
        ∙ ap (λ k. overwritten at (so_far ++ struck_at k) m) (sym e)
        ∙ ap (λ xs. overwritten at xs m) (sym (joined_more 14 struck_at j 0))
        ∙ ap (λ k. lines_struck at k g m) s

    -- A line of the group loses its cell and its locator.
    pub own_struck : number_at (line at m j) 0 2 ≡ g → overwritten (at + j * 14) (line_of g 0 0) (lines_struck at j g m) ≡ lines_struck at (j + 1) g m
    own_struck own = ap (λ xs. overwritten (at + j * 14) xs (lines_struck at j g m)) (sym (cond-true _ _ _ (eq-eqb (number_at (line at m j) 0 2) g own))) ∙ one_more

    -- Any other stays.
    pub other_struck : (number_at (line at m j) 0 2 ≡ g → ⊥) → lines_struck at j g m ≡ lines_struck at (j + 1) g m
    other_struck other =
        let same : take 14 (drop (at + j * 14) (lines_struck at j g m)) ≡ struck_at j = next_kept 14 ∙ sym (cond-false _ _ _ (ne_eqb (number_at (line at m j) 0 2) g other)) in
        sym (overwritten_same (at + j * 14) 14 (lines_struck at j g m) (omega (arith, length-overwritten at so_far m fits)))
        ∙ ap (λ xs. overwritten (at + j * 14) xs (lines_struck at j g m)) same
        ∙ one_more

  module _ (n : ℕ) (h : at + n * 14 ≤ length m) where
    abbrev part : List ℕ
    part = flat_map struck_at (range_with_len 0 n)

    inside : at + length part ≤ length m
    inside = omega (arith, length_struck n h)

    pub length-lines_struck : length (lines_struck at n g m) ≡ length m
    length-lines_struck = length-overwritten at part m inside

    -- What stands before them is as it was.
    pub front_kept : (k : ℕ) → k ≤ at → take k (lines_struck at n g m) ≡ take k m
    front_kept k l = part_before at part m inside 0 k (omega arith)

    pub line_struck : (i : ℕ) → line at (lines_struck at n g m) i ≡ cond (ltb i n) (struck_line g (line at m i)) (line at m i)
    line_struck i =
        elim (cases_lt i n) [
          | inl l ↦
              let e : 0 + i ≡ i = omega arith in
              ap (take 14) (sym (drop-drop (i * 14) at (lines_struck at n g m)))
              ∙ to_parts 14 struck_at n 0 (drop at (lines_struck at n g m)) (all_long n h) (part_here at part m inside (n * 14) (length_struck n h)) i l
              ∙ ap struck_at e
              ∙ sym (cond-true _ _ _ (lt-ltb i n l))
          | inr l ↦ part_behind at part m inside (at + i * 14) 14 (omega (arith, length_struck n h)) ∙ sym (cond-false _ _ _ (le-ltb i n l))
        ]

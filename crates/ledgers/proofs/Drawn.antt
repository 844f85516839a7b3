-- The bytes of a ledger, drawn from its puts and its retired groups: states, count and lines.
use Rattle.std.proofs.Common.{◌≡◌, ℕ, ◌+◌, ◌*◌, ◌<◌, min, Bool, true, false, cond, ltb, List, [], ◌∷◌, ◌++◌, map, length, get_or, take, drop, replicate, sym, refl, ap, ◌∙◌, arith}
use Rattle.std.specs.List.{range_with_len, flat_map}
use Rattle.std.proofs.lemmas.List.FromFn.{length-map-range_with_len}
use Rattle.std.proofs.lemmas.List.{drop_at, drop-drop, drop-take, take_at, take-take}
use Rattle.octets.specs.Numbers.{big_endian}
use Rattle.octets.proofs.Numbers.{length-big_endian}
use Rattle.octets.proofs.Parts.{from_parts, take_plus, to_parts}
use Rattle.keeps.specs.History.{Put, erased}
use Rattle.ledgers.specs.Ledgers.{drawn_ledger, drawn_line, drawn_state, ledger_size, line, no_put, put_line}
use Rattle.ledgers.proofs.Rows.{length_line}

module _ (groups lines : ℕ) (m : List ℕ) (puts : List Put) (gone : ℕ → Bool) where
  -- Memory has the bytes of that history.
  pub record DrawnIn : Type 0 where
    pub states : take groups m ≡ map (drawn_state gone) (range_with_len 0 groups)
    pub count : take 4 (drop groups m) ≡ big_endian 4 (min (length puts) lines)
    pub each : (j : ℕ) → j < lines → line (groups + 4) m j ≡ drawn_line puts gone j

  abbrev states : List ℕ
  states = map (drawn_state gone) (range_with_len 0 groups)

  abbrev count : List ℕ
  count = big_endian 4 (min (length puts) lines)

  abbrev all_lines : List ℕ
  all_lines = flat_map (drawn_line puts gone) (range_with_len 0 lines)

  length_by : (put : Bool) (p : Put) → length (cond put (put_line p) (replicate 14 0)) ≡ 14
  length_by true p = length_line (min p.group 65535) p.cell p.locator
  length_by false p = refl

  length_drawn : (j : ℕ) → length (drawn_line puts gone j) ≡ 14
  length_drawn j = length_by (ltb j (length puts)) (erased gone (get_or puts j no_put))

  size_is : ledger_size groups lines ≡ groups + (4 + lines * 14)
  size_is = omega arith

  pub to_drawn : take (ledger_size groups lines) m ≡ drawn_ledger (groups ∷ (lines ∷ [])) puts gone → DrawnIn
  to_drawn e =
      let whole = ap (λ k. take k m) (sym size_is) ∙ e in
      let front = length-map-range_with_len (drawn_state gone) 0 groups in
      let four = length-big_endian 4 (min (length puts) lines) in
      let behind = sym (drop-take groups (4 + lines * 14) m) ∙ ap (drop groups) whole ∙ drop_at states (count ++ all_lines) groups front in
      let rest = ap (take (lines * 14)) (sym (drop-drop 4 groups m)) ∙ sym (drop-take 4 (lines * 14) (drop groups m)) ∙ ap (drop 4) behind ∙ drop_at count all_lines 4 four in
      record {
        states = sym (take-take groups (groups + (4 + lines * 14)) m (omega arith)) ∙ ap (take groups) whole ∙ take_at states (count ++ all_lines) groups front;
        count = sym (take-take 4 (4 + lines * 14) (drop groups m) (omega arith)) ∙ ap (take 4) behind ∙ take_at count all_lines 4 four;
        each = λ j l. let z : 0 + j ≡ j = omega arith in ap (take 14) (sym (drop-drop (j * 14) (groups + 4) m)) ∙ to_parts 14 (drawn_line puts gone) lines 0 (drop (groups + 4) m) (λ i h. length_drawn (0 + i)) rest j l ∙ ap (drawn_line puts gone) z;
      }

  pub from_drawn : DrawnIn → take (ledger_size groups lines) m ≡ drawn_ledger (groups ∷ (lines ∷ [])) puts gone
  from_drawn d =
      let rest = from_parts 14 (drawn_line puts gone) lines 0 (drop (groups + 4) m) (λ j l. let z : j ≡ 0 + j = omega arith in ap (take 14) (drop-drop (j * 14) (groups + 4) m) ∙ d.each j l ∙ ap (drawn_line puts gone) z) in
      ap (λ k. take k m) size_is
      ∙ take_plus groups (4 + lines * 14) m
      ∙ ap (λ xs. xs ++ take (4 + lines * 14) (drop groups m)) d.states
      ∙ ap (λ xs. states ++ xs) (take_plus 4 (lines * 14) (drop groups m))
      ∙ ap (λ xs. states ++ (xs ++ take (lines * 14) (drop 4 (drop groups m)))) d.count
      ∙ ap (λ xs. states ++ (count ++ xs)) (ap (take (lines * 14)) (drop-drop 4 groups m) ∙ rest)

-- A put: what it leaves in the memory, in the groups and in what is drawn.
use Rattle.std.proofs.Common.{◌≡◌, ℕ, ◌+◌, ◌*◌, ◌^◌, ◌<◌, ◌≤◌, min, Bool, false, cond, eqb, List, [], ◌∷◌, ◌++◌, length, get_or, take, drop, is_ok, sym, refl, ap, ◌∙◌, inl, inr, arith}
use Rattle.std.proofs.lemmas.List.FromFn.{get_or-map-range_with_len, map-range_with_len_more}
use Rattle.std.proofs.lemmas.List.{append-nil, get_or_append_left, get_or_push, get_or-take, length_push}
use Rattle.std.proofs.lemmas.Bool.{cases_Bool, cases_eq, cases_lt, cond-true, cond-false, eq-eqb, le-ltb, lt-ltb, ne_eqb}
use Rattle.octets.specs.Numbers.{big_endian, number_at, spelled}
use Rattle.octets.specs.Overwriting.{overwritten}
use Rattle.octets.proofs.Numbers.{length-big_endian, spelled_whole}
use Rattle.octets.proofs.Overwrites.{length-overwritten, one_of_parts, part_before, part_behind, part_here}
use Rattle.keeps.specs.Groups.{Pair, changed, live, retired, with_pair}
use Rattle.keeps.specs.History.{Put, erased}
use Rattle.ledgers.specs.Ledgers.{drawn_ledger, drawn_line, drawn_state, ledger_fit, ledger_groups, ledger_live, ledger_pairs, ledger_put, ledger_size, line, line_of, no_put, pair_on, pairs_of, put_line, rows, used}
use Rattle.ledgers.specs.LedgerLaws.{all_groups}
use Rattle.ledgers.proofs.Drawn.{DrawnIn, from_drawn, to_drawn}
use Rattle.ledgers.proofs.Live.{LiveIn, is_live}
use Rattle.ledgers.proofs.Rows.{length_line, line_group, line_pair, rows_same}

-- One line more, at the end.
pairs_push : (i : ℕ) (ls : List (List ℕ)) (l : List ℕ) → pairs_of i (ls ++ (l ∷ [])) ≡ pairs_of i ls ++ cond (eqb (number_at l 0 2) i) (pair_on l ∷ []) []
pairs_push i [] l = refl
pairs_push i (x ∷ ls) l =
    let e = pairs_push i ls l in
    elim (cases_Bool (eqb (number_at x 0 2) i)) [ inl t ↦ simp t (ap (λ ps. pair_on x ∷ ps) e) | inr f ↦ simp f e ]

module _ (groups lines : ℕ) (old : List ℕ) (g cell locator : ℕ) (g16 : g < 2 ^ 16) (c32 : cell < 2 ^ 32) (l64 : locator < 2 ^ 64) (alive : LiveIn groups lines old g) (free : number_at old groups 4 < lines) where
  abbrev n : ℕ
  n = number_at old groups 4

  abbrev part : List ℕ
  part = line_of g cell locator

  abbrev mid : List ℕ
  mid = overwritten (groups + 4 + n * 14) part old

  abbrev count : List ℕ
  count = big_endian 4 (n + 1)

  abbrev new : List ℕ
  new = ledger_put groups old g cell locator

  line_fits : groups + 4 + n * 14 + length part ≤ length old
  line_fits = omega (arith, length_line g cell locator, alive.fits.enough)

  length_mid : length mid ≡ length old
  length_mid = length-overwritten (groups + 4 + n * 14) part old line_fits

  count_fits : groups + length count ≤ length mid
  count_fits = omega (arith, length-big_endian 4 (n + 1), length_mid, alive.fits.enough)

  pub length_new : length new ≡ length old
  length_new = length-overwritten groups count mid count_fits ∙ length_mid

  states_new : (k : ℕ) → k ≤ groups → take k new ≡ take k old
  states_new k h = part_before groups count mid count_fits 0 k (omega arith) ∙ part_before (groups + 4 + n * 14) part old line_fits 0 k (omega arith)

  four_new : take 4 (drop groups new) ≡ count
  four_new = part_here groups count mid count_fits 4 (length-big_endian 4 (n + 1))

  count_new : number_at new groups 4 ≡ n + 1
  count_new = ap spelled four_new ∙ spelled_whole 4 (n + 1) (omega (arith, alive.fits.short))

  line_new : (i : ℕ) → line (groups + 4) new i ≡ cond (eqb i n) part (line (groups + 4) old i)
  line_new i =
      part_behind groups count mid count_fits (groups + 4 + i * 14) 14 (omega (arith, length-big_endian 4 (n + 1)))
      ∙ one_of_parts (groups + 4) 14 old n part (length_line g cell locator) (omega (arith, alive.fits.enough)) i

  rows_new : rows (groups + 4) new (n + 1) ≡ rows (groups + 4) old n ++ (part ∷ [])
  unfolding rows
  rows_new =
      map-range_with_len_more (line (groups + 4) new) 0 n n (omega arith)
      ∙ ap (λ xs. xs ++ (line (groups + 4) new n ∷ [])) (rows_same (line (groups + 4) new) (line (groups + 4) old) n (λ j h. line_new j ∙ cond-false _ _ _ (ne_eqb j n (λ z. omega arith))))
      ∙ ap (λ x. rows (groups + 4) old n ++ (x ∷ [])) (line_new n ∙ cond-true _ _ _ (eq-eqb n n refl))

  abbrev pair : Pair
  pair = record { cell = cell; locator = locator }

  abbrev before : (i : ℕ) → List Pair
  before i = pairs_of i (rows (groups + 4) old (used groups lines old))

  abbrev after : (i : ℕ) → List Pair
  after i = before i ++ cond (eqb g i) (pair ∷ []) []

  pairs_new : (i : ℕ) → pairs_of i (rows (groups + 4) new (used groups lines new)) ≡ after i
  pairs_new i =
      let more : used groups lines new ≡ n + 1 = omega (arith, count_new) in
      let same : n ≡ used groups lines old = omega arith in
      ap (λ k. pairs_of i (rows (groups + 4) new k)) more
      ∙ ap (pairs_of i) rows_new
      ∙ pairs_push i (rows (groups + 4) old n) part
      ∙ ap (λ k. pairs_of i (rows (groups + 4) old n) ++ cond (eqb k i) (pair_on part ∷ []) []) (line_group g cell locator g16)
      ∙ ap (λ p. pairs_of i (rows (groups + 4) old n) ++ cond (eqb g i) (p ∷ []) []) (line_pair g cell locator c32 l64)
      ∙ ap (λ k. pairs_of i (rows (groups + 4) old k) ++ cond (eqb g i) (pair ∷ []) []) same

  pub groups_new : ledger_groups groups lines new ≡ ledger_groups groups lines old
  groups_new = ap (λ k. cond (is_ok (ledger_fit groups lines k)) groups 0) length_new

  live_new : (i : ℕ) → ledger_live groups lines new i ≡ ledger_live groups lines old i
  live_new i =
      ap (λ k. eqb (get_or (take k new) i 1) 0) groups_new
      ∙ ap (λ xs. eqb (get_or xs i 1) 0) (states_new (ledger_groups groups lines old) (omega (arith, all_groups groups lines old alive.fits)))

  group_new : (i : ℕ) → ledger_pairs groups lines new i ≡ cond (ledger_live groups lines old i) (live (after i)) retired
  group_new i =
      ap (λ b. cond b (live (pairs_of i (rows (groups + 4) new (used groups lines new)))) retired) (live_new i)
      ∙ ap (λ ps. cond (ledger_live groups lines old i) (live ps) retired) (pairs_new i)

  here : ledger_pairs groups lines new g ≡ with_pair (ledger_pairs groups lines old g) pair
  here =
      let t = is_live groups lines old g alive in
      group_new g
      ∙ cond-true _ _ _ t
      ∙ ap (λ ps. live (before g ++ ps)) (cond-true _ _ _ (eq-eqb g g refl))
      ∙ ap (λ o. with_pair o pair) (sym (cond-true _ _ _ t))

  apart : (i : ℕ) → (g ≡ i → ⊥) → ledger_pairs groups lines new i ≡ ledger_pairs groups lines old i
  apart i ne =
      group_new i
      ∙ ap (λ ps. cond (ledger_live groups lines old i) (live (before i ++ ps)) retired) (cond-false _ _ _ (ne_eqb g i ne))
      ∙ ap (λ ps. cond (ledger_live groups lines old i) (live ps) retired) (append-nil (before i))

  -- The group has that pair more, at the end, and no other has changed.
  pub put_after : (i : ℕ) → ledger_pairs groups lines new i ≡ changed (ledger_pairs groups lines old) g (with_pair (ledger_pairs groups lines old g) pair) i
  put_after i =
      elim (cases_eq g i) [
        | inl e ↦ ap (ledger_pairs groups lines new) (sym e) ∙ here ∙ sym (cond-true _ _ _ (eq-eqb g i e))
        | inr ne ↦ apart i ne ∙ sym (cond-false _ _ _ (ne_eqb g i ne))
      ]

  module _ (puts : List Put) (gone : ℕ → Bool) (drawn : take (ledger_size groups lines) old ≡ drawn_ledger (groups ∷ (lines ∷ [])) puts gone) where
    was : DrawnIn groups lines old puts gone
    was = to_drawn groups lines old puts gone drawn

    all_puts : length puts ≡ n
    all_puts =
        let e : n ≡ min (length puts) lines = ap spelled was.count ∙ spelled_whole 4 (min (length puts) lines) (omega (arith, alive.fits.short)) in
        omega arith

    not_gone : gone g ≡ false
    not_gone =
        elim (cases_Bool (gone g)) [
          | inl t ↦
              let one : get_or (take groups old) g 0 ≡ 1 = ap (λ (xs : List ℕ). get_or xs g 0) was.states ∙ get_or-map-range_with_len (drawn_state gone) 0 groups g g 0 alive.low (omega arith) ∙ cond-true _ 1 0 t in
              absurd (omega (arith, get_or-take groups old g 0 alive.low, alive.state))
          | inr f ↦ f
        ]

    abbrev put : Put
    put = record { group = g; cell = cell; locator = locator }

    abbrev more : List Put
    more = puts ++ (put ∷ [])

    line_here : (j : ℕ) → j ≡ n → part ≡ drawn_line more gone j
    line_here j e =
        let whole : g ≡ min g 65535 = omega (arith, alive.low, alive.fits.few) in
        ap (λ k. line_of k cell locator) whole
        ∙ ap put_line (sym (cond-false _ _ _ not_gone))
        ∙ ap (λ (p : Put). put_line (erased gone p)) (sym (get_or_push puts put no_put j (omega (arith, all_puts))))
        ∙ sym (cond-true _ _ _ (lt-ltb j (length more) (omega (arith, all_puts, length_push puts put))))

    line_apart : (j : ℕ) → (j ≡ n → ⊥) → drawn_line puts gone j ≡ drawn_line more gone j
    line_apart j ne =
        elim (cases_lt j n) [
          | inl lt ↦
              cond-true _ _ _ (lt-ltb j (length puts) (omega (arith, all_puts)))
              ∙ ap (λ (p : Put). put_line (erased gone p)) (sym (get_or_append_left puts (put ∷ []) no_put j (omega (arith, all_puts))))
              ∙ sym (cond-true _ _ _ (lt-ltb j (length more) (omega (arith, all_puts, length_push puts put))))
          | inr ge ↦
              cond-false _ _ _ (le-ltb j (length puts) (omega (arith, all_puts)))
              ∙ sym (cond-false _ _ _ (le-ltb j (length more) (omega (arith, all_puts, length_push puts put, ne))))
        ]

    -- The bytes are drawn from that put more.
    pub put_drawn : take (ledger_size groups lines) new ≡ drawn_ledger (groups ∷ (lines ∷ [])) more gone
    put_drawn =
        from_drawn groups lines new more gone
        (record {
          states = states_new groups (omega arith) ∙ was.states;
          count = four_new ∙ ap (big_endian 4) (let e : n + 1 ≡ min (length more) lines = omega (arith, all_puts, length_push puts put) in e);
          each = λ j l.
              elim (cases_eq j n) [
                | inl e ↦ line_new j ∙ cond-true _ _ _ (eq-eqb j n e) ∙ line_here j e
                | inr ne ↦ line_new j ∙ cond-false _ _ _ (ne_eqb j n ne) ∙ was.each j l ∙ line_apart j ne
              ];
        })

-- A strike: what it leaves in the memory, in the groups and in what is drawn.
use Rattle.std.proofs.Common.{◌≡◌, ℕ, ◌+◌, ◌*◌, ◌^◌, ◌<◌, ◌≤◌, min, Bool, true, false, cond, eqb, ltb, List, [], ◌∷◌, map, length, get_or, take, drop, is_ok, sym, refl, ap, ◌∙◌, inl, inr, arith, length-take}
use Rattle.std.specs.List.{range_with_len}
use Rattle.std.proofs.lemmas.List.FromFn.{fill_by_all, get_or-map-range_with_len}
use Rattle.std.proofs.lemmas.List.{drop-set-lt, drop-take, get_or-set_other, get_or-set_same, get_or-take, length-set}
use Rattle.std.proofs.lemmas.Bool.{cases_eq, cases_lt, cond-true, cond-false, eq-eqb, le-ltb, lt-ltb, ne_eqb}
use Rattle.octets.specs.Numbers.{number_at, spelled}
use Rattle.octets.proofs.Numbers.{spelled_whole}
use Rattle.keeps.specs.Groups.{changed, live, retired}
use Rattle.keeps.specs.History.{Put, erased}
use Rattle.ledgers.specs.LedgerLaws.{all_groups, state_past}
use Rattle.ledgers.specs.Ledgers.{drawn_ledger, drawn_line, drawn_state, ledger_fit, ledger_groups, ledger_live, ledger_pairs, ledger_size, ledger_struck, line, line_of, lines_struck, no_put, pair_on, pairs_of, put_line, rows, struck_line, used}
use Rattle.ledgers.proofs.Drawn.{DrawnIn, from_drawn, to_drawn}
use Rattle.ledgers.proofs.Erasing.{front_kept, length-lines_struck, line_struck}
use Rattle.ledgers.proofs.Live.{LiveIn, state_is}
use Rattle.ledgers.proofs.Rows.{line_group, rows_same}

module _ (groups lines : ℕ) (old : List ℕ) (g : ℕ) (alive : LiveIn groups lines old g) where
  abbrev n : ℕ
  n = used groups lines old

  abbrev mid : List ℕ
  mid = lines_struck (groups + 4) n g old

  abbrev new : List ℕ
  new = ledger_struck groups lines old g

  g16 : g < 2 ^ 16
  g16 = omega (arith, alive.low, alive.fits.few)

  inside : groups + 4 + n * 14 ≤ length old
  inside = omega (arith, alive.fits.enough)

  length_mid : length mid ≡ length old
  length_mid = length-lines_struck (groups + 4) g old n inside

  length_new : length new ≡ length old
  length_new = length-set mid g 1 ∙ length_mid

  front : take (groups + 4) mid ≡ take (groups + 4) old
  front = front_kept (groups + 4) g old n inside (groups + 4) (omega arith)

  state_new : (i : ℕ) → i < groups → get_or new i 0 ≡ cond (eqb g i) 1 (get_or old i 0)
  state_new i h =
      elim (cases_eq g i) [
        | inl e ↦ ap (λ k. get_or new k 0) (sym e) ∙ get_or-set_same mid g 1 0 (omega (arith, length_mid, alive.fits.enough)) ∙ sym (cond-true _ _ _ (eq-eqb g i e))
        | inr ne ↦
            get_or-set_other mid g i 1 0 (λ e. ne (sym e))
            ∙ sym (get_or-take (groups + 4) mid i 0 (omega arith))
            ∙ ap (λ (xs : List ℕ). get_or xs i 0) front
            ∙ get_or-take (groups + 4) old i 0 (omega arith)
            ∙ sym (cond-false _ _ _ (ne_eqb g i ne))
      ]

  four_new : take 4 (drop groups new) ≡ take 4 (drop groups old)
  four_new = ap (take 4) (drop-set-lt groups mid g 1 alive.low) ∙ sym (drop-take groups 4 mid) ∙ ap (drop groups) front ∙ drop-take groups 4 old

  line_new : (i : ℕ) → line (groups + 4) new i ≡ cond (ltb i n) (struck_line g (line (groups + 4) old i)) (line (groups + 4) old i)
  line_new i = ap (take 14) (drop-set-lt (groups + 4 + i * 14) mid g 1 (omega (arith, alive.low))) ∙ line_struck (groups + 4) g old n inside i

  groups_old : ledger_groups groups lines old ≡ groups
  groups_old = all_groups groups lines old alive.fits

  groups_new : ledger_groups groups lines new ≡ groups
  groups_new = ap (λ k. cond (is_ok (ledger_fit groups lines k)) groups 0) length_new ∙ groups_old

  pub groups_kept : ledger_groups groups lines new ≡ ledger_groups groups lines old
  groups_kept = groups_new ∙ sym groups_old

  dead_now : ledger_live groups lines new g ≡ false
  dead_now = ap (λ x. eqb x 0) (state_is groups lines new g (omega (arith, groups_new, alive.low)) ∙ state_new g alive.low ∙ cond-true _ _ _ (eq-eqb g g refl))

  live_apart : (i : ℕ) → (g ≡ i → ⊥) → ledger_live groups lines new i ≡ ledger_live groups lines old i
  live_apart i ne =
      elim (cases_lt i groups) [
        | inl h ↦
            ap (λ x. eqb x 0)
            (state_is groups lines new i (omega (arith, groups_new))
            ∙ state_new i h
            ∙ cond-false _ _ _ (ne_eqb g i ne)
            ∙ sym (state_is groups lines old i (omega (arith, groups_old))))
        | inr h ↦ ap (λ x. eqb x 0) (state_past groups lines new i (omega (arith, groups_new)) ∙ sym (state_past groups lines old i (omega (arith, groups_old))))
      ]

  -- The lines of the other groups have their pairs.
  pairs_apart : (i : ℕ) → (g ≡ i → ⊥) → (f : ℕ → List ℕ) (js : List ℕ) → pairs_of i (map (λ j. struck_line g (f j)) js) ≡ pairs_of i (map f js)
  pairs_apart i ne f [] = refl
  pairs_apart i ne f (j ∷ js) =
      let rest = pairs_apart i ne f js in
      elim (cases_eq (number_at (f j) 0 2) g) [
        | inl e ↦
            let t = eq-eqb (number_at (f j) 0 2) g e in
            let u = ne_eqb (number_at (line_of g 0 0) 0 2) i (λ q. ne (sym (line_group g 0 0 g16) ∙ q)) in
            let v = ne_eqb (number_at (f j) 0 2) i (λ q. ne (sym e ∙ q)) in
            simp (t, u, v) rest
        | inr z ↦
            let t = ne_eqb (number_at (f j) 0 2) g z in
            simp t (ap (λ ps. cond (eqb (number_at (f j) 0 2) i) (pair_on (f j) ∷ ps) ps) rest)
      ]

  rows_apart : (i : ℕ) → (g ≡ i → ⊥) → pairs_of i (rows (groups + 4) new (used groups lines new)) ≡ pairs_of i (rows (groups + 4) old n)
  unfolding rows
  rows_apart i ne =
      let same : used groups lines new ≡ n = ap (λ (xs : List ℕ). min (spelled xs) lines) four_new in
      ap (λ k. pairs_of i (rows (groups + 4) new k)) same
      ∙ ap (pairs_of i) (rows_same (line (groups + 4) new) (λ j. struck_line g (line (groups + 4) old j)) n (λ j h. line_new j ∙ cond-true _ _ _ (lt-ltb j n h)))
      ∙ pairs_apart i ne (line (groups + 4) old) (range_with_len 0 n)

  -- The group is retired, and no other has changed.
  pub strike_after : (i : ℕ) → ledger_pairs groups lines new i ≡ changed (ledger_pairs groups lines old) g retired i
  strike_after i =
      elim (cases_eq g i) [
        | inl e ↦ ap (ledger_pairs groups lines new) (sym e) ∙ cond-false _ _ _ dead_now ∙ sym (cond-true _ _ _ (eq-eqb g i e))
        | inr ne ↦
            ap (λ b. cond b (live (pairs_of i (rows (groups + 4) new (used groups lines new)))) retired) (live_apart i ne)
            ∙ ap (λ ps. cond (ledger_live groups lines old i) (live ps) retired) (rows_apart i ne)
            ∙ sym (cond-false _ _ _ (ne_eqb g i ne))
      ]

  module _ (puts : List Put) (gone : ℕ → Bool) (drawn : take (ledger_size groups lines) old ≡ drawn_ledger (groups ∷ (lines ∷ [])) puts gone) where
    was : DrawnIn groups lines old puts gone
    was = to_drawn groups lines old puts gone drawn

    abbrev gone_too : ℕ → Bool
    gone_too i = cond (eqb i g) true (gone i)

    used-puts : n ≡ min (length puts) lines
    used-puts =
        let e : number_at old groups 4 ≡ min (length puts) lines = ap spelled was.count ∙ spelled_whole 4 (min (length puts) lines) (omega (arith, alive.fits.short)) in
        omega arith

    state_drawn : (k : ℕ) → k < groups → get_or new k 0 ≡ drawn_state gone_too k
    state_drawn k l =
        elim (cases_eq k g) [
          | inl e ↦ state_new k l ∙ cond-true _ _ _ (eq-eqb g k (sym e)) ∙ sym (ap (λ b. cond b 1 0) (cond-true _ _ _ (eq-eqb k g e)))
          | inr ne ↦
              state_new k l
              ∙ cond-false _ _ _ (ne_eqb g k (λ e. ne (sym e)))
              ∙ sym (get_or-take groups old k 0 l)
              ∙ ap (λ (xs : List ℕ). get_or xs k 0) was.states
              ∙ get_or-map-range_with_len (drawn_state gone) 0 groups k k 0 l (omega arith)
              ∙ sym (ap (λ b. cond b 1 0) (cond-false _ _ _ (ne_eqb k g ne)))
        ]

    group_erased : (b : Bool) (p : Put) → (cond b (record { group = p.group; cell = 0; locator = 0 }) p).group ≡ p.group
    group_erased true p = refl
    group_erased false p = refl

    -- The line of a put, once the group is retired.
    put_struck : (p : Put) → struck_line g (put_line (erased gone p)) ≡ put_line (erased gone_too p)
    put_struck p =
        let q = erased gone p in
        let same = group_erased (gone p.group) p in
        let number : number_at (put_line q) 0 2 ≡ min p.group 65535 = line_group (min q.group 65535) q.cell q.locator (omega arith) ∙ ap (λ k. min k 65535) same in
        elim (cases_eq p.group g) [
          | inl e ↦
              let z : g ≡ min p.group 65535 = omega (arith, g16) in
              cond-true _ _ _ (eq-eqb (number_at (put_line q) 0 2) g (number ∙ sym z))
              ∙ ap (λ k. line_of k 0 0) z
              ∙ sym (ap put_line (cond-true _ _ p (cond-true _ _ _ (eq-eqb p.group g e))))
          | inr ne ↦
              cond-false _ _ _ (ne_eqb (number_at (put_line q) 0 2) g (λ z. ne (omega (arith, number, z, alive.low, alive.fits.few))))
              ∙ sym (ap (λ b. put_line (cond b (record { group = p.group; cell = 0; locator = 0 }) p)) (cond-false _ _ _ (ne_eqb p.group g ne)))
        ]

    line_drawn : (j : ℕ) → j < lines → line (groups + 4) new j ≡ drawn_line puts gone_too j
    line_drawn j l =
        elim (cases_lt j (length puts)) [
          | inl h ↦
              line_new j
              ∙ cond-true _ _ _ (lt-ltb j n (omega (arith, used-puts)))
              ∙ ap (struck_line g) (was.each j l ∙ cond-true _ _ _ (lt-ltb j (length puts) h))
              ∙ put_struck (get_or puts j no_put)
              ∙ sym (cond-true _ _ _ (lt-ltb j (length puts) h))
          | inr h ↦
              line_new j
              ∙ cond-false _ _ _ (le-ltb j n (omega (arith, used-puts)))
              ∙ was.each j l
              ∙ cond-false _ _ _ (le-ltb j (length puts) h)
              ∙ sym (cond-false _ _ _ (le-ltb j (length puts) h))
        ]

    -- The bytes are drawn with that group retired.
    pub strike_drawn : take (ledger_size groups lines) new ≡ drawn_ledger (groups ∷ (lines ∷ [])) puts gone_too
    strike_drawn =
        let long : length (take groups new) ≡ groups = simp length-take (omega (arith, length_new, alive.fits.enough)) in
        from_drawn groups lines new puts gone_too
        (record {
          states = fill_by_all (drawn_state gone_too) (take groups new) groups 0 long (λ k l. get_or-take groups new k 0 l ∙ state_drawn k l);
          count = four_new ∙ was.count;
          each = line_drawn;
        })

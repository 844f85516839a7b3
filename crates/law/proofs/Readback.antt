-- The accepted filings, by key and group, are read back from the cells.
use Rattle.std.proofs.Common.{◌≡◌, ℕ, zero, suc, ◌+◌, ◌<◌, ◌≤◌, Bool, true, false, cond, eqb, ◌⊎◌, List, [], ◌∷◌, length, sym, refl, ap, ◌∙◌, subst, inl, inr, arith}
use Rattle.law.specs.Archive.{Option, none, some}
use Rattle.std.proofs.lemmas.Bool.{cond-true, cond-false, cond_both, eq-eqb, ne_eqb, cases_lt, cases_eq}
use Rattle.law.specs.Archive.{Settings, Lawful, Cell, blank, written, Entry, entry_bytes, entry_of, changed}
use Rattle.law.proofs.Steps.{at_changed}
use Rattle.entries.specs.Entries.{Fits}
use Rattle.law.proofs.Steps.{entry_back}
use Rattle.law.proofs.Replay.{cells_of, place, Sound, entry_after, tally}

-- How many cells below n are blank: one less after a write at one of them.
unfoldable pub is_blank : Cell → Bool
is_blank blank = true
is_blank (written b) = false

unfoldable pub blanks : (ℕ → Cell) → ℕ → ℕ
blanks cells zero = 0
blanks cells (suc n) = cond (is_blank (cells n)) (suc (blanks cells n)) (blanks cells n)

blanks_all : (n : ℕ) → blanks (λ c. blank) n ≡ n
unfolding blanks is_blank
blanks_all zero = refl
blanks_all (suc n) = ap suc (blanks_all n)

changed_other : (cells : ℕ → Cell) (c : ℕ) (x : Cell) (i : ℕ) → (c ≡ i → ⊥) → changed cells c x i ≡ cells i
changed_other cells c x i ne = cond-false _ _ _ (ne_eqb c i ne)

changed_here : (cells : ℕ → Cell) (c : ℕ) (x : Cell) → changed cells c x c ≡ x
changed_here cells c x = cond-true _ _ _ (eq-eqb c c refl)

module _ (cells : ℕ → Cell) (c : ℕ) (b : List ℕ) where
  pub blanks_before : (n : ℕ) → n ≤ c → blanks (changed cells c (written b)) n ≡ blanks cells n
  unfolding blanks
  blanks_before zero le = refl
  blanks_before (suc n) le = let here = changed_other cells c (written b) n (λ e. omega arith) in let rest = blanks_before n (omega arith) in cc

  pub blanks_less : (n : ℕ) → c < n → cells c ≡ blank → suc (blanks (changed cells c (written b)) n) ≡ blanks cells n
  unfolding blanks is_blank
  blanks_less zero lt free = absurd (omega arith)
  blanks_less (suc n) lt free = go (blanks_less n) (cases_lt c n)
    where
      more : (B B' : ℕ) → suc B' ≡ B → (x : Cell) → suc (cond (is_blank x) (suc B') B') ≡ cond (is_blank x) (suc B) B
      more B B' e blank = ap suc e
      more B B' e (written b) = e

      go : (c < n → cells c ≡ blank → suc (blanks (changed cells c (written b)) n) ≡ blanks cells n) → (c < n) ⊎ (n ≤ c)
          → suc (blanks (changed cells c (written b)) (suc n)) ≡ blanks cells (suc n)
      go ih (inl less) = let here = changed_other cells c (written b) n (λ e. omega arith) in let rest = more _ _ (ih less free) (cells n) in cc
      go ih (inr past) = let at : c ≡ n = omega arith in let rest = blanks_before n past in
          let here = subst (λ k. changed cells c (written b) k ≡ written b) at (changed_here cells c (written b)) in let was = subst (λ k. cells k ≡ blank) at free in cc

full : (σ : Settings) (ls : List (List ℕ × ℕ)) → Sound σ ls → length ls + blanks (cells_of σ ls) σ.total ≡ σ.total
unfolding cells_of
full σ [] sound = omega (arith, blanks_all σ.total)
full σ (x ∷ ls) sound =
    omega (arith, full σ ls sound.1, blanks_less (cells_of σ ls) (place σ ls x.0) (entry_bytes σ (entry_after ls x)) σ.total sound.0.within sound.0.free)

tally_least : (g : ℕ) (ls : List (List ℕ × ℕ)) → tally g ls ≤ length ls
tally_least g [] = omega arith
tally_least g (x ∷ ls) =
    let ih = tally_least g ls in cond_both (eqb x.1 g) _ _ (λ n. n ≤ suc (length ls)) (λ _. omega arith) (λ _. omega arith)

-- The entry that a cell holds, and its filing number: 0 where there is none.
abbrev entry_in : Settings → Cell → Option Entry
entry_in σ blank = none
entry_in σ (written b) = entry_of σ b

abbrev filing_in : Option Entry → ℕ
filing_in none = 0
filing_in (some e) = e.filing

module _ {σ : Settings} (lawful : Lawful σ) where
  fits : (x : List ℕ × ℕ) (ls : List (List ℕ × ℕ)) → Sound σ (x ∷ ls) → Fits (entry_after ls x)
  fits x ls sound = record {
    key = lawful.key_length x.0 sound.0.admissible;
    group = omega (arith, sound.0.group, lawful.groups_limit);
    slot = omega (arith, tally_least x.1 ls, full σ (x ∷ ls) sound, lawful.total_limit);
    filing = omega (arith, full σ (x ∷ ls) sound, lawful.total_limit);
  }

  -- The latest filing stands at its place, and every other cell's number is lower.
  latest : (x : List ℕ × ℕ) (ls : List (List ℕ × ℕ)) → Sound σ (x ∷ ls) → entry_in σ (cells_of σ (x ∷ ls) (place σ ls x.0)) ≡ some (entry_after ls x)
  unfolding cells_of
  latest x ls sound = ap (entry_in σ) (changed_here (cells_of σ ls) (place σ ls x.0) _) ∙ entry_back σ (entry_after ls x) (fits x ls sound) sound.0.admissible

  lower : (ls : List (List ℕ × ℕ)) → Sound σ ls → (c : ℕ) → filing_in (entry_in σ (cells_of σ ls c)) ≤ length ls
  unfolding cells_of
  lower [] sound c = omega arith
  lower (x ∷ ls) sound c =
      at_changed (λ t y. filing_in (entry_in σ y) ≤ suc (length ls)) (cells_of σ ls) (place σ ls x.0) _ c
      (λ _. omega (arith, ap filing_in (entry_back σ (entry_after ls x) (fits x ls sound) sound.0.admissible))) (omega (arith, lower ls sound.1 c))

  no_longer : (ls ms : List (List ℕ × ℕ)) → Sound σ ls → Sound σ ms → ((c : ℕ) → c < σ.total → cells_of σ ls c ≡ cells_of σ ms c) → length ls ≤ length ms
  no_longer [] ms sound sound' h = omega arith
  no_longer (x ∷ ls) ms sound sound' h =
      let p = place σ ls x.0 in
      omega (arith, lower ms sound' p, ap filing_in (sym (latest x ls sound) ∙ ap (entry_in σ) (h p sound.0.within)))

  module _ (x y : List ℕ × ℕ) (ls ms : List (List ℕ × ℕ)) (sound : Sound σ (x ∷ ls)) (sound' : Sound σ (y ∷ ms))
      (h : (c : ℕ) → c < σ.total → cells_of σ (x ∷ ls) c ≡ cells_of σ (y ∷ ms) c) where
    seen : entry_in σ (cells_of σ (y ∷ ms) (place σ ls x.0)) ≡ some (entry_after ls x)
    seen = ap (entry_in σ) (sym (h _ sound.0.within)) ∙ latest x ls sound

    same_place : place σ ms y.0 ≡ place σ ls x.0
    unfolding cells_of
    same_place =
        at_changed (λ t z. filing_in (entry_in σ z) ≡ length ls + 1 → place σ ms y.0 ≡ place σ ls x.0) (cells_of σ ms) (place σ ms y.0) _ (place σ ls x.0)
        (λ e _. e)
        (λ e. absurd (omega (arith, lower ms sound'.1 (place σ ls x.0), no_longer (y ∷ ms) (x ∷ ls) sound' sound (λ c lt. sym (h c lt)))))
        (ap filing_in seen)

    same_latest : x ≡ y
    same_latest =
        let both = sym seen ∙ (ap (λ k. entry_in σ (cells_of σ (y ∷ ms) k)) (sym same_place) ∙ latest y ms sound') in
        let one : entry_after ls x ≡ entry_after ms y = cc in
        λ i. ((one i).key, (one i).group)

    same_earlier : (c : ℕ) → c < σ.total → cells_of σ ls c ≡ cells_of σ ms c
    unfolding cells_of
    same_earlier c lt = go (cases_eq (place σ ls x.0) c)
      where
        go : (place σ ls x.0 ≡ c) ⊎ (place σ ls x.0 ≡ c → ⊥) → cells_of σ ls c ≡ cells_of σ ms c
        go (inl at) = ap (cells_of σ ls) (sym at) ∙ (sound.0.free ∙ (sym sound'.0.free ∙ ap (cells_of σ ms) (same_place ∙ at)))
        go (inr ne) = sym (changed_other (cells_of σ ls) _ _ c ne) ∙ (h c lt ∙ changed_other (cells_of σ ms) _ _ c (λ e. ne (sym same_place ∙ e)))

  pub same_labels : (ls ms : List (List ℕ × ℕ)) → Sound σ ls → Sound σ ms → ((c : ℕ) → c < σ.total → cells_of σ ls c ≡ cells_of σ ms c) → ls ≡ ms
  same_labels [] [] sound sound' h = refl
  same_labels [] (y ∷ ms) sound sound' h = absurd (omega (arith, no_longer (y ∷ ms) [] sound' sound (λ c lt. sym (h c lt))))
  same_labels (x ∷ ls) [] sound sound' h = absurd (omega (arith, no_longer (x ∷ ls) [] sound sound' h))
  same_labels (x ∷ ls) (y ∷ ms) sound sound' h =
      let first = same_latest x y ls ms sound sound' h in let rest = same_labels ls ms sound.1 sound'.1 (same_earlier x y ls ms sound sound' h) in cc

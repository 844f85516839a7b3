-- Two archives are equal exactly when their histories agree.
use Rattle.std.proofs.Common.{◌≡◌, ℕ, suc, ◌<◌, ◌≤◌, Bool, true, false, cond, eqb, ltb, ◌⊎◌, ◌↔◌, List, [], ◌∷◌, ◌++◌, sym, refl, ap, ◌∙◌, inl, inr, arith}
use mathlib.Core.Path.{fun_ext}
use Rattle.std.proofs.lemmas.List.{same_from_push}
use Rattle.std.proofs.lemmas.Bool.{cond-true, lt-ltb, ltb-true, eq-eqb, eqb-true, cases_lt, true≢false, false≢true}
use Rattle.law.specs.Archive.{Lawful, Settings, State, Pair, Group, live, retired, gives, denies, STRANGER, GROUP, in_slot, in_group, get, verdict}
use Rattle.law.specs.History.{Blank, Event, Run, Filing, any, filings, locators, outside}
use Rattle.law.specs.Promise.{SameArchive, SameHistory, by_key_and_group, retired_in}
use Rattle.law.proofs.Steps.{turned}
use Rattle.law.proofs.Searches.{never_gone, unturned}
use Rattle.law.proofs.Readback.{same_labels}
use Rattle.law.proofs.Replay.{labels, cells_of, place, pair_after, pairs, standing, Sound, Stands, stands}

-- Groups that answer alike are equal.
own_slot : (p : Pair) (ps : List Pair) → in_slot (p ∷ ps) 0 p.cell ≡ gives p.locator
own_slot p ps = cond-true (eqb p.cell p.cell) _ _ (eq-eqb _ _ refl)

head_pair : (p q : Pair) (qs : List Pair) → gives p.locator ≡ in_slot (q ∷ qs) 0 p.cell → p ≡ q
head_pair p q qs = go (eqb q.cell p.cell) refl
  where
    go : (t : Bool) → eqb q.cell p.cell ≡ t → gives p.locator ≡ cond t (gives q.locator) (denies (STRANGER p.cell)) → p ≡ q
    go true e h = let at : q.cell ≡ p.cell = eqb-true _ _ e in let same : p.locator ≡ q.locator = cc in λ i. record { cell = sym at i; locator = same i }
    go false e h = cc

same_pairs : (ps qs : List Pair) → ((slot cell : ℕ) → in_slot ps slot cell ≡ in_slot qs slot cell) → ps ≡ qs
same_pairs [] [] h = refl
same_pairs [] (q ∷ qs) h = let clash = h 0 q.cell ∙ own_slot q qs in cc
same_pairs (p ∷ ps) [] h = let clash = sym (own_slot p ps) ∙ h 0 p.cell in cc
same_pairs (p ∷ ps) (q ∷ qs) h =
    let first = head_pair p q qs (sym (own_slot p ps) ∙ h 0 p.cell) in let rest = same_pairs ps qs (λ slot. h (suc slot)) in cc

same_group : (g : ℕ) (x y : Group) → ((slot cell : ℕ) → in_group x g slot cell ≡ in_group y g slot cell) → x ≡ y
same_group g (live ps) (live qs) h = ap live (same_pairs ps qs h)
same_group g (live ps) retired h = absurd (never_gone ps 0 0 0 0 (ap (λ r. verdict r 0 0) (h 0 0)))
same_group g retired (live qs) h = absurd (never_gone qs 0 0 0 0 (ap (λ r. verdict r 0 0) (sym (h 0 0))))
same_group g retired retired h = refl

-- Archives are equal where their cells below the total and their groups are.
record SameParts (σ : Settings) (s t : State) : Type 0 where
  cells : (c : ℕ) → c < σ.total → s.cells c ≡ t.cells c
  groups : (g : ℕ) → g < σ.groups → s.group g ≡ t.group g

same_parts : (σ : Settings) (s t : State) → SameArchive σ s t ↔ SameParts σ s t
same_parts σ s t = (λ h. record { cells = h.0; groups = groups_from h }, λ h. (h.cells, λ g slot cell. get_from h g slot cell (ltb g σ.groups) refl))
  where
    in_range : (g : ℕ) → g < σ.groups → (u : State) (slot cell : ℕ) → get σ u g slot cell ≡ in_group (u.group g) g slot cell
    in_range g lt u slot cell = cond-true _ _ _ (lt-ltb g σ.groups lt)

    groups_from : SameArchive σ s t → (g : ℕ) → g < σ.groups → s.group g ≡ t.group g
    groups_from h g lt = same_group g (s.group g) (t.group g) (λ slot cell. sym (in_range g lt s slot cell) ∙ (h.1 g slot cell ∙ in_range g lt t slot cell))

    get_from : SameParts σ s t → (g slot cell : ℕ) (b : Bool) → ltb g σ.groups ≡ b
        → cond b (in_group (s.group g) g slot cell) (denies (GROUP g)) ≡ cond b (in_group (t.group g) g slot cell) (denies (GROUP g))
    get_from h g slot cell true e = ap (λ x. in_group x g slot cell) (h.groups g (ltb-true g σ.groups e))
    get_from h g slot cell false e = refl

pub uncons : {A : Type 0} (x y : A) (xs ys : List A) → x ∷ xs ≡ y ∷ ys → (x ≡ y) × (xs ≡ ys)
uncons x y xs ys e = (cc, cc)

-- Two filings of one key and group, the latest after fs and after others: what the pairs and the locators say of the two locators.
module _ (σ : Settings) (gone : ℕ → Bool) (f : Filing) (l : ℕ) (fs others : List Filing) where
  abbrev twin : Filing
  twin = record { key = f.key; group = f.group; locator = l }

  pub locators_parts : locators gone (f ∷ fs) ≡ locators gone (twin ∷ others) → (locators gone fs ≡ locators gone others) × (gone f.group ≡ false → f.locator ≡ l)
  locators_parts = go (gone f.group)
    where
      go : (t : Bool) → cond t (locators gone fs) (f.locator ∷ locators gone fs) ≡ cond t (locators gone others) (l ∷ locators gone others)
          → (locators gone fs ≡ locators gone others) × (t ≡ false → f.locator ≡ l)
      go true e = (e, λ never. absurd (true≢false never))
      go false e = ((uncons _ _ _ _ e).1, λ _. (uncons _ _ _ _ e).0)

  locators_join : locators gone fs ≡ locators gone others → (gone f.group ≡ false → f.locator ≡ l) → locators gone (f ∷ fs) ≡ locators gone (twin ∷ others)
  locators_join rest one = go (gone f.group) one
    where
      go : (t : Bool) → (t ≡ false → f.locator ≡ l) → cond t (locators gone fs) (f.locator ∷ locators gone fs) ≡ cond t (locators gone others) (l ∷ locators gone others)
      go true one = rest
      go false one = let same = one refl in cc

  pairs_parts : (g : ℕ) → pairs σ g (f ∷ fs) ≡ pairs σ g (twin ∷ others) → (pairs σ g fs ≡ pairs σ g others) × (f.group ≡ g → f.locator ≡ l)
  pairs_parts g h = let both = go (eqb f.group g) h in (both.0, λ e. both.1 (eq-eqb _ _ e))
    where
      go : (t : Bool) → cond t (pairs σ g fs ++ pair_after σ fs f ∷ []) (pairs σ g fs) ≡ cond t (pairs σ g others ++ pair_after σ others twin ∷ []) (pairs σ g others)
          → (pairs σ g fs ≡ pairs σ g others) × (t ≡ true → f.locator ≡ l)
      go true e = let both = same_from_push _ _ _ _ e in (both.0, λ _. ap (λ p. p.locator) both.1)
      go false e = (e, λ never. absurd (false≢true never))

  pairs_join : (g : ℕ) → labels fs ≡ labels others → pairs σ g fs ≡ pairs σ g others → (f.group ≡ g → f.locator ≡ l) → pairs σ g (f ∷ fs) ≡ pairs σ g (twin ∷ others)
  pairs_join g ls rest one = go (eqb f.group g) (λ e. one (eqb-true _ _ e))
    where
      go : (t : Bool) → (t ≡ true → f.locator ≡ l)
          → cond t (pairs σ g fs ++ pair_after σ fs f ∷ []) (pairs σ g fs) ≡ cond t (pairs σ g others ++ pair_after σ others twin ∷ []) (pairs σ g others)
      go true one = λ i. rest i ++ record { cell = place σ (ls i) f.key; locator = one refl i } ∷ []
      go false one = rest

-- So the locators of the groups that are not retired, and the pairs of those groups, tell the same.
module _ (σ : Settings) (gone : ℕ → Bool) where
  pub as_twin : (f o : Filing) → by_key_and_group f ≡ by_key_and_group o → twin σ gone f o.locator [] [] ≡ o
  as_twin f o e = λ i. record { key = (e i).0; group = (e i).1; locator = o.locator }

  pairs_from : (g : ℕ) → gone g ≡ false → (fs others : List Filing) → labels fs ≡ labels others → locators gone fs ≡ locators gone others → pairs σ g fs ≡ pairs σ g others
  pairs_from g stays [] [] e k = refl
  pairs_from g stays [] (f ∷ others) e k = absurd (grind arith)
  pairs_from g stays (f ∷ fs) [] e k = absurd (grind arith)
  pairs_from g stays (f ∷ fs) (o ∷ others) e k =
      let both = uncons _ _ _ _ e in
      let same = as_twin f o both.0 in
      let parts = locators_parts σ gone f o.locator fs others (k ∙ ap (λ x. locators gone (x ∷ others)) (sym same)) in
      pairs_join σ gone f o.locator fs others g both.1 (pairs_from g stays fs others both.1 parts.0) (λ at. parts.1 (ap gone at ∙ stays))
      ∙ ap (λ x. pairs σ g (x ∷ others)) same

  locators_from : (fs others : List Filing) → labels fs ≡ labels others → Sound σ (labels fs)
      → ((g : ℕ) → g < σ.groups → gone g ≡ false → pairs σ g fs ≡ pairs σ g others) → locators gone fs ≡ locators gone others
  locators_from [] [] e sound h = refl
  locators_from [] (f ∷ others) e sound h = absurd (grind arith)
  locators_from (f ∷ fs) [] e sound h = absurd (grind arith)
  locators_from (f ∷ fs) (o ∷ others) e sound h =
      let both = uncons _ _ _ _ e in
      let same = as_twin f o both.0 in
      let parts = λ (g : ℕ) (lt : g < σ.groups) (stays : gone g ≡ false).
      pairs_parts σ gone f o.locator fs others g (h g lt stays ∙ ap (λ x. pairs σ g (x ∷ others)) (sym same)) in
      locators_join σ gone f o.locator fs others
      (locators_from fs others both.1 sound.1 (λ g lt stays. (parts g lt stays).0))
      (λ stays. (parts f.group sound.0.group stays).1 refl)
      ∙ ap (λ x. locators gone (x ∷ others)) same

-- Equal histories leave equal archives.
module _ {σ : Settings} {s t : State} {fs others : List Filing} {gone gone' : ℕ → Bool} (h : Stands σ fs gone s) (k : Stands σ others gone' t) where
  parts_from : labels fs ≡ labels others → gone ≡ gone' → locators gone fs ≡ locators gone' others → SameParts σ s t
  parts_from filed struck kept = record {
    cells = λ c lt. h.cells c lt ∙ (ap (λ ls. cells_of σ ls c) filed ∙ sym (k.cells c lt));
    groups = λ g lt. h.group g lt ∙ (go g (gone g) refl ∙ (ap (λ r. standing (r g) (pairs σ g others)) struck ∙ sym (k.group g lt)));
  }
    where
      go : (g : ℕ) (b : Bool) → gone g ≡ b → standing b (pairs σ g fs) ≡ standing b (pairs σ g others)
      go g true e = refl
      go g false e = ap live (pairs_from σ gone g e fs others filed (kept ∙ ap (λ r. locators r others) (sym struck)))

-- Equal archives have equal histories.
standing_same : (a b : Bool) (ps qs : List Pair) → standing a ps ≡ standing b qs → (a ≡ b) × (a ≡ false → ps ≡ qs)
standing_same true true ps qs e = (refl, λ never. absurd (true≢false never))
standing_same true false ps qs e = (cc, λ _. cc)
standing_same false true ps qs e = (cc, λ _. cc)
standing_same false false ps qs e = (refl, λ _. cc)

never_retired : {σ : Settings} {s t : State} {events : List Event} → Run σ s events t → (g : ℕ) → σ.groups ≤ g → retired_in events g ≡ false
never_retired {σ} run g past = unturned σ g _ _ _ (turned g run) (λ small _ _. omega arith)

-- Two archives of the same settings.
abbrev ArchivesOver : Type 0
ArchivesOver =
    (σ : Settings) → Lawful σ
    → (s₀ s t₀ t : State) (events others : List Event) → Blank σ s₀ → Run σ s₀ events s → Blank σ t₀ → Run σ t₀ others t
    → any outside events ≡ false → any outside others ≡ false
    → SameArchive σ s t ↔ SameHistory events others

pub equal_archives : ArchivesOver
equal_archives σ lawful s₀ s t₀ t events others new run new' run' inside inside' = (
  λ h. history ((same_parts σ s t).0 h),
  λ h. (same_parts σ s t).1 (parts_from here there h.filed (fun_ext h.retired) h.kept),
)
  where
    here : Stands σ (filings events) (retired_in events) s
    here = stands lawful new run inside

    there : Stands σ (filings others) (retired_in others) t
    there = stands lawful new' run' inside'

    alike : SameParts σ s t → (g : ℕ) → g < σ.groups → standing (retired_in events g) (pairs σ g (filings events)) ≡ standing (retired_in others g) (pairs σ g (filings others))
    alike h g lt = sym (here.group g lt) ∙ (h.groups g lt ∙ there.group g lt)

    struck : SameParts σ s t → (g : ℕ) → (g < σ.groups) ⊎ (σ.groups ≤ g) → retired_in events g ≡ retired_in others g
    struck h g (inl lt) = (standing_same _ _ _ _ (alike h g lt)).0
    struck h g (inr past) = never_retired run g past ∙ sym (never_retired run' g past)

    filed : SameParts σ s t → labels (filings events) ≡ labels (filings others)
    filed h = same_labels lawful _ _ here.sound there.sound (λ c lt. sym (here.cells c lt) ∙ (h.cells c lt ∙ there.cells c lt))

    history : SameParts σ s t → SameHistory events others
    history h =
        let gone = λ (g : ℕ). struck h g (cases_lt g σ.groups) in
        record {
          filed = filed h;
          retired = gone;
          kept = locators_from σ (retired_in events) _ _ (filed h) here.sound (λ g lt stays. (standing_same _ _ _ _ (alike h g lt)).1 stays)
              ∙ ap (λ r. locators r (filings others)) (fun_ext gone);
        }

-- Two searches for one key are equal exactly when nothing that was accepted between them touched what the first one found.
use Rattle.std.proofs.Common.{◌≡◌, ℕ, zero, suc, ◌+◌, ◌<◌, Bool, true, false, cond, eqb, ◌↔◌, List, [], ◌∷◌, sym, refl, ap, ◌∙◌, subst, arith}
use Rattle.law.specs.Archive.{Option, none, some}
use Rattle.std.proofs.lemmas.Bool.{lt-ltb}
use Rattle.law.specs.Archive.{Settings, Lawful, State, Cell, blank, written, Pair, Group, live, retired, Entry, entry_of, if_key, Stop, at_blank, at_entry, at_end, stop_or, probe, walk, stop, Result, KeepFault, NO_SLOT, gives, denies, GROUP, GONE, STRANGER, in_slot, in_group, get, ABSENT, RETIRED, verdict, finding, search_for}
use Rattle.law.specs.History.{Blank, Event, Run}
use Rattle.law.specs.Promise.{Untouched}
use Rattle.law.proofs.Steps.{Landed, landed_stop, Moved, moved, kept_moved, is_live, Turned, turned, answers}

-- A walk that stopped at a blank cell finds it blank still.
abbrev Still : (ℕ → Cell) → Stop → Type 0
Still after (at_blank c p) = after c ≡ blank
Still after (at_entry c p e) = Unit {0}
Still after (at_end p) = Unit {0}

-- The same walk over cells of which those that were written are as they were.
module _ (σ : Settings) (key : List ℕ) (cells after : ℕ → Cell) (kept : (c : ℕ) (b : List ℕ) → cells c ≡ written b → after c ≡ written b) where
  same_probe : (c p : ℕ) (rest rest' : Stop) → (Still after rest → rest' ≡ rest) → (x : Cell) → cells c ≡ x
      → Still after (probe σ key x c p rest) → probe σ key (after c) c p rest' ≡ probe σ key x c p rest
  same_probe c p rest rest' there blank e still = ap (λ x. probe σ key x c p rest') still
  same_probe c p rest rest' there (written b) e still = ap (λ x. probe σ key x c p rest') (kept c b e) ∙ go (if_key key (entry_of σ b)) still
    where
      go : (o : Option Entry) → Still after (stop_or o c p rest) → stop_or o c p rest' ≡ stop_or o c p rest
      go none h = there h
      go (some x) h = refl

  same_walk : (path : List ℕ) (n : ℕ) → Still after (walk σ cells key path n) → walk σ after key path n ≡ walk σ cells key path n
  same_walk [] n still = refl
  same_walk (c ∷ path) n still = same_probe c (n + 1) _ _ (same_walk path (n + 1)) (cells c) refl still

-- A live group never answers GONE.
pub never_gone : (ps : List Pair) (slot c p q : ℕ) → verdict (in_slot ps slot c) p q ≡ RETIRED p q → ⊥
never_gone [] slot c p q e = grind arith
never_gone (x ∷ ps) zero c p q e = go (eqb x.cell c) e
  where
    go : (t : Bool) → verdict (cond t (gives x.locator) (denies (STRANGER c))) p q ≡ RETIRED p q → ⊥
    go true e = grind arith
    go false e = grind arith
never_gone (x ∷ ps) (suc slot) c p q e = never_gone ps slot c p q e

gone_differs : (σ : Settings) (s t : State) (g slot c p q : ℕ) → g < σ.groups → is_live (s.group g) ≡ true → is_live (t.group g) ≡ false
    → verdict (get σ s g slot c) p q ≡ verdict (get σ t g slot c) p q → ⊥
gone_differs σ s t g slot c p q small a b e = go (s.group g) a (t.group g) b (rw (lt-ltb g σ.groups small) at e)
  where
    go : (x : Group) → is_live x ≡ true → (y : Group) → is_live y ≡ false → verdict (in_group x g slot c) p q ≡ verdict (in_group y g slot c) p q → ⊥
    go (live ps) a retired b e = never_gone ps slot c p q e
    go (live ps) a (live qs) b e = grind arith
    go retired a y b e = grind arith

-- A search says ABSENT at a blank cell only.
absent_only : (σ : Settings) (s : State) (w : Stop) (c p : ℕ) → ABSENT c p ≡ finding σ s w → w ≡ at_blank c p
absent_only σ s (at_blank d q) c p e = cc
absent_only σ s (at_entry d q x) c p e = go (get σ s x.group x.slot d) e
  where
    go : (r : Result ℕ KeepFault) → ABSENT c p ≡ verdict r d q → at_entry d q x ≡ at_blank c p
    go (gives l) e = cc
    go (denies (GONE g)) e = cc
    go (denies (GROUP g)) e = cc
    go (denies (STRANGER g)) e = cc
    go (denies (NO_SLOT g)) e = cc
absent_only σ s (at_end q) c p e = cc

pub unmoved : (b : Bool) (x y : Cell) → Moved b x y → (x ≡ blank → (held : List ℕ) → y ≡ written held → ⊥) → b ≡ false
unmoved false x y m never = refl
unmoved true x y m never = absurd (never m.0 m.1.0 m.1.1)

pub unturned : (σ : Settings) (g : ℕ) (b : Bool) (x y : Group) → Turned σ g b x y → (g < σ.groups → is_live x ≡ true → is_live y ≡ false → ⊥) → b ≡ false
unturned σ g false x y m never = refl
unturned σ g true x y m never = absurd (never m.0 m.1 m.2)

module _ {σ : Settings} (lawful : Lawful σ) (key : List ℕ) (ok : σ.admissible key ≡ true) {s t : State} {events : List Event} (run : Run σ s events t) where
  same_stop : (w : Stop) → stop σ s.cells key ≡ w → Still t.cells w → stop σ t.cells key ≡ w
  same_stop w e still =
      same_walk σ key s.cells t.cells (λ c b. kept_moved _ _ _ b (moved lawful c run)) (σ.path key) 0 (subst (Still t.cells) (sym e) still) ∙ e

  forth : (w : Stop) → stop σ s.cells key ≡ w → Landed (λ c. c < σ.total) s.cells w → finding σ s w ≡ finding σ t (stop σ t.cells key) → Untouched w events
  forth (at_blank c p) e land same =
      let there = subst (Landed (λ c. c < σ.total) t.cells) (absent_only σ t _ c p same) (landed_stop lawful t.cells key ok) in
      unmoved _ _ _ (moved lawful c run) (λ _ b h. grind arith)
  forth (at_entry c p x) e land same = (
    unmoved _ _ _ (moved lawful c run) (λ free _ _. grind arith),
    unturned σ x.group _ _ _ (turned x.group run)
        (λ small a b. gone_differs σ s t x.group x.slot c c p small a b (same ∙ ap (finding σ t) (same_stop (at_entry c p x) e tt))),
  )
  forth (at_end p) e land same = tt

  back : (w : Stop) → stop σ s.cells key ≡ w → Landed (λ c. c < σ.total) s.cells w → Untouched w events → finding σ s w ≡ finding σ t (stop σ t.cells key)
  back (at_blank c p) e land un =
      let as_it_was : s.cells c ≡ t.cells c = subst (λ b. Moved b (s.cells c) (t.cells c)) un (moved lawful c run) in
      ap (finding σ t) (sym (same_stop (at_blank c p) e (sym as_it_was ∙ land.1)))
  back (at_entry c p x) e land un =
      ap (λ r. verdict r c p) (sym ((answers lawful x.group x.slot c land.1.0 run land.1.1).1 un.1))
      ∙ ap (finding σ t) (sym (same_stop (at_entry c p x) e tt))
  back (at_end p) e land un = ap (finding σ t) (sym (same_stop (at_end p) e tt))

-- The same of a state and a later one.
abbrev pub SearchesOver : Type 0
SearchesOver =
    (σ : Settings) → Lawful σ
    → (s₀ s₁ s₂ : State) (before between : List Event) → Blank σ s₀ → Run σ s₀ before s₁ → Run σ s₁ between s₂
    → (key : List ℕ) → σ.admissible key ≡ true
    → (search_for σ s₁ key ≡ search_for σ s₂ key) ↔ Untouched (stop σ s₁.cells key) between

pub equal_searches : SearchesOver
equal_searches σ lawful s₀ s t before events new reached run key ok =
    let land = landed_stop lawful s.cells key ok in
    (λ same. forth lawful key ok run _ refl land same, λ un. back lawful key ok run _ refl land un)

-- What one call, and then a whole run, does to a cell and to a group.
use Rattle.std.proofs.Common.{◌≡◌, ℕ, zero, suc, ◌+◌, ◌<◌, Bool, true, false, cond, ◌||◌, eqb, ltb, List, [], ◌∷◌, ◌++◌, sym, refl, ap, ◌∙◌, subst, arith}
use Rattle.entries.specs.Entries.{Fits}
use Rattle.entries.proofs.Codec.{read_back}
use Rattle.law.specs.Archive.{Option, none, some}
use Rattle.std.specs.List.{AllByRecursion}
use Rattle.std.proofs.lemmas.Bool.{cond-true, eqb-true, ne_eqb, or_parts, true≢false}
use Rattle.law.specs.Archive.{Settings, Lawful, State, Cell, blank, written, Pair, Group, live, retired, Entry, entry_bytes, entry_of, if_key, Stop, at_blank, at_entry, at_end, stop_or, probe, walk, stop, denies, GROUP, in_slot, in_group, get, changed}
use Rattle.law.specs.History.{Event, Step, filing, searching, retiring, writing, turning_down, Run, start, next, any, writes_at, retires}

-- Where a walk stopped: which cell that is, and what it holds.
abbrev pub Landed : (ℕ → Type 0) → (ℕ → Cell) → Stop → Type 0
Landed P cells (at_blank c p) = P c × (cells c ≡ blank)
Landed P cells (at_entry c p e) = P c × ((b : List ℕ) × (cells c ≡ written b))
Landed P cells (at_end p) = Unit {0}

module _ (σ : Settings) (key : List ℕ) where
  landed_probe : (P : ℕ → Type 0) (cells : ℕ → Cell) (c p : ℕ) (rest : Stop) → P c → Landed P cells rest
      → (x : Cell) → cells c ≡ x → Landed P cells (probe σ key x c p rest)
  landed_probe P cells c p rest here there blank e = (here, e)
  landed_probe P cells c p rest here there (written b) e = go (if_key key (entry_of σ b))
    where
      go : (o : Option Entry) → Landed P cells (stop_or o c p rest)
      go none = there
      go (some x) = (here, (b, e))

  pub landed : (P : ℕ → Type 0) (cells : ℕ → Cell) (path : List ℕ) (n : ℕ) → AllByRecursion P path → Landed P cells (walk σ cells key path n)
  landed P cells [] n h = tt
  landed P cells (c ∷ path) n h = landed_probe P cells c (n + 1) _ h.0 (landed P cells path (n + 1) h.1) (cells c) refl

pub landed_stop : {σ : Settings} → Lawful σ → (cells : ℕ → Cell) (key : List ℕ) → σ.admissible key ≡ true → Landed (λ c. c < σ.total) cells (stop σ cells key)
landed_stop {σ} lawful cells key ok = landed σ key (λ c. c < σ.total) cells (σ.path key) 0 (lawful.path_within key ok)

pub landed_blank : {σ : Settings} → Lawful σ → (cells : ℕ → Cell) (key : List ℕ) → σ.admissible key ≡ true
    → {c p : ℕ} → stop σ cells key ≡ at_blank c p → (c < σ.total) × (cells c ≡ blank)
landed_blank {σ} lawful cells key ok e = subst (Landed (λ c. c < σ.total) cells) e (landed_stop lawful cells key ok)

-- A test of events, and a relation between the states before and after that holds with the test's answer.
pub over_run : {σ : Settings} (test : Event → Bool) (R : Bool → State → State → Type 0)
    → ((s : State) → R false s s)
    → ((a b : Bool) (s t u : State) → R a s t → R b t u → R (b || a) s u)
    → ((s t : State) (e : Event) → Step σ s e t → R (test e) s t)
    → {s t : State} {events : List Event} → Run σ s events t → R (any test events) s t
over_run test R same more one start = same _
over_run test R same more one (next run step) = more _ _ _ _ _ (over_run test R same more one run) (one _ _ _ step)

-- A value of a changed function: the new one at the place of the change, the old one elsewhere.
pub at_changed : {A : Type 0} (P : Bool → A → Type 0) (f : ℕ → A) (c : ℕ) (x : A) (i : ℕ) → (c ≡ i → P true x) → P false (f i) → P (eqb c i) (changed f c x i)
at_changed P f c x i here there = go (eqb c i) refl
  where
    go : (t : Bool) → eqb c i ≡ t → P t (cond t x (f i))
    go true e = here (eqb-true c i e)
    go false e = there

-- A cell: as it was, or written where it was blank.
abbrev pub Moved : Bool → Cell → Cell → Type 0
Moved false x y = x ≡ y
Moved true x y = (x ≡ blank) × ((b : List ℕ) × (y ≡ written b))

moved_more : (a b : Bool) (x y z : Cell) → Moved a x y → Moved b y z → Moved (b || a) x z
moved_more false false x y z h k = h ∙ k
moved_more false true x y z h k = (h ∙ k.0, k.1)
moved_more true false x y z h k = (h.0, (h.1.0, sym k ∙ h.1.1))
moved_more true true x y z h k = absurd (grind arith)

moved_changed : (cells : ℕ → Cell) (c : ℕ) (b : List ℕ) → cells c ≡ blank → (i : ℕ) → Moved (eqb c i) (cells i) (changed cells c (written b) i)
moved_changed cells c b h i = at_changed (λ t. Moved t (cells i)) cells c (written b) i (λ e. (ap cells (sym e) ∙ h, (b, refl))) refl

module _ {σ : Settings} (lawful : Lawful σ) where
  moved_step : (i : ℕ) {s t : State} {e : Event} → Step σ s e t → Moved (writes_at i e) (s.cells i) (t.cells i)
  moved_step i (filing {s = s} {key = key} {cell = c} ok g l w) = moved_changed s.cells c _ (landed_blank lawful s.cells key ok w).1 i
  moved_step i (searching ok) = refl
  moved_step i (retiring g l) = refl
  moved_step i (writing {s = s} {cell = c} {bytes = b} n h) = moved_changed s.cells c b h i
  moved_step i turning_down = refl

  pub moved : (i : ℕ) {s t : State} {events : List Event} → Run σ s events t → Moved (any (writes_at i) events) (s.cells i) (t.cells i)
  moved i = over_run (writes_at i) (λ b s t. Moved b (s.cells i) (t.cells i)) (λ s. refl) (λ a b s t u. moved_more a b _ _ _) (λ s t e. moved_step i)

pub kept_moved : (t : Bool) (x y : Cell) (b : List ℕ) → Moved t x y → x ≡ written b → y ≡ written b
kept_moved false x y b h e = sym h ∙ e
kept_moved true x y b h e = cc

-- A group: live or retired as it was, or retired where it was live.
abbrev pub is_live : Group → Bool
is_live (live ps) = true
is_live retired = false

abbrev pub Turned : Settings → ℕ → Bool → Group → Group → Type 0
Turned σ g false x y = is_live x ≡ is_live y
Turned σ g true x y = (g < σ.groups) × (is_live x ≡ true) × (is_live y ≡ false)

turned_more : (σ : Settings) (g : ℕ) (a b : Bool) (x y z : Group) → Turned σ g a x y → Turned σ g b y z → Turned σ g (b || a) x z
turned_more σ g false false x y z h k = h ∙ k
turned_more σ g false true x y z h k = (k.0, h ∙ k.1, k.2)
turned_more σ g true false x y z h k = (h.0, h.1, sym k ∙ h.2)
turned_more σ g true true x y z h k = absurd (grind arith)

turned_step : {σ : Settings} (i : ℕ) {s t : State} {e : Event} → Step σ s e t → Turned σ i (retires i e) (s.group i) (t.group i)
turned_step i (filing {s = s} {group = g} ok h l w) =
    at_changed (λ t x. is_live (s.group i) ≡ is_live x) s.group g _ i (λ e. ap is_live (ap s.group (sym e) ∙ l)) refl
turned_step i (searching ok) = refl
turned_step {σ} i (retiring {s = s} {group = g} h l) =
    at_changed (λ t. Turned σ i t (s.group i)) s.group g retired i (λ e. (subst (λ k. k < σ.groups) e h, ap is_live (ap s.group (sym e) ∙ l), refl)) refl
turned_step i (writing n h) = refl
turned_step i turning_down = refl

pub turned : {σ : Settings} (g : ℕ) {s t : State} {events : List Event} → Run σ s events t → Turned σ g (any (retires g) events) (s.group g) (t.group g)
turned {σ} g = over_run (retires g) (λ b s t. Turned σ g b (s.group g) (t.group g)) (λ s. refl) (λ a b s t u. turned_more σ g a b _ _ _) (λ s t e. turned_step g)

-- What get answers of a written cell, while its group is not retired: a pair put later is for a cell that was blank.
in_slot_push : (ps : List Pair) (p : Pair) (slot cell : ℕ) → (p.cell ≡ cell → ⊥) → in_slot (ps ++ p ∷ []) slot cell ≡ in_slot ps slot cell
in_slot_push [] p zero cell ne = rw (ne_eqb p.cell cell ne)
in_slot_push [] p (suc slot) cell ne = refl
in_slot_push (q ∷ ps) p zero cell ne = refl
in_slot_push (q ∷ ps) p (suc slot) cell ne = in_slot_push ps p slot cell ne

-- Of a written cell and a group, over calls that retire the group or not: the cell stays, and get's answer while the group is not retired.
abbrev pub Answers : Settings → ℕ → ℕ → ℕ → List ℕ → Bool → State → State → Type 0
Answers σ g slot c b t s s' = s.cells c ≡ written b → (s'.cells c ≡ written b) × (t ≡ false → get σ s' g slot c ≡ get σ s g slot c)

in_changed : (s : State) (g slot c : ℕ) (group cell locator : ℕ) (ps : List Pair) (b : List ℕ) → s.group group ≡ live ps → s.cells cell ≡ blank → s.cells c ≡ written b
    → in_group (changed s.group group (live (ps ++ record { cell = cell; locator = locator } ∷ [])) g) g slot c ≡ in_group (s.group g) g slot c
in_changed s g slot c group cell locator ps b l free held =
    at_changed (λ t x. in_group x g slot c ≡ in_group (s.group g) g slot c) s.group group _ g
    (λ e. in_slot_push ps _ slot c (λ same. grind arith) ∙ ap (λ x. in_group x g slot c) (sym l ∙ ap s.group e)) refl

answers_more : (σ : Settings) (g slot c : ℕ) (held : List ℕ) (a b : Bool) (s t u : State)
    → Answers σ g slot c held a s t → Answers σ g slot c held b t u → Answers σ g slot c held (b || a) s u
answers_more σ g slot c held a b s t u h k e =
    ((k (h e).0).0, λ no. (k (h e).0).1 (or_parts b a no).0 ∙ (h e).1 (or_parts b a no).1)

module _ {σ : Settings} (lawful : Lawful σ) (g slot c : ℕ) (held : List ℕ) where
  answers_step : {s t : State} {e : Event} → Step σ s e t → Answers σ g slot c held (retires g e) s t
  answers_step (filing {s = s} {key = key} {group = group} {locator = locator} {cell = cell} {pairs = ps} ok h l w) e =
      let free : s.cells cell ≡ blank = (landed_blank lawful s.cells key ok w).1 in (
        kept_moved _ _ _ held (moved_changed s.cells cell _ free c) e,
        λ no. ap (λ x. cond (ltb g σ.groups) x (denies (GROUP g))) (in_changed s g slot c group cell locator ps held l free e),
      )
  answers_step (searching ok) e = (e, λ no. refl)
  answers_step (retiring {s = s} {group = group} h l) e = (
    e,
    at_changed (λ t x. t ≡ false → cond (ltb g σ.groups) (in_group x g slot c) (denies (GROUP g)) ≡ get σ s g slot c) s.group group retired g
        (λ _ no. absurd (true≢false no)) (λ _. refl),
  )
  answers_step (writing {s = s} {cell = cell} {bytes = b} n free) e = (kept_moved _ _ _ held (moved_changed s.cells cell b free c) e, λ no. refl)
  answers_step turning_down e = (e, λ no. refl)

  pub answers : {s t : State} {events : List Event} → Run σ s events t → Answers σ g slot c held (any (retires g) events) s t
  answers = over_run (retires g) (Answers σ g slot c held) (λ s e. (e, λ no. refl)) (answers_more σ g slot c held) (λ s t e. answers_step)

-- An entry with an admissible key is read back from its bytes.
pub entry_back : (σ : Settings) (e : Entry) → Fits e → σ.admissible e.key ≡ true → entry_of σ (entry_bytes σ e) ≡ some e
entry_back σ e fits ok = read_back σ.kind σ.admissible e fits ∙ cond-true _ _ _ ok

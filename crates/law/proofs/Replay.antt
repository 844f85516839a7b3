-- The archive that accepted filings leave, computed from their keys, groups and locators alone.
use Rattle.std.proofs.Common.{◌≡◌, ℕ, suc, ◌+◌, ◌<◌, Bool, true, false, cond, ◌||◌, eqb, List, [], ◌∷◌, ◌++◌, map, length, sym, refl, ap, ◌∙◌, subst, arith}
use Rattle.std.specs.List.{AllByRecursion}
use Rattle.std.proofs.ByRecursion.{All-weaker}
use Rattle.std.proofs.lemmas.List.{length_push}
use Rattle.std.proofs.lemmas.Bool.{or_parts, true≢false}
use Rattle.law.specs.Archive.{Settings, Lawful, State, Cell, blank, written, Pair, Group, live, retired, Entry, entry_bytes, Stop, at_blank, at_entry, at_end, walk, stop, changed}
use Rattle.law.specs.History.{Event, after_filing, Blank, Step, filing, searching, retiring, writing, turning_down, Run, start, next, any, outside, Filing, filings}
use Rattle.law.specs.Promise.{by_key_and_group, retired_in}
use Rattle.law.proofs.Steps.{landed_blank, at_changed}

abbrev pub labels : List Filing → List (List ℕ × ℕ)
labels = map by_key_and_group

-- How many filings are in a group.
abbrev pub tally : ℕ → List (List ℕ × ℕ) → ℕ
tally g [] = 0
tally g (x ∷ ls) = cond (eqb x.1 g) (suc (tally g ls)) (tally g ls)

abbrev pub landing : Stop → ℕ
landing (at_blank c p) = c
landing (at_entry c p e) = c
landing (at_end p) = 0

-- The entry of a filing x after the filings ls.
abbrev pub entry_after : List (List ℕ × ℕ) → List ℕ × ℕ → Entry
entry_after ls x = record { key = x.0; group = x.1; slot = tally x.1 ls; filing = length ls + 1 }

unfoldable pub cells_of : Settings → List (List ℕ × ℕ) → ℕ → Cell
cells_of σ [] c = blank
cells_of σ (x ∷ ls) c = changed (cells_of σ ls) (landing (stop σ (cells_of σ ls) x.0)) (written (entry_bytes σ (entry_after ls x))) c

abbrev pub place : Settings → List (List ℕ × ℕ) → List ℕ → ℕ
place σ ls key = landing (stop σ (cells_of σ ls) key)

-- The pair of a filing f after the filings fs.
abbrev pub pair_after : Settings → List Filing → Filing → Pair
pair_after σ fs f = record { cell = place σ (labels fs) f.key; locator = f.locator }

-- The pairs of a group's filings, in order.
abbrev pub pairs : Settings → ℕ → List Filing → List Pair
pairs σ g [] = []
pairs σ g (f ∷ fs) = cond (eqb f.group g) (pairs σ g fs ++ pair_after σ fs f ∷ []) (pairs σ g fs)

abbrev pub standing : Bool → List Pair → Group
standing true ps = retired
standing false ps = live ps

-- Each filing was of an admissible key in a group that there is, and took a blank cell below the total.
pub record Took (σ : Settings) (ls : List (List ℕ × ℕ)) (x : List ℕ × ℕ) : Type 0 where
  pub admissible : σ.admissible x.0 ≡ true
  pub group : x.1 < σ.groups
  pub within : place σ ls x.0 < σ.total
  pub free : cells_of σ ls (place σ ls x.0) ≡ blank

abbrev pub Sound : Settings → List (List ℕ × ℕ) → Type 0
Sound σ [] = Unit {0}
Sound σ (x ∷ ls) = Took σ ls x × Sound σ ls

-- A state is what these filings and retirements leave.
pub record Stands (σ : Settings) (fs : List Filing) (gone : ℕ → Bool) (s : State) : Type 0 where
  pub cells : (c : ℕ) → c < σ.total → s.cells c ≡ cells_of σ (labels fs) c
  pub group : (g : ℕ) → g < σ.groups → s.group g ≡ standing (gone g) (pairs σ g fs)
  pub count : s.count ≡ length (labels fs)
  pub sound : Sound σ (labels fs)

-- Walks over cells that agree on the path are equal.
same_over : (σ : Settings) (key : List ℕ) (cells others : ℕ → Cell) (path : List ℕ) (n : ℕ) → AllByRecursion (λ c. cells c ≡ others c) path → walk σ cells key path n ≡ walk σ others key path n
same_over σ key cells others [] n h = refl
same_over σ key cells others (c ∷ path) n h = let rest = same_over σ key cells others path (n + 1) h.1 in let here = h.0 in cc

length_pairs : (σ : Settings) (g : ℕ) (fs : List Filing) → length (pairs σ g fs) ≡ tally g (labels fs)
length_pairs σ g [] = refl
length_pairs σ g (f ∷ fs) = go (length_pairs σ g fs) (eqb f.group g)
  where
    go : length (pairs σ g fs) ≡ tally g (labels fs) → (t : Bool) → length (cond t (pairs σ g fs ++ pair_after σ fs f ∷ []) (pairs σ g fs)) ≡ cond t (suc (tally g (labels fs))) (tally g (labels fs))
    go ih true = length_push (pairs σ g fs) _ ∙ omega (arith, ih)
    go ih false = ih

-- A live group with one pair more.
standing_push : (ps : List Pair) (p : Pair) (t : Bool) (qs : List Pair) → live ps ≡ standing t qs → live (ps ++ p ∷ []) ≡ standing t (qs ++ p ∷ [])
standing_push ps p true qs e = absurd (grind arith)
standing_push ps p false qs e = let same : ps ≡ qs = cc in cc

standing_live : (ps : List Pair) (t : Bool) (qs : List Pair) → live ps ≡ standing t qs → ps ≡ qs
standing_live ps true qs e = cc
standing_live ps false qs e = cc

module _ {σ : Settings} (lawful : Lawful σ) where
  -- where the next filing of a key stands
  agrees : (fs : List Filing) (gone : ℕ → Bool) (s : State) → Stands σ fs gone s → (key : List ℕ) (cell probes : ℕ) → σ.admissible key ≡ true → stop σ s.cells key ≡ at_blank cell probes → stop σ (cells_of σ (labels fs)) key ≡ at_blank cell probes
  agrees fs gone s h key cell probes ok w =
      sym (same_over σ key s.cells (cells_of σ (labels fs)) (σ.path key) 0 (All-weaker _ _ h.cells _ (lawful.path_within key ok))) ∙ w

  pub filed_place : (fs : List Filing) (gone : ℕ → Bool) (s : State) → Stands σ fs gone s → (key : List ℕ) (cell probes : ℕ) → σ.admissible key ≡ true → stop σ s.cells key ≡ at_blank cell probes → place σ (labels fs) key ≡ cell
  filed_place fs gone s h key cell probes ok w = ap landing (agrees fs gone s h key cell probes ok w)

  stands_filing : (fs : List Filing) (gone : ℕ → Bool) (s : State) → Stands σ fs gone s
      → (key : List ℕ) (group locator cell probes : ℕ) (ps : List Pair)
      → σ.admissible key ≡ true → group < σ.groups → s.group group ≡ live ps → stop σ s.cells key ≡ at_blank cell probes
      → Stands σ (record { key = key; group = group; locator = locator } ∷ fs) gone (after_filing σ s key group locator cell ps)
  unfolding cells_of
  stands_filing fs gone s h key group locator cell probes ps ok small l w =
      let ls = labels fs in
      let agree = agrees fs gone s h key cell probes ok w in
      let here : place σ ls key ≡ cell = ap landing agree in
      let grp : live ps ≡ standing (gone group) (pairs σ group fs) = sym l ∙ h.group group small in
      let slots : length ps ≡ tally group ls = ap length (standing_live ps (gone group) _ grp) ∙ length_pairs σ group fs in
      let land = landed_blank lawful (cells_of σ ls) key ok agree in
      let bytes : entry_bytes σ (record { key = key; group = group; slot = length ps; filing = s.count + 1 }) ≡ entry_bytes σ (entry_after ls (key, group)) =
      ap (entry_bytes σ) (λ i. record { key = key; group = group; slot = slots i; filing = h.count i + 1 }) in
      record {
        cells = λ c lt. λ i. cond (eqb (sym here i) c) (written (bytes i)) (h.cells c lt i);
        group = λ g lt. at_changed (λ t x. x ≡ standing (gone g) (cond t (pairs σ g fs ++ record { cell = place σ ls key; locator = locator } ∷ []) (pairs σ g fs)))
            s.group group _ g
            (λ e. standing_push ps _ (gone g) _ (subst (λ k. live ps ≡ standing (gone k) (pairs σ k fs)) e grp)
            ∙ ap (λ c. standing (gone g) (pairs σ g fs ++ record { cell = c; locator = locator } ∷ [])) (sym here))
            (h.group g lt);
        count = omega (arith, h.count);
        sound = (record { admissible = ok; group = small; within = subst (λ c. c < σ.total) (sym here) land.0; free = subst (λ c. cells_of σ ls c ≡ blank) (sym here) land.1 }, h.sound);
      }

  stands_step : (events : List Event) {s t : State} {e : Event} → Step σ s e t → outside e ≡ false → Stands σ (filings events) (retired_in events) s
      → Stands σ (filings (e ∷ events)) (retired_in (e ∷ events)) t
  stands_step events (filing {s = s} {key = key} {group = g} {locator = l} {cell = c} {probes = p} {pairs = ps} ok small live-one w) inside h =
      stands_filing (filings events) (retired_in events) s h key g l c p ps ok small live-one w
  stands_step events (searching ok) inside h = h
  stands_step events (retiring {s = s} {group = group} small l) inside h = record {
    cells = h.cells;
    group = λ g lt. at_changed (λ t x. x ≡ standing (t || retired_in events g) (pairs σ g (filings events))) s.group group retired g (λ _. refl) (h.group g lt);
    count = h.count;
    sound = h.sound;
  }
  stands_step events (writing n b) inside h = absurd (true≢false inside)
  stands_step events turning_down inside h = h

  pub stands : {s t : State} {events : List Event} → Blank σ s → Run σ s events t → any outside events ≡ false → Stands σ (filings events) (retired_in events) t
  unfolding cells_of
  stands new start inside = record { cells = new.cells; group = new.group; count = new.count; sound = tt }
  stands new (next {events = events} {e = e} run step) inside =
      let parts = or_parts (outside e) (any outside events) inside in
      stands_step events step parts.0 (stands new run parts.1)

-- A filed sheet is found, and what was found stays found.
use Rattle.std.proofs.Common.{◌≡◌, ℕ, ◌+◌, ◌<◌, true, false, eqb, List, [], ◌∷◌, ◌++◌, length, sym, refl, ap, ◌∙◌, subst, arith}
use Rattle.std.specs.Str.{bytes_eq}
use Rattle.std.proofs.lemmas.Bool.{and_from, cond-false, cond-true, eq-eqb, lt-ltb, ne_eqb}
use Rattle.entries.specs.Entries.{Fits}
use Rattle.law.specs.Archive.{Cell, Entry, FOUND, Lawful, Option, Pair, Settings, State, Stop, at_blank, at_entry, blank, changed, entry_bytes, entry_of, finding, get, gives, if_key, in_group, in_slot, none, probe, search_for, some, stop, stop_or, verdict, walk, written}
use Rattle.law.specs.History.{Blank, Event, Receipt, Run, Step, after_filing, any, filed, filing, next, retires, retiring, searched, searching, struck, turned_down, turning_down, writes_at, writing, wrote}
use Rattle.law.specs.Promise.{FiledIsFound, FoundStaysFound, Untouched, slots}
use Rattle.law.proofs.Ends.{cut}
use Rattle.law.proofs.Searches.{equal_searches, unmoved}
use Rattle.law.proofs.Small.{Small, small}
use Rattle.law.proofs.Steps.{Landed, entry_back, landed_blank, landed_stop, moved}

-- The walk that stopped at a blank cell stops there at the entry that is written.
module _ (σ : Settings) (key : List ℕ) (cells : ℕ → Cell) (c p : ℕ) (b : List ℕ) (e : Entry) (free : cells c ≡ blank) (here : if_key key (entry_of σ b) ≡ some e) where
  probe_filed : (d n : ℕ) (rest rest' : Stop) → (rest ≡ at_blank c p → rest' ≡ at_entry c p e) → (x : Cell) → cells d ≡ x → probe σ key x d n rest ≡ at_blank c p → probe σ key (changed cells c (written b) d) d n rest' ≡ at_entry c p e
  probe_filed d n rest rest' later blank is stops =
      let at : d ≡ c = cc in
      let probes : n ≡ p = cc in
      ap (λ x. probe σ key x d n rest') (cond-true _ _ _ (eq-eqb c d (sym at)))
      ∙ ap (λ o. stop_or o d n rest') here
      ∙ (λ i. at_entry (at i) (probes i) e)
  probe_filed d n rest rest' later (written x) is stops =
      let apart : c ≡ d → ⊥ = λ z. (let clash : blank ≡ written x = sym free ∙ ap cells z ∙ is in let w : ◌≡◌ {A = ℕ} 0 1 = cc in omega arith) in
      ap (λ y. probe σ key y d n rest') (cond-false _ _ _ (ne_eqb c d apart) ∙ is) ∙ go (if_key key (entry_of σ x)) stops
    where
      go : (o : Option Entry) → stop_or o d n rest ≡ at_blank c p → stop_or o d n rest' ≡ at_entry c p e
      go none z = later z
      go (some y) z = cc

  walk_filed : (path : List ℕ) (n : ℕ) → walk σ cells key path n ≡ at_blank c p → walk σ (changed cells c (written b)) key path n ≡ at_entry c p e
  walk_filed [] n stops = cc
  walk_filed (d ∷ path) n stops = probe_filed d (n + 1) _ _ (walk_filed path (n + 1)) (cells d) refl stops

in_slot_new : (pairs : List Pair) (p : Pair) → in_slot (pairs ++ p ∷ []) (length pairs) p.cell ≡ gives p.locator
in_slot_new [] p = cond-true _ _ _ (eq-eqb p.cell p.cell refl)
in_slot_new (q ∷ pairs) p = in_slot_new pairs p

-- A search at an entry answers the same, as long as the group that the entry names is not retired: its cell takes no write.
pub found_stays : FoundStaysFound
found_stays σ lawful s₀ s t before since key cell probes locator e new run later ok here found still =
    let land = subst (Landed (λ c. c < σ.total) s.cells) here (landed_stop lawful s.cells key ok) in
    let unwritten : any (writes_at cell) since ≡ false =
    unmoved _ _ _ (moved lawful cell later) (λ free _ _. let clash : blank ≡ written land.1.0 = sym free ∙ land.1.1 in let z : ◌≡◌ {A = ℕ} 0 1 = cc in omega arith) in
    let both = equal_searches σ lawful s₀ s t before since new run later key ok in
    sym (both.1 (subst (λ w. Untouched w since) (sym here) (unwritten, still))) ∙ found

-- What an accepted filing leaves in the state after it.
record Filed (σ : Settings) (m : State) (key : List ℕ) (group locator : ℕ) (r : Receipt) : Type 0 where
  admissible : σ.admissible key ≡ true
  entry : Entry
  names : entry.group ≡ group
  stops : stop σ m.cells key ≡ at_entry r.cell r.probes entry
  found : search_for σ m key ≡ FOUND locator r.cell r.probes

abbrev Leaves : Settings → State → Event → Type 0
Leaves σ m (filed key group locator r) = Filed σ m key group locator r
Leaves σ m (searched key v) = Unit {0}
Leaves σ m (struck group n) = Unit {0}
Leaves σ m (wrote c b) = Unit {0}
Leaves σ m (turned_down call) = Unit {0}

same_key : (key : List ℕ) → bytes_eq key key ≡ true
same_key [] = refl
same_key (x ∷ xs) = and_from (eqb x x) _ (eq-eqb x x refl) (same_key xs)

module _ {σ : Settings} (lawful : Lawful σ) where
  leaves_step : {s m : State} {e : Event} → Small σ s → Step σ s e m → Leaves σ m e
  leaves_step few (filing {s = s} {key = key} {group = g} {locator = l} {cell = c} {probes = p} {pairs = ps} ok lt there w) =
      let e : Entry = record { key = key; group = g; slot = length ps; filing = s.count + 1 } in
      let m = after_filing σ s key g l c ps in
      let free = landed_blank lawful s.cells key ok w in
      let fits : Fits e =
      record {
        key = lawful.key_length key ok;
        group = omega (arith, lawful.groups_limit);
        slot = omega (arith, ap slots there, few.groups g lt, few.cells, lawful.total_limit);
        filing = omega (arith, few.cells, lawful.total_limit);
      } in
      let back : if_key key (entry_of σ (entry_bytes σ e)) ≡ some e = ap (if_key key) (entry_back σ e fits ok) ∙ cond-true _ _ _ (same_key key) in
      let stops = walk_filed σ key s.cells c p (entry_bytes σ e) e free.1 back (σ.path key) 0 w in
      let got : get σ m g (length ps) c ≡ gives l =
      cond-true _ _ _ (lt-ltb g σ.groups lt)
      ∙ ap (λ o. in_group o g (length ps) c) (cond-true _ _ _ (eq-eqb g g refl))
      ∙ in_slot_new ps (record { cell = c; locator = l }) in
      record { admissible = ok; entry = e; names = refl; stops = stops; found = ap (finding σ m) stops ∙ ap (λ r. verdict r c p) got }
  leaves_step few (searching ok) = tt
  leaves_step few (retiring lt l) = tt
  leaves_step few (writing n b) = tt
  leaves_step few turning_down = tt

  latest_leaves : {s₀ m : State} {e : Event} {before : List Event} → Blank σ s₀ → Run σ s₀ (e ∷ before) m → Leaves σ m e
  latest_leaves new (next run step) = leaves_step (small lawful new run) step

pub filed_is_found : FiledIsFound
filed_is_found σ lawful s₀ t before since key group locator r new run still =
    let parts = cut since run in
    let left = latest_leaves lawful new parts.1.0 in
    found_stays σ lawful s₀ parts.0 t (filed key group locator r ∷ before) since key r.cell r.probes locator left.entry new parts.1.0 parts.1.1 left.admissible left.stops left.found
    (subst (λ g. any (retires g) since ≡ false) (sym left.names) still)

-- A run ends in one state, may be cut anywhere, and its searches are those of the states that they met.
use Rattle.std.proofs.Common.{◌≡◌, ℕ, ◌+◌, true, List, [], ◌∷◌, ◌++◌, length, sym, refl, ap, ◌∙◌, subst}
use Rattle.keeps.specs.Groups.{with_pair}
use Rattle.law.specs.Archive.{Settings, State, Verdict, written, entry_bytes, changed, search_for}
use Rattle.law.specs.History.{Event, filed, searched, struck, wrote, turned_down, Step, filing, searching, retiring, writing, turning_down, Run, start, next, after}

-- The state that events leave.
abbrev left : Settings → State → List Event → State
left τ s [] = s
left τ s (e ∷ events) = after τ (left τ s events) e

abbrev Met : Settings → State → State → Event → Type 0
Met τ s t (searched key v) = (τ.admissible key ≡ true) × (v ≡ search_for τ s key) × (t ≡ s)
Met τ s t (filed key g l r) = Unit {0}
Met τ s t (struck g n) = Unit {0}
Met τ s t (wrote c b) = Unit {0}
Met τ s t (turned_down call) = Unit {0}

module _ {σ : Settings} where
  pub step_after : {s t : State} {e : Event} → Step σ s e t → t ≡ after σ s e
  step_after (filing {s = s} {key = key} {group = g} {locator = l} {cell = c} {pairs = ps} ok lt there w) =
      λ i. record {
        cells = changed s.cells c (written (entry_bytes σ (record { key = key; group = g; slot = length ps; filing = s.count + 1 })));
        group = changed s.group g (with_pair (sym there i) (record { cell = c; locator = l }));
        count = s.count + 1;
      }
  step_after (searching ok) = refl
  step_after (retiring lt l) = refl
  step_after (writing n free) = refl
  step_after turning_down = refl

  ends : {s t : State} {events : List Event} → Run σ s events t → t ≡ left σ s events
  ends start = refl
  ends (next {e = e} run step) = step_after step ∙ ap (λ x. after σ x e) (ends run)

  pub one_end : {s t u : State} {events : List Event} → Run σ s events t → Run σ s events u → t ≡ u
  one_end run other = ends run ∙ sym (ends other)

  -- A run cut in two.
  pub cut : (later : List Event) {earlier : List Event} {s t : State} → Run σ s (later ++ earlier) t → (m : State) × (Run σ s earlier m × Run σ m later t)
  cut [] {t = t} run = (t, (run, start))
  cut (e ∷ later) (next run step) = let parts = cut later run in (parts.0, (parts.1.0, next parts.1.1 step))

  met_step : {s t : State} {e : Event} → Step σ s e t → Met σ s t e
  met_step (filing ok lt there w) = tt
  met_step (searching ok) = (ok, refl, refl)
  met_step (retiring lt l) = tt
  met_step (writing n free) = tt
  met_step turning_down = tt

  -- What a search that stands latest in a run met.
  pub latest_search : {key : List ℕ} {v : Verdict} {events : List Event} {s t : State} → Run σ s (searched key v ∷ events) t
      → Run σ s events t × ((σ.admissible key ≡ true) × (v ≡ search_for σ t key))
  latest_search {key} {v} {events} {s} (next run step) =
      let m = met_step step in
      (subst (Run σ s events) (sym m.2) run, (m.0, m.1 ∙ ap (λ x. search_for σ x key) (sym m.2)))

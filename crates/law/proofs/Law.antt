-- The law on a call, from its rule.
use Rattle.std.proofs.Common.{◌≡◌, ◌↔◌, List, ◌∷◌, sym, ap, ◌∙◌, subst}
use mathlib.Core.Path.{fun_ext}
use Rattle.law.specs.Archive.{Settings, Lawful, State, stop, search_for}
use Rattle.law.specs.History.{Call, Event, Blank, Step, Run, next, after}
use Rattle.law.specs.Promise.{ArchivesFrom, EqualArchives, EqualKeeps, EqualSearches, EqualSettings, KeepsFrom, Law, SearchesIn, Untouched}
use Rattle.law.specs.Rules.{Room, answer, event}
use Rattle.law.proofs.Searches.{equal_searches}
use Rattle.law.proofs.Archives.{equal_archives}
use Rattle.law.proofs.Keeps.{equal_keeps}
use Rattle.law.proofs.Small.{small}
use Rattle.law.proofs.Rules.{steps_on}
use Rattle.law.proofs.Ends.{one_end, cut, latest_search}

module _ {σ : Settings} (lawful : Lawful σ) where
  pub searches_in : {s₀ s : State} {events : List Event} → Blank σ s₀ → Run σ s₀ events s → SearchesIn σ s₀ events
  searches_in {s₀} {s} new run later between before key first second e m reached =
      let outer = cut later (subst (λ es. Run σ s₀ es s) e run) in
      let last = latest_search outer.1.0 in
      let inner = cut between last.0 in
      let one = latest_search inner.1.0 in
      let here : inner.0 ≡ m = one_end one.0 reached in
      let both = equal_searches σ lawful s₀ inner.0 outer.0 before between new one.0 inner.1.1 key one.1.0 in
      let there = subst (λ x. (search_for σ x key ≡ search_for σ outer.0 key) ↔ Untouched (stop σ x.cells key) between) here both in
      let a : first ≡ search_for σ m key = one.1.1 ∙ ap (λ x. search_for σ x key) here in
      let b : second ≡ search_for σ outer.0 key = last.1.1 in
      (λ same. there.0 (sym a ∙ (same ∙ b)), λ un. a ∙ (there.1 un ∙ sym b))

  same_settings : (τ : Settings) → EqualSettings σ τ → τ ≡ σ
  same_settings τ equal =
      λ i. record {
        kind = sym equal.kind i;
        admissible = sym (fun_ext equal.admissible) i;
        path = sym (fun_ext equal.path) i;
        total = sym equal.total i;
        groups = sym equal.groups i;
      }

  pub archives_from : {s₀ s : State} {events : List Event} → Blank σ s₀ → Run σ s₀ events s → ArchivesFrom σ events s
  archives_from {s₀} {s} {events} new run inside τ equal t₀ t others new' run' inside' =
      let same = same_settings τ equal in
      equal_archives σ lawful s₀ s t₀ t events others new run (subst (λ x. Blank x t₀) same new') (subst (λ x. Run x t₀ others t) same run') inside inside'

  pub keeps_from : {s₀ s : State} {events : List Event} → Blank σ s₀ → Run σ s₀ events s → KeepsFrom σ events
  keeps_from {s₀} {s} {events} new run inside τ equal t₀ t others new' run' inside' =
      let same = same_settings τ equal in
      equal_keeps σ lawful s₀ s t₀ t events others new run (subst (λ x. Blank x t₀) same new') (subst (λ x. Run x t₀ others t) same run') inside inside'

  pub law_on : (room : Room) (s t : State) (call : Call) → t ≡ after σ s (event call (answer σ room s call)) → Law σ s (event call (answer σ room s call)) t
  law_on room s t call e = record {
    goes_on = on;
    searches = λ s₀ events new run. searches_in new (on s₀ events new run);
    archives = λ s₀ events new run. archives_from new (on s₀ events new run);
    keeps = λ s₀ events new run. keeps_from new (on s₀ events new run);
  }
    where
      on : (s₀ : State) (events : List Event) → Blank σ s₀ → Run σ s₀ events s → Run σ s₀ (event call (answer σ room s call) ∷ events) t
      on s₀ events new run = next run (subst (Step σ s (event call (answer σ room s call))) (sym e) (steps_on lawful room s (small lawful new run) call))

pub searches_law : EqualSearches
searches_law σ lawful s₀ s events new run = searches_in lawful new run

pub archives_law : EqualArchives
archives_law σ lawful s₀ s events new run = archives_from lawful new run

pub keeps_law : EqualKeeps
keeps_law σ lawful s₀ s events new run = keeps_from lawful new run

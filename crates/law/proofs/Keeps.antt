-- The puts of a history, and that they are alike where histories agree.
use Rattle.std.proofs.Common.{◌≡◌, ℕ, Bool, true, false, cond, List, [], ◌∷◌, ◌++◌, sym, refl, ap, ◌∙◌, arith}
use mathlib.Core.Path.{fun_ext}
use Rattle.std.proofs.lemmas.List.{map-append}
use Rattle.std.proofs.lemmas.Bool.{or_parts, true≢false}
use Rattle.keeps.specs.History.{Alike, Forgets, Put, erased}
use Rattle.keeps.proofs.Traces.{drawn_alike}
use Rattle.law.specs.Archive.{Lawful, Settings, State}
use Rattle.law.specs.History.{Blank, Event, Filing, Run, Step, any, filing, filings, locators, next, outside, puts, retiring, searching, start, turning_down, writing}
use Rattle.law.specs.Promise.{SameHistory, retired_in}
use Rattle.law.proofs.Archives.{as_twin, locators_parts, uncons}
use Rattle.law.proofs.Replay.{Stands, filed_place, labels, place, stands}

-- The put of a filing f after the filings fs, and the puts of filings, the earliest first.
abbrev put_after : Settings → List Filing → Filing → Put
put_after σ fs f = record { group = f.group; cell = place σ (labels fs) f.key; locator = f.locator }

abbrev puts_from : Settings → List Filing → List Put
puts_from σ [] = []
puts_from σ (f ∷ fs) = puts_from σ fs ++ (put_after σ fs f ∷ [])

module _ {σ : Settings} (lawful : Lawful σ) where
  put_step : (events : List Event) {s t : State} {e : Event} → Step σ s e t → outside e ≡ false → Stands σ (filings events) (retired_in events) s → puts events ≡ puts_from σ (filings events) → puts (e ∷ events) ≡ puts_from σ (filings (e ∷ events))
  put_step events (filing {s = s} {key = key} {group = g} {locator = l} {cell = c} {probes = p} ok small live-one w) inside h earlier =
      let here = filed_place lawful (filings events) (retired_in events) s h key c p ok w in
      λ i. earlier i ++ (record { group = g; cell = sym here i; locator = l } ∷ [])
  put_step events (searching ok) inside h earlier = earlier
  put_step events (retiring small l) inside h earlier = earlier
  put_step events (writing n b) inside h earlier = absurd (true≢false inside)
  put_step events turning_down inside h earlier = earlier

  puts_are : {s t : State} {events : List Event} → Blank σ s → Run σ s events t → any outside events ≡ false → puts events ≡ puts_from σ (filings events)
  puts_are new start inside = refl
  puts_are new (next {events = events} {e = e} run step) inside =
      let parts = or_parts (outside e) (any outside events) inside in
      put_step events step parts.0 (stands lawful new run parts.1) (puts_are new run parts.1)

module _ (σ : Settings) (gone : ℕ → Bool) where
  same_put : (f : Filing) (l : ℕ) (fs others : List Filing) → labels fs ≡ labels others → (gone f.group ≡ false → f.locator ≡ l) → erased gone (put_after σ fs f) ≡ erased gone (put_after σ others (record { key = f.key; group = f.group; locator = l }))
  same_put f l fs others same one = go (gone f.group) one
    where
      go : (t : Bool) → (t ≡ false → f.locator ≡ l) → ◌≡◌ {A = Put} (cond t (record { group = f.group; cell = 0; locator = 0 }) (put_after σ fs f)) (cond t (record { group = f.group; cell = 0; locator = 0 }) (record { group = f.group; cell = place σ (labels others) f.key; locator = l }))
      go true one = refl
      go false one = λ i. record { group = f.group; cell = place σ (same i) f.key; locator = one refl i }

  puts_alike : (fs others : List Filing) → labels fs ≡ labels others → locators gone fs ≡ locators gone others → Alike gone (puts_from σ fs) (puts_from σ others)
  puts_alike [] [] e k = refl
  puts_alike [] (f ∷ others) e k = absurd (grind arith)
  puts_alike (f ∷ fs) [] e k = absurd (grind arith)
  puts_alike (f ∷ fs) (o ∷ others) e k =
      let both = uncons _ _ _ _ e in
      let same = as_twin σ gone f o both.0 in
      let parts = locators_parts σ gone f o.locator fs others (k ∙ ap (λ x. locators gone (x ∷ others)) (sym same)) in
      let one = same_put f o.locator fs others both.1 parts.1 ∙ ap (λ x. erased gone (put_after σ others x)) same in
      let rest = puts_alike fs others both.1 parts.0 in
      map-append (erased gone) (puts_from σ fs) (put_after σ fs f ∷ [])
      ∙ (λ i. rest i ++ (one i ∷ []))
      ∙ sym (map-append (erased gone) (puts_from σ others) (put_after σ others o ∷ []))

-- Two keeps under archives of the same settings.
abbrev KeepsOver : Type 0
KeepsOver =
    (σ : Settings) → Lawful σ
    → (s₀ s t₀ t : State) (events others : List Event) → Blank σ s₀ → Run σ s₀ events s → Blank σ t₀ → Run σ t₀ others t
    → any outside events ≡ false → any outside others ≡ false
    → SameHistory events others
    → (drawn : List ℕ → List Put → (ℕ → Bool) → List ℕ) → Forgets drawn
    → (numbers : List ℕ) → drawn numbers (puts events) (retired_in events) ≡ drawn numbers (puts others) (retired_in others)

pub equal_keeps : KeepsOver
equal_keeps σ lawful s₀ s t₀ t events others new run new' run' inside inside' same drawn forgets numbers =
    let gone = fun_ext same.retired in
    ap (λ ps. drawn numbers ps (retired_in events)) (puts_are lawful new run inside)
    ∙ drawn_alike drawn forgets numbers (puts_from σ (filings events)) (puts_from σ (filings others)) (retired_in events) (puts_alike σ (retired_in events) (filings events) (filings others) same.filed (same.kept ∙ ap (λ r. locators r (filings others)) (sym gone)))
    ∙ ap (λ ps. drawn numbers ps (retired_in events)) (sym (puts_are lawful new' run' inside'))
    ∙ ap (drawn numbers (puts others)) gone

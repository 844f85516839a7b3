-- A refused write leaves a window and a join as they were.
use Rattle.std.proofs.Common.{◌≡◌, ◌+◌, ◌≤◌, false, ℕ, Ok, Err, Result, is_ok, refl, sym, ap, ◌∙◌, subst}
use native.Mathlib.Bridge.{le_prop}
use Rattle.stores.specs.declared.fault.StoreFault.{StoreFault}
use Rattle.stores.specs.Laws.{largest_store}
use Rattle.stores.specs.Refusal.{seen_as}
use Rattle.piles.specs.declared.join.Join.{Join}
use Rattle.piles.specs.declared.window.Window.{Window}

-- What is refused above was refused below.
pub refused_below : {A : Type 0} (cell : ℕ) (above below : Result A StoreFault) → above ≡ seen_as cell below → is_ok above ≡ false → is_ok below ≡ false
refused_below cell above (Ok x) e refused = sym (ap is_ok e) ∙ refused
refused_below cell above (Err f) e refused = refl

-- Two windows on one run of cells of one store are one.
pub same_window : {S : Type 0} {g : _} (w : Window S g) (below : S) (inside : w.first + w.count ≤ g.cells below) → below ≡ w.below → ◌≡◌ {A = Window S g} (record { below = below; first = w.first; count = w.count; inside = inside }) w
same_window {S = S} {g = g} w below inside e =
    let P : S → Type 0 = λ b. (i : w.first + w.count ≤ g.cells b) → ◌≡◌ {A = Window S g} (record { below = b; first = w.first; count = w.count; inside = i }) w in
    subst P (sym e) (λ i. ap (λ j. record { below = w.below; first = w.first; count = w.count; inside = j }) (le_prop i w.inside)) inside

-- Two joins of the same stores are one.
pub same_join : {S T : Type 0} {g h : _} (j : Join S T g h) (first : S) (second : T) (few : g.cells first + h.cells second ≤ largest_store) → first ≡ j.first → second ≡ j.second → ◌≡◌ {A = Join S T g h} (record { first = first; second = second; few = few }) j
same_join {S = S} {T = T} {g = g} {h = h} j first second few e f =
    let P : S → Type 0 = λ s. (i : g.cells s + h.cells second ≤ largest_store) → ◌≡◌ {A = Join S T g h} (record { first = s; second = second; few = i }) j in
    let Q : T → Type 0 = λ t. (i : g.cells j.first + h.cells t ≤ largest_store) → ◌≡◌ {A = Join S T g h} (record { first = j.first; second = t; few = i }) j in
    subst P (sym e) (subst Q (sym f) (λ i. ap (λ k. record { first = j.first; second = j.second; few = k }) (le_prop i j.few))) few

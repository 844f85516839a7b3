-- A window is a store.
use Rattle.std.specs.Prelude.{◌≡◌, ℕ, ◌+◌, Bool, true, false, cond, List, length}
use Rattle.std.proofs.Common.{arith}
use Rattle.std.proofs.lemmas.Bool.{cond-false, le-ltb, false≢true}
use Rattle.stores.specs.Cells.{Cell, blank, written, cell_length}
use Rattle.stores.specs.Laws.{StoreLaws}
use Rattle.piles.specs.declared.window.Window.{Window}
use Rattle.piles.specs.Windows.{window_cells, window_cell, window_takes}

once_by : (inside takes : Bool) (c : Cell) → (takes ≡ true → c ≡ blank) → cond inside takes false ≡ true → cond inside c blank ≡ blank
once_by true takes c h e = h e
once_by false takes c h e = absurd (false≢true e)

long_by : (inside : Bool) (c : Cell) (x : List ℕ) → (c ≡ written x → length x ≡ cell_length) → cond inside c blank ≡ written x → length x ≡ cell_length
long_by true c x h e = h e
long_by false c x h e = absurd (let z : ◌≡◌ {A = ℕ} 0 1 = cc in omega arith)

-- Over any type that has a store below, a first cell and a count.
pub window_laws_of :
    {T S : Type 0} {cells : S → ℕ} {cell : S → ℕ → Cell} {takes : S → ℕ → Bool} (below : T → S) (first count : T → ℕ) → StoreLaws cells cell takes
    → StoreLaws (λ t. window_cells (first t) (count t) (cells (below t)))
    (λ t. window_cell (first t) (count t) (cells (below t)) (cell (below t)))
    (λ t. window_takes (first t) (count t) (cells (below t)) (takes (below t)))
window_laws_of below first count laws =
    record {
      small = λ w. omega (arith, laws.small (below w));
      beyond = λ w d h. cond-false _ _ _ (le-ltb d _ h);
      outside = λ w d h. cond-false _ _ _ (le-ltb d _ h);
      once = λ w d. once_by _ _ _ (laws.once (below w) (first w + d));
      long = λ w d x. long_by _ _ x (laws.long (below w) (first w + d) x);
    }

pub window_laws :
    {S : Type 0} {cells : S → ℕ} {cell : S → ℕ → Cell} {takes : S → ℕ → Bool} {g : _} → StoreLaws cells cell takes
    → StoreLaws (λ (w : Window S g). window_cells w.first w.count (cells w.below))
    (λ w. window_cell w.first w.count (cells w.below) (cell w.below))
    (λ w. window_takes w.first w.count (cells w.below) (takes w.below))
window_laws = window_laws_of (λ w. w.below) (λ w. w.first) (λ w. w.count)

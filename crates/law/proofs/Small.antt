-- In every history from a blank archive the count stays at most the total, and no group has more pairs than the count says.
use Rattle.std.proofs.Common.{◌≡◌, ℕ, zero, suc, ◌+◌, ◌<◌, ◌≤◌, cond, ◌⊎◌, List, length, refl, ap, inl, inr, arith}
use Rattle.std.proofs.lemmas.Bool.{cases_lt, cond_both}
use Rattle.std.proofs.lemmas.List.{length_push}
use Rattle.law.specs.Archive.{Settings, Lawful, State, Cell, blank, written, retired, as_u32, changed, entry_bytes}
use Rattle.law.specs.History.{Event, Blank, Step, filing, searching, retiring, writing, turning_down, Run, start, next}
use Rattle.stores.specs.Cells.{is_written}
use Rattle.law.specs.Promise.{NumbersFit, slots, written_below}
use Rattle.law.proofs.Steps.{landed_blank, at_changed}
use Rattle.law.proofs.Readback.{is_blank, blanks, blanks_before, blanks_less}

pub record Small (σ : Settings) (s : State) : Type 0 where
  pub cells : s.count + blanks s.cells σ.total ≤ σ.total
  pub groups : (g : ℕ) → g < σ.groups → slots (s.group g) ≤ s.count

blanks_most : (cells : ℕ → Cell) (n : ℕ) → blanks cells n ≤ n
unfolding blanks
blanks_most cells zero = omega arith
blanks_most cells (suc n) =
    let ih = blanks_most cells n in cond_both (is_blank (cells n)) _ _ (λ k. k ≤ suc n) (λ _. omega arith) (λ _. omega arith)

fewer : (cells : ℕ → Cell) (c : ℕ) (b : List ℕ) (n : ℕ) → cells c ≡ blank → (c < n) ⊎ (n ≤ c) → blanks (changed cells c (written b)) n ≤ blanks cells n
fewer cells c b n free (inl lt) = omega (arith, blanks_less cells c b n lt free)
fewer cells c b n free (inr le) = omega (arith, blanks_before cells c b n le)

module _ {σ : Settings} (lawful : Lawful σ) where
  small_step : {s t : State} {e : Event} → Step σ s e t → Small σ s → Small σ t
  small_step (filing {s = s} {key = key} {group = g} {locator = l'} {cell = c} {pairs = ps} ok lt l w) h =
      let land = landed_blank lawful s.cells key ok w in
      let bytes = entry_bytes σ (record { key = key; group = g; slot = length ps; filing = s.count + 1 }) in
      record {
        cells = omega (arith, h.cells, blanks_less s.cells c bytes σ.total land.0 land.1);
        groups = λ i below. at_changed (λ t x. slots x ≤ s.count + 1) s.group g _ i
            (λ e. omega (arith, length_push ps (record { cell = c; locator = l' }), ap slots l, h.groups g lt)) (omega (arith, h.groups i below));
      }
  small_step (searching ok) h = h
  small_step (retiring {s = s} {group = g} lt l) h =
      record { cells = h.cells; groups = λ i below. at_changed (λ t x. slots x ≤ s.count) s.group g retired i (λ e. omega arith) (h.groups i below) }
  small_step (writing {s = s} {cell = c} {bytes = b} n free) h =
      record { cells = omega (arith, h.cells, fewer s.cells c b σ.total free (cases_lt c σ.total)); groups = h.groups }
  small_step turning_down h = h

  pub small : {s t : State} {events : List Event} → Blank σ s → Run σ s events t → Small σ t
  small {s} new start = record {
    cells = omega (arith, new.count, blanks_most s.cells σ.total);
    groups = λ g lt. omega (arith, ap slots (new.group g lt));
  }
  small new (next run step) = small_step step (small new run)

pub fits_32 : (n : ℕ) → n < 4294967296 → as_u32 n ≡ n
fits_32 n h = omega arith

-- Every cell below n is blank or written.
written_or_blank : (cells : ℕ → Cell) (n : ℕ) → blanks cells n + written_below cells n ≡ n
unfolding blanks is_blank written_below
written_or_blank cells zero = refl
written_or_blank cells (suc n) = go (written_or_blank cells n) (cells n)
  where
    go : blanks cells n + written_below cells n ≡ n → (x : Cell) → cond (is_blank x) (suc (blanks cells n)) (blanks cells n) + cond (is_written x) (suc (written_below cells n)) (written_below cells n) ≡ suc n
    go rest blank = omega arith
    go rest (written b) = omega arith

pub numbers_fit : NumbersFit
numbers_fit σ lawful s₀ s events new run =
    let few = small lawful new run in
    (omega (arith, few.cells, written_or_blank s.cells σ.total), few.groups, omega (arith, few.cells, lawful.total_limit))

-- What a ledger answers for a group, by its state byte.
use Rattle.std.proofs.Common.{◌≡◌, ℕ, ◌+◌, ◌^◌, ◌<◌, true, cond, List, length, get_or, Ok, Err, Result, sym, ap, ◌∙◌, mod-eq_of_lt, arith}
use Rattle.std.proofs.lemmas.List.{get_or_default, get_or-take}
use Rattle.std.proofs.lemmas.Bool.{and_from, cond-true, lt-ltb}
use Rattle.std.proofs.lemmas.Bool.Decides.{nat_tests}
use Rattle.octets.specs.Numbers.{number_at}
use Rattle.keeps.specs.Groups.{Pair, as_u32, check_answer, put_answer, strike_answer, with_live}
use Rattle.keeps.specs.declared.fault.KeepFault.{KeepFault}
use Rattle.keeps.specs.declared.fault.KeepFault.TheVariants.{NoSlot}
use Rattle.keeps.proofs.Checked.{live_checked}
use Rattle.ledgers.specs.LedgerLaws.{all_groups, fitting}
use Rattle.ledgers.specs.Ledgers.{Fitting, ledger_groups, ledger_live, ledger_pairs, ledger_room, ledger_state, pairs_of, rows, used}

-- Group g is there and live.
pub record LiveIn (groups lines : ℕ) (memory : List ℕ) (g : ℕ) : Type 0 where
  pub fits : Fitting groups lines (length memory)
  pub there : g < ledger_groups groups lines memory
  pub low : g < groups
  pub state : get_or memory g 0 ≡ 0

module _ (groups lines : ℕ) (m : List ℕ) (g : ℕ) where
  -- Where there is a group, the numbers are in range and memory is long enough.
  pub fits_there : g < ledger_groups groups lines m → Fitting groups lines (length m)
  fits_there h = fitting groups lines (length m) (grind (arith, nat_tests))

  pub state_is : g < ledger_groups groups lines m → ledger_state groups lines m g ≡ get_or m g 0
  state_is h = get_or-take (ledger_groups groups lines m) m g 1 h ∙ get_or_default m g 1 0 (omega (arith, (fits_there h).enough, all_groups groups lines m (fits_there h)))

  pub live_in : g < ledger_groups groups lines m → get_or m g 0 ≡ 0 → LiveIn groups lines m g
  live_in h state = record { fits = fits_there h; there = h; low = omega (arith, h, all_groups groups lines m (fits_there h)); state = state }

  -- What a check that passed says.
  pub live_passed : check_answer (ledger_groups groups lines m) (ledger_pairs groups lines m) g ≡ Ok tt → LiveIn groups lines m g
  live_passed passed =
      let l = live_checked (ledger_groups groups lines m) (ledger_pairs groups lines m) g passed in
      live_in l.there (grind (arith, nat_tests, l.holds, state_is l.there))

  pub is_live : LiveIn groups lines m g → ledger_live groups lines m g ≡ true
  is_live l = grind (arith, nat_tests, l.state, state_is l.there)

  module _ {A : Type 0} (gives : List Pair → Result A KeepFault) where
    pub answer_live : LiveIn groups lines m g → with_live (ledger_groups groups lines m) (ledger_pairs groups lines m) g gives ≡ gives (pairs_of g (rows (groups + 4) m (used groups lines m)))
    answer_live l = let h = is_live l in let t = lt-ltb g (ledger_groups groups lines m) l.there in simp (t, h)

  module _ (had : ℕ) (small : had < 2 ^ 32) (alive : LiveIn groups lines m g) where
    pub strike_live : had ≡ length (pairs_of g (rows (groups + 4) m (used groups lines m))) → Ok had ≡ strike_answer (ledger_groups groups lines m) (ledger_pairs groups lines m) g
    strike_live e = ap Ok (sym (mod-eq_of_lt small) ∙ ap as_u32 e) ∙ sym (answer_live (λ ps. Ok (as_u32 (length ps))) alive)

    pub put_live : number_at m groups 4 < lines → had ≡ length (pairs_of g (rows (groups + 4) m (used groups lines m))) → Ok had ≡ put_answer (ledger_groups groups lines m) (ledger_pairs groups lines m) (ledger_room groups lines m) g
    put_live free e =
        ap Ok (sym (mod-eq_of_lt small) ∙ ap as_u32 e)
        ∙ sym (cond-true _ _ _ (and_from _ _ (is_live alive) (lt-ltb (number_at m groups 4) lines free)))
        ∙ sym (answer_live (λ ps. cond (ledger_room groups lines m g) (Ok (as_u32 (length ps))) (Err (NoSlot g))) alive)

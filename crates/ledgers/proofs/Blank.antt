-- A ledger that is just set up: its bytes are drawn from no put, and every group is live and empty.
use Rattle.std.proofs.Common.{◌≡◌, ℕ, ◌+◌, ◌*◌, ◌<◌, min, true, cond, eqb, List, [], ◌∷◌, length, get_or, take, replicate, is_ok, sym, ap, ◌∙◌, arith}
use Rattle.std.proofs.lemmas.List.FromFn.{fill_by_all}
use Rattle.std.proofs.lemmas.List.{get_or-replicate, length-replicate}
use Rattle.std.proofs.lemmas.Bool.{cond-true, cond-false, le-ltb}
use Rattle.octets.specs.Numbers.{big_endian, number_at, spelled}
use Rattle.octets.specs.Overwriting.{zeroed}
use Rattle.octets.proofs.Overwrites.{length-zeroed, zero_part}
use Rattle.keeps.specs.Groups.{live}
use Rattle.keeps.specs.History.{none_gone}
use Rattle.ledgers.specs.Ledgers.{Fitting, drawn_ledger, drawn_state, ledger_fit, ledger_groups, ledger_live, ledger_pairs, ledger_size, pairs_of, rows, used}
use Rattle.ledgers.specs.LedgerLaws.{all_groups}
use Rattle.ledgers.proofs.Drawn.{from_drawn}

module _ (groups lines : ℕ) (m : List ℕ) where
  abbrev new : List ℕ
  new = zeroed (ledger_size groups lines) m

  pub blank_drawn : take (ledger_size groups lines) new ≡ drawn_ledger (groups ∷ (lines ∷ [])) [] none_gone
  blank_drawn =
      from_drawn groups lines new [] none_gone
      (record {
        states = zero_part (ledger_size groups lines) 0 groups m (omega arith) ∙ fill_by_all (drawn_state none_gone) (replicate groups 0) groups 0 (length-replicate groups 0) (λ k l. get_or-replicate groups k 0 0 l);
        count = zero_part (ledger_size groups lines) groups 4 m (omega arith) ∙ ap (big_endian 4) (let z : 0 ≡ min 0 lines = omega arith in z);
        each = λ j l. zero_part (ledger_size groups lines) (groups + 4 + j * 14) 14 m (omega arith) ∙ sym (cond-false _ _ _ (le-ltb j 0 (omega arith)));
      })

  module _ (fits : Fitting groups lines (length m)) where
    length_new : length new ≡ length m
    length_new = length-zeroed (ledger_size groups lines) m fits.enough

    groups_new : ledger_groups groups lines new ≡ groups
    groups_new = ap (λ k. cond (is_ok (ledger_fit groups lines k)) groups 0) length_new ∙ all_groups groups lines m fits

    live_new : (i : ℕ) → i < groups → ledger_live groups lines new i ≡ true
    live_new i l =
        ap (λ k. eqb (get_or (take k new) i 1) 0) groups_new
        ∙ ap (λ (xs : List ℕ). eqb (get_or xs i 1) 0) (zero_part (ledger_size groups lines) 0 groups m (omega arith))
        ∙ ap (λ x. eqb x 0) (get_or-replicate groups i 0 1 l)

    none_used : used groups lines new ≡ 0
    none_used = let e : number_at new groups 4 ≡ 0 = ap spelled (zero_part (ledger_size groups lines) groups 4 m (omega arith)) in omega arith

    pub blank_live : (i : ℕ) → i < groups → ledger_pairs groups lines new i ≡ live []
    unfolding rows
    blank_live i l = cond-true _ _ _ (live_new i l) ∙ ap (λ k. live (pairs_of i (rows (groups + 4) new k))) none_used

-- A ledger is a keep.
use Rattle.std.specs.Prelude.{◌≡◌, ℕ, ◌≤◌, min, Bool, true, false, cond, ◌&&◌, List, [], ◌∷◌, ◌++◌, map, length, get_or, take, replicate, is_ok, Ok, Err, ◌≢◌, nat_le, nat_lt, slice_index, slice_index_or}
use Rattle.std.proofs.Common.{arith, ap, ◌∙◌, inl, inr, length-take}
use Rattle.std.proofs.Math.Path.{fun_ext}
use Rattle.std.proofs.lemmas.List.{length-map, get_or-map, get_or_past}
use Rattle.std.proofs.lemmas.Bool.Decides.{nat_tests}
use Rattle.std.proofs.lemmas.Bool.{cases_lt, le-ltb}
use Rattle.std.specs.List.{range_with_len, flat_map}
use Rattle.octets.specs.Numbers.{big_endian}
use Rattle.stores.specs.declared.fault.SetUpFault.{SetUpFault}
use Rattle.stores.specs.declared.fault.SetUpFault.TheVariants.{Setting, Size}
use Rattle.keeps.specs.Groups.{Group, Pair, live, retired}
use Rattle.keeps.specs.History.{Put, erased}
use Rattle.keeps.specs.Laws.{KeepLaws, most_groups}
use Rattle.ledgers.specs.declared.ledger.Ledger.{Ledger}
use Rattle.ledgers.specs.Ledgers.{Fitting, ledger_size, most_lines, in_range, ledger_fit, ledger_groups, ledger_state, ledger_pairs, ledger_room, put_line, no_put, drawn_line, drawn_state, drawn_ledger}

-- Where the numbers and the memory fit, all groups are there.
pub all_groups : (groups lines : ℕ) (memory : List ℕ) → Fitting groups lines (length memory) → ledger_groups groups lines memory ≡ groups
all_groups groups lines memory fits = grind (arith, nat_tests)

-- Of any two tests that say what is in range and what is long enough: where nothing is refused, all fits.
fitting_by : (groups lines long : ℕ) (settings size : Bool) → settings ≡ (in_range groups most_groups && in_range lines most_lines) → size ≡ nat_le (ledger_size groups lines) long → is_ok {T = Unit {0}} {E = SetUpFault} (cond settings (cond size (Ok tt) (Err Size)) (Err Setting)) ≡ true → Fitting groups lines long
fitting_by groups lines long settings size e f ok =
    record {
      some = grind (arith, nat_tests, e, f, ok);
      few = grind (arith, nat_tests, e, f, ok);
      any = grind (arith, nat_tests, e, f, ok);
      short = grind (arith, nat_tests, e, f, ok);
      enough = grind (arith, nat_tests, e, f, ok);
    }

pub fitting : (groups lines long : ℕ) → is_ok (ledger_fit groups lines long) ≡ true → Fitting groups lines long
fitting groups lines long e =
    record {
      some = grind (arith, nat_tests);
      few = grind (arith, nat_tests);
      any = grind (arith, nat_tests);
      short = grind (arith, nat_tests);
      enough = grind (arith, nat_tests);
    }

few_groups : (groups lines : ℕ) (memory : List ℕ) → ledger_groups groups lines memory ≤ most_groups
few_groups groups lines memory = grind (arith, nat_tests)

-- Past the groups the state is 1.
pub state_past : (groups lines : ℕ) (memory : List ℕ) (i : ℕ) → ledger_groups groups lines memory ≤ i → ledger_state groups lines memory i ≡ 1
state_past groups lines memory i h =
    let k = ledger_groups groups lines memory in
    get_or_past (take k memory) i 1 (omega (arith, length-take k memory))

outside_retired : (groups lines : ℕ) (memory : List ℕ) (i : ℕ) → ledger_groups groups lines memory ≤ i → ledger_pairs groups lines memory i ≡ retired
outside_retired groups lines memory i h = grind (arith, nat_tests, state_past groups lines memory i h)

-- A group that is live by any test, and with any pairs, is not retired.
retired_by : (alive left : Bool) (pairs : List Pair) → (alive && left) ≡ true → cond alive (live pairs) retired ≢ retired
retired_by true left pairs e f = let z : ◌≡◌ {A = ℕ} 0 1 = cc in omega arith
retired_by false left pairs e f = let z : ◌≡◌ {A = ℕ} 0 1 = cc in omega arith

room_live : (groups lines : ℕ) (memory : List ℕ) (i : ℕ) → ledger_room groups lines memory i ≡ true → ledger_pairs groups lines memory i ≢ retired
room_live groups lines memory i room gone = grind (arith, nat_tests, room, gone)

-- What is drawn for a retired group has no cell and no locator.
erased_twice : (gone : ℕ → Bool) (p : Put) → erased gone (erased gone p) ≡ erased gone p
erased_twice gone p = grind arith

line_erased : (gone : ℕ → Bool) (puts : List Put) (j : ℕ) → drawn_line (map (erased gone) puts) gone j ≡ drawn_line puts gone j
line_erased gone puts j =
    ap (λ n. cond (nat_lt j n) (put_line (erased gone (slice_index_or (map (erased gone) puts) j no_put))) (replicate 14 0)) (length-map puts (erased gone))
    ∙ (elim (cases_lt j (length puts)) [
      | inl h ↦ ap (λ q. cond (nat_lt j (length puts)) (put_line q) (replicate 14 0)) (ap (erased gone) (get_or-map (erased gone) puts j no_put no_put h) ∙ erased_twice gone (slice_index_or puts j no_put))
      | inr h ↦ let t = le-ltb j (length puts) h in simp t
    ])

drawn_erased : (numbers : List ℕ) (puts : List Put) (gone : ℕ → Bool) → drawn_ledger numbers (map (erased gone) puts) gone ≡ drawn_ledger numbers puts gone
drawn_erased numbers puts gone =
    let states = map (drawn_state gone) (range_with_len 0 (slice_index numbers 0)) in
    let lines = get_or numbers 1 0 in
    ap (λ n. states ++ (big_endian 4 (min n lines) ++ flat_map (drawn_line (map (erased gone) puts) gone) (range_with_len 0 lines))) (length-map puts (erased gone))
    ∙ ap (λ (f : ℕ → List ℕ). states ++ (big_endian 4 (min (length puts) lines) ++ flat_map f (range_with_len 0 lines))) (fun_ext (line_erased gone puts))

-- The members of the keep.
abbrev pub groups_of : Ledger → ℕ
groups_of k = ledger_groups k.groups k.lines k.memory.now

abbrev pub pairs_in : Ledger → ℕ → Group
pairs_in k = ledger_pairs k.groups k.lines k.memory.now

abbrev pub room_of : Ledger → ℕ → Bool
room_of k = ledger_room k.groups k.lines k.memory.now

abbrev pub numbers_of : Ledger → List ℕ
numbers_of k = k.groups ∷ (k.lines ∷ [])

abbrev pub bytes_of : Ledger → List ℕ
bytes_of k = take (ledger_size k.groups k.lines) k.memory.now

-- Over any type that has the numbers and memory.
pub ledger_laws_of : {K : Type 0} (groups lines : K → ℕ) (memory : K → List ℕ) → KeepLaws (λ k. ledger_groups (groups k) (lines k) (memory k)) (λ k. ledger_pairs (groups k) (lines k) (memory k)) (λ k. ledger_room (groups k) (lines k) (memory k)) drawn_ledger
ledger_laws_of groups lines memory =
    record {
      few = λ k. few_groups (groups k) (lines k) (memory k);
      outside = λ k. outside_retired (groups k) (lines k) (memory k);
      live_only = λ k i. room_live (groups k) (lines k) (memory k) i;
      forgets = drawn_erased;
    }

pub ledger_laws : KeepLaws groups_of pairs_in room_of drawn_ledger
ledger_laws = ledger_laws_of (λ k. k.groups) (λ k. k.lines) (λ k. k.memory.now)

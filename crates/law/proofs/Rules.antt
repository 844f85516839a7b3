-- Each call, by its rule, is one step of a run, in a state whose numbers fit 32 bits.
use Rattle.std.proofs.Common.{◌≡◌, ℕ, ◌+◌, ◌<◌, Bool, true, false, cond, eqb, ltb, List, [], ◌∷◌, ◌++◌, length, Ok, Err, Result, sym, refl, ap, ◌∙◌, subst, arith}
use Rattle.std.proofs.lemmas.Bool.{ltb-true, eqb-true}
use Rattle.stores.specs.declared.fault.StoreFault.TheVariants.{NoCell, Beyond, Length}
use Rattle.keeps.specs.declared.fault.KeepFault.TheVariants.{NoSlot, Group as NoGroup}
use Rattle.law.specs.declared.fault.ArchiveFault.{ArchiveFault}
use Rattle.law.specs.declared.fault.ArchiveFault.TheVariants.{Key, Store, Keep}
use Rattle.law.specs.declared.answer.Answer.{Answer}
use Rattle.law.specs.declared.answer.Answer.TheVariants.{Filed, Searched, Struck, Written}
use Rattle.stores.specs.Cells.{write_in}
use Rattle.keeps.specs.Groups.{of_live, with_pair}
use Rattle.law.specs.Archive.{Settings, Lawful, State, Cell, blank, written, Pair, Group, live, retired, changed, as_u32, entry_bytes, Stop, at_blank, at_entry, at_end, stop, search_for}
use Rattle.law.specs.History.{Call, file, find, retire, write, filed, struck, Step, filing, searching, retiring, writing, turning_down, after}
use Rattle.law.specs.Rules.{Room, in_keep, in_store, and_then, told, handed, file_at, answer, event}
use Rattle.law.specs.Promise.{slots}
use Rattle.law.proofs.Small.{Small, fits_32}

module _ {σ : Settings} (lawful : Lawful σ) (room : Room) (s : State) (small : Small σ s) where
  abbrev Steps : Call → Result Answer ArchiveFault → Type 0
  Steps call r = Step σ s (event call r) (after σ s (event call r))

  slots_fit : (g : ℕ) → g < σ.groups → as_u32 (slots (s.group g)) ≡ slots (s.group g)
  slots_fit g lt = fits_32 _ (omega (arith, small.groups g lt, small.cells, lawful.total_limit))

  count_fits : as_u32 (s.count + 1) ≡ s.count + 1
  count_fits = fits_32 _ (omega (arith, small.cells, lawful.total_limit))

  file_steps : (key : List ℕ) (g l : ℕ) → Steps (file key g l) (answer σ room s (file key g l))
  file_steps key g l = by_key (σ.admissible key) refl
    where
      done : (ps : List Pair) (c p : ℕ) → σ.admissible key ≡ true → g < σ.groups → s.group g ≡ live ps → stop σ s.cells key ≡ at_blank c p
          → Steps (file key g l) (Ok (Filed (handed s g c p)))
      done ps c p ok lt there w =
          let slot : length ps ≡ as_u32 (slots (s.group g)) = ap slots (sym there) ∙ sym (slots_fit g lt) in
          let number : s.count + 1 ≡ as_u32 (s.count + 1) = sym count_fits in
          let group : live (ps ++ record { cell = c; locator = l } ∷ []) ≡ with_pair (s.group g) (record { cell = c; locator = l }) = ap (λ x. with_pair x (record { cell = c; locator = l })) (sym there) in
          subst (λ (x : ℕ × ℕ × Group). Step σ s (filed key g l (record { cell = c; probes = p; slot = x.0; filing = x.1 }))
          (record { cells = changed s.cells c (written (entry_bytes σ (record { key = key; group = g; slot = x.0; filing = x.1 }))); group = changed s.group g x.2; count = x.1 }))
          (λ i. (slot i, number i, group i)) (filing {s = s} {locator = l} {pairs = ps} ok lt there w)

      by_room : (ps : List Pair) (c p : ℕ) → σ.admissible key ≡ true → g < σ.groups → s.group g ≡ live ps → stop σ s.cells key ≡ at_blank c p
          → (b b' : Bool) → Steps (file key g l) (told Filed (cond b (cond b' (Ok (handed s g c p)) (Err (Keep (NoSlot g)))) (Err (Store (NoCell c)))))
      by_room ps c p ok lt there w true true = done ps c p ok lt there w
      by_room ps c p ok lt there w true false = turning_down
      by_room ps c p ok lt there w false b' = turning_down

      by_stop : (ps : List Pair) → σ.admissible key ≡ true → g < σ.groups → s.group g ≡ live ps → (w : Stop) → stop σ s.cells key ≡ w
          → Steps (file key g l) (told Filed (file_at σ room s g w))
      by_stop ps ok lt there (at_blank c p) e = by_room ps c p ok lt there e (room.cell c) (room.pair g)
      by_stop ps ok lt there (at_entry c p x) e = turning_down
      by_stop ps ok lt there (at_end p) e = turning_down

      by_live : σ.admissible key ≡ true → g < σ.groups → (x : Group) → s.group g ≡ x
          → Steps (file key g l) (told Filed (and_then (in_keep (of_live {A = Unit {0}} x g (λ _. Ok tt))) (file_at σ room s g (stop σ s.cells key))))
      by_live ok lt (live ps) there = by_stop ps ok lt there (stop σ s.cells key) refl
      by_live ok lt retired there = turning_down

      by_group : σ.admissible key ≡ true → (b : Bool) → ltb g σ.groups ≡ b
          → Steps (file key g l) (told Filed (and_then (in_keep (cond b (of_live {A = Unit {0}} (s.group g) g (λ _. Ok tt)) (Err (NoGroup g)))) (file_at σ room s g (stop σ s.cells key))))
      by_group ok true e = by_live ok (ltb-true _ _ e) (s.group g) refl
      by_group ok false e = turning_down

      by_key : (b : Bool) → σ.admissible key ≡ b
          → Steps (file key g l) (told Filed (cond b (and_then (in_keep (cond (ltb g σ.groups) (of_live {A = Unit {0}} (s.group g) g (λ _. Ok tt)) (Err (NoGroup g)))) (file_at σ room s g (stop σ s.cells key))) (Err Key)))
      by_key true ok = by_group ok (ltb g σ.groups) refl
      by_key false ok = turning_down

  find_steps : (key : List ℕ) → Steps (find key) (answer σ room s (find key))
  find_steps key = go (σ.admissible key) refl
    where
      go : (b : Bool) → σ.admissible key ≡ b → Steps (find key) (told Searched (cond b (Ok (search_for σ s key)) (Err Key)))
      go true ok = searching ok
      go false ok = turning_down

  retire_steps : (g : ℕ) → Steps (retire g) (answer σ room s (retire g))
  retire_steps g = by_group (ltb g σ.groups) refl
    where
      by_live : g < σ.groups → (x : Group) → s.group g ≡ x → Steps (retire g) (told Struck (in_keep (of_live {A = ℕ} x g (λ ps. Ok (as_u32 (length ps))))))
      by_live lt retired there = turning_down
      by_live lt (live ps) there =
          let n : length ps ≡ as_u32 (length ps) = sym (fits_32 _ (omega (arith, ap slots there, small.groups g lt, small.cells, lawful.total_limit))) in
          subst (λ k. Step σ s (struck g k) (record { cells = s.cells; group = changed s.group g retired; count = s.count })) n (retiring lt there)

      by_group : (b : Bool) → ltb g σ.groups ≡ b
          → Steps (retire g) (told Struck (in_keep (cond b (of_live {A = ℕ} (s.group g) g (λ ps. Ok (as_u32 (length ps)))) (Err (NoGroup g)))))
      by_group true e = by_live (ltb-true _ _ e) (s.group g) refl
      by_group false e = turning_down

  write_steps : (c : ℕ) (bytes : List ℕ) → Steps (write c bytes) (answer σ room s (write c bytes))
  write_steps c bytes = by_length (eqb (length bytes) 24) refl
    where
      by_room : length bytes ≡ 24 → s.cells c ≡ blank → (b : Bool) → Steps (write c bytes) (told (λ _. Written) (in_store {A = Unit {0}} (cond b (Ok tt) (Err (NoCell c)))))
      by_room n free true = writing n free
      by_room n free false = turning_down

      by_cell : length bytes ≡ 24 → (x : Cell) → s.cells c ≡ x → Steps (write c bytes) (told (λ _. Written) (in_store (write_in x (room.cell c) c)))
      by_cell n blank e = by_room n e (room.cell c)
      by_cell n (written held) e = turning_down

      by_size : length bytes ≡ 24 → (b : Bool) → Steps (write c bytes) (told (λ _. Written) (in_store (cond b (write_in (s.cells c) (room.cell c) c) (Err (Beyond c)))))
      by_size n true = by_cell n (s.cells c) refl
      by_size n false = turning_down

      by_length : (b : Bool) → eqb (length bytes) 24 ≡ b
          → Steps (write c bytes) (told (λ _. Written) (in_store (cond b (cond (ltb c room.size) (write_in (s.cells c) (room.cell c) c) (Err (Beyond c))) (Err Length))))
      by_length true e = by_size (eqb-true _ _ e) (ltb c room.size)
      by_length false e = turning_down

  pub steps_on : (call : Call) → Step σ s (event call (answer σ room s call)) (after σ s (event call (answer σ room s call)))
  steps_on (file key g l) = file_steps key g l
  steps_on (find key) = find_steps key
  steps_on (retire g) = retire_steps g
  steps_on (write c bytes) = write_steps c bytes

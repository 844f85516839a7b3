-- The calls as rules: what each answers, with its refusals in the order in which they are checked, and the event that it makes.
use Rattle.std.specs.Prelude.{◌≡◌, ℕ, ◌+◌, Bool, cond, List, Ok, Err, Result}
use Rattle.stores.specs.declared.fault.StoreFault.{StoreFault}
use Rattle.stores.specs.declared.fault.StoreFault.TheVariants.{NoCell}
use Rattle.keeps.specs.declared.fault.KeepFault.{KeepFault}
use Rattle.keeps.specs.declared.fault.KeepFault.TheVariants.{NoSlot}
use Rattle.law.specs.declared.fault.ArchiveFault.{ArchiveFault}
use Rattle.law.specs.declared.fault.ArchiveFault.TheVariants.{Key, Store, Keep, Twice, FullPath}
use Rattle.law.specs.declared.answer.Answer.{Answer}
use Rattle.law.specs.declared.answer.Answer.TheVariants.{Filed, Searched, Struck, Written}
use Rattle.stores.specs.Cells.{write_answer}
use Rattle.keeps.specs.Groups.{check_answer, strike_answer}
use Rattle.law.specs.Archive.{Settings, Lawful, State, Stop, at_blank, at_entry, at_end, stop, as_u32, Verdict, search_for}
use Rattle.law.specs.History.{Call, file, find, retire, write, Receipt, Event, filed, searched, struck, wrote, turned_down, after}
use Rattle.law.specs.Promise.{Law, slots}

-- What the store and the keep say of their room in a state: the store's size, which cells can be taken and which groups take a
-- pair now. The law holds whatever they say.
pub record Room : Type 0 where
  pub size : ℕ
  pub cell : ℕ → Bool
  pub pair : ℕ → Bool

abbrev pub in_keep : {A : Type 0} → Result A KeepFault → Result A ArchiveFault
in_keep (Ok a) = Ok a
in_keep (Err f) = Err (Keep f)

abbrev pub in_store : {A : Type 0} → Result A StoreFault → Result A ArchiveFault
in_store (Ok a) = Ok a
in_store (Err f) = Err (Store f)

abbrev pub and_then : {A B : Type 0} → Result A ArchiveFault → Result B ArchiveFault → Result B ArchiveFault
and_then (Ok a) r = r
and_then (Err f) r = Err f

abbrev pub told : {A : Type 0} → (A → Answer) → Result A ArchiveFault → Result Answer ArchiveFault
told f (Ok a) = Ok (f a)
told f (Err e) = Err e

-- What an accepted filing answers: the next slot and the next number, as 32 bits hold them.
abbrev pub handed : State → (g cell probes : ℕ) → Receipt
handed s g cell probes = record { cell = cell; probes = probes; slot = as_u32 (slots (s.group g)); filing = as_u32 (s.count + 1) }

module _ (σ : Settings) (room : Room) (s : State) where
  -- At an entry TWICE, at the end FULL PATH, at a blank cell NO CELL and then NO SLOT.
  abbrev pub file_at : ℕ → Stop → Result Receipt ArchiveFault
  file_at g (at_entry cell probes e) = Err (Twice cell)
  file_at g (at_end probes) = Err FullPath
  file_at g (at_blank cell probes) =
      cond (room.cell cell) (cond (room.pair g) (Ok (handed s g cell probes)) (Err (Keep (NoSlot g)))) (Err (Store (NoCell cell)))

  -- KEY, GROUP, GONE, then the walk.
  abbrev pub file_rule : List ℕ → ℕ → Result Receipt ArchiveFault
  file_rule key g = cond (σ.admissible key) (and_then (in_keep (check_answer σ.groups s.group g)) (file_at g (stop σ s.cells key))) (Err Key)

  -- KEY.
  abbrev pub find_rule : List ℕ → Result Verdict ArchiveFault
  find_rule key = cond (σ.admissible key) (Ok (search_for σ s key)) (Err Key)

  -- GROUP, GONE.
  abbrev pub retire_rule : ℕ → Result ℕ ArchiveFault
  retire_rule g = in_keep (strike_answer σ.groups s.group g)

  -- LENGTH, BEYOND, WRITTEN, NO CELL.
  abbrev pub write_rule : ℕ → List ℕ → Result (Unit {0}) ArchiveFault
  write_rule cell bytes = in_store (write_answer room.size s.cells room.cell cell bytes)

  -- What a call answers.
  abbrev pub answer : Call → Result Answer ArchiveFault
  answer (file key g locator) = told Filed (file_rule key g)
  answer (find key) = told Searched (find_rule key)
  answer (retire g) = told Struck (retire_rule g)
  answer (write cell bytes) = told (λ _. Written) (write_rule cell bytes)

-- What came of a call with this answer. (An answer to another call does not occur.)
abbrev pub event_of_file : List ℕ → ℕ → ℕ → Result Answer ArchiveFault → Event
event_of_file key g l (Ok (Filed r)) = filed key g l r
event_of_file key g l (Ok (Searched v)) = turned_down (file key g l)
event_of_file key g l (Ok (Struck n)) = turned_down (file key g l)
event_of_file key g l (Ok Written) = turned_down (file key g l)
event_of_file key g l (Err f) = turned_down (file key g l)

abbrev pub event_of_find : List ℕ → Result Answer ArchiveFault → Event
event_of_find key (Ok (Searched v)) = searched key v
event_of_find key (Ok (Filed r)) = turned_down (find key)
event_of_find key (Ok (Struck n)) = turned_down (find key)
event_of_find key (Ok Written) = turned_down (find key)
event_of_find key (Err f) = turned_down (find key)

abbrev pub event_of_retire : ℕ → Result Answer ArchiveFault → Event
event_of_retire g (Ok (Struck n)) = struck g n
event_of_retire g (Ok (Filed r)) = turned_down (retire g)
event_of_retire g (Ok (Searched v)) = turned_down (retire g)
event_of_retire g (Ok Written) = turned_down (retire g)
event_of_retire g (Err f) = turned_down (retire g)

abbrev pub event_of_write : ℕ → List ℕ → Result Answer ArchiveFault → Event
event_of_write c b (Ok Written) = wrote c b
event_of_write c b (Ok (Filed r)) = turned_down (write c b)
event_of_write c b (Ok (Searched v)) = turned_down (write c b)
event_of_write c b (Ok (Struck n)) = turned_down (write c b)
event_of_write c b (Err f) = turned_down (write c b)

abbrev pub event : Call → Result Answer ArchiveFault → Event
event (file key g l) r = event_of_file key g l r
event (find key) r = event_of_find key r
event (retire g) r = event_of_retire g r
event (write c b) r = event_of_write c b r

-- Whatever a call answers by its rule, it goes on with every history that leads to it, and the law holds there.
abbrev pub LawStands : Type 0
LawStands = (σ : Settings) → Lawful σ → (room : Room) (s t : State) (call : Call) → t ≡ after σ s (event call (answer σ room s call)) → Law σ s (event call (answer σ room s call)) t

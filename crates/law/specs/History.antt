-- A history of an archive: calls with their answers, each meeting what the earlier ones left, any of them perhaps turned down.
use Rattle.std.specs.Prelude.{◌≡◌, ℕ, ◌+◌, ◌<◌, Bool, true, false, cond, ◌||◌, List, [], ◌∷◌, ◌++◌, length, ◌==◌}
use Rattle.law.specs.Archive.{Settings, State, blank, cell_length, written, Pair, live, retired, entry_bytes, Verdict, search_for, stop, at_blank, changed}
use Rattle.keeps.specs.Groups.{with_pair}
use Rattle.keeps.specs.History.{Put}
pub use Rattle.law.specs.declared.answer.Receipt.{Receipt}

-- A call; a write is anybody else's, beside the archive, to its store.
pub data Call : Type 0 where
  file : (key : List ℕ) (group locator : ℕ) → Call
  find : (key : List ℕ) → Call
  retire : (group : ℕ) → Call
  write : (cell : ℕ) (bytes : List ℕ) → Call

-- What came of a call: it was accepted, with this answer, or turned down.
pub data Event : Type 0 where
  filed : (key : List ℕ) (group locator : ℕ) → Receipt → Event
  searched : (key : List ℕ) → Verdict → Event
  struck : (group pairs : ℕ) → Event
  wrote : (cell : ℕ) (bytes : List ℕ) → Event
  turned_down : Call → Event

-- An archive in which nothing has happened. Nothing is said of the store's cells past the total.
pub record Blank (σ : Settings) (s : State) : Type 0 where
  pub cells : (c : ℕ) → c < σ.total → s.cells c ≡ blank
  pub group : (g : ℕ) → g < σ.groups → s.group g ≡ live []
  pub count : s.count ≡ 0

-- What an accepted filing answers and leaves, in a state where the key's walk stops at this blank cell and the group has these pairs.
abbrev pub receipt : State → ℕ → ℕ → List Pair → Receipt
receipt s cell probes pairs = record { cell = cell; probes = probes; slot = length pairs; filing = s.count + 1 }

abbrev pub after_filing : Settings → State → List ℕ → ℕ → ℕ → ℕ → List Pair → State
after_filing σ s key group locator cell pairs = record {
  cells = changed s.cells cell (written (entry_bytes σ (record { key = key; group = group; slot = length pairs; filing = s.count + 1 })));
  group = changed s.group group (live (pairs ++ record { cell = cell; locator = locator } ∷ []));
  count = s.count + 1;
}

-- One call, in the state before it and the state after it. Whether the store and the keep have room is theirs to say, so any call
-- that changes something may be turned down; what is accepted meets the conditions here.
pub data Step (σ : Settings) : State → Event → State → Type 0 where
  filing : {s : State} {key : List ℕ} {group locator cell probes : ℕ} {pairs : List Pair}
      → σ.admissible key ≡ true → group < σ.groups → s.group group ≡ live pairs → stop σ s.cells key ≡ at_blank cell probes
      → Step σ s (filed key group locator (receipt s cell probes pairs)) (after_filing σ s key group locator cell pairs)
  searching : {s : State} {key : List ℕ} → σ.admissible key ≡ true → Step σ s (searched key (search_for σ s key)) s
  retiring : {s : State} {group : ℕ} {pairs : List Pair} → group < σ.groups → s.group group ≡ live pairs
      → Step σ s (struck group (length pairs)) (record { cells = s.cells; group = changed s.group group retired; count = s.count })
  writing : {s : State} {cell : ℕ} {bytes : List ℕ} → length bytes ≡ cell_length → s.cells cell ≡ blank
      → Step σ s (wrote cell bytes) (record { cells = changed s.cells cell (written bytes); group = s.group; count = s.count })
  turning_down : {s : State} {call : Call} → Step σ s (turned_down call) s

-- A run from s: its events, the latest first, and the state that they leave.
pub data Run (σ : Settings) (s : State) : List Event → State → Type 0 where
  start : Run σ s [] s
  next : {events : List Event} {e : Event} {s' s'' : State} → Run σ s events s' → Step σ s' e s'' → Run σ s (e ∷ events) s''

-- Questions about a history.
abbrev pub any : (Event → Bool) → List Event → Bool
any test [] = false
any test (e ∷ events) = test e || any test events

-- A write was accepted at this cell; an accepted filing counts as one at its cell.
abbrev pub writes_at : ℕ → Event → Bool
writes_at c (filed key group locator r) = r.cell == c
writes_at c (wrote cell bytes) = cell == c
writes_at c (searched key answer) = false
writes_at c (struck group pairs) = false
writes_at c (turned_down call) = false

-- A retirement of this group was accepted.
abbrev pub retires : ℕ → Event → Bool
retires g (struck group pairs) = group == g
retires g (filed key group locator r) = false
retires g (wrote cell bytes) = false
retires g (searched key answer) = false
retires g (turned_down call) = false

-- An outside write was accepted.
abbrev pub outside : Event → Bool
outside (wrote cell bytes) = true
outside (filed key group locator r) = false
outside (struck group pairs) = false
outside (searched key answer) = false
outside (turned_down call) = false

pub record Filing : Type 0 where
  pub key : List ℕ
  pub group : ℕ
  pub locator : ℕ

-- The accepted filings, in order, the latest first.
abbrev pub filings : List Event → List Filing
filings [] = []
filings (filed key group locator r ∷ events) = record { key = key; group = group; locator = locator } ∷ filings events
filings (wrote cell bytes ∷ events) = filings events
filings (searched key answer ∷ events) = filings events
filings (struck group pairs ∷ events) = filings events
filings (turned_down call ∷ events) = filings events

-- The same as the keep meets them: each accepted filing put a pair of its cell and its locator, the earliest first.
abbrev pub puts : List Event → List Put
puts [] = []
puts (filed key group locator r ∷ events) = puts events ++ (record { group = group; cell = r.cell; locator = locator } ∷ [])
puts (wrote cell bytes ∷ events) = puts events
puts (searched key answer ∷ events) = puts events
puts (struck group pairs ∷ events) = puts events
puts (turned_down call ∷ events) = puts events

-- The locators of those filings whose group is not among the retired ones, in the same order.
abbrev pub locators : (ℕ → Bool) → List Filing → List ℕ
locators gone [] = []
locators gone (f ∷ fs) = cond (gone f.group) (locators gone fs) (f.locator ∷ locators gone fs)

-- What an event leaves of the state before it.
abbrev pub after : Settings → State → Event → State
after σ s (filed key group locator r) = record {
  cells = changed s.cells r.cell (written (entry_bytes σ (record { key = key; group = group; slot = r.slot; filing = r.filing })));
  group = changed s.group group (with_pair (s.group group) (record { cell = r.cell; locator = locator }));
  count = r.filing;
}
after σ s (searched key answer) = s
after σ s (struck group pairs) = record { cells = s.cells; group = changed s.group group retired; count = s.count }
after σ s (wrote cell bytes) = record { cells = changed s.cells cell (written bytes); group = s.group; count = s.count }
after σ s (turned_down call) = s

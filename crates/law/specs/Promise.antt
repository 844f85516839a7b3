-- The promises of the archive, over whole histories.
use Rattle.std.specs.Prelude.{◌≡◌, ℕ, zero, suc, ◌^◌, ◌<◌, ◌≤◌, Bool, true, false, cond, ◌↔◌, List, ◌∷◌, ◌++◌, map, length}
use Rattle.stores.specs.Cells.{is_written}
use Rattle.keeps.specs.History.{Forgets, Put}
use Rattle.law.specs.Archive.{Cell, Entry, FOUND, Group, Lawful, Settings, State, Stop, Verdict, at_blank, at_end, at_entry, get, live, retired, search_for, stop}
use Rattle.law.specs.History.{Blank, Event, Filing, Receipt, Run, any, filed, filings, locators, outside, puts, retires, searched, writes_at}

-- No write was accepted at the cell where a search ended, and no retirement of the group that an entry found there names.
abbrev pub Untouched : Stop → List Event → Type 0
Untouched (at_blank cell probes) events = any (writes_at cell) events ≡ false
Untouched (at_entry cell probes e) events = (any (writes_at cell) events ≡ false) × (any (retires e.group) events ≡ false)
Untouched (at_end probes) events = Unit {0}

-- Of every two searches for one key that stand in a history from s₀: their answers are equal, in verdict, locator, cell, probes and
-- the refusal inside FOREIGN, exactly when nothing that was accepted between them touched what the first one found. (Events stand
-- the latest first, and s is the state that the first search met.)
abbrev pub SearchesIn : Settings → (s₀ : State) → List Event → Type 0
SearchesIn σ s₀ events =
    (later between before : List Event) (key : List ℕ) (first second : Verdict)
    → events ≡ later ++ searched key second ∷ (between ++ searched key first ∷ before)
    → (s : State) → Run σ s₀ before s
    → (first ≡ second) ↔ Untouched (stop σ s.cells key) between

abbrev pub EqualSearches : Type 0
EqualSearches =
    (σ : Settings) → Lawful σ → (s₀ s : State) (events : List Event) → Blank σ s₀ → Run σ s₀ events s → SearchesIn σ s₀ events

-- Every cell below the total and every answer of get.
abbrev pub SameArchive : Settings → State → State → Type 0
SameArchive σ s t =
    ((c : ℕ) → c < σ.total → s.cells c ≡ t.cells c)
    × ((group slot cell : ℕ) → get σ s group slot cell ≡ get σ t group slot cell)

abbrev pub by_key_and_group : Filing → List ℕ × ℕ
by_key_and_group f = (f.key, f.group)

abbrev pub retired_in : List Event → ℕ → Bool
retired_in events g = any (retires g) events

-- The accepted filings in order by key and group, the groups retired, and the locators filed in groups not retired, in order of filing.
pub record SameHistory (events others : List Event) : Type 0 where
  pub filed : map by_key_and_group (filings events) ≡ map by_key_and_group (filings others)
  pub retired : (g : ℕ) → retired_in events g ≡ retired_in others g
  pub kept : locators (retired_in events) (filings events) ≡ locators (retired_in others) (filings others)

-- Settings are equal in each of their parts.
pub record EqualSettings (σ τ : Settings) : Type 0 where
  pub kind : σ.kind ≡ τ.kind
  pub admissible : (key : List ℕ) → σ.admissible key ≡ τ.admissible key
  pub path : (key : List ℕ) → σ.path key ≡ τ.path key
  pub total : σ.total ≡ τ.total
  pub groups : σ.groups ≡ τ.groups

-- An archive at s after these events, and every other one with equal settings, whatever its store and its keep, each after calls of
-- its own from blank in which no outside write was accepted: they are equal exactly when their histories agree.
abbrev pub ArchivesFrom : Settings → List Event → (s : State) → Type 0
ArchivesFrom σ events s =
    any outside events ≡ false
    → (τ : Settings) → EqualSettings σ τ → (t₀ t : State) (others : List Event) → Blank τ t₀ → Run τ t₀ others t → any outside others ≡ false
    → SameArchive σ s t ↔ SameHistory events others

abbrev pub EqualArchives : Type 0
EqualArchives =
    (σ : Settings) → Lawful σ → (s₀ s : State) (events : List Event) → Blank σ s₀ → Run σ s₀ events s → ArchivesFrom σ events s

-- The bytes that a keep holds follow from its numbers, its accepted puts in order and its retired groups, in a way of its make
-- (drawn), in which nothing of a retired group's cells and locators is left. Where the histories agree, two keeps of one make with
-- equal numbers hold equal bytes.
abbrev pub KeepsFrom : Settings → List Event → Type 0
KeepsFrom σ events =
    any outside events ≡ false
    → (τ : Settings) → EqualSettings σ τ → (t₀ t : State) (others : List Event) → Blank τ t₀ → Run τ t₀ others t → any outside others ≡ false
    → SameHistory events others
    → (drawn : List ℕ → List Put → (ℕ → Bool) → List ℕ) → Forgets drawn
    → (numbers : List ℕ) → drawn numbers (puts events) (retired_in events) ≡ drawn numbers (puts others) (retired_in others)

abbrev pub EqualKeeps : Type 0
EqualKeeps =
    (σ : Settings) → Lawful σ → (s₀ s : State) (events : List Event) → Blank σ s₀ → Run σ s₀ events s → KeepsFrom σ events

-- A filed sheet is found: whatever follows an accepted filing, a search for its key answers the locator, the cell and the probes
-- of that filing, as long as its group is not retired. So nothing that is filed or written later moves or hides it.
abbrev pub FiledIsFound : Type 0
FiledIsFound =
    (σ : Settings) → Lawful σ
    → (s₀ t : State) (before since : List Event) (key : List ℕ) (group locator : ℕ) (r : Receipt) → Blank σ s₀
    → Run σ s₀ (since ++ (filed key group locator r ∷ before)) t → any (retires group) since ≡ false
    → search_for σ t key ≡ FOUND locator r.cell r.probes

-- What was found stays found, whoever wrote it: a later search answers the same, as long as the group that the entry names is not retired.
abbrev pub FoundStaysFound : Type 0
FoundStaysFound =
    (σ : Settings) → Lawful σ
    → (s₀ s t : State) (before since : List Event) (key : List ℕ) (cell probes locator : ℕ) (e : Entry) → Blank σ s₀
    → Run σ s₀ before s → Run σ s since t → σ.admissible key ≡ true
    → stop σ s.cells key ≡ at_entry cell probes e → search_for σ s key ≡ FOUND locator cell probes
    → any (retires e.group) since ≡ false
    → search_for σ t key ≡ FOUND locator cell probes

-- How many cells below n are written, and how many pairs a group has.
unfoldable pub written_below : (ℕ → Cell) → ℕ → ℕ
written_below cells zero = 0
written_below cells (suc n) = cond (is_written (cells n)) (suc (written_below cells n)) (written_below cells n)

abbrev pub slots : Group → ℕ
slots (live pairs) = length pairs
slots retired = 0

-- In every history the accepted filings are no more than the written cells below the total, and no group has more pairs than there
-- were filings; so filing numbers and slots fit their bytes.
abbrev pub NumbersFit : Type 0
NumbersFit =
    (σ : Settings) → Lawful σ
    → (s₀ s : State) (events : List Event) → Blank σ s₀ → Run σ s₀ events s
    → (s.count ≤ written_below s.cells σ.total)
    × ((g : ℕ) → g < σ.groups → slots (s.group g) ≤ s.count)
    × (s.count < 2 ^ 32)

-- The law on a call that met the state s, with the event e, and left t: each history from a blank archive that leads to s goes on with
-- e to t, and in that longer history searches, archives and keeps are equal exactly when they should be.
pub record Law (σ : Settings) (s : State) (e : Event) (t : State) : Type 0 where
  pub goes_on : (s₀ : State) (events : List Event) → Blank σ s₀ → Run σ s₀ events s → Run σ s₀ (e ∷ events) t
  pub searches : (s₀ : State) (events : List Event) → Blank σ s₀ → Run σ s₀ events s → SearchesIn σ s₀ (e ∷ events)
  pub archives : (s₀ : State) (events : List Event) → Blank σ s₀ → Run σ s₀ events s → ArchivesFrom σ (e ∷ events) t
  pub keeps : (s₀ : State) (events : List Event) → Blank σ s₀ → Run σ s₀ events s → KeepsFrom σ (e ∷ events)

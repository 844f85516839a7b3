-- An archive as values: its settings, its state, the walk over a key's path, and what a search answers.
use Rattle.std.specs.Prelude.{◌≡◌, ℕ, ◌+◌, ◌<◌, ◌≤◌, Bool, true, cond, List, [], ◌∷◌, length}
use Rattle.std.specs.List.{AllByRecursion}
use Rattle.std.specs.Str.{bytes_eq}
pub use Rattle.std.specs.declared.option.Option.{Option}
pub use Rattle.std.specs.declared.option.Option.TheVariants.{None as none, Some as some}
pub use Rattle.std.specs.declared.result.Result.{Result}
pub use Rattle.std.specs.declared.result.Result.TheVariants.{Ok as gives, Err as denies}
pub use Rattle.stores.specs.Cells.{Cell, blank, written, cell_length}
use Rattle.trees.specs.Geometry.{largest_total}
pub use Rattle.keeps.specs.Groups.{Group, Pair, as_u32, changed, get_answer, in_slot, live, of_live, retired}
use Rattle.keeps.specs.Laws.{most_groups}
pub use Rattle.keeps.specs.declared.fault.KeepFault.{KeepFault}
pub use Rattle.keeps.specs.declared.fault.KeepFault.TheVariants.{Group as GROUP, Gone as GONE, NoSlot as NO_SLOT, Stranger as STRANGER}
pub use Rattle.entries.specs.declared.entry.Entry.{Entry}
use Rattle.entries.specs.Entries.{entry_bytes as bytes_of, entry_in}
pub use Rattle.law.specs.declared.answer.Stop.{Stop}
pub use Rattle.law.specs.declared.answer.Stop.TheVariants.{AtBlank as at_blank, AtEntry as at_entry, AtEnd as at_end}
pub use Rattle.law.specs.declared.answer.Verdict.{Verdict}
pub use Rattle.law.specs.declared.answer.Verdict.TheVariants.{Absent as ABSENT, Exhausted as EXHAUSTED, Found as FOUND, Retired as RETIRED, Foreign as FOREIGN}

-- The kind of key, which bytes are those of a key, the cells in which a key's entry may stand, in the order in which they are
-- tried, the number of cells of all paths, and the number of groups. Nothing else of a path rule and a key kind matters here,
-- so that what holds over all settings holds over every rule and kind.
pub record Settings : Type 0 where
  pub kind : ℕ
  pub admissible : List ℕ → Bool
  pub path : List ℕ → List ℕ
  pub total : ℕ
  pub groups : ℕ

-- What every kind of key, path rule and keep shows of itself.
pub record Lawful (σ : Settings) : Type 0 where
  pub key_length : (key : List ℕ) → σ.admissible key ≡ true → length key ≡ 12
  pub path_within : (key : List ℕ) → σ.admissible key ≡ true → AllByRecursion (λ c. c < σ.total) (σ.path key)
  pub total_limit : σ.total ≤ largest_total
  pub groups_limit : σ.groups ≤ most_groups

-- The store's cells, the keep's groups, and the count of accepted filings.
pub record State : Type 0 where
  pub cells : ℕ → Cell
  pub group : ℕ → Group
  pub count : ℕ

-- The bytes of an entry, and the entry that bytes are, if they are one.
abbrev pub entry_bytes : Settings → Entry → List ℕ
entry_bytes σ e = bytes_of σ.kind e

abbrev pub entry_of : Settings → List ℕ → Option Entry
entry_of σ bytes = entry_in σ.kind σ.admissible bytes

-- The entry, if it is one of this key.
abbrev pub if_key : List ℕ → Option Entry → Option Entry
if_key key none = none
if_key key (some e) = cond (bytes_eq e.key key) (some e) none

abbrev pub stop_or : Option Entry → (cell probes : ℕ) → Stop → Stop
stop_or none cell probes rest = rest
stop_or (some e) cell probes rest = at_entry cell probes e

-- A walk for a key at a cell: it stops at a blank one and at an entry of this key, and passes over anything else.
abbrev pub probe : Settings → (key : List ℕ) → Cell → (cell probes : ℕ) → Stop → Stop
probe σ key blank cell probes rest = at_blank cell probes
probe σ key (written bytes) cell probes rest = stop_or (if_key key (entry_of σ bytes)) cell probes rest

-- The walk over the cells of a path, after so many probes: cells that were read already.
abbrev pub walk : Settings → (ℕ → Cell) → (key path : List ℕ) (probes : ℕ) → Stop
walk σ cells key [] probes = at_end probes
walk σ cells key (c ∷ path) probes = probe σ key (cells c) c (probes + 1) (walk σ cells key path (probes + 1))

abbrev pub stop : Settings → (ℕ → Cell) → (key : List ℕ) → Stop
stop σ cells key = walk σ cells key (σ.path key) 0

-- What the keep answers.
abbrev pub in_group : Group → (g slot cell : ℕ) → Result ℕ KeepFault
in_group o g slot cell = of_live o g (λ pairs. in_slot pairs slot cell)

abbrev pub get : Settings → State → (g slot cell : ℕ) → Result ℕ KeepFault
get σ s g slot cell = get_answer σ.groups s.group g slot cell

-- What a search answers at an entry: FOUND with the locator, RETIRED on GONE, or FOREIGN with the keep's own refusal.
abbrev pub verdict : Result ℕ KeepFault → (cell probes : ℕ) → Verdict
verdict (gives locator) cell probes = FOUND locator cell probes
verdict (denies (GONE g)) cell probes = RETIRED cell probes
verdict (denies (GROUP g)) cell probes = FOREIGN (GROUP g) cell probes
verdict (denies (NO_SLOT g)) cell probes = FOREIGN (NO_SLOT g) cell probes
verdict (denies (STRANGER c)) cell probes = FOREIGN (STRANGER c) cell probes

-- What a search answers where its walk stopped; at an entry the keep is asked with its group and slot, and the cell.
abbrev pub finding : Settings → State → Stop → Verdict
finding σ s (at_blank cell probes) = ABSENT cell probes
finding σ s (at_entry cell probes e) = verdict (get σ s e.group e.slot cell) cell probes
finding σ s (at_end probes) = EXHAUSTED probes

abbrev pub search_for : Settings → State → (key : List ℕ) → Verdict
search_for σ s key = finding σ s (stop σ s.cells key)

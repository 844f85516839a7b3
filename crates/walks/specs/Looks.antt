-- What a walk for a key sees in a cell.
use Rattle.std.specs.Prelude.{ℕ, Bool, List}
use Rattle.entries.specs.Entries.{entry_in}
use Rattle.law.specs.Archive.{Cell, Entry, Option, blank, if_key, none, some, written}
use Rattle.law.specs.declared.answer.Stop.{Stop}
use Rattle.law.specs.declared.answer.Stop.TheVariants.{AtBlank as at_blank, AtEntry as at_entry}
use Rattle.walks.specs.declared.look.Seen.{Seen}
use Rattle.walks.specs.declared.look.Seen.TheVariants.{Blank, Own, Other}

abbrev pub seen_entry : Option Entry → Seen
seen_entry none = Other
seen_entry (some e) = Own e

abbrev pub seen_in : (kind : ℕ) (admissible : List ℕ → Bool) (key : List ℕ) → Cell → Seen
seen_in kind admissible key blank = Blank
seen_in kind admissible key (written bytes) = seen_entry (if_key key (entry_in kind admissible bytes))

-- Where the walk stops for what it sees at a cell, or what follows.
abbrev pub stop_for : Seen → (cell probes : ℕ) → Stop → Stop
stop_for Blank cell probes rest = at_blank cell probes
stop_for (Own e) cell probes rest = at_entry cell probes e
stop_for Other cell probes rest = rest

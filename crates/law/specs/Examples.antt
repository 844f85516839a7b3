-- Worked examples, of the very definitions that the contracts cite: paths, the entry in its cell, and a batch of calls.
use Rattle.std.specs.Prelude.{◌≡◌, ℕ, true, List, [], ◌∷◌, ◌++◌, replicate, Some, Ok, Err, Result}
use Rattle.keys.specs.Sheets.{sheet_admissible, sheet_bytes}
use Rattle.trees.specs.Examples.{WorkedExamples, small_tree}
use Rattle.trees.specs.Paths.{path_of}
use Rattle.trees.specs.declared.settings.Scheme.TheVariants.{Thin}
use Rattle.entries.specs.Entries.{entry_bytes, entry_in}
use Rattle.law.specs.Archive.{ABSENT, Entry, FOREIGN, FOUND, GONE, RETIRED, STRANGER, Settings, State, blank, live}
use Rattle.law.specs.History.{Blank, Call, after, file, find, retire, write}
use Rattle.law.specs.Rules.{Room, answer, event}
use Rattle.law.specs.declared.answer.Answer.{Answer}
use Rattle.law.specs.declared.answer.Answer.TheVariants.{Filed, Searched, Struck, Written}
use Rattle.law.specs.declared.fault.ArchiveFault.{ArchiveFault}
use Rattle.law.specs.declared.fault.ArchiveFault.TheVariants.{FullPath, Keep, Twice}

-- Sheet numbers in a thin tree of 28 cells: m = 4, k = 2, L = 3, t = 1; two groups.
abbrev pub small : Settings
small = record { kind = 1; admissible = sheet_admissible; path = path_of (small_tree Thin 1); total = 28; groups = 2 }

abbrev pub roomy : Room
roomy = record { size = 28; cell = λ _. true; pair = λ _. true }

abbrev pub fresh : State
fresh = record { cells = λ _. blank; group = λ _. live []; count = 0 }

-- What calls answer, one after the other.
unfoldable pub play : State → List Call → List (Result Answer ArchiveFault)
play s [] = []
play s (call ∷ calls) = let r = answer small roomy s call in r ∷ play (after small s (event call r)) calls

abbrev pub filed_at : (cell probes slot filing : ℕ) → Result Answer ArchiveFault
filed_at cell probes slot filing = Ok (Filed (record { cell = cell; probes = probes; slot = slot; filing = filing }))

-- 45 01, the key of sheet 6, group 1, slot 0, number 9
abbrev pub entry_of_6 : List ℕ
entry_of_6 = 0x45 ∷ 1 ∷ (replicate 11 0 ++ (6 ∷ 0 ∷ 1 ∷ 0 ∷ 0 ∷ 0 ∷ 0 ∷ 0 ∷ 0 ∷ 0 ∷ 9 ∷ []))

abbrev pub sixth : Entry
sixth = record { key = sheet_bytes 6; group = 1; slot = 0; filing = 9 }

abbrev pub calls : List Call
calls =
    file (sheet_bytes 5) 0 700 ∷ file (sheet_bytes 13) 1 701 ∷ find (sheet_bytes 9) ∷ file (sheet_bytes 9) 0 702 ∷ file (sheet_bytes 5) 1 703
    ∷ file (sheet_bytes 21) 0 704 ∷ file (sheet_bytes 29) 0 705 ∷ retire 0 ∷ find (sheet_bytes 5) ∷ find (sheet_bytes 13) ∷ retire 0
    ∷ write 2 entry_of_6 ∷ find (sheet_bytes 6) ∷ []

abbrev pub answers : List (Result Answer ArchiveFault)
answers =
    filed_at 1 1 0 1 ∷ filed_at 4 2 0 2 ∷ Ok (Searched (ABSENT 8 2)) ∷ filed_at 8 2 1 3 ∷ Err (Twice 1)
    ∷ filed_at 12 3 2 4 ∷ Err FullPath ∷ Ok (Struck 3) ∷ Ok (Searched (RETIRED 1 1)) ∷ Ok (Searched (FOUND 701 4 2)) ∷ Err (Keep (GONE 0))
    ∷ Ok Written ∷ Ok (Searched (FOREIGN (STRANGER 2) 2 1)) ∷ []

pub record ArchiveExamples : Type 0 where
  pub paths : WorkedExamples
  pub entry_read : entry_in 1 sheet_admissible entry_of_6 ≡ Some sixth
  pub entry_written : entry_bytes 1 sixth ≡ entry_of_6
  pub starts : Blank small fresh
  pub played : play fresh calls ≡ answers

-- What a level's tries have to do with the path.
use Rattle.std.specs.Prelude.{◌≡◌, ℕ, ◌+◌, ◌*◌, ◌<◌, List, Option, MatchOption, slice_index}
use Rattle.paths.specs.declared.descent.Descent.{Descent}
use Rattle.paths.specs.declared.descent.Tries.{Tries}
use Rattle.paths.specs.Tries.{try_cell}

-- Of a path with so many tries a level, try j of a level stands at level × tries + j.
abbrev pub TriesOf : (path : List ℕ) (width level : ℕ) → Tries → Type 0
TriesOf path width level tries = (j : ℕ) → j < width → try_cell tries.first tries.index tries.cells j ≡ slice_index path (level * width + j)

-- There is a level, and it has the path's tries.
abbrev pub HasTries : (path : List ℕ) (width level : ℕ) → Option Tries → Type 0
HasTries path width level found = MatchOption found ⊥ (TriesOf path width level)

-- From where the path of some key comes into a level, a step leads to where it comes into the next, and gives the level's
-- tries.
abbrev pub GoesDown :
    {P : Type 0} (depth width : P → ℕ) (path : P → List ℕ → List ℕ) (stage : P → List ℕ → ℕ → Descent) (rule : P) (before after : Descent) (found : Option Tries)
    → Type 0
GoesDown depth width path stage rule before after found =
    (key : List ℕ) (level : ℕ) → level < depth rule → before ≡ stage rule key level
    → (after ≡ stage rule key (level + 1)) × HasTries (path rule key) (width rule) level found

-- What every path rule shows of itself.
use Rattle.std.specs.Prelude.{◌≡◌, ℕ, ◌*◌, ◌<◌, ◌≤◌, List, length, slice_index}
use Rattle.std.specs.List.{AllByRecursion}
use Rattle.trees.specs.Settings.{RuleSettings}
use Rattle.trees.specs.Geometry.{largest_total}

-- No number stands at two places.
abbrev pub Once : List ℕ → Type 0
Once xs = (i j : ℕ) → i < length xs → j < length xs → slice_index xs i ≡ slice_index xs j → i ≡ j

-- Over the settings, the total, the levels, the tries in a level and the path of each key. That a path depends on the
-- key alone is its type: it is a function of the rule and the key's bytes.
pub record RuleLaws {P : Type 0} (settings : P → RuleSettings) (total levels tries : P → ℕ) (path : P → List ℕ → List ℕ) : Type 0 where
  -- no tree has more cells
  pub small : (p : P) → total p ≤ largest_total
  -- there are levels and tries, and no path is longer than 16 levels of 256
  pub some_levels : (p : P) → 1 ≤ levels p
  pub some_tries : (p : P) → 1 ≤ tries p
  pub short : (p : P) → levels p * tries p ≤ 4096
  -- a path has so many cells
  pub long : (p : P) (key : List ℕ) → length (path p key) ≡ levels p * tries p
  -- each below the total
  pub inside : (p : P) (key : List ℕ) → AllByRecursion (λ cell. cell < total p) (path p key)
  -- and none twice
  pub once : (p : P) (key : List ℕ) → Once (path p key)
  -- equal settings have one total, one number of levels and of tries, and give every key the same path
  pub same_total : (p q : P) → settings p ≡ settings q → total p ≡ total q
  pub same_levels : (p q : P) → settings p ≡ settings q → levels p ≡ levels q
  pub same_tries : (p q : P) → settings p ≡ settings q → tries p ≡ tries q
  pub same_path : (p q : P) → settings p ≡ settings q → (key : List ℕ) → path p key ≡ path q key

-- What is promised of one rule's path for one key, of the list of cells that a call gives.
pub record PathPromise {P : Type 0} (settings : P → RuleSettings) (total levels tries : P → ℕ) (path : P → List ℕ → List ℕ) (rule : P) (key cells : List ℕ) : Type 0 where
  pub whole : cells ≡ path rule key
  pub long : length cells ≡ levels rule * tries rule
  pub inside : AllByRecursion (λ cell. cell < total rule) cells
  pub once : Once cells
  -- a rule with equal settings has one total with this one, and gives the key the same cells
  pub settled : (other : P) → settings other ≡ settings rule → (total other ≡ total rule) × (path other key ≡ cells)

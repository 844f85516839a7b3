-- A rule's settings, paths and stages.
use Rattle.std.specs.Prelude.{ℕ, List, take}
use Rattle.paths.specs.declared.descent.Descent.{Descent}
use Rattle.paths.specs.declared.rule.Rule.{Rule}
use Rattle.trees.specs.Settings.{RuleSettings}
use Rattle.trees.specs.Geometry.{first_cell, span}
use Rattle.trees.specs.Paths.{hash_of, node_above, path_of}
use Rattle.trees.specs.Refusal.{coefficients_of}

-- The settings that a rule was made with.
abbrev pub settings_of : Rule → RuleSettings
settings_of r =
    record {
      scheme = r.shape.scheme;
      cells = r.shape.cells;
      children = r.shape.children;
      levels = r.shape.levels;
      tries = r.shape.tries;
      coefficients = take (coefficients_of r.shape.scheme r.shape.levels) r.coefficients;
    }

abbrev pub rule_path : Rule → List ℕ → List ℕ
rule_path r key = path_of (settings_of r) key

-- Where the path of a key with this hash comes into a level.
abbrev pub stage_at : RuleSettings → (hash level : ℕ) → Descent
stage_at s hash level =
    record { hash = hash; level = level; first = first_cell s.cells s.children level; span = span s.cells s.children level; node = node_above s hash level }

abbrev pub rule_stage : Rule → List ℕ → ℕ → Descent
rule_stage r key level = stage_at (settings_of r) (hash_of r.shape.scheme key) level

-- The settings of an archive, from its kind of key and its path rule.
use Rattle.std.specs.Prelude.{ℕ}
use Rattle.keys.specs.declared.kind.Key.{Ghosts as KindOf}
use Rattle.paths.specs.declared.path.PathRule.{Ghosts as RuleOf}
use Rattle.law.specs.Archive.{Settings}

-- With this number of groups.
abbrev pub settings_with : {K P : Type 0} → KindOf K → RuleOf P → P → (groups : ℕ) → Settings
settings_with kind ruled rule groups =
    record { kind = kind.mark; admissible = kind.admissible; path = ruled.path rule; total = ruled.extent rule; groups = groups }

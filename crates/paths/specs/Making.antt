-- What making a rule answers.
use Rattle.std.specs.Prelude.{◌≡◌, ℕ, Some, None, Ok, Err, Option, Result}
use Rattle.paths.specs.declared.rule.Rule.{Rule}
use Rattle.paths.specs.Rules.{settings_of}
use Rattle.trees.specs.Refusal.{rule_refusal}
use Rattle.trees.specs.Settings.{RuleSettings}
use Rattle.trees.specs.declared.fault.RuleFault.{RuleFault}
use Rattle.trees.specs.declared.fault.RuleFault.TheVariants.{Coefficient}

-- The check of coefficients.
abbrev pub coefficient_answer : Option ℕ → Result (Unit {0}) RuleFault
coefficient_answer None = Ok tt
coefficient_answer (Some level) = Err (Coefficient level)

-- A rule is made, with just the settings that were asked for, exactly where nothing refuses them.
abbrev pub Made : RuleSettings → Result Rule RuleFault → Type 0
Made s (Ok rule) = (rule_refusal s ≡ None) × (settings_of rule ≡ s)
Made s (Err f) = rule_refusal s ≡ Some f

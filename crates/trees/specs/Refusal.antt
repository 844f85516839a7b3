-- Which settings are refused, and the number and detail of each refusal.
use Rattle.std.specs.Prelude.{ℕ, zero, suc, ◌+◌, cond, List, [], ◌∷◌, Some, None, Ok, Err, Option, Result, nat_le}
use Rattle.trees.specs.declared.fault.RuleFault.{RuleFault}
use Rattle.trees.specs.declared.fault.RuleFault.TheVariants.{Setting, Coefficient, Size}
use Rattle.trees.specs.declared.settings.Coefficient.{Coefficient as Pair}
use Rattle.trees.specs.declared.settings.Scheme.{Scheme}
use Rattle.trees.specs.declared.settings.Scheme.TheVariants.{Thin, Fat, Trie}
use Rattle.trees.specs.Settings.{RuleSettings, in_range, coefficient_fits}
use Rattle.trees.specs.Geometry.{first_cell, largest_total}

-- 1 SETTING, 2 COEFFICIENT (level), 3 SIZE
abbrev pub rule_number : RuleFault → ℕ
rule_number Setting = 1
rule_number (Coefficient level) = 2
rule_number Size = 3

abbrev pub rule_detail : RuleFault → Option ℕ
rule_detail Setting = None
rule_detail (Coefficient level) = Some level
rule_detail Size = None

-- How many coefficients a scheme takes.
abbrev pub coefficients_of : Scheme → (levels : ℕ) → ℕ
coefficients_of Thin levels = levels
coefficients_of Fat levels = levels
coefficients_of Trie levels = 0

-- The lowest level whose coefficient is out of range, missing or extra, where `level` is the first still to look at
-- and `left` levels want one.
abbrev pub lowest_unfit : (level left : ℕ) → List Pair → Option ℕ
lowest_unfit level zero [] = None
lowest_unfit level zero (c ∷ cs) = Some level
lowest_unfit level (suc left) [] = Some level
lowest_unfit level (suc left) (c ∷ cs) = cond (coefficient_fits c) (lowest_unfit (level + 1) left cs) (Some level)

abbrev pub total_of : RuleSettings → ℕ
total_of s = first_cell s.cells s.children s.levels

abbrev pub size_refusal : RuleSettings → Option RuleFault
size_refusal s = cond (nat_le (total_of s) largest_total) None (Some Size)

abbrev pub coefficient_refusal : Option ℕ → Option RuleFault → Option RuleFault
coefficient_refusal None next = next
coefficient_refusal (Some level) next = Some (Coefficient level)

-- Why no rule can have these settings, or nothing where one can: SETTING before COEFFICIENT before SIZE.
abbrev pub rule_refusal : RuleSettings → Option RuleFault
rule_refusal s =
    cond (in_range s.scheme s.cells s.children s.levels s.tries)
    (coefficient_refusal (lowest_unfit 0 (coefficients_of s.scheme s.levels) s.coefficients) (size_refusal s))
    (Some Setting)

-- What is answered to the question for a level's first cell, and for the total.
abbrev pub sized : ℕ → Result ℕ RuleFault
sized cell = cond (nat_le cell largest_total) (Ok cell) (Err Size)

abbrev pub first_cell_answer : (m k levels level : ℕ) → Result ℕ RuleFault
first_cell_answer m k levels level = cond (nat_le level levels) (sized (first_cell m k level)) (Err Setting)

abbrev pub total_answer : (m k levels : ℕ) → Result ℕ RuleFault
total_answer m k levels = sized (first_cell m k levels)

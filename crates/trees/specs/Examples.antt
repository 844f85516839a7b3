-- Worked examples, of the definitions that the contracts cite.
use Rattle.std.specs.Prelude.{◌≡◌, ℕ, List, [], ◌∷◌, replicate, Some, None}
use Rattle.keys.specs.Codes.{padded}
use Rattle.keys.specs.Hashes.{fold_of}
use Rattle.keys.specs.Sheets.{sheet_bytes}
use Rattle.trees.specs.declared.fault.RuleFault.TheVariants.{Size}
use Rattle.trees.specs.declared.settings.Coefficient.{Coefficient}
use Rattle.trees.specs.declared.settings.Scheme.{Scheme}
use Rattle.trees.specs.declared.settings.Scheme.TheVariants.{Thin, Fat, Trie}
use Rattle.trees.specs.Paths.{hashed, path_from, path_of}
use Rattle.trees.specs.Refusal.{rule_refusal, total_of}
use Rattle.trees.specs.Settings.{RuleSettings}

abbrev three_pairs : List Coefficient
three_pairs = record { a = 1; b = 0 } ∷ record { a = 1; b = 3 } ∷ record { a = 3; b = 1 } ∷ []

-- m = 4, k = 2, L = 3
abbrev pub small_tree : Scheme → (tries : ℕ) → RuleSettings
small_tree scheme tries = record { scheme = scheme; cells = 4; children = 2; levels = 3; tries = tries; coefficients = three_pairs }

-- m = k = 4, L = 3, t = 1
abbrev small_trie : RuleSettings
small_trie = record { scheme = Trie; cells = 4; children = 4; levels = 3; tries = 1; coefficients = [] }

-- k = 2, L = 16, t = 1
abbrev deep_tree : (cells : ℕ) → RuleSettings
deep_tree cells =
    record { scheme = Thin; cells = cells; children = 2; levels = 16; tries = 1; coefficients = replicate 16 (record { a = 1; b = 0 }) }

pub record WorkedExamples : Type 0 where
  pub sheet_5 : path_of (small_tree Thin 1) (sheet_bytes 5) ≡ 1 ∷ 4 ∷ 12 ∷ []
  pub sheet_13 : path_of (small_tree Thin 1) (sheet_bytes 13) ≡ 1 ∷ 4 ∷ 12 ∷ []
  pub sheet_9 : path_of (small_tree Thin 1) (sheet_bytes 9) ≡ 1 ∷ 8 ∷ 24 ∷ []
  pub sheet_13_fat : path_of (small_tree Fat 1) (sheet_bytes 13) ≡ 1 ∷ 4 ∷ 20 ∷ []
  pub sheet_7_two_tries : path_of (small_tree Thin 2) (sheet_bytes 7) ≡ 3 ∷ 0 ∷ 6 ∷ 7 ∷ 18 ∷ 19 ∷ []
  pub largest_a : hashed (record { a = 2147483646; b = 2 }) (fold_of (sheet_bytes 1)) 4 ≡ 1
  pub code_A : fold_of (padded (65 ∷ [])) ≡ 67108866
  pub trie_path : path_from small_trie 0xE4000000 ≡ 3 ∷ 18 ∷ 77 ∷ []
  pub trie_total : total_of small_trie ≡ 84
  pub small_tree_stands : rule_refusal (small_tree Thin 1) ≡ None
  pub deepest_total : total_of (deep_tree 16) ≡ 1048560
  pub deepest_stands : rule_refusal (deep_tree 16) ≡ None
  pub deeper_is_too_large : rule_refusal (deep_tree 17) ≡ Some Size

-- The settings of a path rule, and which of them are in range.
use Rattle.std.specs.Prelude.{◌≡◌, ℕ, ◌^◌, Bool, true, ◌&&◌, List, ◌==◌, nat_le, nat_lt}
use Rattle.std.specs.Int.Count.{count_trailing_zeros}
use Rattle.std.specs.List.{list_all}
use Rattle.keys.specs.Hashes.{modulus}
use Rattle.trees.specs.declared.settings.Coefficient.{Coefficient}
use Rattle.trees.specs.declared.settings.Scheme.{Scheme}
use Rattle.trees.specs.declared.settings.Scheme.TheVariants.{Thin, Fat, Trie}
use Rattle.trees.specs.declared.settings.Settings.{Settings}

-- All that settles the path of every key: two rules are the same rule exactly when these are equal.
pub record RuleSettings : Type 0 where
  pub scheme : Scheme
  -- m, the cells of a node
  pub cells : ℕ
  -- k, the children of a node
  pub children : ℕ
  -- L, the levels
  pub levels : ℕ
  -- t, the tries in a node
  pub tries : ℕ
  -- a and b of each level, from level 0
  pub coefficients : List Coefficient

abbrev pub wanted : Settings → List Coefficient → RuleSettings
wanted s coefficients =
    record { scheme = s.scheme; cells = s.cells; children = s.children; levels = s.levels; tries = s.tries; coefficients = coefficients }

abbrev pub within : (low high n : ℕ) → Bool
within low high n = nat_le low n && nat_le n high

-- The w with m = 2^w, where m is a power of two.
abbrev pub log_two : ℕ → ℕ
log_two m = count_trailing_zeros 32 m

-- A trie needs m = k = 2^w with w at least 1; the other schemes take any m and k.
abbrev pub scheme_takes : Scheme → (m k : ℕ) → Bool
scheme_takes Thin m k = true
scheme_takes Fat m k = true
scheme_takes Trie m k = m == k && (m == 2 ^ log_two m && nat_lt 0 (log_two m))

abbrev pub in_range : Scheme → (m k levels tries : ℕ) → Bool
in_range scheme m k levels tries =
    within 1 256 m && (within 2 256 k && (within 1 16 levels && (within 1 m tries && scheme_takes scheme m k)))

-- Settings as they were asked for: whether their numbers are in range, and that these are their numbers.
abbrev pub asked_in_range : Settings → Bool
asked_in_range s = in_range s.scheme s.cells s.children s.levels s.tries

abbrev pub AskedFor : Settings → Scheme → (m k levels tries : ℕ) → Type 0
AskedFor s scheme m k levels tries = (scheme ≡ s.scheme) × (m ≡ s.cells) × (k ≡ s.children) × (levels ≡ s.levels) × (tries ≡ s.tries)

-- a from 1 to p - 1, b from 0 to p - 1
abbrev pub coefficient_fits : Coefficient → Bool
coefficient_fits c = nat_le 1 c.a && (nat_lt c.a modulus && nat_lt c.b modulus)

abbrev pub all_fit : List Coefficient → Bool
all_fit cs = list_all coefficient_fits cs

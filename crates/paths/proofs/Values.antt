-- The value of a level, as it is worked out and as the rules define it.
use Rattle.std.proofs.Common.{◌≡◌, ℕ, zero, suc, ◌+◌, ◌-◌, ◌*◌, ◌/◌, ◌%◌, ◌^◌, ◌<◌, length, get_or, sym, refl, ap, ◌∙◌, mul-add, arith}
use Rattle.std.proofs.lemmas.List.{get_or-take, get_or_default}
use Rattle.trees.specs.declared.settings.Coefficient.{Coefficient}
use Rattle.trees.specs.declared.settings.Scheme.{Scheme}
use Rattle.trees.specs.declared.settings.Scheme.TheVariants.{Fat}
use Rattle.trees.specs.Geometry.{span}
use Rattle.trees.specs.Paths.{bits_of, coefficient_at, hashed, value_at, value_by}
use Rattle.trees.specs.Refusal.{coefficients_of}
use Rattle.paths.specs.declared.rule.Rule.{Rule}
use Rattle.paths.specs.Rules.{settings_of}

-- Below level 0, by the number of bits that lie behind those taken.
pub bits_below : (w digest level : ℕ) → (level ≡ 0 → ⊥) → (digest / 2 ^ (32 - w * (level + 1))) % 2 ^ (2 * w) ≡ bits_of w digest level
bits_below w digest zero deep = absurd (deep refl)
bits_below w digest (suc above) deep =
    let places : w * (suc above + 1) ≡ w * above + 2 * w = omega (arith, mul-add w above 2, ap (λ n. w * n) (two above)) in
    ap (λ n. (digest / 2 ^ (32 - n)) % 2 ^ (2 * w)) places
  where
    two : (n : ℕ) → suc n + 1 ≡ n + 2
    two n = omega arith

module _ (r : Rule) (level : ℕ) (held : level < length r.coefficients) where
  from_table : level < coefficients_of r.shape.scheme r.shape.levels → (d : Coefficient) → get_or r.coefficients level d ≡ coefficient_at (settings_of r) level
  from_table low d = get_or_default r.coefficients level d _ held ∙ sym (get_or-take _ r.coefficients level _ low)

  wants : (scheme : Scheme) → r.shape.scheme ≡ scheme → level < coefficients_of scheme r.shape.levels → level < coefficients_of r.shape.scheme r.shape.levels
  wants scheme e low = omega (arith, ap (λ x. coefficients_of x r.shape.levels) e)

  module _ (hash range : ℕ) (d : Coefficient) (low : level < r.shape.levels) where
    pub fat_value : r.shape.scheme ≡ Fat → range ≡ span r.shape.cells r.shape.children level → hashed (get_or r.coefficients level d) hash range ≡ value_at (settings_of r) hash level
    fat_value e k =
        ap (λ c. hashed c hash range) (from_table (wants Fat e low) d) ∙ ap (hashed (coefficient_at (settings_of r) level) hash) k
        ∙ ap (λ x. value_by x (settings_of r) hash level) (sym e)

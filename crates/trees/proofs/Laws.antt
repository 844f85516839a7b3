-- A path that a call gives has all that the laws say of the path.
use Rattle.std.proofs.Common.{◌≡◌, ℕ, ◌<◌, List, length, sym, ap, ◌∙◌, subst}
use Rattle.std.specs.List.{AllByRecursion}
use Rattle.trees.specs.Laws.{Once, RuleLaws, PathPromise}
use Rattle.trees.specs.Settings.{RuleSettings}

pub promised :
    {P : Type 0} (settings : P → RuleSettings) (total levels tries : P → ℕ) (path : P → List ℕ → List ℕ) → RuleLaws settings total levels tries path
    → (rule : P) (key cells : List ℕ) → cells ≡ path rule key → PathPromise settings total levels tries path rule key cells
promised settings total levels tries path laws rule key cells e =
    record {
      whole = e;
      long = ap length e ∙ laws.long rule key;
      inside = subst (AllByRecursion (λ cell. cell < total rule)) (sym e) (laws.inside rule key);
      once = subst Once (sym e) (laws.once rule key);
      settled = λ other same. (laws.same_total other rule same, laws.same_path other rule same key ∙ sym e);
    }

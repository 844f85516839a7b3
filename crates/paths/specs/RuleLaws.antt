-- A rule is a path rule: what is shown of every one.
use Rattle.std.specs.Prelude.{ℕ, ◌^◌, ◌<◌, List}
use Rattle.std.proofs.Common.{arith, ap, sym, ◌∙◌}
use Rattle.std.proofs.lemmas.Nat.{mul-le}
use Rattle.std.specs.List.{AllByRecursion}
use Rattle.keys.proofs.Digests.{fnv1a_below}
use Rattle.keys.proofs.Folds.{fold_below}
use Rattle.paths.specs.declared.rule.Rule.{Rule}
use Rattle.trees.specs.declared.settings.Scheme.{Scheme}
use Rattle.trees.specs.declared.settings.Scheme.TheVariants.{Thin, Fat, Trie}
use Rattle.trees.specs.Laws.{RuleLaws}
use Rattle.trees.specs.Paths.{hash_of, path_of}
use Rattle.trees.specs.Refusal.{total_of}
use Rattle.paths.specs.Rules.{settings_of, rule_path}
use Rattle.trees.proofs.Cells.{length_path, path_inside, path_once}

pub hash_small : (scheme : Scheme) (key : List ℕ) → hash_of scheme key < 2 ^ 32
hash_small Thin key = omega (arith, fold_below key)
hash_small Fat key = omega (arith, fold_below key)
hash_small Trie key = fnv1a_below key

inside : (r : Rule) (key : List ℕ) → AllByRecursion (λ cell. cell < r.total) (rule_path r key)
inside r key =
    let s = settings_of r in
    let below = path_inside s (hash_of r.shape.scheme key) r.shape.node.0 (omega (arith, r.shape.fork.0)) r.shape.taken (hash_small r.shape.scheme key) r.shape.width.0 in
    rw r.whole below

pub rule_laws : RuleLaws {P = Rule} settings_of (λ r. r.total) (λ r. r.shape.levels) (λ r. r.shape.tries) rule_path
rule_laws =
    record {
      small = λ r. r.small;
      some_levels = λ r. r.shape.depth.0;
      some_tries = λ r. r.shape.width.0;
      short = λ r. let most = mul-le r.shape.levels r.shape.tries 16 256 r.shape.depth.1 (omega (arith, r.shape.width.1, r.shape.node.1)) in omega arith;
      long = λ r key. length_path (settings_of r) (hash_of r.shape.scheme key);
      inside = inside;
      once = λ r key. path_once (settings_of r) (hash_of r.shape.scheme key) r.shape.node.0 (omega (arith, r.shape.fork.0)) r.shape.taken (hash_small r.shape.scheme key) r.shape.width.0 r.shape.width.1;
      same_total = λ p q e. p.whole ∙ ap total_of e ∙ sym q.whole;
      same_levels = λ p q e. ap (λ s. s.levels) e;
      same_tries = λ p q e. ap (λ s. s.tries) e;
      same_path = λ p q e key. ap (λ s. path_of s key) e;
    }

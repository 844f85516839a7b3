-- The table holds the level's coefficients, which fit; a descent of this rule has the level's own span.
use Rattle.std.proofs.Common.{◌≡◌, ◌≤◌, ◌∙◌, arith}
use Rattle.trees.specs.Geometry.{span}
use Rattle.trees.proofs.Geometry.{span_some}
use Rattle.paths.proofs.Values.{fat_value}
use Rattle.paths.proofs.rule.Rule.value.Goals as goal

pub returns-in-Fat : goal.returns-in-Fat
returns-in-Fat c own =
    let s = c.args.self.now.shape in
    let level = c.args.at.now.level in
    let some : 1 ≤ span s.cells s.children level = span_some s.cells s.children level s.node.0 (omega (arith, s.fork.0)) in
    let whole : c.max.result ≡ span s.cells s.children level = omega (arith, own, some, c.max.ensures) in
    c.hashed_below-in-Fat.ensures
    ∙ fat_value c.args.self.now level (omega arith) c.args.at.now.hash c.max.result _ c.requires c.in-Fat.is whole

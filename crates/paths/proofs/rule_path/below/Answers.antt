-- One level down, for a descent that has come there by this rule.
use Rattle.std.proofs.Common.{◌<◌, refl, ap, arith}
use Rattle.paths.proofs.Descents.{value_there, node_there, stage_below, tries_there}
use Rattle.paths.proofs.rule_path.below.Goals as goal

pub returns : goal.returns
returns c =
    record {
      down = λ key i come.
          let r = c.args.rule.now in
          let at = c.args.at.now in
          let low : i < r.shape.levels = omega (arith, ap (λ d. d.level) come, c.requires) in
          let value = value_there r key i at low come c.value-value.result c.value-value.ensures in
          let node = node_there r key i at low come c.value-value.result c.node_of-node.result value c.node_of-node.ensures in (
            stage_below r key i at low come c.node_of-node.result node c.saturating_add.result c.saturating_mul-2.result c.saturating_add.ensures c.saturating_mul-2.ensures,
            tries_there r key i at low come c.node_of-node.result node c.value-value.result _ c.saturating_add-first.result value c.saturating_mul.ensures c.saturating_add-first.ensures,
          );
      onward = refl;
    }

-- A rule that passed every check is one that nothing refuses, with the settings that were asked for.
use Rattle.std.proofs.Common.{sym, ap, ◌∙◌}
use Rattle.trees.specs.Refusal.{rule_refusal}
use Rattle.paths.proofs.Making.{at_most_16, table_fits, table_holds, not_refused, fits_size, shaped}
use Rattle.paths.proofs.rule.Rule.new.Goals as goal

pub table_of-requires : goal.table_of-requires
table_of-requires c = at_most_16 c.in_ok-shape.shape c.args.coefficients.now c.in_ok-check_coefficients.ensures

pub invariant_of-result : goal.invariant_of-result
invariant_of-result c =
    let sized = fits_size _ c.in_ok-total.total c.in_ok-total.ensures in
    record { whole = sized.0; small = rw sized.0 sized.1; fit = table_fits c.in_ok-shape.shape c.args.coefficients.now c.in_ok-check_coefficients.ensures c.table_of.result c.table_of.ensures }

pub returns : goal.returns
returns c =
    let s = c.in_ok-shape.shape in
    let cs = c.args.coefficients.now in
    let fit = c.in_ok-check_coefficients.ensures in
    let asked = shaped s c.args.settings cs c.in_ok-shape.ensures in
    let held = table_holds s cs fit c.table_of.result c.table_of.ensures in (
      ap rule_refusal (sym asked) ∙ not_refused s cs fit c.in_ok-total.total c.in_ok-total.ensures,
      ap (λ table. record { scheme = s.scheme; cells = s.cells; children = s.children; levels = s.levels; tries = s.tries; coefficients = table }) held ∙ asked,
    )

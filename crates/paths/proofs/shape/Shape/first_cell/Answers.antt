-- Each turn goes one level down; past the limit no deeper level comes back below it.
use Rattle.std.proofs.Common.{◌+◌, ◌*◌, ◌<◌, sym, ap, ◌∙◌, arith}
use Rattle.trees.specs.Geometry.{first_cell, largest_total}
use Rattle.trees.proofs.Geometry.{span_more, first_cell_more, first_cell_rises, sized_large, first_cell-asked}
use Rattle.paths.proofs.shape.Shape.first_cell.Goals as goal

pub returns-then-span-first : goal.returns-then-span-first
returns-then-span-first c =
    let s = c.args.self.now in
    let next = first_cell_more s.cells s.children c.loop.counter in
    let deeper = first_cell_rises s.cells s.children (c.loop.counter + 1) c.args.level (omega arith) in
    let past : largest_total < first_cell s.cells s.children c.args.level = omega (arith, next, deeper) in
    sized_large _ past ∙ first_cell-asked s.cells s.children s.levels c.args.level (omega arith)

pub loop-preserved : goal.loop-preserved
loop-preserved c =
    let s = c.args.self.now in (
      omega (arith, first_cell_more s.cells s.children c.loop.counter),
      ap (λ n. n * s.children) c.loop.invariant.1 ∙ sym (span_more s.cells s.children c.loop.counter),
      omega arith,
    )

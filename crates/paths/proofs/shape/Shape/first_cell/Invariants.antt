-- At each level that is passed: its first cell, not above the limit, and its cells.
use Rattle.std.proofs.Common.{◌≡◌, ◌≤◌}
use Rattle.trees.specs.Geometry.{first_cell, span, largest_total}
use Rattle.paths.proofs.shape.Shape.first_cell.Given as goal

abbrev pub invariant-loop : goal.invariant-loop
invariant-loop l =
    (l.first ≡ first_cell l.self.cells l.self.children l.counter) × (l.span ≡ span l.self.cells l.self.children l.counter)
    × (l.first ≤ largest_total)

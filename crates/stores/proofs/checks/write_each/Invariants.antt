-- What was written before the first write is still there.
use Rattle.std.proofs.Common.{◌≡◌, ◌≤◌}
use Rattle.stores.specs.Writes.{Kept}
use Rattle.stores.proofs.checks.write_each.Given as goal

abbrev pub invariant-loop-write : goal.invariant-loop-write
invariant-loop-write g l =
    (l.accepted ≤ l.write-index) × Kept (g.S.Store.cell l.initial.store) (g.S.Store.cell l.store)
    × (g.S.Store.cells l.store ≡ g.S.Store.cells l.initial.store)

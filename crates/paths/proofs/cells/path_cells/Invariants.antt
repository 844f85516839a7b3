-- The cells so far are the front of the path.
use Rattle.std.proofs.Common.{◌≡◌, ◌+◌, ◌-◌, ◌*◌, ◌≤◌, length, take, vec_items}
use Rattle.paths.proofs.cells.path_cells.Given as goal

abbrev pub invariant-loop-tries : goal.invariant-loop-tries
invariant-loop-tries g l =
    (l.at ≡ g.P.PathRule.stage l.rule l.key l.at.level)
    × (l.at.level ≤ g.P.PathRule.depth l.rule)
    × (vec_items l.cells ≡ take (l.at.level * g.P.PathRule.width l.rule) (g.P.PathRule.path l.rule l.key))

abbrev pub decreases-loop-tries : goal.decreases-loop-tries
decreases-loop-tries g l = g.P.PathRule.depth l.rule - l.at.level

abbrev pub invariant-loop-j : goal.invariant-loop-j
invariant-loop-j g l =
    vec_items l.cells ≡ take (length (vec_items l.initial.cells) + l.j) (g.P.PathRule.path l.rule l.key)

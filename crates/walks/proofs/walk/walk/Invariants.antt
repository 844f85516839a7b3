-- The cells so far were passed over: the walk from the path's start is the walk from here on.
use Rattle.std.proofs.Common.{◌≡◌, ℕ, ◌+◌, ◌-◌, ◌*◌, ◌≤◌, drop}
use Rattle.law.specs.Archive.{walk}
use Rattle.walks.specs.Parts.{settings_with}
use Rattle.walks.proofs.walk.walk.Given as goal

abbrev pub invariant-loop-tries : goal.invariant-loop-tries
invariant-loop-tries g l =
    (l.at ≡ g.P.PathRule.stage l.rule l.key l.at.level)
    × (l.at.level ≤ g.P.PathRule.depth l.rule)
    × (l.probes ≡ l.at.level * l.width)
    × ((n : ℕ) → walk (settings_with g.K.Key g.P.PathRule l.rule n) (g.S.Store.cell l.store) l.key (g.P.PathRule.path l.rule l.key) 0 ≡ walk (settings_with g.K.Key g.P.PathRule l.rule n) (g.S.Store.cell l.store) l.key (drop l.probes (g.P.PathRule.path l.rule l.key)) l.probes)

abbrev pub decreases-loop-tries : goal.decreases-loop-tries
decreases-loop-tries g l = g.P.PathRule.depth l.rule - l.at.level

abbrev pub invariant-loop-j : goal.invariant-loop-j
invariant-loop-j g l =
    (l.probes ≡ l.initial.probes + l.j)
    × ((n : ℕ) → walk (settings_with g.K.Key g.P.PathRule l.rule n) (g.S.Store.cell l.store) l.key (g.P.PathRule.path l.rule l.key) 0 ≡ walk (settings_with g.K.Key g.P.PathRule l.rule n) (g.S.Store.cell l.store) l.key (drop l.probes (g.P.PathRule.path l.rule l.key)) l.probes)

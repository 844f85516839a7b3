-- The cell of each try is the next of the path, and the walk from there on is what it sees there.
use Rattle.std.proofs.Common.{◌≡◌, ℕ, ◌+◌, ◌*◌, ◌<◌, drop, sym, ap, ◌∙◌, arith}
use Rattle.law.specs.Archive.{walk}
use Rattle.paths.proofs.Fronts.{level_there}
use Rattle.walks.specs.Looks.{stop_for}
use Rattle.walks.specs.declared.look.Seen.{Seen}
use Rattle.walks.specs.declared.look.Seen.TheVariants.{Blank, Own, Other}
use Rattle.walks.specs.Parts.{settings_with}
use Rattle.walks.proofs.Walks.{walk_at_try}
use Rattle.walks.proofs.walk.walk.Given.{Over}
use Rattle.walks.proofs.walk.walk.Goals as goal
use Rattle.walks.proofs.walk.walk.Goals.{After-look}

-- From the path's start on, the walk is what this try sees, or the walk behind it.
tried :
    (g : Over) (c : After-look g) (seen : Seen) (n : ℕ) → c.look.result ≡ seen
    → walk (settings_with g.K.Key g.P.PathRule c.args.rule.now n) (g.S.Store.cell c.args.store.now) c.args.key.now (g.P.PathRule.path c.args.rule.now c.args.key.now) 0
    ≡ stop_for seen c.cell-cell.result (c.loop-j.probes + 1) (walk (settings_with g.K.Key g.P.PathRule c.args.rule.now n) (g.S.Store.cell c.args.store.now) c.args.key.now (drop (c.loop-j.probes + 1) (g.P.PathRule.path c.args.rule.now c.args.key.now)) (c.loop-j.probes + 1))
tried g c seen n is =
    let rule = c.args.rule.now in
    let key = c.args.key.now in
    let level = c.loop-tries.at.level in
    let j = c.loop-j.j in
    let low : level < g.P.PathRule.depth rule = level_there (g.P.PathRule.depth rule) level c.in-Some.tries c.in-Some.ensures.ended in
    let stands = (c.in-Some.ensures.down key level low c.loop-tries.invariant.0).1 j (omega arith) in
    let at : c.loop-j.probes ≡ level * c.tries-width.result + j = c.loop-j.invariant.0 ∙ ap (λ k. k + j) c.loop-tries.invariant.2 in
    c.loop-j.invariant.1 n
    ∙ walk_at_try (settings_with g.K.Key g.P.PathRule rule n) (g.S.Store.cell c.args.store.now) key (g.P.PathRule.path rule key) (g.P.PathRule.depth rule) (g.P.PathRule.width rule) c.tries-width.result
    level j c.loop-j.probes c.cell-cell.result _ seen (g.P.PathRule.laws.long rule key) c.tries-width.ensures at low (omega arith) c.cell-cell.ensures stands (sym is ∙ c.look.ensures)

pub loop-j-preserved : goal.loop-j-preserved
loop-j-preserved g c = (omega arith, λ n. tried g (goal.at.loop-j-preserved g c).After-look Other n c.in-Other.is)

pub returns-in-Blank : goal.returns-in-Blank
returns-in-Blank g c n = sym (tried g (goal.at.returns-in-Blank g c).After-look Blank n c.in-Blank.is)

pub returns-in-Own : goal.returns-in-Own
returns-in-Own g c n = sym (tried g (goal.at.returns-in-Own g c).After-look (Own c.in-Own.entry) n c.in-Own.is)

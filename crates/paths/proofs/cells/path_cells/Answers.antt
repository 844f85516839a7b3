-- Each try puts the next cell of the path behind those so far, and each step leads one level down, to the last.
use Rattle.std.proofs.Common.{◌≡◌, ◌+◌, ◌*◌, ◌<◌, ◌≤◌, [], ◌∷◌, length, take, get_or, vec_items, sym, ap, ◌∙◌, arith}
use Rattle.std.proofs.lemmas.Nat.{mul-add-lt}
use Rattle.std.proofs.lemmas.List.{take_all}
use Rattle.std.proofs.lemmas.Slice.{pushed}
use Rattle.trees.proofs.Laws.{promised}
use Rattle.paths.proofs.Fronts.{front_more, level_last, level_there, so_many}
use Rattle.paths.proofs.cells.path_cells.Goals as goal

pub loop-j-preserved : goal.loop-j-preserved
loop-j-preserved g c =
    let rule = c.args.rule.now in
    let path = g.P.PathRule.path rule c.args.key.now in
    let width = g.P.PathRule.width rule in
    let depth = g.P.PathRule.depth rule in
    let level = c.loop-tries.at.level in
    let j = c.loop-j.j in
    let low : level < depth = level_there depth level c.in-Some.tries c.in-Some.ensures.ended in
    let inside : j < width = omega arith in
    let n = length (vec_items c.loop-tries.cells) in
    let front : n ≡ level * width = so_many path depth width level (vec_items c.loop-tries.cells) (g.P.PathRule.laws.long rule c.args.key.now) (omega arith) c.loop-tries.invariant.2 in
    let place : n + j < length path = omega (arith, front, g.P.PathRule.laws.long rule c.args.key.now, mul-add-lt level width j depth low inside) in
    pushed (c.cell.result ∷ []) c.loop-j.invariant c.in_ok-push.was c.push.ensures.items
    ∙ front_more path (n + j) (n + (j + 1)) c.cell.result place (omega arith)
    (c.cell.ensures ∙ (c.in-Some.ensures.down c.args.key.now level low c.loop-tries.invariant.0).1 j inside ∙ ap (λ k. get_or path (k + j) 0) (sym front))

pub loop-tries-preserved : goal.loop-tries-preserved
loop-tries-preserved g c =
    let rule = c.args.rule.now in
    let path = g.P.PathRule.path rule c.args.key.now in
    let width = g.P.PathRule.width rule in
    let depth = g.P.PathRule.depth rule in
    let level = c.loop-tries.at.level in
    let low : level < depth = level_there depth level c.in-Some.tries c.in-Some.ensures.ended in
    let next = (c.in-Some.ensures.onward low).1 in
    let n = length (vec_items c.loop-tries.cells) in
    let front : n ≡ level * width = so_many path depth width level (vec_items c.loop-tries.cells) (g.P.PathRule.laws.long rule c.args.key.now) (omega arith) c.loop-tries.invariant.2 in
    let many : n + c.loop-j.j ≡ c.descend.new.at.level * width = omega (arith, front, ap (λ k. k * width) next) in (
      (c.in-Some.ensures.down c.args.key.now level low c.loop-tries.invariant.0).0 ∙ ap (g.P.PathRule.stage rule c.args.key.now) (sym next),
      omega (arith, next),
      c.loop-j.invariant ∙ ap (λ k. take k path) many,
    )

pub returns : goal.returns
returns g c =
    let rule = c.args.rule.now in
    let path = g.P.PathRule.path rule c.args.key.now in
    let width = g.P.PathRule.width rule in
    let level = c.loop-tries.at.level in
    let past = level_last (g.P.PathRule.depth rule) level c.descend.result c.in_default.is c.descend.ensures.onward in
    let last : level ≡ g.P.PathRule.depth rule = omega (arith, past, c.loop-tries.invariant.1) in
    let all : length path ≤ level * width = omega (arith, g.P.PathRule.laws.long rule c.args.key.now, ap (λ n. n * width) last) in
    promised g.P.PathRule.settings g.P.PathRule.extent g.P.PathRule.depth g.P.PathRule.width g.P.PathRule.path g.P.PathRule.laws rule
    c.args.key.now (vec_items c.loop-tries.cells) (c.loop-tries.invariant.2 ∙ take_all (level * width) path all)

-- Both keeps have the same numbers and retired groups, and puts that are alike.
use Rattle.std.proofs.Common.{sym, ap, ◌∙◌}
use Rattle.keeps.proofs.Traces.{and_gone, alike_struck, drawn_alike, gone_accepted}
use Rattle.keeps.proofs.checks.strike_both.Goals as goal

pub returns : goal.returns
returns g c first second puts others gone same one other alike =
    let drawn = g.K.Keep.drawn in
    let group = c.args.group in
    let numbers = g.K.Keep.numbers c.args.one.now in
    c.strike-first.ensures.done.history puts gone one
    ∙ ap (drawn numbers puts) (gone_accepted c.strike-first.result gone group first)
    ∙ drawn_alike drawn g.K.Keep.laws.forgets numbers puts others (and_gone gone group) (alike_struck gone group puts others alike)
    ∙ ap (λ n. drawn n others (and_gone gone group)) same
    ∙ ap (drawn (g.K.Keep.numbers c.args.other.now) others) (sym (gone_accepted c.strike-second.result gone group second))
    ∙ sym (c.strike-second.ensures.done.history others gone other)

-- Refused, a write below leaves the window as it was.
use Rattle.std.proofs.Common.{rules}
use Rattle.piles.proofs.Refused.{refused_below, same_window}
use Rattle.piles.proofs.window.WindowStore.write.Goals as goal

pub returns : goal.returns
returns g c =
    record {
      done = record {
        value = search rules;
        after = search rules;
        size = search rules;
        same = λ refused.
            same_window c.args.self.now c.write.new.self _ (c.write.ensures.done.same (refused_below _ c.seen_from_above.result c.write.result c.seen_from_above.ensures refused));
      };
    }

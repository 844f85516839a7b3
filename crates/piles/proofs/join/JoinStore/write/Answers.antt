-- Refused, a write to one store leaves both as they were.
use Rattle.std.proofs.Common.{rules, refl}
use Rattle.piles.proofs.Refused.{refused_below, same_join}
use Rattle.piles.proofs.join.JoinStore.write.Goals as goal

pub returns-in-None : goal.returns-in-None
returns-in-None g c =
    record {
      done = record {
        value = search rules;
        after = search rules;
        size = search rules;
        same = λ refused. same_join c.args.self.now c.write.new.self c.args.self.now.second _ (c.write.ensures.done.same refused) refl;
      };
    }

pub returns-in-Some : goal.returns-in-Some
returns-in-Some g c =
    record {
      done = record {
        value = search rules;
        after = search rules;
        size = search rules;
        same = λ refused.
            same_join c.args.self.now c.args.self.now.first c.write-in-Some.new.self _ refl
            (c.write-in-Some.ensures.done.same (refused_below _ c.seen_from_above.result c.write-in-Some.result c.seen_from_above.ensures refused));
      };
    }

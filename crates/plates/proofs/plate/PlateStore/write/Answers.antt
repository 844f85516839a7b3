-- An accepted write leaves that cell written and no other changed.
use Rattle.std.proofs.Common.{rules, arith}
use Rattle.plates.proofs.Cells.{cell_after}
use Rattle.plates.proofs.plate.PlateStore.write.Goals as goal

pub returns-clause-done : goal.returns-clause-done
returns-clause-done c =
    let plate = c.args.self.now in
    record {
      value = search rules;
      after = cell_after plate.memory.now c.put.new.memory plate.count c.args.at c.args.bytes.now (grind arith) c.put.ensures;
      size = search rules;
      same = search rules;
    }

-- Each example, by computing it.
use Rattle.std.proofs.Common.{refl}
use Rattle.entries.specs.Entries.{entry_bytes, entry_in}
use Rattle.law.specs.Examples.{play}
use Rattle.law.proofs.examples.archive_examples_hold.Goals as goal

pub returns : goal.returns
unfolding entry_bytes entry_in play
returns c =
    record {
      paths = c.worked_examples_hold.ensures;
      entry_read = refl;
      entry_written = refl;
      starts = record { cells = λ i l. refl; group = λ g l. refl; count = refl };
      played = refl;
    }

-- Which keep a word names.
use Rattle.std.specs.Prelude.{ℕ, cond, List, Some, None, codes, Option}
use Rattle.std.specs.Str.{bytes_eq}
use Rattle.keepshow.specs.declared.start.Make.{Make}
use Rattle.keepshow.specs.declared.start.Make.TheVariants.{Blocks, Ledger}

abbrev pub make_of : List ℕ → Option Make
make_of t = cond (bytes_eq t (codes "blocks")) (Some Blocks) (cond (bytes_eq t (codes "ledger")) (Some Ledger) None)

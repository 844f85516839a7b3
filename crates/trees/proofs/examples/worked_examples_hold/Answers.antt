-- Each example, by computing it.
use Rattle.std.proofs.Common.{refl}
use lib.Count.{count_trailing_zeros}
use Rattle.trees.proofs.examples.worked_examples_hold.Goals as goal

pub returns : goal.returns
unfolding count_trailing_zeros
returns c =
    record {
      sheet_5 = refl;
      sheet_13 = refl;
      sheet_9 = refl;
      sheet_13_fat = refl;
      sheet_7_two_tries = refl;
      largest_a = refl;
      code_A = refl;
      trie_path = refl;
      trie_total = refl;
      small_tree_stands = refl;
      deepest_total = refl;
      deepest_stands = refl;
      deeper_is_too_large = refl;
    }

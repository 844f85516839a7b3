-- A rule of which coefficients are still wanted.
use Rattle.std.specs.Prelude.{List, [], ◌∷◌, ◌++◌, vec_items}
use Rattle.trees.specs.declared.settings.Coefficient.{Coefficient as Pair}
use Rattle.trees.specs.declared.settings.Settings.{Settings}
use Rattle.listing.specs.declared.draft.Draft.{Draft}
use Rattle.listing.specs.declared.wish.Kind.{Kind}

-- the kind of its keys, its settings, and the coefficients so far
pub record Drafted : Type 0 where
  pub kind : Kind
  pub settings : Settings
  pub pairs : List Pair

-- with no coefficients so far
abbrev pub blank : Kind → Settings → Drafted
blank kind s = record { kind = kind; settings = s; pairs = [] }

-- with those of one level more
abbrev pub one_more : Drafted → Pair → Drafted
one_more d p = record { kind = d.kind; settings = d.settings; pairs = d.pairs ++ p ∷ [] }

-- what a draft of the program holds, in these words
abbrev pub drafted : Draft → Drafted
drafted d = record { kind = d.kind; settings = d.settings; pairs = vec_items d.coefficients }

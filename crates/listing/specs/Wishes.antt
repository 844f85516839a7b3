-- What a line `set KIND RULE m k L t G` asks for.
use Rattle.std.specs.Prelude.{ℕ, cond, List, Some, None, codes, Option, Result}
use Rattle.std.specs.Str.{bytes_eq}
use Rattle.lines.specs.declared.fault.LineFault.{LineFault}
use Rattle.lines.specs.Fields.{Reading, and_end, and_next, field_as, number_field, word_field}
use Rattle.lines.specs.Readers.{all_of}
use Rattle.trees.specs.declared.settings.Scheme.{Scheme}
use Rattle.trees.specs.declared.settings.Scheme.TheVariants.{Thin, Fat, Trie}
use Rattle.listing.specs.declared.wish.Kind.{Kind}
use Rattle.listing.specs.declared.wish.Kind.TheVariants.{Num, Code}
use Rattle.listing.specs.declared.wish.Wish.{Wish}

abbrev pub kind_of : List ℕ → Option Kind
kind_of t = cond (bytes_eq t (codes "num")) (Some Num) (cond (bytes_eq t (codes "code")) (Some Code) None)

abbrev pub kind_field : Reading Kind
kind_field u = field_as kind_of u

abbrev pub scheme_of : List ℕ → Option Scheme
scheme_of t =
    cond (bytes_eq t (codes "thin")) (Some Thin) (cond (bytes_eq t (codes "fat")) (Some Fat) (cond (bytes_eq t (codes "trie")) (Some Trie) None))

abbrev pub scheme_field : Reading Scheme
scheme_field u = field_as scheme_of u

-- m, k, L, t and G, and then no more fields
abbrev pub numbers_field : Kind → Scheme → Reading Wish
numbers_field kind scheme u =
    and_next number_field (λ m. and_next number_field (λ k. and_next number_field (λ l. and_next number_field (λ t. and_next number_field (λ g.
    and_end (record { kind = kind; settings = record { scheme = scheme; cells = m; children = k; levels = l; tries = t }; groups = g })))))) u

abbrev pub scheme_then : Kind → Reading Wish
scheme_then kind u = and_next scheme_field (numbers_field kind) u

abbrev pub kind_then : Reading Wish
kind_then u = and_next kind_field scheme_then u

-- The whole line.
abbrev pub set_line : List ℕ → Result Wish LineFault
set_line line = and_next (word_field (codes "set")) (λ _. kind_then) (all_of line)

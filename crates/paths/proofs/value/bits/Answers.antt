-- A trie's m × k is the range of 2w bits.
use Rattle.std.proofs.Common.{◌≡◌, ◌+◌, ◌-◌, ◌*◌, ◌/◌, ◌%◌, ◌^◌, true, sym, ap, ◌∙◌}
use Rattle.trees.specs.Settings.{log_two, scheme_takes}
use Rattle.trees.specs.declared.settings.Scheme.TheVariants.{Trie}
use Rattle.paths.specs.declared.shape.Shape.{Shape}
use Rattle.trees.proofs.Nodes.{trie_square}
use Rattle.paths.proofs.Values.{bits_below}
use Rattle.paths.proofs.value.bits.Goals as goal

-- What the shape says of a trie's cells and children.
taken : (s : Shape) → s.scheme ≡ Trie → scheme_takes Trie s.cells s.children ≡ true
taken s e = ap (λ x. scheme_takes x s.cells s.children) (sym e) ∙ s.taken

pub returns : goal.returns
returns c =
    let s = c.args.shape.now in
    let digest = c.args.digest in
    let level = c.args.level in
    let w = log_two s.cells in
    let behind : c.saturating_sub-behind.result ≡ 32 - w * (level + 1) = c.saturating_sub-behind.ensures in
    let range : c.from-3.result ≡ 2 ^ (2 * w) = c.from-3.ensures ∙ sym (trie_square s.cells s.children (taken s c.requires.trie)) in
    ap (λ d. d / 2 ^ c.saturating_sub-behind.result % c.from-3.result) c.from-2.ensures
    ∙ ap (λ n. digest / 2 ^ n % c.from-3.result) behind
    ∙ ap (λ n. digest / 2 ^ (32 - w * (level + 1)) % n) range
    ∙ bits_below w digest level c.if-level-eq0.false

-- One level down: what is worked out there is the path's own, and nothing on the way comes near 2^32.
use Rattle.std.proofs.Common.{◌≡◌, ℕ, suc, ◌+◌, ◌*◌, ◌/◌, ◌%◌, ◌^◌, ◌<◌, ◌≤◌, List, get_or, sym, ap, ◌∙◌, mul_comm, add-one, arith}
use Rattle.std.proofs.lemmas.Nat.{mul-le}
use Rattle.trees.specs.Geometry.{first_cell, span, largest_total}
use Rattle.trees.specs.Paths.{hash_of, value_at, node_below, node_above, node_at, cell_at}
use Rattle.trees.proofs.Cells.{cell_high, getD_path}
use Rattle.trees.proofs.Geometry.{first_cell_more, first_cell_rises, span_more}
use Rattle.trees.proofs.Nodes.{node_inside}
use Rattle.paths.specs.declared.descent.Descent.{Descent}
use Rattle.paths.specs.declared.rule.Rule.{Rule}
use Rattle.paths.specs.Rules.{settings_of, rule_path, rule_stage}
use Rattle.paths.specs.RuleLaws.{hash_small}
use Rattle.paths.specs.Tries.{in_32_bits, try_cell}

fits : (n : ℕ) → n < 2 ^ 32 → in_32_bits n ≡ n
fits n h = omega arith

-- A level of a rule ends at or below the total.
level_ends : (r : Rule) (i : ℕ) → i < r.shape.levels → first_cell r.shape.cells r.shape.children i + span r.shape.cells r.shape.children i ≤ largest_total
level_ends r i low = omega (arith, first_cell_rises r.shape.cells r.shape.children (suc i) r.shape.levels low, r.whole, r.small)

-- The nodes of a level, all their cells, lie in its span.
node_cells : (r : Rule) (key : List ℕ) (i : ℕ) → node_at (settings_of r) (hash_of r.shape.scheme key) i * r.shape.cells ≤ span r.shape.cells r.shape.children i
node_cells r key i =
    let few = node_inside (settings_of r) (hash_of r.shape.scheme key) r.shape.node.0 (omega (arith, r.shape.fork.0)) r.shape.taken (hash_small r.shape.scheme key) i in
    let n = node_at (settings_of r) (hash_of r.shape.scheme key) i in
    omega (arith, mul-le n r.shape.cells (r.shape.children ^ i) r.shape.cells (omega (arith, few)) (omega arith), mul_comm r.shape.cells (r.shape.children ^ i))

node_small : (r : Rule) (key : List ℕ) (i : ℕ) → i < r.shape.levels → node_at (settings_of r) (hash_of r.shape.scheme key) i < 2 ^ 32
node_small r key i low =
    let n = node_at (settings_of r) (hash_of r.shape.scheme key) i in
    omega (arith, mul-le n 1 n r.shape.cells (omega arith) r.shape.node.0, node_cells r key i, level_ends r i low)

module _ (r : Rule) (key : List ℕ) (i : ℕ) (at : Descent) (low : i < r.shape.levels) (come : at ≡ rule_stage r key i) where
  -- The value of the level.
  pub value_there :
      (value : ℕ) → (at.span ≡ span r.shape.cells r.shape.children at.level → value ≡ value_at (settings_of r) at.hash at.level)
      → value ≡ value_at (settings_of r) (hash_of r.shape.scheme key) i
  value_there value h =
      h (ap (λ d. d.span) come ∙ ap (span r.shape.cells r.shape.children) (sym (ap (λ d. d.level) come)))
      ∙ ap (λ x. value_at (settings_of r) x at.level) (ap (λ d. d.hash) come)
      ∙ ap (value_at (settings_of r) (hash_of r.shape.scheme key)) (ap (λ d. d.level) come)

  -- The node of the level.
  pub node_there :
      (value node : ℕ) → value ≡ value_at (settings_of r) (hash_of r.shape.scheme key) i
      → node ≡ in_32_bits (node_below r.shape.scheme r.shape.children at.node (value / r.shape.cells))
      → node ≡ node_at (settings_of r) (hash_of r.shape.scheme key) i
  node_there value node e h =
      h ∙ ap (λ n. in_32_bits (node_below r.shape.scheme r.shape.children n (value / r.shape.cells))) (ap (λ d. d.node) come)
      ∙ ap (λ v. in_32_bits (node_below r.shape.scheme r.shape.children (node_above (settings_of r) (hash_of r.shape.scheme key) i) (v / r.shape.cells))) e
      ∙ fits _ (node_small r key i low)

  module _ (node : ℕ) (here : node ≡ node_at (settings_of r) (hash_of r.shape.scheme key) i) where
    next_first : (next : ℕ) → next ≡ in_32_bits (at.first + at.span) → next ≡ first_cell r.shape.cells r.shape.children (i + 1)
    next_first next h =
        omega (arith, h, ap (λ d. d.first) come, ap (λ d. d.span) come, level_ends r i low, first_cell_more r.shape.cells r.shape.children i)

    next_span : (wide : ℕ) → wide ≡ in_32_bits (at.span * r.shape.children) → wide ≡ span r.shape.cells r.shape.children (i + 1)
    next_span wide h =
        let s = span r.shape.cells r.shape.children i in
        let few = mul-le s r.shape.children largest_total 256 (omega (arith, level_ends r i low)) r.shape.fork.1 in
        h ∙ ap (λ n. in_32_bits (n * r.shape.children)) (ap (λ d. d.span) come) ∙ fits (s * r.shape.children) (omega (arith, few))
        ∙ sym (span_more r.shape.cells r.shape.children i)

    -- Where the path comes into the next level.
    pub stage_below :
        (next wide : ℕ) → next ≡ in_32_bits (at.first + at.span) → wide ≡ in_32_bits (at.span * r.shape.children)
        → ◌≡◌ {A = Descent} (record { hash = at.hash; level = at.level + 1; first = next; span = wide; node = node }) (rule_stage r key (i + 1))
    stage_below next wide f w t =
        record {
          hash = (come t).hash;
          level = (come t).level + 1;
          first = next_first next f t;
          span = next_span wide w t;
          node = (here ∙ ap (node_above (settings_of r) (hash_of r.shape.scheme key)) (sym (add-one i))) t;
        }

    -- The tries of the level.
    pub tries_there :
        (value product first : ℕ) → value ≡ value_at (settings_of r) (hash_of r.shape.scheme key) i
        → product ≡ in_32_bits (node * r.shape.cells) → first ≡ in_32_bits (at.first + product)
        → (j : ℕ) → j < r.shape.tries → try_cell first (value % r.shape.cells) r.shape.cells j ≡ get_or (rule_path r key) (i * r.shape.tries + j) 0
    tries_there value product first v p f j inside =
        let s = settings_of r in
        let x = hash_of r.shape.scheme key in
        let whole : node * r.shape.cells ≡ node_at s x i * r.shape.cells = ap (λ n. n * r.shape.cells) here in
        let start : first ≡ first_cell r.shape.cells r.shape.children i + node_at s x i * r.shape.cells = omega (arith, f, p, whole, ap (λ d. d.first) come, node_cells r key i, level_ends r i low) in
        let high = cell_high s x r.shape.node.0 (omega (arith, r.shape.fork.0)) r.shape.taken (hash_small r.shape.scheme key) i j in
        ap (λ n. try_cell n (value % r.shape.cells) r.shape.cells j) start
        ∙ ap (λ n. try_cell (first_cell r.shape.cells r.shape.children i + node_at s x i * r.shape.cells) (n % r.shape.cells) r.shape.cells j) v
        ∙ fits (cell_at s x i j) (omega (arith, high, level_ends r i low)) ∙ sym (getD_path s x i j low inside)

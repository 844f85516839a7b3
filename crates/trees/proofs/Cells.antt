-- The cells of a path: where each stands, that it is below the total, and that none comes twice.
use Rattle.std.proofs.Common.{◌≡◌, ℕ, suc, ◌+◌, ◌*◌, ◌/◌, ◌%◌, ◌^◌, ◌<◌, ◌≤◌, true, length, get_or, sym, ap, ◌∙◌, inl, inr, mod-lt, mul_comm, add-mul, one-mul, div-add-mod', arith}
use lib.Arith.{digits_lt}
use Rattle.std.specs.List.{AllByRecursion}
use Rattle.std.proofs.lemmas.Nat.{div_below, mul-le}
use Rattle.std.proofs.lemmas.List.FromFn.{get_or-map-range_with_len, length-map-range_with_len}
use Rattle.std.proofs.ByRecursion.{All-from_get_or}
use Rattle.std.proofs.lemmas.Bool.{cases_order}
use Rattle.trees.specs.Settings.{RuleSettings, scheme_takes}
use Rattle.trees.specs.Geometry.{first_cell}
use Rattle.trees.specs.Paths.{index_at, node_at, cell_at, tries_at, path_from}
use Rattle.trees.specs.Refusal.{total_of}
use Rattle.trees.proofs.Geometry.{first_cell_rises}
use Rattle.trees.proofs.Lists.{length-rows, get_d_rows}
use Rattle.trees.proofs.Nodes.{node_inside}

-- Two steps below m from one place round a ring of m come to one place only where they are one.
same_step : (m x b d : ℕ) → 0 < m → b < m → d < m → (x + b) % m ≡ (x + d) % m → b ≡ d
same_step m x b d some p q e =
    let q1 = (x + b) / m in
    let q2 = (x + d) / m in
    let one = div-add-mod' (x + b) m in
    let other = div-add-mod' (x + d) m in
    elim (cases_order q1 q2) [
      | inl h ↦ omega (arith, one, other, e, ap (λ n. n * m) h)
      | inr (inl h) ↦ absurd (omega (arith, one, other, e, mul-le (q1 + 1) m q2 m (omega arith) (omega arith), add-mul q1 1 m, one-mul m))
      | inr (inr h) ↦ absurd (omega (arith, one, other, e, mul-le (q2 + 1) m q1 m (omega arith) (omega arith), add-mul q2 1 m, one-mul m))
    ]

length_tries : (s : RuleSettings) (hash i : ℕ) → length (tries_at s hash i) ≡ s.tries
length_tries s hash i = length-map-range_with_len (cell_at s hash i) 0 s.tries

pub length_path : (s : RuleSettings) (hash : ℕ) → length (path_from s hash) ≡ s.levels * s.tries
length_path s hash = length-rows (tries_at s hash) s.tries (length_tries s hash) s.levels 0

-- Try j of level i stands at i × t + j.
pub getD_path : (s : RuleSettings) (hash i j : ℕ) → i < s.levels → j < s.tries → get_or (path_from s hash) (i * s.tries + j) 0 ≡ cell_at s hash i j
getD_path s hash i j h k =
    get_d_rows (tries_at s hash) s.tries (length_tries s hash) s.levels 0 i j h k
    ∙ get_or-map-range_with_len (cell_at s hash (0 + i)) 0 s.tries j j 0 k (omega arith) ∙ ap (λ n. cell_at s hash n j) (omega arith)

module _ (s : RuleSettings) (hash : ℕ) (some : 1 ≤ s.cells) (fork : 1 ≤ s.children) (taken : scheme_takes s.scheme s.cells s.children ≡ true) (small : hash < 2 ^ 32) where
  -- A try's cell lies in its level.
  pub cell_low : (i j : ℕ) → first_cell s.cells s.children i ≤ cell_at s hash i j
  cell_low i j = omega arith

  pub cell_high : (i j : ℕ) → cell_at s hash i j < first_cell s.cells s.children (suc i)
  cell_high i j =
      let inside = digits_lt {q = node_at s hash i} {m = s.children ^ i} {r = (index_at s hash i + j) % s.cells} {c = s.cells} (node_inside s hash some fork taken small i) (mod-lt (index_at s hash i + j) some) in
      omega (arith, inside, mul_comm s.cells (s.children ^ i))

  -- The level and the try of a place on the path.
  row : (n : ℕ) → 1 ≤ s.tries → n < length (path_from s hash) → (n / s.tries < s.levels) × (get_or (path_from s hash) n 0 ≡ cell_at s hash (n / s.tries) (n % s.tries))
  row n try h =
      let t = s.tries in
      let low : n / t < s.levels = div_below n t s.levels try (omega (arith, length_path s hash)) in
      (low, ap (λ p. get_or (path_from s hash) p 0) (sym (div-add-mod' n t)) ∙ getD_path s hash (n / t) (n % t) low (mod-lt n try))

  pub path_inside : 1 ≤ s.tries → AllByRecursion (λ cell. cell < total_of s) (path_from s hash)
  path_inside try =
      All-from_get_or (λ cell. cell < total_of s) (path_from s hash) 0
      (λ n h. let at = row n try h in omega (arith, at.1, cell_high (n / s.tries) (n % s.tries), first_cell_rises s.cells s.children (suc (n / s.tries)) s.levels at.0))

  apart : (a b c d : ℕ) → a < c → cell_at s hash a b < cell_at s hash c d
  apart a b c d h = omega (arith, cell_high a b, cell_low c d, first_cell_rises s.cells s.children (suc a) c h)

  same_try : (a b c d : ℕ) → b < s.cells → d < s.cells → cell_at s hash a b ≡ cell_at s hash c d → (a ≡ c) × (b ≡ d)
  same_try a b c d p q e =
      elim (cases_order a c) [
        | inl h ↦
            (let f : cell_at s hash a b ≡ cell_at s hash a d = e ∙ ap (λ n. cell_at s hash n d) (sym h) in
            (h, same_step s.cells (index_at s hash a) b d some p q (omega (arith, f))))
        | inr (inl h) ↦ absurd (omega (arith, e, apart a b c d h))
        | inr (inr h) ↦ absurd (omega (arith, e, apart c d a b h))
      ]

  pub path_once : 1 ≤ s.tries → s.tries ≤ s.cells → (i j : ℕ) → i < length (path_from s hash) → j < length (path_from s hash) → get_or (path_from s hash) i 0 ≡ get_or (path_from s hash) j 0 → i ≡ j
  path_once try fits i j h k e =
      let t = s.tries in
      let at = row i try h in
      let on = row j try k in
      let b : i % t < s.cells = omega (arith, mod-lt i try) in
      let d : j % t < s.cells = omega (arith, mod-lt j try) in
      let both = same_try (i / t) (i % t) (j / t) (j % t) b d (sym at.1 ∙ e ∙ on.1) in
      sym (div-add-mod' i t) ∙ ap (λ n. n * t + i % t) both.0 ∙ ap (λ n. j / t * t + n) both.1 ∙ div-add-mod' j t

-- The node of a path at a level is one of that level's.
use Rattle.std.proofs.Common.{◌≡◌, ℕ, zero, suc, ◌+◌, ◌-◌, ◌*◌, ◌/◌, ◌%◌, ◌^◌, ◌<◌, ◌≤◌, true, List, sym, refl, ap, ◌∙◌, mod-lt, mul_comm, pow-suc, mul-zero, arith}
use native.Mathlib.Nat.{pow-zero}
use lib.Arith.{digits_lt}
use Rattle.std.proofs.lemmas.Nat.{div_below, mul-le, shr_below, pow-add, pow_pos, trailing_le}
use Rattle.std.proofs.lemmas.Bool.{and_parts, eqb-true}
use Rattle.keys.specs.Hashes.{modulus}
use Rattle.trees.specs.declared.settings.Coefficient.{Coefficient}
use Rattle.trees.specs.declared.settings.Scheme.{Scheme}
use Rattle.trees.specs.declared.settings.Scheme.TheVariants.{Thin, Fat, Trie}
use Rattle.trees.specs.Settings.{RuleSettings, scheme_takes, log_two}
use Rattle.trees.specs.Geometry.{span}
use Rattle.trees.specs.Paths.{hashed, bits_of, value_at, child_at, node_above, node_at}
use Rattle.trees.proofs.Geometry.{span_some}

-- Nodes that go from a node above to one of its k children, and to the only one at level 0.
below_by_child :
    (k : ℕ) (above child : ℕ → ℕ) → above 0 ≡ 0 → ((i : ℕ) → above (suc i) ≡ k * above i + child i) → child 0 < 1 → ((i : ℕ) → child (suc i) < k)
    → (i : ℕ) → above (suc i) < k ^ i
below_by_child k above child top step first next zero =
    omega (arith, step 0, ap (λ n. k * n) top, mul-zero k, pow-zero k, first)
below_by_child k above child top step first next (suc i) =
    let node = below_by_child k above child top step first next i in
    let inside = digits_lt {q = above (suc i)} {m = k ^ i} {r = child (suc i)} {c = k} node (next i) in
    omega (arith, step (suc i), inside, mul_comm k (above (suc i)), pow-suc k i)

-- A value below m leads to child 0, one below m × k to one of k.
only_child : (h m : ℕ) → 0 < m → h < m → h / m < 1
only_child h m some low = div_below h m 1 some (omega arith)

child_of : (h m k : ℕ) → 0 < m → h < m * k → h / m < k
child_of h m k some low = div_below h m k some (omega (arith, mul_comm m k))

hashed_below : (c : Coefficient) (fold range : ℕ) → 0 < range → hashed c fold range < range
hashed_below c fold range some = mod-lt ((c.a * fold + c.b) % modulus) some

double : (w : ℕ) → 2 ^ (2 * w) ≡ 2 ^ w * 2 ^ w
double w = let e : 2 * w ≡ w + w = omega arith in ap (λ n. 2 ^ n) e ∙ pow-add 2 w w

-- What a trie's settings have: m = k = 2^w.
trie_powers : (m k : ℕ) → scheme_takes Trie m k ≡ true → (m ≡ k) × (m ≡ 2 ^ log_two m)
trie_powers m k taken =
    let parts = and_parts _ _ taken in
    (eqb-true m k parts.0, eqb-true m (2 ^ log_two m) (and_parts _ _ parts.1).0)

pub trie_square : (m k : ℕ) → scheme_takes Trie m k ≡ true → 2 ^ (2 * log_two m) ≡ m * k
trie_square m k taken =
    let powers = trie_powers m k taken in
    double (log_two m) ∙ ap (λ n. n * n) (sym powers.1) ∙ ap (λ n. m * n) powers.0

-- The top w bits of a digest are below 2^w.
top_bits : (w digest : ℕ) → w ≤ 32 → digest < 2 ^ 32 → bits_of w digest 0 < 2 ^ w
top_bits w digest few small =
    let e : w + (32 - w) ≡ 32 = omega arith in
    shr_below digest w (32 - w) (omega (arith, ap (λ n. 2 ^ n) e))

-- Any settings, by their parts.
abbrev parted : Scheme → (m k levels tries : ℕ) → List Coefficient → RuleSettings
parted scheme m k levels tries coefficients =
    record { scheme = scheme; cells = m; children = k; levels = levels; tries = tries; coefficients = coefficients }

node_of_parts :
    (scheme : Scheme) (m k levels tries : ℕ) (coefficients : List Coefficient) (hash : ℕ) → 1 ≤ m → 1 ≤ k → scheme_takes scheme m k ≡ true → hash < 2 ^ 32
    → (i : ℕ) → node_at (parted scheme m k levels tries coefficients) hash i < k ^ i
node_of_parts Thin m k levels tries coefficients hash some fork taken small i =
    let s = parted Thin m k levels tries coefficients in
    below_by_child k (node_above s hash) (child_at s hash) refl (λ n. refl)
    (only_child (value_at s hash 0) m some (hashed_below _ hash m some))
    (λ n. child_of (value_at s hash (suc n)) m k some (hashed_below _ hash (m * k) (omega (arith, mul-le 1 1 m k some fork))))
    i
node_of_parts Fat m k levels tries coefficients hash some fork taken small i =
    let s = parted Fat m k levels tries coefficients in
    child_of (value_at s hash i) m (k ^ i) some (hashed_below _ hash (span m k i) (span_some m k i some fork))
node_of_parts Trie m k levels tries coefficients hash some fork taken small i =
    let s = parted Trie m k levels tries coefficients in
    let powers = trie_powers m k taken in
    let w = log_two m in
    let few : w ≤ 32 = trailing_le 32 m in
    let top : value_at s hash 0 < m = omega (arith, powers.1, top_bits w hash few small) in
    let square : 2 ^ (2 * w) ≡ m * k = trie_square m k taken in
    let deep : (n : ℕ) → value_at s hash (suc n) < m * k = λ n. omega (arith, square, mod-lt (hash / 2 ^ (32 - (w * n + 2 * w))) (pow_pos (2 * w))) in
    below_by_child k (node_above s hash) (child_at s hash) refl (λ n. refl) (only_child (value_at s hash 0) m some top)
    (λ n. child_of (value_at s hash (suc n)) m k some (deep n))
    i

-- The node at level i is below k^i, whatever the key.
pub node_inside : (s : RuleSettings) (hash : ℕ) → 1 ≤ s.cells → 1 ≤ s.children → scheme_takes s.scheme s.cells s.children ≡ true → hash < 2 ^ 32 → (i : ℕ) → node_at s hash i < s.children ^ i
node_inside s = node_of_parts s.scheme s.cells s.children s.levels s.tries s.coefficients

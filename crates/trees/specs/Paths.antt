-- The path of a key: the cells in which its entry may stand, level by level and try by try.
use Rattle.std.specs.Prelude.{ℕ, zero, suc, ◌+◌, ◌-◌, ◌*◌, ◌/◌, ◌%◌, ◌^◌, List, map, slice_index_or}
use Rattle.std.specs.List.{range_with_len, flat_map}
use Rattle.keys.specs.Hashes.{modulus, fold_of, fnv1a_of}
use Rattle.trees.specs.declared.settings.Coefficient.{Coefficient}
use Rattle.trees.specs.declared.settings.Scheme.{Scheme}
use Rattle.trees.specs.declared.settings.Scheme.TheVariants.{Thin, Fat, Trie}
use Rattle.trees.specs.Settings.{RuleSettings, log_two}
use Rattle.trees.specs.Geometry.{first_cell, span}

-- What a rule hashes a key's bytes to, once for the whole path.
abbrev pub hash_of : Scheme → List ℕ → ℕ
hash_of Thin key = fold_of key
hash_of Fat key = fold_of key
hash_of Trie key = fnv1a_of key

abbrev pub coefficient_at : RuleSettings → (level : ℕ) → Coefficient
coefficient_at s level = slice_index_or s.coefficients level (record { a = 1; b = 0 })

-- The hash function with coefficients a and b, below a range.
abbrev pub hashed : Coefficient → (fold range : ℕ) → ℕ
hashed c fold range = ((c.a * fold + c.b) % modulus) % range

-- Thin: a value picks a cell at level 0, and below it one of the children and its cell.
abbrev pub thin_range : (m k level : ℕ) → ℕ
thin_range m k zero = m
thin_range m k (suc above) = m * k

-- Trie: the top w of 32 bits at level 0; below it the 2w bits that begin w for each level above but the first.
abbrev pub bits_of : (w digest level : ℕ) → ℕ
bits_of w digest zero = digest / 2 ^ (32 - w)
bits_of w digest (suc above) = (digest / 2 ^ (32 - (w * above + 2 * w))) % 2 ^ (2 * w)

-- The value h of a level, from the hash of the key.
abbrev pub value_by : Scheme → RuleSettings → (hash level : ℕ) → ℕ
value_by Thin s hash level = hashed (coefficient_at s level) hash (thin_range s.cells s.children level)
value_by Fat s hash level = hashed (coefficient_at s level) hash (span s.cells s.children level)
value_by Trie s hash level = bits_of (log_two s.cells) hash level

abbrev pub value_at : RuleSettings → (hash level : ℕ) → ℕ
value_at s hash level = value_by s.scheme s hash level

abbrev pub index_at : RuleSettings → (hash level : ℕ) → ℕ
index_at s hash level = value_at s hash level % s.cells

abbrev pub child_at : RuleSettings → (hash level : ℕ) → ℕ
child_at s hash level = value_at s hash level / s.cells

-- The node that a child's number leads to: below the node above it, but in a fat tree anywhere in the level.
abbrev pub node_below : Scheme → (k above child : ℕ) → ℕ
node_below Thin k above child = k * above + child
node_below Fat k above child = child
node_below Trie k above child = k * above + child

-- The node that a path comes from into a level; above level 0 it counts as 0.
abbrev pub node_above : RuleSettings → (hash level : ℕ) → ℕ
node_above s hash zero = 0
node_above s hash (suc level) = node_below s.scheme s.children (node_above s hash level) (child_at s hash level)

-- The node of a path at a level.
abbrev pub node_at : RuleSettings → (hash level : ℕ) → ℕ
node_at s hash level = node_below s.scheme s.children (node_above s hash level) (child_at s hash level)

-- Try j at a level: cell (index + j) mod m of the node.
abbrev pub cell_at : RuleSettings → (hash level j : ℕ) → ℕ
cell_at s hash level j =
    first_cell s.cells s.children level + node_at s hash level * s.cells + (index_at s hash level + j) % s.cells

abbrev pub tries_at : RuleSettings → (hash level : ℕ) → List ℕ
tries_at s hash level = map (cell_at s hash level) (range_with_len 0 s.tries)

abbrev pub path_from : RuleSettings → (hash : ℕ) → List ℕ
path_from s hash = flat_map (tries_at s hash) (range_with_len 0 s.levels)

-- The path of a key, from its 12 bytes.
abbrev pub path_of : RuleSettings → List ℕ → List ℕ
path_of s key = path_from s (hash_of s.scheme key)

-- Where the cells of each level lie: level i has k^i nodes of m cells, one level behind the other.
use Rattle.std.specs.Prelude.{ℕ, zero, suc, ◌+◌, ◌*◌, ◌^◌}

-- The cells of a level.
abbrev pub span : (m k level : ℕ) → ℕ
span m k level = m * k ^ level

-- The first cell of a level; that of the level behind the last is the total.
abbrev pub first_cell : (m k level : ℕ) → ℕ
first_cell m k zero = 0
first_cell m k (suc level) = first_cell m k level + span m k level

-- The largest total.
abbrev pub largest_total : ℕ
largest_total = 1048576

-- The cells of a node in the order in which they are tried.
use Rattle.std.specs.Prelude.{ℕ, ◌+◌, ◌-◌, ◌%◌, ◌^◌, min}

-- A number, stopped at the largest of 32 bits. No number on a path comes near it.
abbrev pub in_32_bits : ℕ → ℕ
in_32_bits n = min n (2 ^ 32 - 1)

-- Try j: so many cells on from the index, round past the node's last cell.
abbrev pub try_cell : (first index cells j : ℕ) → ℕ
try_cell first index cells j = in_32_bits (first + (index + j) % cells)

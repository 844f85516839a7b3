-- A part that is written over bytes from a place on, and bytes that are zeroed.
use Rattle.std.specs.Prelude.{ℕ, ◌+◌, List, ◌++◌, length, take, drop, replicate}

unfoldable pub overwritten : (at : ℕ) (part memory : List ℕ) → List ℕ
overwritten at part memory = take at memory ++ (part ++ drop (at + length part) memory)

-- The first n bytes are zero, and no other is touched.
abbrev pub zeroed : (n : ℕ) → List ℕ → List ℕ
zeroed n memory = replicate n 0 ++ drop n memory

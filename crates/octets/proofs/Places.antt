-- Parts of memory and the numbers in them.
use Rattle.std.proofs.Common.{◌≡◌, ℕ, ◌+◌, ◌-◌, ◌≤◌, List, take, drop, ap, ◌∙◌, arith}
use Rattle.std.proofs.lemmas.List.{drop-drop, drop-take, take-take}
use Rattle.octets.specs.Numbers.{number_at, spelled}

-- A number in a part is one in the memory.
pub number_in_part : (wide at j k : ℕ) (memory : List ℕ) → j + k ≤ wide → number_at (take wide (drop at memory)) j k ≡ number_at memory (at + j) k
number_in_part wide at j k memory h =
    let e : wide ≡ j + (wide - j) = omega arith in
    ap (λ (xs : List ℕ). spelled (take k xs))
    (ap (λ n. drop j (take n (drop at memory))) e ∙ drop-take j (wide - j) (drop at memory) ∙ ap (take (wide - j)) (drop-drop j at memory))
    ∙ ap spelled (take-take k (wide - j) (drop (at + j) memory) (omega arith))

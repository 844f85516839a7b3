-- How a number is read digit by digit: what was read stands for its digits, and what is wrong or too large stays so.
use Rattle.std.proofs.Common.{◌≡◌, ℕ, ◌+◌, ◌-◌, ◌*◌, ◌^◌, ◌<◌, ◌≤◌, List, [], ◌∷◌, length, get_or, drop, Some, None, arith}
use Rattle.std.proofs.lemmas.Grind.{common_steps}
use Rattle.std.proofs.lemmas.List.{at_drop_more, at_drop_all}
use Rattle.lines.specs.Text.{value_after, number_after}

value_grows : (n : ℕ) (bs : List ℕ) → n ≤ value_after n bs
value_grows n [] = omega arith
value_grows n (b ∷ bs) = omega (arith, value_grows (n * 10 + (b - 48)) bs)

-- where the byte stands at i in the text, and at the text's end
module _ (n : ℕ) (bs : List ℕ) (i : ℕ) where
  abbrev byte : ℕ
  byte = get_or bs i 0

  pub number_wrong : i < length bs → number_after n (byte ∷ []) ≡ None → number_after n (drop i bs) ≡ None
  number_wrong lt h = grind (arith, common_steps, value_grows (n * 10 + (byte - 48)) (drop (i + 1) bs), at_drop_more (number_after n) bs i 0 lt)

  pub number_more : i < length bs → (k : ℕ) → number_after n (byte ∷ []) ≡ Some k → (k < 2 ^ 64) × (number_after k (drop (i + 1) bs) ≡ number_after n (drop i bs))
  number_more lt k h = grind (arith, common_steps, at_drop_more (number_after n) bs i 0 lt)

  pub number_all : length bs ≤ i → n < 2 ^ 64 → number_after n (drop i bs) ≡ Some n
  number_all le small = grind (arith, common_steps, at_drop_all (number_after n) bs i le)

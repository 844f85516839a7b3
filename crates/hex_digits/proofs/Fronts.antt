-- Bytes read so far, in front of those still to come.
use Rattle.std.proofs.Common.{◌≡◌, ℕ, ◌+◌, List, [], ◌∷◌, ◌++◌, length, get_or, Some, None, Option, refl, arith, suc, zero}
use Rattle.std.specs.Simd.{first_chunks}
use Rattle.std.proofs.lemmas.Grind.{common_steps}
use Rattle.hex_digits.specs.Hex.{nibble_of, byte_of, with_byte, bytes_of}

-- the bytes of pairs of digits
abbrev pub bytes_of_pairs : List (List ℕ) → Option (List ℕ)
bytes_of_pairs [] = Some []
bytes_of_pairs (pair ∷ pairs) = with_byte (byte_of (nibble_of (get_or pair 0 0)) (nibble_of (get_or pair 1 0))) (bytes_of_pairs pairs)

abbrev pub behind : List ℕ → Option (List ℕ) → Option (List ℕ)
behind front None = None
behind front (Some bytes) = Some (front ++ bytes)

pub behind_byte : (front : List ℕ) (byte : ℕ) (rest : Option (List ℕ)) → behind front (with_byte (Some byte) rest) ≡ behind (front ++ byte ∷ []) rest
behind_byte front byte None = refl
behind_byte front byte (Some bytes) = grind (arith, common_steps)

pub in_pairs : (k : ℕ) (xs : List ℕ) → length xs ≡ k + k → bytes_of xs ≡ bytes_of_pairs (first_chunks 2 k xs)
in_pairs zero [] e = refl
in_pairs zero (x ∷ xs) e = grind arith
in_pairs (suc k) [] e = grind arith
in_pairs (suc k) (x ∷ []) e = grind arith
in_pairs (suc k) (x ∷ y ∷ xs) e = grind (arith, common_steps, in_pairs k xs)

pub none_of_odd : (k : ℕ) (xs : List ℕ) → length xs ≡ k + k + 1 → bytes_of xs ≡ None
none_of_odd k [] e = grind arith
none_of_odd zero (x ∷ []) e = refl
none_of_odd (suc k) (x ∷ []) e = grind arith
none_of_odd zero (x ∷ y ∷ xs) e = grind arith
none_of_odd (suc k) (x ∷ y ∷ xs) e = grind (arith, common_steps, none_of_odd k xs)

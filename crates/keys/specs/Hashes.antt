-- What a key's bytes are hashed to: the fold for thin and fat paths, the digest for trie paths.
use Rattle.std.specs.Prelude.{ℕ, ◌*◌, ◌%◌, ◌^◌, List, [], ◌∷◌, bit_xor}
use Rattle.octets.specs.Numbers.{spelled}

-- The prime modulus of the fold and of the coefficients.
abbrev pub modulus : ℕ
modulus = 2147483647

-- The bytes as one number, highest byte first, modulo the prime.
abbrev pub fold_of : List ℕ → ℕ
fold_of bytes = spelled bytes % modulus

-- 32-bit FNV-1a from the value h on: each byte goes in by exclusive or, then a product modulo 2^32.
abbrev pub fnv1a_from : (h : ℕ) → List ℕ → ℕ
fnv1a_from h [] = h
fnv1a_from h (b ∷ bs) = fnv1a_from ((bit_xor h b * 16777619) % 2 ^ 32) bs

abbrev pub fnv1a_of : List ℕ → ℕ
fnv1a_of bytes = fnv1a_from 2166136261 bytes

-- The fold of a key, one byte at a time.
use Rattle.std.proofs.Common.{◌≡◌, ℕ, ◌+◌, ◌*◌, ◌/◌, ◌%◌, ◌<◌, List, length, get_or, take, ap, ◌∙◌, mod-lt, arith}
use native.Mathlib.Nat.{div-add-mod, mul-add-mod_self_left}
use Rattle.std.proofs.lemmas.Int.Digits.{number_more}
use Rattle.octets.specs.Numbers.{spelled}
use Rattle.keys.specs.Hashes.{fold_of, modulus}

-- One byte more behind a number, and behind what is left of it modulo the prime.
remainder_push : (x b : ℕ) → (x * 256 + b) % modulus ≡ ((x % modulus) * 256 + b) % modulus
remainder_push x b =
    let whole : modulus * (x / modulus) + x % modulus ≡ x = div-add-mod x modulus in
    let apart : x * 256 + b ≡ modulus * (x / modulus * 256) + ((x % modulus) * 256 + b) = omega arith in
    ap (λ n. n % modulus) apart ∙ mul-add-mod_self_left modulus (x / modulus * 256) ((x % modulus) * 256 + b)

pub fold_more : (bytes : List ℕ) (i : ℕ) → i < length bytes → fold_of (take (i + 1) bytes) ≡ (fold_of (take i bytes) * 256 + get_or bytes i 0) % modulus
fold_more bytes i h = ap (λ n. n % modulus) (number_more 256 bytes i h) ∙ remainder_push (spelled (take i bytes)) (get_or bytes i 0)

pub fold_below : (bytes : List ℕ) → fold_of bytes < modulus
fold_below bytes = mod-lt (spelled bytes) (omega arith)

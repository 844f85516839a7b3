-- Numbers and their bytes, over any count of bytes: each determines the other.
use Rattle.std.proofs.Common.{◌≡◌, ℕ, zero, suc, ◌+◌, ◌*◌, ◌/◌, ◌%◌, ◌^◌, ◌<◌, ◌≤◌, ltb, List, [], ◌∷◌, ◌++◌, length, take, drop, set, Some, None, sym, refl, ap, ◌∙◌, inl, inr, mod-lt, mod-eq_of_lt, mul_assoc, mul_comm, add-mul, pow-suc, zero-add, arith, get_or, pow_mono}
use native.Mathlib.Nat.{mod-one, div-div-eq-div-mul}
use lib.Arith.{mod-mul}
use Rattle.std.specs.Int.Digits.{number_from_digits_after, AllBelowBase}
use Rattle.std.proofs.lemmas.Int.Digits.{number_after_append, number_lt, number_after_ge}
use Rattle.std.proofs.lemmas.Nat.{div-mul-add, mod-mul-add, pow-add}
use Rattle.std.proofs.lemmas.List.{take-append-drop, append_assoc, drop-set}
use Rattle.std.proofs.lemmas.Bool.{cases_cond, cond_below}
use Rattle.octets.specs.Numbers.{spelled, big_endian, in_64_bits}

-- Bytes behind the number n: n moves up by their count.
pub spelled-after : (n : ℕ) (bs : List ℕ) → number_from_digits_after 256 n bs ≡ n * 256 ^ length bs + spelled bs
spelled-after n [] = omega arith
spelled-after n (b ∷ bs) =
    let up = spelled-after (n * 256 + b) bs in
    let here = spelled-after (0 + b) bs in
    let more = pow-suc 256 (length bs) in
    let split = add-mul (n * 256) b (256 ^ length bs) in
    let turn = mul_assoc n (256 ^ length bs) 256 in
    let turned = mul_assoc n 256 (256 ^ length bs) in
    let swap = mul_comm (256 ^ length bs) 256 in
    let e : n * 256 ^ suc (length bs) ≡ n * 256 * 256 ^ length bs = ap (λ k. n * k) (more ∙ swap) ∙ sym turned in
    omega (arith, up, here, e, split)

pub spelled-cons : (b : ℕ) (bs : List ℕ) → spelled (b ∷ bs) ≡ b * 256 ^ length bs + spelled bs
spelled-cons b bs = spelled-after (0 + b) bs ∙ ap (λ k. k * 256 ^ length bs + spelled bs) (zero-add b)

-- The bytes so far spell no more than all.
pub spelled_front : (bs : List ℕ) (i : ℕ) → spelled (take i bs) ≤ spelled bs
spelled_front bs i =
    let whole = ap spelled (take-append-drop i bs) in
    let cut = number_after_append 256 0 (take i bs) (drop i bs) in
    omega (arith, whole, cut, number_after_ge 256 (spelled (take i bs)) (drop i bs) (omega arith))

pow_above_zero : (n : ℕ) → 0 < 256 ^ n
pow_above_zero zero = omega arith
pow_above_zero (suc n) = omega (arith, pow-suc 256 n, pow_above_zero n)

-- A number's digit and what stands behind it, below b, determine it and are determined by it.
same_digit : (b d e x y : ℕ) → x < b → y < b → d * b + x ≡ e * b + y → (d ≡ e) × (x ≡ y)
same_digit b d e x y p q h =
    (sym (div-mul-add d b x p) ∙ ap (λ n. n / b) h ∙ div-mul-add e b y q, sym (mod-mul-add d b x p) ∙ ap (λ n. n % b) h ∙ mod-mul-add e b y q)

-- Two lists of bytes of one length that spell one number are one list.
pub same_from_spelled : (xs ys : List ℕ) → AllBelowBase 256 xs → AllBelowBase 256 ys → length xs ≡ length ys → spelled xs ≡ spelled ys → xs ≡ ys
same_from_spelled [] [] p q l h = refl
same_from_spelled [] (y ∷ ys) p q l h = absurd (omega arith)
same_from_spelled (x ∷ xs) [] p q l h = absurd (omega arith)
same_from_spelled (x ∷ xs) (y ∷ ys) p q l h =
    let long : length xs ≡ length ys = omega arith in
    let scale : 256 ^ length ys ≡ 256 ^ length xs = ap (λ n. 256 ^ n) (sym long) in
    let front = spelled-cons x xs in
    let other = spelled-cons y ys ∙ ap (λ k. y * k + spelled ys) scale in
    let below = number_lt 256 xs p.1 in
    let under : spelled ys < 256 ^ length xs = omega (arith, scale, number_lt 256 ys q.1) in
    let both = same_digit (256 ^ length xs) x y (spelled xs) (spelled ys) below under (sym front ∙ h ∙ other) in
    cc (both.0, same_from_spelled xs ys p.1 q.1 long both.1)

pub length-big_endian : (n v : ℕ) → length (big_endian n v) ≡ n
length-big_endian zero v = refl
length-big_endian (suc n) v = ap suc (length-big_endian n v)

pub under_big_endian : (n v : ℕ) → AllBelowBase 256 (big_endian n v)
under_big_endian zero v = tt
under_big_endian (suc n) v = (mod-lt (v / 256 ^ n) (omega arith), under_big_endian n v)

-- The last n bytes of a number spell what is left of it modulo 256^n.
pub spelled-big_endian : (n v : ℕ) → spelled (big_endian n v) ≡ v % 256 ^ n
spelled-big_endian zero v = sym (mod-one v)
spelled-big_endian (suc n) v =
    let here = spelled-cons ((v / 256 ^ n) % 256) (big_endian n v) in
    let scale = ap (λ k. (v / 256 ^ n) % 256 * 256 ^ k) (length-big_endian n v) in
    let split = mod-mul v {m = 256} {c = 256 ^ n} (omega arith) (pow_above_zero n) in
    let e : 256 ^ suc n ≡ 256 * 256 ^ n = pow-suc 256 n ∙ mul_comm (256 ^ n) 256 in
    here ∙ ap (λ k. k + spelled (big_endian n v)) scale ∙ ap (λ k. (v / 256 ^ n) % 256 * 256 ^ n + k) (spelled-big_endian n v) ∙ sym split ∙ ap (λ k. v % k) (sym e)

-- What 64 bits hold of a number is that number.
pub held-in_64_bits : (n x : ℕ) → Some n ≡ in_64_bits x → n ≡ x
held-in_64_bits n x h =
    elim (cases_cond (ltb x (2 ^ 64)) (Some x) None (Some n) h) [ inl e ↦ cc | inr e ↦ cc ]

-- A number that its bytes hold is what they spell.
pub spelled_whole : (n v : ℕ) → v < 256 ^ n → spelled (big_endian n v) ≡ v
spelled_whole n v h = spelled-big_endian n v ∙ mod-eq_of_lt h

-- The last byte is what is left of a number modulo 256, and those before it are those of the rest.
pub big_endian_push : (n v : ℕ) → big_endian (suc n) v ≡ big_endian n (v / 256) ++ (v % 256 ∷ [])
big_endian_push zero v = ap (λ k. k % 256 ∷ []) (div-one v)
  where
    div-one : (v : ℕ) → v / 256 ^ 0 ≡ v
    div-one v = omega arith
big_endian_push (suc n) v =
    let scale : v / 256 ^ suc n ≡ v / 256 / 256 ^ n = ap (λ k. v / k) (pow-suc 256 n ∙ mul_comm (256 ^ n) 256) ∙ sym (div-div-eq-div-mul v 256 (256 ^ n)) in
    ap (λ k. k % 256 ∷ big_endian (suc n) v) scale ∙ ap (λ xs. (v / 256 / 256 ^ n) % 256 ∷ xs) (big_endian_push n v)

-- One byte more, from the last on.
pub big_endian_more : (i r : ℕ) (xs ys : List ℕ) → i < length xs → ys ≡ big_endian (i + 1) r ++ drop (i + 1) xs → ys ≡ big_endian i (r / 256) ++ drop i (set xs i (r % 256))
big_endian_more i r xs ys l e =
    let s : i + 1 ≡ suc i = omega arith in
    e
    ∙ ap (λ k. big_endian k r ++ drop (i + 1) xs) s
    ∙ ap (λ zs. zs ++ drop (i + 1) xs) (big_endian_push i r)
    ∙ append_assoc (big_endian i (r / 256)) (r % 256 ∷ []) (drop (i + 1) xs)
    ∙ ap (λ z. big_endian i (r / 256) ++ z) (sym (drop-set xs i (r % 256) l))

-- Bytes that are each below 256, as a recursion over the list has it.
pub under_each : (xs : List ℕ) → ((i : ℕ) → get_or xs i 0 < 256) → AllBelowBase 256 xs
under_each [] h = tt
under_each (x ∷ xs) h = (h 0, under_each xs (λ i. h (suc i)))

-- A byte is 8 bits.
bits_of_bytes : (n : ℕ) → 256 ^ n ≡ 2 ^ (n * 8)
bits_of_bytes zero = refl
bits_of_bytes (suc n) =
    let e : suc n * 8 ≡ n * 8 + 8 = omega arith in
    let p : 2 ^ (suc n * 8) ≡ 2 ^ (n * 8) * 256 = ap (λ m. 2 ^ m) e ∙ pow-add 2 (n * 8) 8 in
    omega (arith, p, pow-suc 256 n, bits_of_bytes n)

-- Parts of bytes are bytes.
pub under_take : (n : ℕ) (xs : List ℕ) → AllBelowBase 256 xs → AllBelowBase 256 (take n xs)
under_take zero xs h = tt
under_take (suc n) [] h = tt
under_take (suc n) (x ∷ xs) h = (h.0, under_take n xs h.1)

pub under_drop : (n : ℕ) (xs : List ℕ) → AllBelowBase 256 xs → AllBelowBase 256 (drop n xs)
under_drop zero xs h = h
under_drop (suc n) [] h = tt
under_drop (suc n) (x ∷ xs) h = under_drop n xs h.1

-- What few bytes spell is below the bound of so many, and 8 of them fit 64 bits.
pub small_of_few : (bs : List ℕ) (count : ℕ) → AllBelowBase 256 bs → length bs ≤ count → spelled bs < 2 ^ (count * 8)
small_of_few bs count under few =
    let g : length bs * 8 ≤ count * 8 = omega arith in
    omega (arith, bits_of_bytes (length bs), number_lt 256 bs under, pow_mono g)

pub held_of_few : (bs : List ℕ) → AllBelowBase 256 bs → length bs ≤ 8 → in_64_bits (spelled bs) ≡ Some (spelled bs)
held_of_few bs under few = sym (cond_below (spelled bs) (2 ^ 64) (Some (spelled bs)) None (small_of_few bs 8 under few))

-- Rows of one length, one behind the other: what stands at a row and a column.
use Rattle.std.proofs.Common.{◌≡◌, ℕ, zero, suc, ◌+◌, ◌-◌, ◌*◌, ◌<◌, ◌≤◌, List, ◌++◌, length, get_or, sym, ap, ◌∙◌, add-zero, suc-mul, zero-mul, arith, length-append}
use Rattle.std.specs.List.{range_with_len, flat_map}
use Rattle.std.proofs.lemmas.List.{get_or_append_left, get_or-append_right}

-- n rows of t, the first of them number a.
pub length-rows : (f : ℕ → List ℕ) (t : ℕ) → ((i : ℕ) → length (f i) ≡ t) → (n a : ℕ) → length (flat_map f (range_with_len a n)) ≡ n * t
length-rows f t long zero a = sym (zero-mul t)
length-rows f t long (suc n) a =
    length-append (f a) (flat_map f (range_with_len (a + 1) n)) ∙ omega (arith, long a, length-rows f t long n (a + 1), suc-mul n t)

pub get_d_rows : (f : ℕ → List ℕ) (t : ℕ) → ((i : ℕ) → length (f i) ≡ t) → (n a i j : ℕ) → i < n → j < t → get_or (flat_map f (range_with_len a n)) (i * t + j) 0 ≡ get_or (f (a + i)) j 0
get_d_rows f t long zero a i j h k = absurd (omega arith)
get_d_rows f t long (suc n) a zero j h k =
    let rest = flat_map f (range_with_len (a + 1) n) in
    let at : zero * t + j ≡ j = omega (arith, zero-mul t) in
    let here : j < length (f a) = omega (arith, long a) in
    ap (λ p. get_or (f a ++ rest) p 0) at ∙ get_or_append_left (f a) rest 0 j here ∙ ap (λ r. get_or (f r) j 0) (sym (add-zero a))
get_d_rows f t long (suc n) a (suc i) j h k =
    let rest = flat_map f (range_with_len (a + 1) n) in
    let place : suc i * t + j ≡ t + (i * t + j) = omega (arith, suc-mul i t) in
    let past : t ≤ suc i * t + j = omega (arith, place) in
    let less : suc i * t + j - t ≡ i * t + j = omega (arith, place) in
    let row : (a + 1) + i ≡ a + suc i = omega arith in
    get_or-append_right (f a) rest t (suc i * t + j) 0 (long a) past ∙ ap (λ p. get_or rest p 0) less
    ∙ get_d_rows f t long n (a + 1) i j (omega arith) k ∙ ap (λ r. get_or (f r) j 0) row

-- Parts of one width, one behind the other.
use Rattle.std.proofs.Common.{◌≡◌, ℕ, zero, suc, ◌+◌, ◌-◌, ◌*◌, ◌<◌, ◌≤◌, List, [], ◌++◌, length, get_or, take, drop, sym, refl, ap, ◌∙◌, suc-mul, zero-mul, arith, length-append}
use Rattle.std.specs.List.{range_with_len, flat_map}
use Rattle.std.specs.Simd.{first_chunks}
use Rattle.std.proofs.lemmas.Nat.{mul-le}
use Rattle.std.proofs.lemmas.List.{append_assoc, append-nil, drop_at, drop-drop, drop-take, take-append-drop, take_at, take-take}

-- Two parts that are taken one behind the other.
pub take_plus : (a b : ℕ) (xs : List ℕ) → take (a + b) xs ≡ take a xs ++ take b (drop a xs)
take_plus a b xs =
    sym (take-append-drop a (take (a + b) xs))
    ∙ ap (λ z. z ++ drop a (take (a + b) xs)) (take-take a (a + b) xs (omega arith))
    ∙ ap (λ z. take a xs ++ z) (drop-take a b xs)

module _ (wide : ℕ) (f : ℕ → List ℕ) where
  -- One part more.
  pub joined_more : (n a : ℕ) → flat_map f (range_with_len a (suc n)) ≡ flat_map f (range_with_len a n) ++ f (a + n)
  joined_more zero a = append-nil (f a) ∙ ap f (let e : a ≡ a + 0 = omega arith in e)
  joined_more (suc n) a =
      let e : a + 1 + n ≡ a + suc n = omega arith in
      ap (λ ys. f a ++ ys) (joined_more n (a + 1))
      ∙ sym (append_assoc (f a) (flat_map f (range_with_len (a + 1) n)) (f (a + 1 + n)))
      ∙ ap (λ k. (f a ++ flat_map f (range_with_len (a + 1) n)) ++ f k) e

  -- Each of so many parts has the width.
  abbrev pub AllWide : (a n : ℕ) → Type 0
  AllWide a n = (i : ℕ) → i < n → length (f (a + i)) ≡ wide

  wide_first : (n a : ℕ) → AllWide a (suc n) → length (f a) ≡ wide
  wide_first n a all = let e : a ≡ a + 0 = omega arith in ap (λ k. length (f k)) e ∙ all 0 (omega arith)

  wide_rest : (n a : ℕ) → AllWide a (suc n) → AllWide (a + 1) n
  wide_rest n a all i l = let e : a + 1 + i ≡ a + suc i = omega arith in ap (λ k. length (f k)) e ∙ all (suc i) (omega arith)

  pub length_parts : (n a : ℕ) → AllWide a n → length (flat_map f (range_with_len a n)) ≡ n * wide
  length_parts zero a all = sym (zero-mul wide)
  length_parts (suc n) a all =
      length-append (f a) (flat_map f (range_with_len (a + 1) n))
      ∙ omega (arith, wide_first n a all, length_parts n (a + 1) (wide_rest n a all), suc-mul n wide)

  -- What is drawn from parts has them one behind the other.
  pub to_parts : (n a : ℕ) (m : List ℕ) → AllWide a n → take (n * wide) m ≡ flat_map f (range_with_len a n) → (i : ℕ) → i < n → take wide (drop (i * wide) m) ≡ f (a + i)
  to_parts zero a m all e i l = absurd (omega arith)
  to_parts (suc n) a m all e zero l =
      let s : suc n * wide ≡ wide + n * wide = suc-mul n wide ∙ omega arith in
      let z : a ≡ a + 0 = omega arith in
      ap (λ k. take wide (drop k m)) (zero-mul wide)
      ∙ sym (take-take wide (suc n * wide) m (omega arith))
      ∙ ap (take wide) e
      ∙ take_at (f a) (flat_map f (range_with_len (a + 1) n)) wide (wide_first n a all)
      ∙ ap f z
  to_parts (suc n) a m all e (suc i) l =
      let s : suc n * wide ≡ wide + n * wide = suc-mul n wide ∙ omega arith in
      let t : suc i * wide ≡ wide + i * wide = suc-mul i wide ∙ omega arith in
      let z : a + 1 + i ≡ a + suc i = omega arith in
      let rest = sym (drop-take wide (n * wide) m) ∙ ap (λ k. drop wide (take k m)) (sym s) ∙ ap (drop wide) e ∙ drop_at (f a) (flat_map f (range_with_len (a + 1) n)) wide (wide_first n a all) in
      ap (λ k. take wide (drop k m)) t
      ∙ ap (take wide) (sym (drop-drop (i * wide) wide m))
      ∙ to_parts n (a + 1) (drop wide m) (wide_rest n a all) rest i (omega arith)
      ∙ ap f z

  -- And conversely.
  pub from_parts : (n a : ℕ) (m : List ℕ) → ((i : ℕ) → i < n → take wide (drop (i * wide) m) ≡ f (a + i)) → take (n * wide) m ≡ flat_map f (range_with_len a n)
  from_parts zero a m each = ap (λ k. take k m) (zero-mul wide)
  from_parts (suc n) a m each =
      let s : suc n * wide ≡ wide + n * wide = suc-mul n wide ∙ omega arith in
      let z : a + 0 ≡ a = omega arith in
      let first = ap (λ k. take wide (drop k m)) (sym (zero-mul wide)) ∙ each 0 (omega arith) ∙ ap f z in
      let rest = from_parts n (a + 1) (drop wide m)
      (λ i l.
      let t : wide + i * wide ≡ suc i * wide = sym (suc-mul i wide ∙ omega arith) in
      let y : a + suc i ≡ a + 1 + i = omega arith in
      ap (take wide) (drop-drop (i * wide) wide m) ∙ ap (λ k. take wide (drop k m)) t ∙ each (suc i) (omega arith) ∙ ap f y) in
      ap (λ k. take k m) s
      ∙ take_plus wide (n * wide) m
      ∙ ap (λ xs. xs ++ take (n * wide) (drop wide m)) first
      ∙ ap (λ xs. f a ++ xs) rest

-- Parts of one width, cut from bytes one behind the other.
pub length_chunks : (wide n : ℕ) (xs : List ℕ) → length (first_chunks wide n xs) ≡ n
length_chunks wide zero xs = refl
length_chunks wide (suc n) xs = omega (arith, length_chunks wide n (drop wide xs))

chunk_at : (wide n : ℕ) (xs : List ℕ) (j : ℕ) → j < n → get_or (first_chunks wide n xs) j [] ≡ take wide (drop (j * wide) xs)
chunk_at wide zero xs j h = absurd (omega arith)
chunk_at wide (suc n) xs zero h = ap (λ k. take wide (drop k xs)) (sym (zero-mul wide))
chunk_at wide (suc n) xs (suc j) h =
    let next : wide + j * wide ≡ suc j * wide = sym (suc-mul j wide ∙ omega arith) in
    chunk_at wide n (drop wide xs) j (omega arith) ∙ ap (take wide) (drop-drop (j * wide) wide xs) ∙ ap (λ k. take wide (drop k xs)) next

-- One of n that are cut from a place of the memory on.
pub chunk_in : (wide at n : ℕ) (m xs : List ℕ) → xs ≡ take (n * wide) (drop at m) → (j : ℕ) → j < n → get_or (first_chunks wide n xs) j [] ≡ take wide (drop (at + j * wide) m)
chunk_in wide at n m xs e j l =
    let more : (suc j) * wide ≤ n * wide = mul-le (suc j) wide n wide (omega arith) (omega arith) in
    let inside : j * wide + wide ≤ n * wide = omega (arith, more, suc-mul j wide) in
    let rest : n * wide ≡ j * wide + (n * wide - j * wide) = omega (arith, inside) in
    chunk_at wide n xs j l
    ∙ ap (λ ys. take wide (drop (j * wide) ys)) (e ∙ ap (λ k. take k (drop at m)) rest)
    ∙ ap (take wide) (drop-take (j * wide) (n * wide - j * wide) (drop at m))
    ∙ take-take wide (n * wide - j * wide) (drop (j * wide) (drop at m)) (omega (arith, inside))
    ∙ ap (take wide) (drop-drop (j * wide) at m)

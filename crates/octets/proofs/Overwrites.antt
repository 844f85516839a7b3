-- What stands where, once a part is written over bytes.
use Rattle.std.proofs.Common.{◌≡◌, ℕ, ◌+◌, ◌-◌, ◌*◌, ◌<◌, ◌≤◌, Bool, true, false, cond, eqb, leb, List, ◌++◌, length, take, drop, replicate, sym, refl, ap, ◌∙◌, inl, inr, add-mul, arith, length-append, length-drop, length-take}
use lib.ListN.{length-replicate}
use borrow.Rule.Slice.PartMut.{put_mid}
use Rattle.std.proofs.lemmas.Nat.{mul-le}
use Rattle.std.proofs.lemmas.List.{drop-append-le, drop-drop, drop_at, drop-replicate, take_at, take-append-le, take-append-drop, take-replicate, take-take, append_assoc, drop-take}
use Rattle.std.proofs.lemmas.Bool.{cases_eq, cases_lt, cond-true, cond-false, eq-eqb, ne_eqb, le-leb}
use Rattle.octets.specs.Overwriting.{overwritten, zeroed}

-- What the checker says of a write to `memory[at..at + k]`.
pub put_part : (at k m : ℕ) (memory put part : List ℕ) → put ≡ part → m ≡ k → length part ≡ k → put_mid at m memory put ≡ overwritten at part memory
unfolding overwritten
put_part at k m memory put part e f l =
    ap (λ (ys : List ℕ). take at memory ++ (ys ++ drop m (drop at memory))) e
    ∙ ap (λ ys. take at memory ++ (part ++ ys)) (drop-drop m at memory ∙ ap (λ n. drop (at + n) memory) (f ∙ sym l))

-- The same, of a part that is written or left as it was.
pub put_part_if : (done : Bool) (at k m : ℕ) (memory put part : List ℕ) → put ≡ cond done part (take k (drop at memory)) → m ≡ k → length put ≡ k → put_mid at m memory put ≡ cond done (overwritten at part memory) memory
put_part_if true at k m memory put part e f l = put_part at k m memory put part e f (ap length (sym e) ∙ l)
put_part_if false at k m memory put part e f l =
    ap (λ (ys : List ℕ). take at memory ++ (ys ++ drop m (drop at memory))) e
    ∙ ap (λ n. take at memory ++ (take k (drop at memory) ++ drop n (drop at memory))) f
    ∙ ap (λ ys. take at memory ++ ys) (take-append-drop k (drop at memory))
    ∙ take-append-drop at memory

-- What is written where it fits, at a place where it does.
pub written_where_it_fits : (at k : ℕ) (part memory new : List ℕ) (fits : Bool) → fits ≡ leb (at + k) (length memory) → new ≡ cond fits (overwritten at part memory) memory → at + k ≤ length memory → new ≡ overwritten at part memory
written_where_it_fits at k part memory new fits e f h = f ∙ cond-true fits _ _ (e ∙ le-leb (at + k) (length memory) h)

-- A part that is written where a front ends stands behind that front.
pub written_behind : (front rest part : List ℕ) (at : ℕ) → length front ≡ at → overwritten at part (front ++ rest) ≡ (front ++ part) ++ drop (length part) rest
unfolding overwritten
written_behind front rest part at e =
    ap (λ ys. ys ++ (part ++ drop (at + length part) (front ++ rest))) (take_at front rest at e)
    ∙ ap (λ ys. front ++ (part ++ ys)) (sym (drop-drop (length part) at (front ++ rest)) ∙ ap (drop (length part)) (drop_at front rest at e))
    ∙ sym (append_assoc front part (drop (length part) rest))

module _ (at : ℕ) (part memory : List ℕ) (fits : at + length part ≤ length memory) where
  front : length (take at memory) ≡ at
  front = simp length-take (omega arith)

  pub length-overwritten : length (overwritten at part memory) ≡ length memory
  unfolding overwritten
  length-overwritten = simp (length-append, length-take, length-drop) (omega arith)

  -- the part itself
  pub part_same : take (length part) (drop at (overwritten at part memory)) ≡ part
  unfolding overwritten
  part_same =
      ap (take (length part)) (drop_at (take at memory) (part ++ drop (at + length part) memory) at front)
      ∙ take_at part (drop (at + length part) memory) (length part) refl

  -- the same, of a part whose length is told
  pub part_here : (k : ℕ) → length part ≡ k → take k (drop at (overwritten at part memory)) ≡ part
  part_here k e = ap (λ n. take n (drop at (overwritten at part memory))) (sym e) ∙ part_same

  -- what stands before it
  pub part_before : (j k : ℕ) → j + k ≤ at → take k (drop j (overwritten at part memory)) ≡ take k (drop j memory)
  unfolding overwritten
  part_before j k h =
      sym (drop-take j k (overwritten at part memory))
      ∙ ap (drop j) (take-append-le (j + k) (take at memory) (part ++ drop (at + length part) memory) (simp length-take (omega arith)) ∙ take-take (j + k) at memory h)
      ∙ drop-take j k memory

  -- what stands behind it
  pub drop_behind : (j : ℕ) → at + length part ≤ j → drop j (overwritten at part memory) ≡ drop j memory
  unfolding overwritten
  drop_behind j h =
      let e : j ≡ (at + length part) + (j - (at + length part)) = omega arith in
      ap (λ n. drop n (take at memory ++ (part ++ drop (at + length part) memory))) e
      ∙ sym (drop-drop (j - (at + length part)) (at + length part) (take at memory ++ (part ++ drop (at + length part) memory)))
      ∙ ap (drop (j - (at + length part)))
      (ap (drop (at + length part)) (sym (append_assoc (take at memory) part (drop (at + length part) memory)))
      ∙ drop_at (take at memory ++ part) (drop (at + length part) memory) (at + length part) (length-append (take at memory) part ∙ ap (λ n. n + length part) front))
      ∙ drop-drop (j - (at + length part)) (at + length part) memory
      ∙ ap (λ n. drop n memory) (sym e)

  pub part_behind : (j k : ℕ) → at + length part ≤ j → take k (drop j (overwritten at part memory)) ≡ take k (drop j memory)
  part_behind j k h = ap (take k) (drop_behind j h)

-- Of parts of one width from a place on, one is written anew.
pub one_of_parts : (at wide : ℕ) (memory : List ℕ) (j : ℕ) (part : List ℕ) → length part ≡ wide → at + j * wide + wide ≤ length memory → (i : ℕ) → take wide (drop (at + i * wide) (overwritten (at + j * wide) part memory)) ≡ cond (eqb i j) part (take wide (drop (at + i * wide) memory))
one_of_parts at wide memory j part l h i =
    let fits : at + j * wide + length part ≤ length memory = omega arith in
    elim (cases_eq i j) [
      | inl e ↦
          ap (λ k. take wide (drop (at + k * wide) (overwritten (at + j * wide) part memory))) e
          ∙ part_here (at + j * wide) part memory fits wide l
          ∙ sym (cond-true _ _ _ (eq-eqb i j e))
      | inr n ↦
          elim (cases_lt i j) [
            | inl lt ↦ part_before (at + j * wide) part memory fits (at + i * wide) wide (omega (arith, mul-le (i + 1) wide j wide (omega arith) (omega arith), add-mul i 1 wide)) ∙ sym (cond-false _ _ _ (ne_eqb i j n))
            | inr ge ↦
                let gt : j < i = omega (arith, n) in
                part_behind (at + j * wide) part memory fits (at + i * wide) wide (omega (arith, mul-le (j + 1) wide i wide (omega arith) (omega arith), add-mul j 1 wide)) ∙ sym (cond-false _ _ _ (ne_eqb i j n))
          ]
    ]

-- Two parts, one behind the other, are one.
pub overwritten_two : (at n : ℕ) (xs ys m : List ℕ) → length xs ≡ n → at + length xs ≤ length m → overwritten (at + n) ys (overwritten at xs m) ≡ overwritten at (xs ++ ys) m
unfolding overwritten
overwritten_two at n xs ys m l h =
    let front : length (take at m ++ xs) ≡ at + n = length-append (take at m) xs ∙ omega (arith, length-take at m) in
    let a : take at m ++ (xs ++ drop (at + length xs) m) ≡ (take at m ++ xs) ++ drop (at + length xs) m = sym (append_assoc (take at m) xs (drop (at + length xs) m)) in
    let p : take (at + n) (take at m ++ (xs ++ drop (at + length xs) m)) ≡ take at m ++ xs = ap (take (at + n)) a ∙ take_at (take at m ++ xs) (drop (at + length xs) m) (at + n) front in
    let q : drop (at + n + length ys) (take at m ++ (xs ++ drop (at + length xs) m)) ≡ drop (at + length (xs ++ ys)) m =
    sym (drop-drop (length ys) (at + n) (take at m ++ (xs ++ drop (at + length xs) m)))
    ∙ ap (drop (length ys)) (ap (drop (at + n)) a ∙ drop_at (take at m ++ xs) (drop (at + length xs) m) (at + n) front)
    ∙ drop-drop (length ys) (at + length xs) m ∙ ap (λ k. drop k m) (let z = length-append xs ys in omega arith) in
    ap (λ zs. zs ++ (ys ++ drop (at + n + length ys) (take at m ++ (xs ++ drop (at + length xs) m)))) p
    ∙ ap (λ zs. (take at m ++ xs) ++ (ys ++ zs)) q
    ∙ append_assoc (take at m) xs (ys ++ drop (at + length (xs ++ ys)) m)
    ∙ ap (λ zs. take at m ++ zs) (sym (append_assoc xs ys (drop (at + length (xs ++ ys)) m)))

-- Memory of which the first n bytes were zeroed.
pub length-zeroed : (n : ℕ) (memory : List ℕ) → n ≤ length memory → length (zeroed n memory) ≡ length memory
length-zeroed n memory h = length-append (replicate n 0) (drop n memory) ∙ omega (arith, length-replicate {A = ℕ} n 0, length-drop n memory)

-- A part of the zeros.
pub zero_part : (n j k : ℕ) (memory : List ℕ) → j + k ≤ n → take k (drop j (zeroed n memory)) ≡ replicate k 0
zero_part n j k memory h =
    let long = length-replicate {A = ℕ} n 0 in
    ap (take k) (drop-append-le j (replicate n 0) (drop n memory) (omega arith) ∙ ap (λ xs. xs ++ drop n memory) (drop-replicate j n 0))
    ∙ take-append-le k (replicate (n - j) 0) (drop n memory) (omega (arith, length-replicate {A = ℕ} (n - j) 0))
    ∙ take-replicate k (n - j) 0 (omega arith)

-- What stands at a place, written there again.
pub overwritten_same : (at k : ℕ) (memory : List ℕ) → at + k ≤ length memory → overwritten at (take k (drop at memory)) memory ≡ memory
unfolding overwritten
overwritten_same at k memory h =
    let long : length (take k (drop at memory)) ≡ k = simp (length-take, length-drop) (omega arith) in
    ap (λ n. take at memory ++ (take k (drop at memory) ++ drop (at + n) memory)) long
    ∙ ap (λ ys. take at memory ++ (take k (drop at memory) ++ ys)) (sym (drop-drop k at memory))
    ∙ ap (λ ys. take at memory ++ ys) (take-append-drop k (drop at memory))
    ∙ take-append-drop at memory

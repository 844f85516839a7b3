-- Reading a drawing code byte by byte, and padding a text to its 12 bytes.
use Rattle.std.proofs.Common.{◌≡◌, ℕ, zero, suc, ◌+◌, ◌-◌, ◌<◌, ◌≤◌, Bool, true, false, cond, ◌&&◌, eqb, List, [], ◌∷◌, ◌++◌, length, get_or, take, drop, replicate, Some, None, Option, sym, refl, ap, ◌∙◌, inl, inr, arith}
use Rattle.std.proofs.lemmas.List.{length-take-le, length-append, length-replicate, take-append-drop}
use Rattle.std.proofs.lemmas.Bool.{lt-ltb, le-leb, eq-eqb, eqb-true, and_from, and_parts, cases_Bool, cond-true, cond-false}
use Rattle.keys.specs.Codes.{of_code, only_padding, text_then_padding, after_byte, code_admissible, all_of_code, code_text, padded}

abbrev go_on : Option Bool → (Bool → Bool) → Bool
go_on None f = false
go_on (Some ended) f = f ended

-- Whether bytes go on a code from a place on.
abbrev pub code_from : (ended : Bool) (place : ℕ) → List ℕ → Bool
code_from ended place [] = true
code_from ended place (b ∷ bs) = go_on (after_byte b ended place) (λ e. code_from e (place + 1) bs)

pub refused_from : (ended : Bool) (place b : ℕ) (bs : List ℕ) → None ≡ after_byte b ended place → code_from ended place (b ∷ bs) ≡ false
refused_from ended place b bs h = ap (λ o. go_on o (λ e. code_from e (place + 1) bs)) (sym h)

pub accepted_from : (ended e : Bool) (place b : ℕ) (bs : List ℕ) → after_byte b ended place ≡ Some e → code_from ended place (b ∷ bs) ≡ code_from e (place + 1) bs
accepted_from ended e place b bs h = ap (λ o. go_on o (λ e. code_from e (place + 1) bs)) h

pads : (zero-byte : Bool) (f : Bool → Bool) (p : Bool) → f true ≡ p → go_on (cond (zero-byte && true) (Some true) None) f ≡ (zero-byte && p)
pads true f p h = h
pads false f p h = refl

texts : (code zero-byte : Bool) (f : Bool → Bool) (t p : Bool) → f false ≡ t → f true ≡ p → go_on (cond code (Some false) (cond (zero-byte && true) (Some true) None)) f ≡ cond code t (zero-byte && p)
texts true z f t p h k = h
texts false z f t p h k = pads z f p k

starts : (code zero-byte : Bool) (f : Bool → Bool) (t p : Bool) → f false ≡ t → go_on (cond code (Some false) (cond (zero-byte && false) (Some true) None)) f ≡ (code && cond code t p)
starts true z f t p h = h
starts false true f t p h = refl
starts false false f t p h = refl

-- Once the text has ended, only padding may follow.
padding_from : (place : ℕ) (bs : List ℕ) → 0 < place → code_from true place bs ≡ only_padding bs
padding_from place [] h = refl
padding_from place (b ∷ bs) h =
    ap (λ w. go_on (cond (eqb b 0 && w) (Some true) None) (λ e. code_from e (place + 1) bs)) (lt-ltb 0 place h)
    ∙ pads (eqb b 0) (λ e. code_from e (place + 1) bs) (only_padding bs) (padding_from (place + 1) bs (omega arith))

text_from : (place : ℕ) (bs : List ℕ) → 0 < place → code_from false place bs ≡ text_then_padding bs
text_from place [] h = refl
text_from place (b ∷ bs) h =
    ap (λ w. go_on (cond (of_code b) (Some false) (cond (eqb b 0 && w) (Some true) None)) (λ e. code_from e (place + 1) bs)) (lt-ltb 0 place h)
    ∙ texts (of_code b) (eqb b 0) (λ e. code_from e (place + 1) bs) (text_then_padding bs) (only_padding bs) (text_from (place + 1) bs (omega arith)) (padding_from (place + 1) bs (omega arith))

-- Twelve bytes are a code exactly where they go on one from its start.
pub admissible_is : (bs : List ℕ) → length bs ≡ 12 → code_from false 0 bs ≡ code_admissible bs
admissible_is [] h = absurd (omega arith)
admissible_is (b ∷ bs) h =
    starts (of_code b) (eqb b 0) (λ e. code_from e (0 + 1) bs) (text_then_padding bs) (eqb b 0 && only_padding bs) (text_from 1 bs (omega arith))
    ∙ ap (λ w. w && (of_code b && text_then_padding (b ∷ bs))) (sym (eq-eqb (length (b ∷ bs)) 12 h))

only_padding-replicate : (n : ℕ) → only_padding (replicate n 0) ≡ true
only_padding-replicate zero = refl
only_padding-replicate (suc n) = only_padding-replicate n

padding_is_padding : (n : ℕ) → text_then_padding (replicate n 0) ≡ true
padding_is_padding zero = refl
padding_is_padding (suc n) = only_padding-replicate n

text_then : (xs : List ℕ) (n : ℕ) → all_of_code xs ≡ true → text_then_padding (xs ++ replicate n 0) ≡ true
text_then [] n h = padding_is_padding n
text_then (x ∷ xs) n h =
    let parts = and_parts (of_code x) (all_of_code xs) h in
    ap (λ w. cond w (text_then_padding (xs ++ replicate n 0)) (only_padding (x ∷ (xs ++ replicate n 0)))) parts.0 ∙ text_then xs n parts.1

first_of_text : (xs ys : List ℕ) → 0 < length xs → all_of_code xs ≡ true → of_code (get_or (xs ++ ys) 0 0) ≡ true
first_of_text [] ys l h = absurd (omega arith)
first_of_text (x ∷ xs) ys l h = (and_parts (of_code x) (all_of_code xs) h).0

-- A code's text, padded, is the bytes of a code.
pub padded_admissible : (xs : List ℕ) → 0 < length xs → length xs ≤ 12 → all_of_code xs ≡ true → code_admissible (padded xs) ≡ true
padded_admissible xs some few h =
    let long : length (padded xs) ≡ 12 = length-append xs (replicate (12 - length xs) 0) ∙ ap (λ n. length xs + n) (length-replicate (12 - length xs) 0) ∙ omega arith in
    and_from _ _ (eq-eqb _ _ long) (and_from _ _ (first_of_text xs _ some h) (text_then xs (12 - length xs) h))

pub code_text_from : (xs : List ℕ) → 0 < length xs → length xs ≤ 12 → all_of_code xs ≡ true → code_text xs ≡ true
code_text_from xs some few h = and_from _ _ (and_from _ _ (lt-ltb _ _ some) (le-leb _ _ few)) h

-- A byte other than 0 in what is left of a code is text, and is followed by text and padding.
pub text_goes_on : (b : ℕ) (bs : List ℕ) → text_then_padding (b ∷ bs) ≡ true → (b ≡ 0 → ⊥) → (of_code b ≡ true) × (text_then_padding bs ≡ true)
text_goes_on b bs h some =
    elim (cases_Bool (of_code b)) [
      | inl code ↦ (code, sym (cond-true _ _ (only_padding (b ∷ bs)) code) ∙ h)
      | inr other ↦ absurd (some (eqb-true b 0 (and_parts (eqb b 0) (only_padding bs) (sym (cond-false _ (text_then_padding bs) _ other) ∙ h)).0))
    ]

only_padding_is : (bs : List ℕ) → only_padding bs ≡ true → bs ≡ replicate (length bs) 0
only_padding_is [] h = refl
only_padding_is (b ∷ bs) h =
    let parts = and_parts (eqb b 0) (only_padding bs) h in
    cc (eqb-true b 0 parts.0, only_padding_is bs parts.1)

-- A byte 0 in what is left of a code, and all behind it, is padding.
pub text_ends : (bs : List ℕ) → text_then_padding (0 ∷ bs) ≡ true → 0 ∷ bs ≡ replicate (length (0 ∷ bs)) 0
text_ends bs h = only_padding_is (0 ∷ bs) h

-- In front of a place behind no byte 0 there is text, and text and then padding from there on.
pub text_until : (bs : List ℕ) (i : ℕ) → text_then_padding bs ≡ true → i ≤ length bs → ((k : ℕ) → k < i → get_or bs k 0 ≡ 0 → ⊥) → (all_of_code (take i bs) ≡ true) × (text_then_padding (drop i bs) ≡ true)
text_until bs zero h few some = (refl, h)
text_until [] (suc i) h few some = absurd (omega arith)
text_until (b ∷ bs) (suc i) h few some =
    let on = text_goes_on b bs h (some 0 (omega arith)) in
    let more = text_until bs i on.1 (omega arith) (λ k lt. some (suc k) (omega arith)) in
    (and_from (of_code b) (all_of_code (take i bs)) on.0 more.0, more.1)

module _ (bytes : List ℕ) (i : ℕ) (long : length bytes ≡ 12) (code : all_of_code (take i bytes) ≡ true) where
  front : i ≤ 12 → length (take i bytes) ≡ i
  front few = length-take-le i bytes (omega arith)

  pub front_text : 0 < i → i ≤ 12 → code_text (take i bytes) ≡ true
  front_text some few = code_text_from (take i bytes) (omega (arith, front few)) (omega (arith, front few)) code

  -- Behind the text, padding alone: the bytes are the text, padded.
  pub front_padded : i ≤ 12 → drop i bytes ≡ replicate (12 - i) 0 → bytes ≡ padded (take i bytes)
  front_padded few rest =
      sym (take-append-drop i bytes) ∙ ap (λ back. take i bytes ++ back) rest
      ∙ ap (λ n. take i bytes ++ replicate (12 - n) 0) (sym (front few))

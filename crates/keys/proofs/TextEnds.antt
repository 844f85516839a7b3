-- The first byte 0 ends the text of a code; where there is none, the text fills all 12 bytes.
use Rattle.std.proofs.Common.{◌≡◌, ℕ, zero, suc, ◌+◌, ◌-◌, ◌<◌, true, ◌&&◌, ◌==◌, eqb, ◌∷◌, length, get_or, take, drop, replicate, position, Option, Some, None, sym, ap, ◌∙◌, arith}
use Rattle.std.proofs.lemmas.Bool.{and_parts, both_ways, eqb-false, eqb-true}
use Rattle.std.proofs.lemmas.List.{drop_more, drop_all, length-drop}
use Rattle.std.proofs.lemmas.List.Quantifiers.{position-Some}
use Rattle.octets.proofs.Lists.{fails_everywhere}
use Rattle.std.specs.Option.{unwrap_or}
use Rattle.keys.specs.Codes.{code_text, of_code, padded, text_then_padding}
use Rattle.keys.specs.CodeLaws.{code_laws}
use Rattle.keys.specs.declared.code.DrawingCode.{DrawingCode}
use Rattle.keys.proofs.Codes.{text_until, text_ends, front_text, front_padded}

twelve : (code : DrawingCode) → length code.bytes ≡ 12
twelve code = code_laws.twelve code.bytes code.good

-- Its first byte is text, and all of it is text and then padding.
begins : (code : DrawingCode) → (of_code (get_or code.bytes 0 0) ≡ true) × (text_then_padding code.bytes ≡ true)
begins code =
    let after-length = (and_parts (eqb (length code.bytes) 12) (of_code (get_or code.bytes 0 0) && text_then_padding code.bytes) code.good).1 in
    and_parts (of_code (get_or code.bytes 0 0)) (text_then_padding code.bytes) after-length

not_first : (code : DrawingCode) (i : ℕ) → get_or code.bytes i 0 ≡ 0 → 0 < i
not_first code zero e = absurd (both_ways (of_code (get_or code.bytes 0 0)) (ap of_code e) (begins code).0)
not_first code (suc i) e = omega arith

-- What the text up to a place is, and what the bytes are by it.
abbrev Ends : DrawingCode → ℕ → Type 0
Ends code n = (code_text (take n code.bytes) ≡ true) × (code.bytes ≡ padded (take n code.bytes))

at_zero : (code : DrawingCode) (i : ℕ) → Some i ≡ position (λ b. b == 0) code.bytes → Ends code i
at_zero code i h =
    let bytes = code.bytes in
    let long = twelve code in
    let at = position-Some (λ b. b == 0) bytes i 0 (sym h) in
    let zero-byte : get_or bytes i 0 ≡ 0 = eqb-true (get_or bytes i 0) 0 at.1 in
    let until = text_until bytes i (begins code).1 (omega arith) (λ k lt. eqb-false (get_or bytes k 0) 0 (at.2 k lt)) in
    let opened : drop i bytes ≡ 0 ∷ drop (i + 1) bytes = drop_more bytes i 0 at.0 ∙ ap (λ b. b ∷ drop (i + 1) bytes) zero-byte in
    let padding = text_ends (drop (i + 1) bytes) (ap text_then_padding (sym opened) ∙ until.1) in
    let left : length (0 ∷ drop (i + 1) bytes) ≡ 12 - i = ap length (sym opened) ∙ length-drop i bytes ∙ ap (λ n. n - i) long in (
      front_text bytes i long until.0 (not_first code i zero-byte) (omega (arith, long, at.0)),
      front_padded bytes i long until.0 (omega (arith, long, at.0)) (opened ∙ padding ∙ ap (λ n. replicate n 0) left),
    )

all_text : (code : DrawingCode) → None ≡ position (λ b. b == 0) code.bytes → Ends code 12
all_text code h =
    let bytes = code.bytes in
    let long = twelve code in
    let until = text_until bytes 12 (begins code).1 (omega (arith, long)) (λ k lt. eqb-false (get_or bytes k 0) 0 (fails_everywhere (λ b. b == 0) bytes k 0 h (omega (arith, long)))) in (
      front_text bytes 12 long until.0 (omega arith) (omega arith),
      front_padded bytes 12 long until.0 (omega arith) (drop_all 12 bytes (omega (arith, long))),
    )

ends : (code : DrawingCode) (o : Option ℕ) → o ≡ position (λ b. b == 0) code.bytes → Ends code (unwrap_or o 12)
ends code None h = all_text code h
ends code (Some i) h = at_zero code i h

pub text_ends_there : (code : DrawingCode) (o : Option ℕ) → o ≡ position (λ b. b == 0) code.bytes → code_text (take (unwrap_or o 12) code.bytes) ≡ true
text_ends_there code o h = (ends code o h).0

pub rest_is_padding : (code : DrawingCode) (o : Option ℕ) → o ≡ position (λ b. b == 0) code.bytes → code.bytes ≡ padded (take (unwrap_or o 12) code.bytes)
rest_is_padding code o h = (ends code o h).1

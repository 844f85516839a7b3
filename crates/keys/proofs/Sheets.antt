-- Reading a sheet number back from its bytes.
use Rattle.std.proofs.Common.{◌≡◌, ℕ, ◌<◌, ◌≤◌, true, false, List, length, Some, Ok, Err, Result, ap, ◌∙◌, arith, MatchResult}
use Rattle.std.specs.Int.Digits.{AllBelowBase}
use Rattle.std.proofs.lemmas.Bool.{and_from, and_right, eq-eqb, le-leb, lt-leb}
use Rattle.octets.specs.Numbers.{spelled, in_64_bits}
use Rattle.octets.proofs.Numbers.{held-in_64_bits}
use Rattle.keys.specs.Sheets.{sheet_bytes, sheet_admissible, largest_sheet}
use Rattle.keys.specs.SheetLaws.{sheet_of_spelled}
use Rattle.keys.specs.declared.fault.KeyFault.{KeyFault}
use Rattle.keys.specs.declared.sheet.SheetNumber.{SheetNumber}

-- The number that twelve bytes spell is taken as a sheet number exactly where the bytes are admissible.
pub read_sheet :
    (bs : List ℕ) (n : ℕ) (r : Result SheetNumber KeyFault) → AllBelowBase 256 bs → length bs ≡ 12 → Some n ≡ in_64_bits (spelled bs)
    → MatchResult r (λ k. k.number ≡ n) (λ _. largest_sheet < n)
    → MatchResult r (λ k. (sheet_admissible bs ≡ true) × (sheet_bytes k.number ≡ bs)) (λ _. sheet_admissible bs ≡ false)
read_sheet bs n (Ok k) u l s h =
    let e : k.number ≡ spelled bs = h ∙ held-in_64_bits n (spelled bs) s in
    let few : spelled bs ≤ largest_sheet = omega (arith, e, k.small) in
    (and_from _ _ (eq-eqb _ _ l) (le-leb _ _ few), ap sheet_bytes e ∙ sheet_of_spelled bs u l few)
read_sheet bs n (Err f) u l s h =
    let past : largest_sheet < spelled bs = omega (arith, h, held-in_64_bits n (spelled bs) s) in
    and_right _ _ (lt-leb _ _ past)

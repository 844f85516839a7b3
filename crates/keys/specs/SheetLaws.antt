-- Sheet numbers are a kind of key.
use Rattle.std.specs.Prelude.{◌≡◌, ℕ, ◌^◌, ◌<◌, ◌≤◌, List, length}
use Rattle.std.proofs.Common.{sym, ap, ◌∙◌, mod-eq_of_lt, arith}
use mathlib.Core.HLevel.{is_prop→PathP}
use Rattle.std.proofs.Math.Bridge.{le_prop}
use Rattle.std.specs.Int.Digits.{AllBelowBase}
use Rattle.std.proofs.lemmas.Bool.{and_parts, eqb-true, le-leb}
use Rattle.octets.specs.Numbers.{spelled}
use Rattle.octets.proofs.Numbers.{spelled-big_endian, under_big_endian, same_from_spelled}
use Rattle.keys.specs.Sheets.{sheet_bytes, sheet_admissible, largest_sheet}
use Rattle.keys.specs.Laws.{KeyLaws}
use Rattle.keys.specs.declared.sheet.SheetNumber.{SheetNumber}

pub spelled_sheet : (n : ℕ) → n ≤ largest_sheet → spelled (sheet_bytes n) ≡ n
spelled_sheet n h = let small : n < 256 ^ 4 = omega arith in spelled-big_endian 4 n ∙ mod-eq_of_lt small

under_sheet : (n : ℕ) → AllBelowBase 256 (sheet_bytes n)
under_sheet n =
    (omega arith, (omega arith, (omega arith, (omega arith, (omega arith, (omega arith, (omega arith, (omega arith, under_big_endian 4 n))))))))

-- Twelve bytes that spell a sheet number are the bytes of that number.
pub sheet_of_spelled : (bs : List ℕ) → AllBelowBase 256 bs → length bs ≡ 12 → spelled bs ≤ largest_sheet → sheet_bytes (spelled bs) ≡ bs
sheet_of_spelled bs u l h = same_from_spelled (sheet_bytes (spelled bs)) bs (under_sheet (spelled bs)) u (sym l) (spelled_sheet (spelled bs) h)

same_number : (a b : SheetNumber) → a.number ≡ b.number → a ≡ b
same_number a b e i = record { number = e i; small = is_prop→PathP (λ j. e j ≤ largest_sheet) (λ j. le_prop) a.small b.small i }

pub sheet_laws : KeyLaws {K = SheetNumber} (λ s. sheet_bytes s.number) sheet_admissible
sheet_laws =
    record {
      twelve = λ bs h. eqb-true _ _ (and_parts _ _ h).0;
      own = λ s. le-leb _ _ (let e = spelled_sheet s.number s.small in omega arith);
      apart = λ a b e. same_number a b (sym (spelled_sheet a.number a.small) ∙ ap spelled e ∙ spelled_sheet b.number b.small);
    }

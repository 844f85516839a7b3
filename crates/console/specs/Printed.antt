-- The lines that the programs print.
use Rattle.std.specs.Prelude.{ℕ, List, ◌++◌, codes, Some, None, Ok, Err, Option, Result, OnOk, IfSome}
use Rattle.std.specs.Fmt.{decimal}
use Rattle.std.specs.Io.KnownBytes.{Appends}
use Rattle.hex_digits.specs.Hex.{text_of}

-- a refusal: the number of the refused line, that of the refusal, and its detail or `-`
abbrev pub refusal_line : (line number : ℕ) → Option ℕ → List ℕ
refusal_line line number (Some detail) = codes "no " ++ decimal line ++ codes " " ++ decimal number ++ codes " " ++ decimal detail ++ codes "\n"
refusal_line line number None = codes "no " ++ decimal line ++ codes " " ++ decimal number ++ codes " -\n"

-- a line's answer was printed, if printing did not fail: what is known of the reply's text, and the line's end; or its refusal
abbrev pub Tells :
    {T R E : Type 0} → Result T R → (T → Option (List ℕ)) → (R → ℕ) → (R → Option ℕ) → (line : ℕ) → Result (Unit {0}) E
    → Option (List ℕ) → Option (List ℕ) → Type 0
Tells (Ok reply) output number detail line done old new = OnOk done (IfSome (output reply) (λ text. Appends old new (text ++ codes "\n")))
Tells (Err refusal) output number detail line done old new = OnOk done (Appends old new (refusal_line line (number refusal) (detail refusal)))

-- all bytes of a memory
abbrev pub bytes_line : List ℕ → List ℕ
bytes_line bytes = codes "bytes " ++ text_of bytes ++ codes "\n"

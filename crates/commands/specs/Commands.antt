-- What a line asks of a store.
use Rattle.std.specs.Prelude.{ℕ, cond, List, Some, None, Ok, Err, vec_items, codes, Option, Result}
use Rattle.std.specs.Option.{ok_or}
use Rattle.std.specs.Str.{bytes_eq}
use Rattle.hex_digits.specs.Hex.{bytes_of}
use Rattle.lines.specs.declared.fault.LineFault.{LineFault}
use Rattle.lines.specs.Fields.{Reading, and_end, and_next, bounded_field, field_as, text_field, then}
use Rattle.lines.specs.Readers.{all_of}
use Rattle.commands.specs.declared.command.Command.{Command}
use Rattle.commands.specs.declared.command.Command.TheVariants.{Write, Read, Take}
use Rattle.commands.specs.declared.command.Verb.{Verb}
use Rattle.commands.specs.declared.command.Verb.TheVariants.{Write as ToWrite, Read as ToRead, Take as ToTake}
use Rattle.commands.specs.declared.command.CommandFault.{CommandFault}
use Rattle.commands.specs.declared.command.CommandFault.TheVariants.{Line, Memory}

pub data Asked : Type 0 where
  writes : (cell : ℕ) (bytes : List ℕ) → Asked
  reads : (cell : ℕ) → Asked
  takes : (cell : ℕ) → Asked

abbrev pub cell_field : Reading ℕ
cell_field u = bounded_field 4294967295 u

-- the bytes that a field's digits write
abbrev pub digits_in : ℕ × List ℕ → Result (List ℕ) LineFault
digits_in f = ok_or (bytes_of f.1) (record { field = f.0 })

abbrev pub bytes_field : Reading (List ℕ)
bytes_field u = then (text_field u) digits_in

-- bytes, and then no more fields
abbrev pub last_bytes : Reading (List ℕ)
last_bytes u = and_next bytes_field and_end u

abbrev pub verb_of : List ℕ → Option Verb
verb_of t =
    cond (bytes_eq t (codes "write")) (Some ToWrite) (cond (bytes_eq t (codes "read")) (Some ToRead) (cond (bytes_eq t (codes "take")) (Some ToTake) None))

abbrev pub verb_field : Reading Verb
verb_field u = field_as verb_of u

abbrev pub rest_of : Verb → Reading Asked
rest_of ToWrite u = and_next cell_field (λ cell v. then (last_bytes v) (λ bytes. Ok (writes cell bytes))) u
rest_of ToRead u = and_next cell_field (λ cell. and_end (reads cell)) u
rest_of ToTake u = and_next cell_field (λ cell. and_end (takes cell)) u

abbrev pub command_of : List ℕ → Result Asked LineFault
command_of line = and_next verb_field rest_of (all_of line)

-- What the program holds, in these words.
abbrev pub asked : Command → Asked
asked (Write cell bytes) = writes cell (vec_items bytes)
asked (Read cell) = reads cell
asked (Take cell) = takes cell

abbrev pub line_of : CommandFault → LineFault
line_of (Line f) = f
line_of Memory = record { field = 0 }

abbrev pub told : {A B : Type 0} → (A → B) → Result A CommandFault → Result B LineFault
told f (Ok x) = Ok (f x)
told f (Err e) = Err (line_of e)

-- What holds unless memory ran out.
abbrev pub Barring : {A : Type 0} → Result A CommandFault → Type 0 → Type 0
Barring (Ok x) P = P
Barring (Err (Line f)) P = P
Barring (Err Memory) P = Unit {0}

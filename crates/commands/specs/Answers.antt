-- What a store answers to a command, and what it holds then.
use Rattle.std.specs.Prelude.{ℕ, Bool, cond, List, ◌++◌, codes, Ok, Result}
use Rattle.std.specs.Fmt.{decimal}
use Rattle.hex_digits.specs.Hex.{text_of}
use Rattle.stores.specs.Cells.{Cell, cell_length, content, read_answer, write_answer, after_write}
use Rattle.stores.specs.declared.fault.StoreFault.{StoreFault}
use Rattle.commands.specs.declared.answer.Reply.{Reply}
use Rattle.commands.specs.declared.answer.Reply.TheVariants.{Written, Holds, Blank, Free, Taken}
use Rattle.lines.specs.Fields.{then}
use Rattle.commands.specs.Commands.{Asked, writes, reads, takes}

abbrev pub read_reply : (size : ℕ) (cell : ℕ → Cell) (at : ℕ) → Result Reply StoreFault
read_reply size cell at =
    then (read_answer size cell at cell_length) (λ written. cond written (Ok (Holds at (content (cell at)))) (Ok (Blank at)))

abbrev pub answer_of : (size : ℕ) (cell : ℕ → Cell) (can-take : ℕ → Bool) → Asked → Result Reply StoreFault
answer_of size cell can-take (writes at bytes) = then (write_answer size cell can-take at bytes) (λ _. Ok (Written at))
answer_of size cell can-take (reads at) = read_reply size cell at
answer_of size cell can-take (takes at) = cond (can-take at) (Ok (Free at)) (Ok (Taken at))

abbrev pub after_command : Result Reply StoreFault → (cell : ℕ → Cell) → Asked → ℕ → Cell
after_command r cell (writes at bytes) d = after_write r cell at bytes d
after_command r cell (reads at) d = cell d
after_command r cell (takes at) d = cell d

-- What is printed of a reply: a word and the cell, and the digits of what it holds.
abbrev pub reply_text : Reply → List ℕ
reply_text (Written at) = codes "written " ++ decimal at
reply_text (Holds at bytes) = codes "holds " ++ decimal at ++ codes " " ++ text_of bytes
reply_text (Blank at) = codes "blank " ++ decimal at
reply_text (Free at) = codes "free " ++ decimal at
reply_text (Taken at) = codes "taken " ++ decimal at

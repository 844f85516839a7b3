-- What a keep answers to a command, and what its groups hold then.
use Rattle.std.specs.Prelude.{ℕ, Bool, cond, List, ◌++◌, codes, Ok, Result}
use Rattle.std.specs.Fmt.{decimal}
use Rattle.keeps.specs.declared.fault.KeepFault.{KeepFault}
use Rattle.keeps.specs.Groups.{Group, after_put, after_strike, check_answer, get_answer, put_answer, strike_answer}
use Rattle.lines.specs.Fields.{then}
use Rattle.keepcommands.specs.declared.answer.KeepReply.{KeepReply}
use Rattle.keepcommands.specs.declared.answer.KeepReply.TheVariants.{Put as HasPut, At, Struck, Live, Room as HasRoom, Full}
use Rattle.keepcommands.specs.declared.command.KeepCommand.{KeepCommand}
use Rattle.keepcommands.specs.declared.command.KeepCommand.TheVariants.{Put, Get, Strike, Check, Room}

abbrev pub answer_of : (groups : ℕ) (group : ℕ → Group) (room : ℕ → Bool) → KeepCommand → Result KeepReply KeepFault
answer_of groups group room (Put g cell locator) = then (put_answer groups group room g) (λ slot. Ok (HasPut g slot))
answer_of groups group room (Get g slot cell) = then (get_answer groups group g slot cell) (λ locator. Ok (At locator))
answer_of groups group room (Strike g) = then (strike_answer groups group g) (λ pairs. Ok (Struck g pairs))
answer_of groups group room (Check g) = then (check_answer groups group g) (λ _. Ok (Live g))
answer_of groups group room (Room g) = cond (room g) (Ok (HasRoom g)) (Ok (Full g))

abbrev pub after_command : Result KeepReply KeepFault → (group : ℕ → Group) → KeepCommand → ℕ → Group
after_command r group (Put g cell locator) i = after_put r group g (record { cell = cell; locator = locator }) i
after_command r group (Get g slot cell) i = group i
after_command r group (Strike g) i = after_strike r group g i
after_command r group (Check g) i = group i
after_command r group (Room g) i = group i

-- What is printed of a reply: a word, and its numbers behind it.
abbrev pub reply_text : KeepReply → List ℕ
reply_text (HasPut g slot) = codes "put " ++ decimal g ++ codes " " ++ decimal slot
reply_text (At locator) = codes "at " ++ decimal locator
reply_text (Struck g pairs) = codes "struck " ++ decimal g ++ codes " " ++ decimal pairs
reply_text (Live g) = codes "live " ++ decimal g
reply_text (HasRoom g) = codes "room " ++ decimal g
reply_text (Full g) = codes "none " ++ decimal g

-- What a line asks of a keep.
use Rattle.std.specs.Prelude.{ℕ, cond, List, Some, None, codes, Option, Result}
use Rattle.std.specs.Str.{bytes_eq}
use Rattle.lines.specs.declared.fault.LineFault.{LineFault}
use Rattle.lines.specs.Fields.{Reading, and_end, and_next, bounded_field, field_as, number_field}
use Rattle.lines.specs.Readers.{all_of}
use Rattle.keepcommands.specs.declared.command.KeepCommand.{KeepCommand}
use Rattle.keepcommands.specs.declared.command.KeepCommand.TheVariants.{Put, Get, Strike, Check, Room}
use Rattle.keepcommands.specs.declared.command.Verb.{Verb}
use Rattle.keepcommands.specs.declared.command.Verb.TheVariants.{Put as ToPut, Get as ToGet, Strike as ToStrike, Check as ToCheck, Room as ToRoom}

abbrev pub group_field : Reading ℕ
group_field u = bounded_field 65535 u

-- a cell or a slot
abbrev pub u32_field : Reading ℕ
u32_field u = bounded_field 4294967295 u

abbrev pub put_fields : Reading KeepCommand
put_fields u =
    and_next group_field (λ group. and_next u32_field (λ cell. and_next number_field (λ locator. and_end (Put group cell locator)))) u

abbrev pub get_fields : Reading KeepCommand
get_fields u = and_next group_field (λ group. and_next u32_field (λ slot. and_next u32_field (λ cell. and_end (Get group slot cell)))) u

abbrev pub rest_fields : Verb → Reading KeepCommand
rest_fields ToPut u = put_fields u
rest_fields ToGet u = get_fields u
rest_fields ToStrike u = and_next group_field (λ group. and_end (Strike group)) u
rest_fields ToCheck u = and_next group_field (λ group. and_end (Check group)) u
rest_fields ToRoom u = and_next group_field (λ group. and_end (Room group)) u

abbrev pub verb_of : List ℕ → Option Verb
verb_of t =
    cond (bytes_eq t (codes "put")) (Some ToPut) (cond (bytes_eq t (codes "get")) (Some ToGet) (cond (bytes_eq t (codes "strike")) (Some ToStrike) (cond (bytes_eq t (codes "check")) (Some ToCheck) (cond (bytes_eq t (codes "room")) (Some ToRoom) None))))

abbrev pub verb_field : Reading Verb
verb_field u = field_as verb_of u

abbrev pub command_of : List ℕ → Result KeepCommand LineFault
command_of line = and_next verb_field rest_fields (all_of line)

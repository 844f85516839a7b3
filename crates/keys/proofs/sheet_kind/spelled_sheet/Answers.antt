-- Twelve bytes are read as the number that they spell.
use Rattle.std.proofs.Common.{◌<◌, arith}
use Rattle.std.proofs.ByRecursion.{All-from_get_or}
use Rattle.keys.proofs.Sheets.{read_sheet}
use Rattle.keys.proofs.sheet_kind.spelled_sheet.Goals as goal

pub returns-in-Some : goal.returns-in-Some
returns-in-Some c =
    let bytes = c.args.bytes.now in
    let under = All-from_get_or (λ b. b < 256) bytes 0 (λ i h. omega (arith, c.type_inv.bytes i)) in
    read_sheet bytes c.in-Some.number c.new.result under (omega arith) c.in-Some.ensures c.new.ensures

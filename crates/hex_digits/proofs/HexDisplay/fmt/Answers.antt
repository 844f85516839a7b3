-- Each turn prints the two digits of one byte more.
use Rattle.std.proofs.Common.{[], get_or, take, sym, ap, ◌∙◌, rules}
use Rattle.std.proofs.Output.{has_written_append, has_written_of_eq}
use Rattle.std.proofs.lemmas.List.{flat_map_more, take_more}
use Rattle.hex_digits.specs.Hex.{digits_of, text_of}
use Rattle.hex_digits.proofs.HexDisplay.fmt.Goals as goal

pub loop-byte-preserved : goal.loop-byte-preserved
loop-byte-preserved g c = λ plain.
    let bytes = c.args.self.now.0.now in
    let i = c.loop-byte.byte-index in
    let more = flat_map_more digits_of [] (take i bytes) (get_or bytes i 0) ∙ ap text_of (sym (take_more bytes i 0 c.loop-byte-test.true)) in
    has_written_of_eq _ _ _ _ _ more (has_written_append _ _ _ _ _ _ (c.loop-byte.invariant plain) (search rules))

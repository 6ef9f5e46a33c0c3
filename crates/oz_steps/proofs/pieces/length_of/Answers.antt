use Rattle.std.proofs.Common.{◌≡◌, length, map, sym, ◌∙◌, ap}
use Rattle.std.specs.List.{range_with_len}
use Rattle.std.proofs.lemmas.List.FromFn.{length-map-range_with_len}
use Rattle.oz_command.specs.Payload.{bytes_of, fill_byte}
use Rattle.oz_steps.proofs.pieces.length_of.Goals as goal

pub returns-in-Fill : goal.returns-in-Fill
returns-in-Fill c =
    let is : bytes_of c.args.payload.now ≡ map (fill_byte c.in-Fill.number) (range_with_len 0 c.in-Fill.length) = ap bytes_of c.in-Fill.is in
    c.from.ensures ∙ sym (ap length is ∙ length-map-range_with_len (fill_byte c.in-Fill.number) 0 c.in-Fill.length)

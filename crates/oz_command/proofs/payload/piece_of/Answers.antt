use Rattle.std.proofs.Common.{◌≡◌, ◌≤◌, ◌+◌, length, map, ◌∙◌, ap, arith}
use Rattle.std.specs.List.{range_with_len}
use Rattle.std.proofs.lemmas.List.FromFn.{length-map-range_with_len}
use Rattle.oz_command.specs.Payload.{bytes_of, data_of, fill_byte}
use Rattle.oz_command.proofs.Fills.{part}
use Rattle.oz_command.proofs.payload.piece_of.Goals as goal

pub filled-requires : goal.filled-requires
filled-requires c =
    let is : data_of c.args.command.now ≡ map (fill_byte c.in-Some-Fill.number) (range_with_len 0 c.in-Some-Fill.whole) = c.in-Some-Fill.ensures ∙ ap bytes_of c.in-Some-Fill.field-0-is in
    let within : c.args.first + c.args.length ≤ length (data_of c.args.command.now) = c.requires in
    omega (arith, within, ap length is, length-map-range_with_len (fill_byte c.in-Some-Fill.number) 0 c.in-Some-Fill.whole)

pub returns-in-Some-Fill : goal.returns-in-Some-Fill
returns-in-Some-Fill c =
    let is : data_of c.args.command.now ≡ map (fill_byte c.in-Some-Fill.number) (range_with_len 0 c.in-Some-Fill.whole) = c.in-Some-Fill.ensures ∙ ap bytes_of c.in-Some-Fill.field-0-is in
    let within : c.args.first + c.args.length ≤ length (data_of c.args.command.now) = c.requires in
    let whole : c.args.first + c.args.length ≤ c.in-Some-Fill.whole = omega (arith, within, ap length is, length-map-range_with_len (fill_byte c.in-Some-Fill.number) 0 c.in-Some-Fill.whole) in
    rw (is, part (fill_byte c.in-Some-Fill.number) c.args.first c.args.length c.in-Some-Fill.whole whole) c.filled.ensures

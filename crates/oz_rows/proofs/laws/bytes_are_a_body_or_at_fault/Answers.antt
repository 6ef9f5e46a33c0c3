use Rattle.oz_rows.proofs.EachBody.{each_body, body_without_fault, one_place}
use Rattle.oz_rows.proofs.laws.bytes_are_a_body_or_at_fault.Goals as goal

pub returns : goal.returns
returns c = record { each = each_body; not_both = body_without_fault; one_place = one_place }

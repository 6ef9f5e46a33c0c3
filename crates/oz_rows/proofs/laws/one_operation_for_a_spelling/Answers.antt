use Rattle.oz_rows.specs.Operations.{OperationFits, operation_bytes}
use Rattle.oz_rows.specs.Reading.{operation_at}
use Rattle.oz_rows.specs.laws.OperationReads.{operation_reads}
use Rattle.oz_rows.proofs.Spellings.{told}
use Rattle.oz_rows.proofs.laws.one_operation_for_a_spelling.Goals as goal

pub returns : goal.returns
returns c = λ operation other rest left fits other_fits e. told OperationFits operation_bytes operation_at operation_reads operation other rest left fits other_fits e

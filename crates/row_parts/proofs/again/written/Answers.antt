use Rattle.std.proofs.lemmas.List.Elements.{All-from_recursion}
use Rattle.oz_rows.specs.Operations.{OperationFits}
use Rattle.row_parts.proofs.again.written.Goals as goal

pub put_operation-requires : goal.put_operation-requires
put_operation-requires c =
    rw c.operation-item.is (All-from_recursion OperationFits c.args.items.now c.requires.items c.loop-operation.operation-index _ c.loop-operation-test.true)

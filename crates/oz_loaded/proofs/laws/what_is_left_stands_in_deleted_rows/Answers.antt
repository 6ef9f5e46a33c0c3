use Rattle.std.proofs.Common.{◌↔◌, Contains, List, sym, subst}
use Rattle.oz_fields.specs.declared.block.Block.{Block}
use Rattle.oz_rows.specs.RowMaps.{row_of}
use Rattle.oz_store.specs.Store.{IsInADeletedRow}
use Rattle.oz_loaded.proofs.Left.{left_is}
use Rattle.oz_loaded.proofs.laws.what_is_left_stands_in_deleted_rows.Goals as goal

pub returns : goal.returns
returns c bodies unseated this block =
    subst (λ (left : List Block). Contains left block ↔ IsInADeletedRow (row_of this.all) block) (sym this.left)
    (left_is this.all this.in_order (c.a_batch_makes_a_body.ensures.fit bodies this.all unseated.last_index this.builds) block)

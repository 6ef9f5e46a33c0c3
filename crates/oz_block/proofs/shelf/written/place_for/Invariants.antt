use Rattle.oz_block.proofs.shelf_lemmas.Placing.{BelongsFrom}
use Rattle.oz_block.proofs.shelf.written.place_for.Given as goal

abbrev pub invariant-loop-place : goal.invariant-loop-place
invariant-loop-place l = BelongsFrom l.written l.one l.place

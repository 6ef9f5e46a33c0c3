use Rattle.std.proofs.Common.{◌≡◌, ℕ, List, length}
use Rattle.oz_fields.specs.declared.block.Piece.{Piece}
use Rattle.oz_namespace.specs.Namespace.{ByName}
use Rattle.oz_om_key.specs.Walking.{HaveRows, AreFirst}
use Rattle.oz_om_key.proofs.listing.names_behind.Given as goal

abbrev pub invariant-loop : goal.invariant-loop
invariant-loop g l = record {
  size : length l.names.items ≡ l.counter;
  first : (keys : ByName (List Piece)) (start : List ℕ) → HaveRows (g.M.RowMap.rows l.rows) l.place.volume.now l.place.bucket.now l.place.source keys
      → AreFirst keys l.place.volume.now l.place.bucket.now l.place.source l.prefix start l.from l.fn.first.items
      → AreFirst keys l.place.volume.now l.place.bucket.now l.place.source l.prefix start l.last l.names.items;
}

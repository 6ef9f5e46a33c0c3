use Rattle.std.proofs.Common.{◌≡◌, ◌+◌, ◌++◌, List, ◌∷◌, drop, slice_index_or, subst}
use Rattle.std.specs.List.{AllByRecursion}
use Rattle.oz_fields.specs.declared.block.Piece.{Piece}
use Rattle.oz_model.specs.Reach.{blocks_of}
use Rattle.oz_om_key.specs.om_change.Noting.{noted}
use Rattle.oz_om_key.specs.om_change.Numbers.{MayBeNoted}
use Rattle.oz_om_key.proofs.om_change_lemmas.Batches.{bytes_of}
use Rattle.oz_om_key.proofs.om_change_lemmas.Noted.{bytes_on, changes_on, pieces_at}
use Rattle.oz_om_key.proofs.om_change.noting.note_pieces.Goals as goal

pub note_block-requires : goal.note_block-requires
note_block-requires g c =
    let of = c.args.of.now in
    let pieces = c.args.pieces.now in
    let at : drop c.loop-piece.piece-index pieces ≡ slice_index_or pieces c.loop-piece.piece-index (record { block = record { container = 0; local = 0 }; length = 0 }) ∷ drop (c.loop-piece.piece-index + 1) pieces =
    pieces_at pieces c.loop-piece.piece-index (record { block = record { container = 0; local = 0 }; length = 0 }) c.loop-piece-test.true in
    (subst (λ (l : List Piece). AllByRecursion (MayBeNoted of.volume.now of.bucket.now of.key.now) (blocks_of l)) at c.loop-piece.invariant.fits).0

pub loop-piece-preserved : goal.loop-piece-preserved
loop-piece-preserved g c =
    let all = g.M.RowMap.rows c.args.rows.now in
    let v = c.args.of.now.volume.now in
    let b = c.args.of.now.bucket.now in
    let k = c.args.of.now.key.now in
    let numbers = c.args.numbers.now in
    let pieces = c.args.pieces.now in
    let piece : Piece = slice_index_or pieces c.loop-piece.piece-index (record { block = record { container = 0; local = 0 }; length = 0 }) in
    let rest = drop (c.loop-piece.piece-index + 1) pieces in
    let at : drop c.loop-piece.piece-index pieces ≡ piece ∷ rest = pieces_at pieces c.loop-piece.piece-index (record { block = record { container = 0; local = 0 }; length = 0 }) c.loop-piece-test.true in
    let so_far = c.loop-piece.invariant in
    record {
      fits = (subst (λ (l : List Piece). AllByRecursion (MayBeNoted v b k) (blocks_of l)) at so_far.fits).1;
      bytes = bytes_on all v b k numbers c.loop-piece.draft.bytes c.in_ok-draft.draft.bytes (c.args.before.bytes ++ bytes_of (noted all v b k numbers (blocks_of pieces))) piece.block (blocks_of rest) c.in_ok-draft.ensures.bytes
          (subst (λ (l : List Piece). c.loop-piece.draft.bytes ++ bytes_of (noted all v b k numbers (blocks_of l)) ≡ c.args.before.bytes ++ bytes_of (noted all v b k numbers (blocks_of pieces))) at so_far.bytes);
      changes = changes_on all v b k numbers c.loop-piece.draft.changes c.in_ok-draft.draft.changes (c.args.before.changes ++ noted all v b k numbers (blocks_of pieces)) piece.block (blocks_of rest) c.in_ok-draft.ensures.changes
          (subst (λ (l : List Piece). c.loop-piece.draft.changes ++ noted all v b k numbers (blocks_of l) ≡ c.args.before.changes ++ noted all v b k numbers (blocks_of pieces)) at so_far.changes);
    }

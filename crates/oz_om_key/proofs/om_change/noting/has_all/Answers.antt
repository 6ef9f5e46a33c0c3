use Rattle.std.proofs.Common.{◌≡◌, ℕ, ◌&&◌, Bool, true, List, take, get_or, sym, ap, ◌∙◌, subst}
use Rattle.std.proofs.lemmas.List.{take_all}
use Rattle.std.specs.List.{AllByRecursion}
use Rattle.oz_decision.specs.Walking.{is_live}
use Rattle.oz_decision.specs.laws.SessionRows.{all_append}
use Rattle.oz_fields.specs.declared.block.Block.{Block}
use Rattle.oz_fields.specs.declared.block.Piece.{Piece}
use Rattle.oz_model.specs.Reach.{blocks_of}
use Rattle.oz_om_key.specs.om_change.Passing.{IsLiveIn}
use Rattle.oz_om_key.proofs.om_change_lemmas.Passing.{blocks_more, both_so}
use Rattle.oz_reclaim.specs.Held.{has_there}
use Rattle.oz_rows.specs.declared.key.RowKey.TheVariants as keys
use Rattle.oz_om_key.proofs.om_change.noting.has_all.Goals as goal

pub loop-piece-preserved : goal.loop-piece-preserved
loop-piece-preserved g c =
    let all = g.M.RowMap.rows c.args.rows.now in
    let v = c.args.of.now.volume.now in
    let b = c.args.of.now.bucket.now in
    let k = c.args.of.now.key.now in
    let pieces = c.args.pieces.now in
    let i = c.loop-piece.piece-index in
    let none : Piece = record { block = record { container = 0; local = 0 }; length = 0 } in
    let piece : Piece = get_or pieces i none in
    let live : is_live (all (keys.Snapshot v b c.args.number)) ≡ true = ap (λ key. is_live (all key)) (sym c.in_ok-of_snapshot.ensures) ∙ sym c.is_live.ensures ∙ c.if-not-is_live.false in
    let there : has_there piece.block (all (keys.SnapshotKey v b c.args.number k)) ≡ true = ap (λ key. has_there piece.block (all key)) (sym c.in_ok-of_key.ensures) ∙ sym c.is_there.ensures ∙ c.if-not-is_there.false in
    subst (AllByRecursion (IsLiveIn all v b k c.args.number)) (sym (blocks_more pieces i none c.loop-piece-test.true))
    (all_append (IsLiveIn all v b k c.args.number) (blocks_of (take i pieces)) _ c.loop-piece.invariant (both_so _ _ live there, tt))

pub returns : goal.returns
returns g c =
    let all = g.M.RowMap.rows c.args.rows.now in
    let v = c.args.of.now.volume.now in
    let b = c.args.of.now.bucket.now in
    let k = c.args.of.now.key.now in
    subst (λ (l : List Piece). AllByRecursion (IsLiveIn all v b k c.args.number) (blocks_of l)) (take_all c.loop-piece.piece-index c.args.pieces.now c.loop-piece-test.false) c.loop-piece.invariant

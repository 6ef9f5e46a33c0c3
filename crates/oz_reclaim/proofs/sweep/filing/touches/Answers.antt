use Rattle.std.proofs.Common.{◌≡◌, true, rules}
use Rattle.oz_reclaim.specs.sweep.Notes.{is_snapshot_of}
use Rattle.oz_reclaim.proofs.sweep_lemmas.Notes.{touched_by}
use Rattle.oz_reclaim.proofs.sweep.filing.touches.Goals as goal

pub returns-then-is_snapshot_of : goal.returns-then-is_snapshot_of
returns-then-is_snapshot_of c = λ yes.
    let of : is_snapshot_of c.args.volume.now c.args.bucket.now c.note-item.result.key ≡ true = search rules in
    touched_by c.args.upto c.args.notes.now c.loop-note.note-index c.note-item.result c.args.volume.now c.args.bucket.now c.loop-note-test.true c.note-item.is c.if-note-upto.true of

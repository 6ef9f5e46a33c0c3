use Rattle.std.proofs.Common.{◌≡◌, ◌++◌, ◌∷◌, [], ℕ, true, IsTrue, List, Vec, Global, take, sym, ap, subst, rules}
use Rattle.std.specs.BTreeSet.{BTreeSet}
use Rattle.oz_fields.specs.declared.block.Block.{Block}
use Rattle.oz_reclaim.specs.declared.sweep.notes.Note.{Note}
use Rattle.oz_reclaim.specs.sweep.Filing.{Files, IsTouched, touches_bucket}
use Rattle.oz_reclaim.specs.sweep.Kept.{AreRight}
use Rattle.oz_reclaim.specs.sweep.Notes.{up_to}
use Rattle.oz_reclaim.proofs.sweep_lemmas.Filed.{files_seen, files_touched}
use Rattle.oz_reclaim.proofs.sweep_lemmas.Notes.{one_more, passed_over}
use Rattle.oz_rows.specs.declared.key.RowKey.{RowKey}
use Rattle.oz_rows.specs.declared.operation.Change.{Change}
use Rattle.oz_rows.specs.RowMaps.{row_of}
use Rattle.oz_sorted.specs.Sorted.{SortedEntries}
use Rattle.oz_reclaim.proofs.sweep.filing.file_touched.Goals as goal
use Rattle.oz_reclaim.proofs.sweep.filing.file_touched.Goals.{then-note-upto+then-not-is_touched+in_ok-file_home, else-note-upto, else-note-upto-via-then-note-upto+else-not-is_touched, else-note-upto-via-else-note-upto}

pub loop-i-preserved : goal.loop-i-preserved
loop-i-preserved c =
    let all = row_of c.args.durable.now.rows in
    let upto : ℕ = c.args.upto in
    let notes : List Note = c.args.notes.now in
    let i : ℕ = c.loop-i.i in
    let note : Note = c.index-notes-i.result in
    let before : List Change = c.args.changes.now.items in
    let now : List Change = c.if-note-upto.changes.items in
    let entries = λ (sets : SortedEntries RowKey (BTreeSet Block)). sets.entries in
    let items = λ (changes : Vec Change Global). changes.items in
    let Now : List Note → Type 0 = λ (l : List Note). Files all (IsTouched all l) before now in
    elim c.if-note-upto.branch [
      | then-note-upto+then-not-is_touched+in_ok-file_home w ↦ record {
        still = λ right. subst (AreRight all) (sym (ap entries w.sets-is)) (w.in_ok-file_home.ensures.still (c.loop-i.invariant.still right));
        files = λ right. subst Now (sym (one_more upto notes i note c.loop-i-test.true c.index-notes-i.is w.if-note-upto.true))
            (subst (λ (changes : List Change). Files all (IsTouched all (up_to upto (take i notes) ++ note ∷ [])) before changes) (sym (ap items w.changes-is))
            (files_touched all (up_to upto (take i notes)) note before c.loop-i.changes.items w.file_home.new.changes.items (c.loop-i.invariant.files right) (w.in_ok-file_home.ensures.files (c.loop-i.invariant.still right))));
      }
      | else-note-upto w ↦ record {
        still = λ right. subst (AreRight all) (sym (ap entries w.sets-is)) (c.loop-i.invariant.still right);
        files = λ right. elim w.else-note-upto.branch [
          | else-note-upto-via-then-note-upto+else-not-is_touched x ↦
              (let yes : IsTrue x.is_touched.result = search rules in
              let seen : touches_bucket (up_to upto (take i notes)) note.key ≡ true = x.is_touched.ensures yes in
              subst Now (sym (one_more upto notes i note c.loop-i-test.true c.index-notes-i.is x.if-note-upto.true))
              (subst (λ (changes : List Change). Files all (IsTouched all (up_to upto (take i notes) ++ note ∷ [])) before changes) (sym (ap items w.changes-is))
              (files_seen all (up_to upto (take i notes)) note before c.loop-i.changes.items (c.loop-i.invariant.files right) seen)))
          | else-note-upto-via-else-note-upto x ↦
              subst Now (sym (passed_over upto notes i note c.loop-i-test.true c.index-notes-i.is x.if-note-upto.false))
              (subst (λ (changes : List Change). Files all (IsTouched all (up_to upto (take i notes))) before changes) (sym (ap items w.changes-is)) (c.loop-i.invariant.files right))
        ];
      }
    ]

use Rattle.std.proofs.Common.{◌≡◌, ◌++◌, ◌∷◌, [], ℕ, true, List, Vec, Global, take, sym, ap, subst}
use Rattle.std.proofs.lemmas.List.{take_all}
use Rattle.std.specs.BTreeSet.{BTreeSet}
use Rattle.oz_fields.specs.declared.block.Block.{Block}
use Rattle.oz_reclaim.specs.declared.sweep.notes.Note.{Note}
use Rattle.oz_reclaim.specs.sweep.Filing.{Files}
use Rattle.oz_reclaim.specs.sweep.Kept.{AreRight}
use Rattle.oz_reclaim.specs.sweep.Notes.{names, up_to}
use Rattle.oz_reclaim.proofs.sweep_lemmas.Filed.{files_named}
use Rattle.oz_reclaim.proofs.sweep_lemmas.Notes.{one_more, passed_over}
use Rattle.oz_rows.specs.declared.key.RowKey.{RowKey}
use Rattle.oz_rows.specs.declared.operation.Change.{Change}
use Rattle.oz_rows.specs.RowMaps.{row_of}
use Rattle.oz_sorted.specs.Sorted.{SortedEntries}
use Rattle.oz_reclaim.proofs.sweep.filing.file_named.Goals as goal
use Rattle.oz_reclaim.proofs.sweep.filing.file_named.Goals.{then-note-upto+in_ok-file_key, else-note-upto}

pub loop-note-preserved : goal.loop-note-preserved
loop-note-preserved c =
    let all = row_of c.args.durable.now.rows in
    let upto : ℕ = c.args.upto in
    let notes : List Note = c.args.notes.now in
    let i : ℕ = c.loop-note.note-index in
    let note : Note = c.note-item.result in
    let before : List Change = c.args.changes.now.items in
    let now : List Change = c.if-note-upto.changes.items in
    let entries = λ (sets : SortedEntries RowKey (BTreeSet Block)). sets.entries in
    let items = λ (changes : Vec Change Global). changes.items in
    elim c.if-note-upto.branch [
      | then-note-upto+in_ok-file_key w ↦ record {
        still = λ right. subst (AreRight all) (sym (ap entries w.sets-is)) (w.in_ok-file_key.ensures.still (c.loop-note.invariant.still right));
        files = λ right. subst (λ (l : List Note). Files all (λ (key : RowKey). names l key ≡ true) before now) (sym (one_more upto notes i note c.loop-note-test.true c.note-item.is w.if-note-upto.true))
            (subst (λ (changes : List Change). Files all (λ (key : RowKey). names (up_to upto (take i notes) ++ note ∷ []) key ≡ true) before changes) (sym (ap items w.changes-is))
            (files_named all (up_to upto (take i notes)) note before c.loop-note.changes.items w.file_key.new.changes.items (c.loop-note.invariant.files right) (w.in_ok-file_key.ensures.files (c.loop-note.invariant.still right))));
      }
      | else-note-upto w ↦ record {
        still = λ right. subst (AreRight all) (sym (ap entries w.sets-is)) (c.loop-note.invariant.still right);
        files = λ right. subst (λ (l : List Note). Files all (λ (key : RowKey). names l key ≡ true) before now) (sym (passed_over upto notes i note c.loop-note-test.true c.note-item.is w.if-note-upto.false))
            (subst (λ (changes : List Change). Files all (λ (key : RowKey). names (up_to upto (take i notes)) key ≡ true) before changes) (sym (ap items w.changes-is)) (c.loop-note.invariant.files right));
      }
    ]

pub returns-clause-files : goal.returns-clause-files
returns-clause-files c = λ right.
    let all = row_of c.args.durable.now.rows in
    subst (λ (l : List Note). Files all (λ (key : RowKey). names (up_to c.args.upto l) key ≡ true) c.args.changes.now.items c.loop-note.changes.items)
    (take_all c.loop-note.note-index c.args.notes.now c.loop-note-test.false) (c.loop-note.invariant.files right)

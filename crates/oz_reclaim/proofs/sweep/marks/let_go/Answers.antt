use Rattle.std.proofs.Common.{ℕ, List, Vec, Global, take, sym, ap, subst}
use Rattle.oz_reclaim.specs.declared.sweep.marks.LetGo.{LetGo}
use Rattle.oz_reclaim.specs.declared.sweep.notes.Note.{Note}
use Rattle.oz_reclaim.specs.sweep.Filing.{AddsLetGo, AreLetGo}
use Rattle.oz_reclaim.specs.sweep.Notes.{up_to}
use Rattle.oz_reclaim.proofs.sweep_lemmas.Dates.{let_go_more}
use Rattle.oz_reclaim.proofs.sweep_lemmas.Notes.{one_more, passed_over}
use Rattle.oz_rows.specs.RowMaps.{row_of}
use Rattle.oz_reclaim.proofs.sweep.marks.let_go.Goals as goal
use Rattle.oz_reclaim.proofs.sweep.marks.let_go.Goals.{then-note-upto+in_ok-add_let_go, else-note-upto}

pub loop-note-preserved : goal.loop-note-preserved
loop-note-preserved c =
    let all = row_of c.args.durable.now.rows in
    let upto : ℕ = c.args.upto in
    let notes : List Note = c.args.notes.now in
    let i : ℕ = c.loop-note.note-index in
    let note : Note = c.note-item.result in
    let now : List LetGo = c.if-note-upto.entries.items in
    let items = λ (entries : Vec LetGo Global). entries.items in
    elim c.if-note-upto.branch [
      | then-note-upto+in_ok-add_let_go w ↦
          subst (λ (l : List Note). AreLetGo all l now) (sym (one_more upto notes i note c.loop-note-test.true c.note-item.is w.if-note-upto.true))
          (let_go_more all (up_to upto (take i notes)) note c.loop-note.entries.items now c.loop-note.invariant
          (subst (AddsLetGo all note c.loop-note.entries.items) (sym (ap items w.entries-is)) w.in_ok-add_let_go.ensures))
      | else-note-upto w ↦
          subst (λ (l : List Note). AreLetGo all l now) (sym (passed_over upto notes i note c.loop-note-test.true c.note-item.is w.if-note-upto.false))
          (subst (AreLetGo all (up_to upto (take i notes))) (sym (ap items w.entries-is)) c.loop-note.invariant)
    ]

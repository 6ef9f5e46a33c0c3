use Rattle.std.proofs.Common.{ℕ, List, Option, take, sym, ◌∙◌, ap}
use Rattle.std.specs.Ordering.{nat_cmp}
use Rattle.oz_reclaim.specs.declared.sweep.births.Birth.{Birth}
use Rattle.oz_reclaim.specs.declared.sweep.notes.Note.{Note}
use Rattle.oz_reclaim.specs.sweep.Dates.{Dates, births, born_after}
use Rattle.oz_reclaim.specs.sweep.Notes.{up_to}
use Rattle.oz_reclaim.proofs.sweep_lemmas.Dates.{births_more}
use Rattle.oz_reclaim.proofs.sweep_lemmas.Notes.{one_more, passed_over}
use Rattle.oz_sorted.specs.Sorted.{SortedEntries, value_of}
use Rattle.oz_reclaim.proofs.sweep.births.births.Goals as goal
use Rattle.oz_reclaim.proofs.sweep.births.births.Goals.{then-note-upto+in_ok-add_birth, else-note-upto}

pub loop-note-preserved : goal.loop-note-preserved
loop-note-preserved c = λ local.
    let upto : ℕ = c.args.upto in
    let notes : List Note = c.args.notes.now in
    let i : ℕ = c.loop-note.note-index in
    let note : Note = c.note-item.result in
    let dates : Dates = c.args.dates.now.entries in
    let at = λ (found : SortedEntries ℕ Birth). value_of nat_cmp found.entries local in
    elim c.if-note-upto.branch [
      | then-note-upto+in_ok-add_birth w ↦
          ap at w.births-is
          ∙ w.in_ok-add_birth.ensures local
          ∙ ap (λ (o : Option Birth). born_after dates local o note) (c.loop-note.invariant local)
          ∙ sym (births_more dates local (up_to upto (take i notes)) note)
          ∙ ap (λ (l : List Note). births dates l local) (sym (one_more upto notes i note c.loop-note-test.true c.note-item.is w.if-note-upto.true))
      | else-note-upto w ↦
          ap at w.births-is
          ∙ c.loop-note.invariant local
          ∙ ap (λ (l : List Note). births dates l local) (sym (passed_over upto notes i note c.loop-note-test.true c.note-item.is w.if-note-upto.false))
    ]

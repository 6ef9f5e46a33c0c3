use Rattle.std.proofs.Common.{ℕ, ◌+◌, List, [], ◌∷◌, ◌++◌, length, take, sym, ◌∙◌, ap, subst}
use Rattle.std.proofs.lemmas.List.{length_push, take_more}
use Rattle.oz_reclaim.specs.declared.sweep.dating.DateChange.{DateChange}
use Rattle.oz_reclaim.specs.declared.sweep.marks.LetGo.{LetGo}
use Rattle.oz_reclaim.specs.declared.sweep.notes.Note.{Note}
use Rattle.oz_reclaim.specs.sweep.Dates.{Dates}
use Rattle.oz_reclaim.specs.sweep.Filing.{AreDates, AreLetGo}
use Rattle.oz_reclaim.specs.sweep.Notes.{up_to}
use Rattle.oz_reclaim.proofs.sweep_lemmas.Dates.{dates_more}
use Rattle.oz_rows.specs.declared.operation.Change.{Change}
use Rattle.oz_rows.specs.RowMaps.{row_of}
use Rattle.oz_reclaim.proofs.sweep.dating.date_changes.Goals as goal

pub loop-change-preserved : goal.loop-change-preserved
loop-change-preserved c =
    let all = row_of c.args.durable.now.rows in
    let notes : List Note = up_to c.args.upto c.args.notes.now in
    let dates : Dates = c.args.dates.now.entries in
    let i : ℕ = c.loop-change.change-index in
    let change : Change = c.change-item.result in
    let other : DateChange = record { key = c.in_ok-key.key; date = c.new_date-date.result } in
    let gone = subst (λ (l : List LetGo). AreLetGo all notes l) (sym c.as_slice.ensures.value) c.in_ok-gone.ensures in
    record {
      dates = subst (λ (l : List Change). AreDates all notes dates l c.push.new.self.items) (sym (take_more c.args.changes.now i change c.loop-change-test.true ∙ ap (λ (x : Change). take i c.args.changes.now ++ x ∷ []) (sym c.change-item.is)))
          (subst (AreDates all notes dates (take i c.args.changes.now ++ change ∷ [])) (sym c.in_ok-push.ensures.items)
          (dates_more all notes dates (take i c.args.changes.now) c.loop-change.others.items change other c.loop-change.invariant.dates
          (record { same = c.in_ok-key.ensures; both = c.new_date-date.ensures.both; date = c.new_date-date.ensures.date all notes gone c.in_ok-born.ensures })));
      len = ap length c.in_ok-push.ensures.items ∙ length_push c.loop-change.others.items other ∙ ap (λ (n : ℕ). n + 1) c.loop-change.invariant.len;
    }

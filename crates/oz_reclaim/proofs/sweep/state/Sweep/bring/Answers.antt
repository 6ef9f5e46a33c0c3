use Rattle.std.proofs.Common.{◌≡◌, ℕ, List, flat_map, Option, None, Some, is_some, cond, false, refl, sym, ◌∙◌, ap, subst, arith}
use Rattle.oz_reclaim.specs.declared.sweep.dating.DateChange.{DateChange}
use Rattle.oz_fields.specs.declared.block.Block.{Block}
use Rattle.oz_reclaim.specs.declared.sweep.homes.Home.{Home}
use Rattle.oz_reclaim.specs.declared.sweep.notes.Note.{Note}
use Rattle.oz_reclaim.specs.sweep.Dates.{Dates, IsDate, date_in}
use Rattle.oz_reclaim.specs.sweep.Filing.{AreDates, AreFilings, Forgets, dates_after}
use Rattle.oz_reclaim.specs.sweep.Homes.{AreHomes, Enters, Keys, home_of, homes_in, is_left}
use Rattle.oz_reclaim.specs.sweep.Notes.{up_to}
use Rattle.oz_reclaim.specs.sweep.Swept.{IsSweptTo}
use Rattle.oz_reclaim.specs.sweep.View.{SweepView}
use Rattle.oz_reclaim.proofs.sweep_lemmas.Dates.{both_after, dated_now}
use Rattle.oz_reclaim.proofs.sweep_lemmas.Homes.{homes_now}
use Rattle.oz_reclaim.proofs.sweep_lemmas.Sets.{rest_is_right}
use Rattle.oz_reclaim.proofs.sweep_lemmas.Swept.{other_sets, same_dead, swept_now, swept_to}
use Rattle.oz_rows.specs.declared.entry.RowEntry.{RowEntry}
use Rattle.oz_rows.specs.declared.operation.Change.{Change}
use Rattle.oz_rows.specs.RowMaps.{row_after, row_of}
use Rattle.oz_reclaim.proofs.sweep.state.Sweep.bring.Goals as goal

pub returns-in_err-changes-clause-still : goal.returns-in_err-changes-clause-still
returns-in_err-changes-clause-still c = λ swept.
    let all = row_of c.args.durable.now.rows in
    let old : SweepView = record { noted = c.self.inside.noted.items; ready = c.self.inside.ready.items; dead = c.self.inside.dead.rows; dates = c.self.inside.dates.entries; sets = c.self.inside.sets.entries; is_new = c.self.inside.is_new } in
    let notes : List Note = up_to c.args.upto c.self.inside.noted.items in
    let here = subst (λ (s : SweepView). IsSweptTo s c.args.upto all) (sym c.self.view_is) swept in
    let forgets = subst (λ (l : List Note). Forgets (up_to c.args.upto l) c.self.inside.sets.entries c.forget_touched.new.sets.entries) c.deref.ensures.value c.in_ok-forget_touched.ensures.forgets in
    let right = c.in_err-changes.ensures.still (rest_is_right notes all c.self.inside.sets.entries c.forget_touched.new.sets.entries here.sets forgets) in
    other_sets all notes old c.filings.new.sets.entries here (λ v b untouched. right v b)

pub returns-in_err-dates-clause-still : goal.returns-in_err-dates-clause-still
returns-in_err-dates-clause-still c = λ swept.
    let all = row_of c.args.durable.now.rows in
    let old : SweepView = record { noted = c.self.inside.noted.items; ready = c.self.inside.ready.items; dead = c.self.inside.dead.rows; dates = c.self.inside.dates.entries; sets = c.self.inside.sets.entries; is_new = c.self.inside.is_new } in
    let notes : List Note = up_to c.args.upto c.self.inside.noted.items in
    let here = subst (λ (s : SweepView). IsSweptTo s c.args.upto all) (sym c.self.view_is) swept in
    let forgets = subst (λ (l : List Note). Forgets (up_to c.args.upto l) c.self.inside.sets.entries c.forget_touched.new.sets.entries) c.deref.ensures.value c.in_ok-forget_touched.ensures.forgets in
    let right = c.in_ok-changes.ensures.still (rest_is_right notes all c.self.inside.sets.entries c.forget_touched.new.sets.entries here.sets forgets) in
    other_sets all notes old c.filings.new.sets.entries here (λ v b untouched. right v b)

pub returns-in_err-homes-clause-still : goal.returns-in_err-homes-clause-still
returns-in_err-homes-clause-still c = λ swept.
    let all = row_of c.args.durable.now.rows in
    let old : SweepView = record { noted = c.self.inside.noted.items; ready = c.self.inside.ready.items; dead = c.self.inside.dead.rows; dates = c.self.inside.dates.entries; sets = c.self.inside.sets.entries; is_new = c.self.inside.is_new } in
    let notes : List Note = up_to c.args.upto c.self.inside.noted.items in
    let here = subst (λ (s : SweepView). IsSweptTo s c.args.upto all) (sym c.self.view_is) swept in
    let forgets = subst (λ (l : List Note). Forgets (up_to c.args.upto l) c.self.inside.sets.entries c.forget_touched.new.sets.entries) c.deref.ensures.value c.in_ok-forget_touched.ensures.forgets in
    let right = c.in_ok-changes.ensures.still (rest_is_right notes all c.self.inside.sets.entries c.forget_touched.new.sets.entries here.sets forgets) in
    other_sets all notes old c.filings.new.sets.entries here (λ v b untouched. right v b)

pub returns-in_err-reserve-clause-still : goal.returns-in_err-reserve-clause-still
returns-in_err-reserve-clause-still c = λ swept.
    let all = row_of c.args.durable.now.rows in
    let old : SweepView = record { noted = c.self.inside.noted.items; ready = c.self.inside.ready.items; dead = c.self.inside.dead.rows; dates = c.self.inside.dates.entries; sets = c.self.inside.sets.entries; is_new = c.self.inside.is_new } in
    let notes : List Note = up_to c.args.upto c.self.inside.noted.items in
    let here = subst (λ (s : SweepView). IsSweptTo s c.args.upto all) (sym c.self.view_is) swept in
    let forgets = subst (λ (l : List Note). Forgets (up_to c.args.upto l) c.self.inside.sets.entries c.forget_touched.new.sets.entries) c.deref.ensures.value c.in_ok-forget_touched.ensures.forgets in
    let right = c.in_ok-changes.ensures.still (rest_is_right notes all c.self.inside.sets.entries c.forget_touched.new.sets.entries here.sets forgets) in
    let between : SweepView = record old { sets = c.filings.new.sets.entries } in
    same_dead all notes notes between (record between { dead = c.reserve.new.self.rows }) (other_sets all notes old c.filings.new.sets.entries here (λ v b untouched. right v b)) refl c.in_err-reserve.ensures.rows refl refl

pub returns-in_err-reserve-2-clause-still : goal.returns-in_err-reserve-2-clause-still
returns-in_err-reserve-2-clause-still c = λ swept.
    let all = row_of c.args.durable.now.rows in
    let old : SweepView = record { noted = c.self.inside.noted.items; ready = c.self.inside.ready.items; dead = c.self.inside.dead.rows; dates = c.self.inside.dates.entries; sets = c.self.inside.sets.entries; is_new = c.self.inside.is_new } in
    let notes : List Note = up_to c.args.upto c.self.inside.noted.items in
    let here = subst (λ (s : SweepView). IsSweptTo s c.args.upto all) (sym c.self.view_is) swept in
    let forgets = subst (λ (l : List Note). Forgets (up_to c.args.upto l) c.self.inside.sets.entries c.forget_touched.new.sets.entries) c.deref.ensures.value c.in_ok-forget_touched.ensures.forgets in
    let right = c.in_ok-changes.ensures.still (rest_is_right notes all c.self.inside.sets.entries c.forget_touched.new.sets.entries here.sets forgets) in
    let between : SweepView = record old { sets = c.filings.new.sets.entries } in
    same_dead all notes notes between (record between { dead = c.reserve.new.self.rows; dates = c.reserve-2.new.self.entries }) (other_sets all notes old c.filings.new.sets.entries here (λ v b untouched. right v b)) refl c.in_ok-reserve.ensures.rows refl refl

pub invariant_of-self-2 : goal.invariant_of-self-2
invariant_of-self-2 c = record {
  room = omega (arith, c.self.invariant.room, c.keep_later.ensures.fewer, c.keep_later.ensures.capacity);
  dated = λ key.
      let all = row_of c.args.durable.now.rows in
      let notes : List Note = up_to c.args.upto c.deref-3.result.now in
      let old : Dates = c.self.inside.dates.entries in
      let others : List DateChange = c.in_ok-dates.dates.items in
      let changes : List Change = c.in_ok-changes.changes.items in
      let are = subst (λ (l : List Change). AreDates all notes old l others) c.as_slice.ensures.value c.in_ok-dates.ensures.dates in
      ap is_some (c.enter_dates.ensures key ∙ ap (λ (l : Dates). dates_after others key (date_in l key)) c.in_ok-reserve-2.ensures.entries)
      ∙ both_after all notes old changes others key (date_in old key) (row_of c.self.inside.dead.rows key) are (c.self.invariant.dated key)
      ∙ sym (ap is_some (c.enter_all.ensures.rows key ∙ ap (λ (l : List RowEntry). row_after changes key (row_of l key)) c.in_ok-reserve.ensures.rows));
  homes = λ own.
      let changes : List Change = c.in_ok-changes.changes.items in
      let dead : List RowEntry = c.reserve.new.self.rows in
      let old : Keys = c.homes_to_come.new.homes.keys.entries in
      let left : Keys = c.leave_homes.new.homes.keys.entries in
      let now : Keys = c.enter_homes.new.homes.keys.entries in
      let entered = c.enter_homes.ensures own in
      let before = c.self.invariant.homes (sym c.in_ok-homes.ensures.shared ∙ (sym c.leave_homes.ensures.shared ∙ entered.0)) in
      let are = subst (AreHomes dead) (sym c.in_ok-homes.ensures.keys) (subst (λ (l : List RowEntry). AreHomes l c.self.inside.homes.keys.entries) (sym c.in_ok-reserve.ensures.rows) before) in
      let leaves = subst (λ (l : List Change). (block : Block) → home_of left block ≡ cond (is_left dead l block) None (home_of old block)) c.as_slice-3.ensures.value c.leave_homes.ensures.keys in
      let enters = subst (λ (l : List Home). Enters l left now) (c.in_ok-homes.ensures.others ∙ ap (flat_map homes_in) c.as_slice-2.ensures.value) entered.1 in
      homes_now dead old left now changes are leaves enters c.enter_all.new.self.rows c.enter_all.ensures.rows;
}

pub returns-clause-swept : goal.returns-clause-swept
returns-clause-swept c = λ swept.
    let all = row_of c.args.durable.now.rows in
    let old : SweepView = record { noted = c.self.inside.noted.items; ready = c.self.inside.ready.items; dead = c.self.inside.dead.rows; dates = c.self.inside.dates.entries; sets = c.self.inside.sets.entries; is_new = c.self.inside.is_new } in
    let now : SweepView = record { noted = c.keep_later.new.notes.items; ready = c.self.inside.ready.items; dead = c.enter_all.new.self.rows; dates = c.enter_dates.new.dates.entries; sets = c.filings.new.sets.entries; is_new = false } in
    let notes : List Note = up_to c.args.upto c.self.inside.noted.items in
    let here = subst (λ (s : SweepView). IsSweptTo s c.args.upto all) (sym c.self.view_is) swept in
    let forgets = subst (λ (l : List Note). Forgets (up_to c.args.upto l) c.self.inside.sets.entries c.forget_touched.new.sets.entries) c.deref.ensures.value c.in_ok-forget_touched.ensures.forgets in
    let right = rest_is_right notes all c.self.inside.sets.entries c.forget_touched.new.sets.entries here.sets forgets in
    let changes = c.in_ok-changes.changes.items in
    let are = subst (λ (l : List Note). AreFilings all (up_to c.args.upto l) c.self.inside.is_new changes) c.deref-2.ensures.value (c.in_ok-changes.ensures.filed right) in
    swept_now all notes old here changes are now
    (λ key. c.enter_all.ensures.rows key ∙ ap (λ (l : List RowEntry). row_after changes key (row_of l key)) c.in_ok-reserve.ensures.rows)

pub returns-clause-dated : goal.returns-clause-dated
returns-clause-dated c = λ swept key row there.
    let all = row_of c.args.durable.now.rows in
    let old : SweepView = record { noted = c.self.inside.noted.items; ready = c.self.inside.ready.items; dead = c.self.inside.dead.rows; dates = c.self.inside.dates.entries; sets = c.self.inside.sets.entries; is_new = c.self.inside.is_new } in
    let notes : List Note = up_to c.args.upto c.self.inside.noted.items in
    let here = subst (λ (s : SweepView). IsSweptTo s c.args.upto all) (sym c.self.view_is) swept in
    let forgets = subst (λ (l : List Note). Forgets (up_to c.args.upto l) c.self.inside.sets.entries c.forget_touched.new.sets.entries) c.deref.ensures.value c.in_ok-forget_touched.ensures.forgets in
    let right = rest_is_right notes all c.self.inside.sets.entries c.forget_touched.new.sets.entries here.sets forgets in
    let changes : List Change = c.in_ok-changes.changes.items in
    let others : List DateChange = c.in_ok-dates.dates.items in
    let filed = (c.in_ok-changes.ensures.filed right).filed in
    let are = subst (λ (l : List Note). AreDates all (up_to c.args.upto l) old.dates changes others) c.deref-3.ensures.value (subst (λ (l : List Change). AreDates all (up_to c.args.upto c.deref-3.result.now) old.dates l others) c.as_slice.ensures.value c.in_ok-dates.ensures.dates) in
    let found = dated_now all notes old.dates changes others are filed key (row_of old.dead key) (row_of c.enter_all.new.self.rows key) row (date_in c.enter_dates.new.dates.entries key) (c.self.invariant.dated key)
    (c.enter_all.ensures.rows key ∙ ap (λ (l : List RowEntry). row_after changes key (row_of l key)) c.in_ok-reserve.ensures.rows)
    (c.enter_dates.ensures key ∙ ap (λ (l : Dates). dates_after others key (date_in l key)) c.in_ok-reserve-2.ensures.entries) there in
    subst (λ (s : SweepView). (since : ℕ) × (date_in c.enter_dates.new.dates.entries key ≡ Some since) × IsDate all (up_to c.args.upto s.noted) s.dates key row since (date_in s.dates key)) c.self.view_is found

pub returns-clause-still : goal.returns-clause-still
returns-clause-still c = λ swept.
    let all = row_of c.args.durable.now.rows in
    let now : SweepView = record { noted = c.keep_later.new.notes.items; ready = c.self.inside.ready.items; dead = c.enter_all.new.self.rows; dates = c.enter_dates.new.dates.entries; sets = c.filings.new.sets.entries; is_new = false } in
    let notes : List Note = up_to c.args.upto c.self.inside.noted.items in
    let here = subst (λ (s : SweepView). IsSweptTo s c.args.upto all) (sym c.self.view_is) swept in
    let forgets = subst (λ (l : List Note). Forgets (up_to c.args.upto l) c.self.inside.sets.entries c.forget_touched.new.sets.entries) c.deref.ensures.value c.in_ok-forget_touched.ensures.forgets in
    let right = c.in_ok-changes.ensures.still (rest_is_right notes all c.self.inside.sets.entries c.forget_touched.new.sets.entries here.sets forgets) in
    swept_to all now (up_to c.args.upto now.noted) (returns-clause-swept c swept) right

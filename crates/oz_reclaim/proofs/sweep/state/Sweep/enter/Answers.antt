use Rattle.std.proofs.Common.{refl, sym, ◌∙◌, ap, subst}
use Rattle.oz_reclaim.specs.sweep.Notes.{up_to}
use Rattle.oz_reclaim.specs.sweep.Swept.{IsSweptTo}
use Rattle.oz_reclaim.specs.sweep.View.{SweepView}
use Rattle.oz_reclaim.proofs.sweep_lemmas.Notes.{later_added}
use Rattle.oz_reclaim.proofs.sweep_lemmas.Swept.{same_dead}
use Rattle.oz_reclaim.proofs.sweep.state.Sweep.enter.Goals as goal

pub returns-clause-swept : goal.returns-clause-swept
returns-clause-swept c = λ all upto lt swept.
    let old : SweepView = record { noted = c.self.inside.noted.items; ready = c.self.inside.ready.items; dead = c.self.inside.dead.rows; dates = c.self.inside.dates.entries; sets = c.self.inside.sets.entries; is_new = c.self.inside.is_new } in
    let now : SweepView = record old { noted = c.move_dated.new.to.items; ready = c.move_dated.new.from.items } in
    let here = subst (λ (s : SweepView). IsSweptTo s upto all) (sym c.self.view_is) swept in
    same_dead all (up_to upto old.noted) (up_to upto now.noted) old now here
    (sym (ap (up_to upto) c.move_dated.ensures.items ∙ later_added upto c.args.index c.self.inside.noted.items c.self.inside.ready.items lt)) refl refl refl

use Rattle.std.proofs.Common.{◌≡◌, ◌≤◌, ◌||◌, Bool, false, Some, List, ℕ, sym, ◌∙◌, ap, subst, rules}
use Rattle.std.specs.List.{AllByRecursion, list_any}
use Rattle.oz_effects.specs.changes.Steps.{holds}
use Rattle.oz_fields.specs.declared.block.Block.{Block}
use Rattle.oz_reclaim.specs.Gathered.{IsLeast}
use Rattle.oz_reclaim.specs.Reclaimable.{IsAmongFirst, IsReclaimable}
use Rattle.oz_reclaim.specs.sweep.Dates.{date_in, or_zero}
use Rattle.oz_reclaim.specs.sweep.Swept.{IsSwept}
use Rattle.oz_reclaim.specs.sweep.View.{SweepView, date_of}
use Rattle.oz_reclaim.proofs.Least.{least_deleted}
use Rattle.oz_reclaim.proofs.sweep_lemmas.Found.{all_dated, among_first, as_many, have_dates, only, partly, the_keys}
use Rattle.oz_rows.specs.Counts.{AllRise}
use Rattle.oz_rows.specs.declared.entry.RowEntry.{RowEntry}
use Rattle.oz_rows.specs.declared.key.RowKey.{RowKey}
use Rattle.oz_rows.specs.declared.key.RowKey.TheVariants as keys
use Rattle.oz_rows.specs.RowMaps.{is_block}
use Rattle.oz_rows.specs.Rows.{kind_of}
use Rattle.oz_reclaim.proofs.sweep.state.Sweep.find.Goals as goal

pub is_one_partly_pinned-requires : goal.is_one_partly_pinned-requires
is_one_partly_pinned-requires c = subst IsLeast (sym (c.in_ok-start.ensures ∙ ap (λ (none : List ℕ). keys.Deleted none none 0 none 0) c.in_ok-none.ensures)) least_deleted

pub first_free-requires-clause-least : goal.first_free-requires-clause-least
first_free-requires-clause-least c = subst IsLeast (sym (c.in_ok-start.ensures ∙ ap (λ (none : List ℕ). keys.Deleted none none 0 none 0) c.in_ok-none.ensures)) least_deleted

pub returns-clause-only : goal.returns-clause-only
returns-clause-only c = λ all namespace swept backed.
    let give = λ (key : RowKey). or_zero (date_in c.self.inside.dates.entries key) in
    let dead : List RowEntry = c.self.inside.dead.rows in
    all_dated give (IsReclaimable all namespace c.args.pinned.now) c.in_ok-keys.keys.items c.in_ok-rows.rows.items c.in_ok-rows.ensures
    (only all namespace backed dead (subst (λ (s : SweepView). IsSwept s all) (sym c.self.view_is) swept) c.args.pinned.now (holds c.add_each.new.blocks)
    (λ (block : Block). let none : holds c.new-pins.result block ≡ false = search rules in c.in_ok-add_each.ensures block ∙ ap (λ (t : Bool). t || list_any (is_block block) c.args.pinned.now) none)
    c.args.most c.in_ok-keys.keys.items c.in_ok-keys.ensures)

pub returns-clause-first : goal.returns-clause-first
returns-clause-first c = λ all namespace swept backed key is.
    let give = λ (key : RowKey). or_zero (date_in c.self.inside.dates.entries key) in
    let dead : List RowEntry = c.self.inside.dead.rows in
    subst (λ (l : List RowKey). IsAmongFirst c.args.most l key) (sym (the_keys give c.in_ok-keys.keys.items c.in_ok-rows.rows.items c.in_ok-rows.ensures))
    (among_first all namespace backed dead (subst (λ (s : SweepView). IsSwept s all) (sym c.self.view_is) swept) c.args.pinned.now (holds c.add_each.new.blocks)
    (λ (block : Block). let none : holds c.new-pins.result block ≡ false = search rules in c.in_ok-add_each.ensures block ∙ ap (λ (t : Bool). t || list_any (is_block block) c.args.pinned.now) none)
    c.args.most c.in_ok-keys.keys.items c.in_ok-keys.ensures key is)

pub returns-clause-in_order : goal.returns-clause-in_order
returns-clause-in_order c =
    let give = λ (key : RowKey). or_zero (date_in c.self.inside.dates.entries key) in
    subst AllRise (sym (the_keys give c.in_ok-keys.keys.items c.in_ok-rows.rows.items c.in_ok-rows.ensures)) c.in_ok-keys.ensures.rise

pub returns-clause-partly : goal.returns-clause-partly
returns-clause-partly c = λ all namespace swept backed.
    let dead : List RowEntry = c.self.inside.dead.rows in
    partly all namespace backed dead (subst (λ (s : SweepView). IsSwept s all) (sym c.self.view_is) swept) c.args.pinned.now (holds c.add_each.new.blocks)
    (λ (block : Block). let none : holds c.new-pins.result block ≡ false = search rules in c.in_ok-add_each.ensures block ∙ ap (λ (t : Bool). t || list_any (is_block block) c.args.pinned.now) none)
    (kind_of c.in_ok-start.start) (ap kind_of c.in_ok-start.ensures) c.self.inside.homes c.self.invariant.homes c.in_ok-is_partly_pinned.is_partly_pinned c.in_ok-is_partly_pinned.ensures

pub returns-clause-few : goal.returns-clause-few
returns-clause-few c =
    let give = λ (key : RowKey). or_zero (date_in c.self.inside.dates.entries key) in
    subst (λ (n : ℕ). n ≤ c.args.most) (sym (as_many give c.in_ok-keys.keys.items c.in_ok-rows.rows.items c.in_ok-rows.ensures)) c.in_ok-keys.ensures.few

pub returns-clause-dated : goal.returns-clause-dated
returns-clause-dated c =
    let dead : List RowEntry = c.self.inside.dead.rows in
    let dates = c.self.inside.dates.entries in
    let have = have_dates dead dates c.self.invariant.dated (holds c.add_each.new.blocks) c.args.most c.in_ok-keys.keys.items c.in_ok-keys.ensures c.in_ok-rows.rows.items c.in_ok-rows.ensures in
    subst (λ (s : SweepView). AllByRecursion (λ (row : RowKey × ℕ). date_of s row.0 ≡ Some row.1) c.in_ok-rows.rows.items) c.self.view_is have

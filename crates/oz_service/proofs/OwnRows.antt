-- A stripe's rows are of the stripe; and a deleted row of them may be named by a Purge once its blocks were asked for and logged.
use Rattle.std.proofs.Common.{◌≡◌, ◌==◌, Bool, true, false, cond, ℕ, ◌≤◌, List, [], ◌∷◌, ◌++◌}
use Rattle.std.proofs.Common.{length, Option, None, Some, All, Contains, eq-eqb, refl, sym, ap, ◌∙◌, subst, arith}
use mathlib.Core.Bool.{false≢true}
use Rattle.std.proofs.lemmas.Bool.{eqb-true}
use Rattle.std.proofs.lemmas.List.Elements.{All-from_recursion, Contains-append_left, Contains-append_right}
use Rattle.std.proofs.lemmas.Option.{none-some}
use Rattle.std.specs.List.{AllByRecursion}
use Rattle.oz_core.specs.declared.event.Event.{Event}
use Rattle.oz_core.specs.declared.event.EventKind.{EventKind}
use Rattle.oz_core.specs.declared.event.EventKind.TheVariants.{Decide, PurgeAsk}
use Rattle.oz_core.specs.declared.opening.Opening.{Opening}
use Rattle.oz_core.specs.Law.{IsPurged}
use Rattle.oz_core.specs.Seats.{stripe_seat}
use Rattle.oz_core.specs.Stories.{mine}
use Rattle.oz_fields.specs.declared.block.Block.{Block}
use Rattle.oz_model.specs.laws.Members.{of_filtered}
use Rattle.oz_om.specs.Purging.{AreFlushed, DeletedRow, asks_for, blocks_in, blocks_of_all, key_of}
use Rattle.oz_owned.specs.Stood.{HaveStoodFrom, IsMadeBy, StandAt, StepsTo}
use Rattle.oz_owned.specs.laws.Written.{stood_last}
use Rattle.oz_rows.specs.declared.key.RowKey.{RowKey}
use Rattle.oz_rows.specs.declared.key.RowKey.TheVariants as keys
use Rattle.oz_rows.specs.declared.operation.Change.{Change}
use Rattle.oz_rows.specs.declared.row.Row.{Row}
use Rattle.oz_rows.specs.declared.row.Row.TheVariants as rows
use Rattle.oz_rows.specs.laws.Same.{same_is_one}
use Rattle.oz_rows.specs.RowMaps.{Rows, is_same, row_after, row_after_one}
use Rattle.oz_rows.specs.Rows.{RowFits}
use Rattle.oz_sound.specs.stripes.Stripes.{ChangeOnly, is_own, only, stripe_of_key}
use Rattle.oz_service.specs.Purges.{AreLogged, MayBeNamed}
use Rattle.oz_service.proofs.Logs.{each_of}

-- ---- the rows are of the stripe

abbrev AreOwn : ℕ → Rows → Type 0
AreOwn stripe all = (key : RowKey) (row : Row) → all key ≡ Some row → stripe_of_key key ≡ stripe

module _ (stripe : ℕ) where
  only_own : (all : Rows) → AreOwn stripe (only stripe all)
  only_own all key row is = by (is_own stripe key) refl
    where
      by : (t : Bool) → is_own stripe key ≡ t → stripe_of_key key ≡ stripe
      by true e = eqb-true (stripe_of_key key) stripe e
      by false e = absurd (none-some row (sym (ap (λ (t : Bool). cond t (all key) None) e) ∙ is))

  changed_own : (changes : List Change) (key : RowKey) (before : Option Row) → ChangeOnly stripe changes
      → ((row : Row) → before ≡ Some row → stripe_of_key key ≡ stripe) → (row : Row) → row_after changes key before ≡ Some row → stripe_of_key key ≡ stripe
  changed_own [] key before own was row is = was row is
  changed_own (change ∷ changes) key before own was row is =
      changed_own changes key (row_after_one change key before) own.1 (λ other here. by (is_same change.key key) refl other here) row is
    where
      by : (t : Bool) → is_same change.key key ≡ t → (other : Row) → row_after_one change key before ≡ Some other → stripe_of_key key ≡ stripe
      by true e other here = ap stripe_of_key (sym (same_is_one change.key key e)) ∙ own.0
      by false e other here = was other (sym (ap (λ (t : Bool). cond t change.row before) e) ∙ here)

  made_own : (before next : Rows) (kind : EventKind) → AreOwn stripe before → IsMadeBy stripe before kind next → AreOwn stripe next
  made_own before next (Decide id index reply batch) own by = λ key row is.
      changed_own by.changes key (before key) by.of_stripe.changes_own (own key) row (ap (λ (all : Rows). all key) (sym by.leads) ∙ is)
  made_own before next kind own same = subst (AreOwn stripe) (sym same) own

  step_own : (before next : Rows) (event : Event) → AreOwn stripe before → StepsTo stripe before event next → AreOwn stripe next
  step_own before next event own steps = by (event.seat == stripe_seat stripe) refl
    where
      by : (t : Bool) → (event.seat == stripe_seat stripe) ≡ t → AreOwn stripe next
      by true e = made_own before next event.kind own (steps.own (eqb-true event.seat (stripe_seat stripe) e))
      by false e = subst (AreOwn stripe) (sym (steps.others (λ same. false≢true (sym e ∙ eq-eqb event.seat (stripe_seat stripe) same)))) own

  stood_own : (At : List Event → Rows → Type 0) (before : List Event) (all : Rows) (story : List Event) (last : Rows) → AreOwn stripe all
      → HaveStoodFrom At stripe before all story last → AreOwn stripe last
  unfolding HaveStoodFrom
  stood_own At before all [] last own stood = subst (AreOwn stripe) (sym stood.1) own
  stood_own At before all (event ∷ story) last own stood =
      stood_own At (before ++ event ∷ []) stood.1.0 story last (step_own all stood.1.0 event own stood.1.1) stood.1.2

module _ (opening : Opening) (loaded : Rows) (stripe : ℕ) (story : List Event) (tables : Rows) (flushed : AreFlushed opening loaded stripe story tables) where
  tables_own : AreOwn stripe tables
  tables_own = stood_own stripe (StandAt opening loaded stripe) [] (only stripe loaded) flushed.front tables (only_own stripe loaded) flushed.stood

  tables_fit : (key : RowKey) (row : Row) → tables key ≡ Some row → RowFits key row
  tables_fit = (stood_last (StandAt opening loaded stripe) stripe [] (only stripe loaded) flushed.front tables flushed.stood).stand.fit

  -- ---- and may be named

  module _ (seen : List Event) (all : List Block) (purged : Contains seen (record { seat = stripe_seat stripe; kind = PurgeAsk all }))
      (logged : AreLogged seen all) where
    one_may : (key : RowKey) (blocks : List Block) → tables key ≡ Some (rows.Deleted blocks) → RowFits key (rows.Deleted blocks)
        → ((block : Block) → Contains blocks block → Contains all block) → MayBeNamed seen (key, blocks)
    one_may (keys.Deleted volume bucket owner key local) [] is fits among = absurd fits.1.1
    one_may (keys.Deleted volume bucket owner key local) (first ∷ others) is fits among =
        let own = tables_own (keys.Deleted volume bucket owner key local) (rows.Deleted (first ∷ others)) is in record {
          blocks = all;
          purged = subst (λ (n : ℕ). Contains seen (record { seat = stripe_seat n; kind = PurgeAsk all })) (sym own) purged;
          block = first;
          among = among first (0, omega arith, refl);
          its_local = fits.1.1;
          logged = logged;
        }
    one_may key blocks is fits among = absurd fits.1

    rows_may : (found : List DeletedRow) → ((block : Block) → Contains (blocks_of_all found) block → Contains all block)
        → AllByRecursion (λ (row : DeletedRow). tables (key_of row) ≡ Some (rows.Deleted (blocks_in row))) found → AllByRecursion (MayBeNamed seen) found
    rows_may [] among whole = tt
    rows_may ((key, blocks) ∷ others) among whole = (
      one_may key blocks whole.0 (tables_fit key (rows.Deleted blocks) whole.0) (λ block there. among block (Contains-append_left blocks
          (blocks_of_all others) block there)),
      rows_may others (λ block there. among block (Contains-append_right blocks (blocks_of_all others) block there)) whole.1,
    )

-- the rows that were found, once all their blocks were asked for and logged
pub found_may : (opening : Opening) (loaded : Rows) (stripe : ℕ) (story : List Event) (tables : Rows) → AreFlushed opening loaded stripe story tables
    → (found : List DeletedRow) → AllByRecursion (λ (row : DeletedRow). tables (key_of row) ≡ Some (rows.Deleted (blocks_in row))) found → (seen : List Event)
    → Contains seen (record { seat = stripe_seat stripe; kind = PurgeAsk (blocks_of_all found) }) → AreLogged seen (blocks_of_all found)
    → All (MayBeNamed seen) found
found_may opening loaded stripe story tables flushed found whole seen purged logged =
    All-from_recursion (MayBeNamed seen) found
    (rows_may opening loaded stripe story tables flushed seen (blocks_of_all found) purged logged found (λ block there. there) whole)

-- ---- they were asked for

pub was_asked : (stripe : ℕ) (before after : List Event) (found : List DeletedRow) → 1 ≤ length found
    → mine (stripe_seat stripe) after ≡ before ++ asks_for stripe found
    → Contains after (record { seat = stripe_seat stripe; kind = PurgeAsk (blocks_of_all found) })
was_asked stripe before after [] some asked = absurd (omega (arith, some))
was_asked stripe before after (row ∷ more) some asked =
    let event : Event = record { seat = stripe_seat stripe; kind = PurgeAsk (blocks_of_all (row ∷ more)) } in
    (of_filtered (λ (e : Event). e.seat == stripe_seat stripe) after event
    (subst (λ (l : List Event). Contains l event) (sym asked) (Contains-append_right before (event ∷ []) event (0, omega arith, refl)))).0

pub all_purged : (stripe : ℕ) (story : List Event) (blocks : List Block) → Contains story (record { seat = stripe_seat stripe; kind = PurgeAsk blocks })
    → All (IsPurged story) blocks
all_purged stripe story blocks there =
    each_of (IsPurged story) blocks (λ block among. record { seat = stripe_seat stripe; blocks = blocks; there = there; among = among })

-- The rows that bodies make keep the rules of the grammar.
use Rattle.std.proofs.Common.{◌≡◌, ◌<◌, ◌≤◌, ◌^◌, ℕ, ◌==◌, Bool, true, false, not, ◌&&◌, List, [], ◌∷◌, ◌++◌, map, filter, Option, None, Some, IfSome, is_some, cond, refl, sym, ◌∙◌, ap, subst, arith, if◌then◌else◌}
use mathlib.Core.Bool.{false≢true}
use Rattle.std.specs.List.{AllByRecursion, flat_map}
use Rattle.std.specs.Ordering.{is_eq}
use Rattle.oz_fields.specs.declared.block.Block.{Block}
use Rattle.oz_rows.specs.declared.key.RowKey.{RowKey}
use Rattle.oz_rows.specs.declared.key.RowKey.TheVariants as keys
use Rattle.oz_rows.specs.declared.row.Row.{Row}
use Rattle.oz_rows.specs.declared.row.Row.TheVariants as rows
use Rattle.oz_rows.specs.declared.operation.Change.{Change}
use Rattle.oz_rows.specs.declared.operation.Head.{Head}
use Rattle.oz_rows.specs.declared.operation.Operation.{Operation}
use Rattle.oz_rows.specs.declared.operation.Operation.TheVariants.{Put, Remove, CopyKeys, MoveDeleted, DropKeys, DropOpen}
use Rattle.oz_rows.specs.Rows.{RowFits, ValueFits, IsBlock}
use Rattle.oz_rows.specs.Operations.{OperationFits, AreOperations, head_in}
use Rattle.oz_names.specs.Names.{IsVolumeName, IsKeyName}
use Rattle.oz_rows.specs.declared.entry.RowEntry.{RowEntry}
use Rattle.oz_rows.specs.RowMaps.{row_of, row_after, row_after_one, is_same, KeysRise, IsBelow, is_bucket, put}
use Rattle.oz_effects.specs.Effects.{Leads, operation_changes, copied, moved, dropped, closed, freed, is_in_a_key}
use Rattle.oz_effects.specs.Build.{Builds, BuildsFrom, no_head}
use Rattle.oz_rows.specs.laws.Order.{itself}
use Rattle.oz_rows.specs.laws.Same.{same_is_one}
use Rattle.oz_effects.specs.laws.Steps.{some_inside, some_apart, leads_rise}

abbrev AllFit : List RowEntry → Type 0
AllFit l = (key : RowKey) (row : Row) → row_of l key ≡ Some row → RowFits key row

abbrev EntriesFit : List RowEntry → Type 0
EntriesFit l = AllByRecursion (λ (e : RowEntry). RowFits e.key e.row) l

abbrev ChangeFits : Change → Type 0
ChangeFits change = IfSome change.row (λ row. RowFits change.key row)

abbrev ChangesFit : List Change → Type 0
ChangesFit changes = AllByRecursion ChangeFits changes

-- each entry is the row of its key
entries_fit : (all l : List RowEntry) → AllFit all → KeysRise l → ((e : RowEntry) → row_of l e.key ≡ Some e.row → row_of all e.key ≡ Some e.row) → EntriesFit l
entries_fit all [] fit rise there = tt
entries_fit all (x ∷ l) fit rise there = (
  fit x.key x.row (there x (ap (λ o. cond (is_eq o) (Some x.row) (row_of l x.key)) (itself x.key))),
  entries_fit all l fit rise.1 (λ e found. there e (later e found)),
)
  where
    later : (e : RowEntry) → row_of l e.key ≡ Some e.row → row_of (x ∷ l) e.key ≡ Some e.row
    later e found = by_test (is_same x.key e.key) refl
      where
        by_test : (t : Bool) → is_same x.key e.key ≡ t → row_of (x ∷ l) e.key ≡ Some e.row
        by_test true same = absurd (apart l rise.0 found (same_is_one x.key e.key same))
          where
            apart : (m : List RowEntry) → AllByRecursion (λ (other : RowEntry). IsBelow x.key other.key) m → row_of m e.key ≡ Some e.row → x.key ≡ e.key → ⊥
            apart [] below found one = some_apart (sym found)
            apart (y ∷ m) below found one = by_key (is_same y.key e.key) refl (apart m below.1)
              where
                by_key : (t : Bool) → is_same y.key e.key ≡ t → (row_of m e.key ≡ Some e.row → x.key ≡ e.key → ⊥) → ⊥
                by_key true s next = false≢true (ap is_eq (sym below.0) ∙ ap (λ k. is_same k y.key) (one ∙ sym (same_is_one y.key e.key s)) ∙ ap is_eq (itself y.key))
                by_key false s next = next (sym (ap (λ (t : Bool). cond t (Some y.row) (row_of m e.key)) s) ∙ found) one
        by_test false same = ap (λ (t : Bool). cond t (Some x.row) (row_of l e.key)) same ∙ found

-- rows after changes that fit
row_fits_after : (changes : List Change) (key : RowKey) (before : Option Row) (row : Row) → ChangesFit changes → ((old : Row) → before ≡ Some old → RowFits key old) → row_after changes key before ≡ Some row → RowFits key row
row_fits_after [] key before row fits old is = old row is
row_fits_after (change ∷ changes) key before row fits old is = row_fits_after changes key (row_after_one change key before) row fits.1 one is
  where
    one : (made : Row) → row_after_one change key before ≡ Some made → RowFits key made
    one made e = by_test (is_same change.key key) refl
      where
        of_change : (o : Option Row) → change.row ≡ o → o ≡ Some made → RowFits change.key made
        of_change None is e = absurd (some_apart (sym e))
        of_change (Some r) is e = subst (λ r. RowFits change.key r) (some_inside r r made e) (subst (λ (o : Option Row). IfSome o (λ row. RowFits change.key row)) is fits.0)

        by_test : (t : Bool) → is_same change.key key ≡ t → RowFits key made
        by_test true same = subst (λ k. RowFits k made) (same_is_one change.key key same) (of_change change.row refl (sym (ap (λ (t : Bool). cond t change.row before) same) ∙ e))
        by_test false same = old made (sym (ap (λ (t : Bool). cond t change.row before) same) ∙ e)

-- lists of changes
all_append : (a b : List Change) → ChangesFit a → ChangesFit b → ChangesFit (a ++ b)
all_append [] b fit_a fit_b = fit_b
all_append (x ∷ a) b fit_a fit_b = (fit_a.0, all_append a b fit_a.1 fit_b)

all_over : (f : RowEntry → List Change) (l : List RowEntry) → EntriesFit l → ((e : RowEntry) → RowFits e.key e.row → ChangesFit (f e)) → ChangesFit (flat_map f l)
all_over f [] fits each = tt
all_over f (x ∷ l) fits each = all_append (f x) (flat_map f l) (each x fits.0) (all_over f l fits.1 each)

where_so : (t : Bool) (a : List Change) → ChangesFit a → ChangesFit (if t then a else [])
where_so true a fit = fit
where_so false a fit = tt

module _ (volume bucket : List ℕ) (is_volume : IsVolumeName volume) (is_a_bucket : IsVolumeName bucket) where
  copied_fits : (number : ℕ) → (1 ≤ number) × (number < 2 ^ 64) → (key : RowKey) (row : Row) → RowFits key row → ChangesFit (copied volume bucket number key row)
  copied_fits number is (keys.Key v b k) (rows.Key made pieces) fits = where_so (is_bucket volume bucket v b) _ (((is_volume, is_a_bucket, is, fits.0.2), fits.1), tt)
  copied_fits number is (keys.Key v b k) rows.Volume fits = tt
  copied_fits number is (keys.Key v b k) rows.Bucket fits = tt
  copied_fits number is (keys.Key v b k) (rows.Open blocks) fits = tt
  copied_fits number is (keys.Key v b k) (rows.Deleted blocks) fits = tt
  copied_fits number is (keys.Key v b k) (rows.Snapshot name previous state) fits = tt
  copied_fits number is (keys.Key v b k) (rows.SnapshotKey made pieces) fits = tt
  copied_fits number is (keys.Key v b k) (rows.Renamed key) fits = tt
  copied_fits number is (keys.Key v b k) (rows.Stripe n) fits = tt
  copied_fits number is (keys.Volume v) row fits = tt
  copied_fits number is (keys.Bucket v b) row fits = tt
  copied_fits number is (keys.Open v b k n) row fits = tt
  copied_fits number is (keys.Deleted v b o k l) row fits = tt
  copied_fits number is (keys.Snapshot v b n) row fits = tt
  copied_fits number is (keys.SnapshotKey v b n k) row fits = tt
  copied_fits number is (keys.Renamed v b o l) row fits = tt
  copied_fits number is (keys.Stripe s) row fits = tt

  deleted_value : (v b k : List ℕ) (o l to : ℕ) (row : Row) → ValueFits (keys.Deleted v b o k l) row → ValueFits (keys.Deleted volume bucket to k l) row
  deleted_value v b k o l to (rows.Deleted blocks) fits = fits
  deleted_value v b k o l to rows.Volume fits = absurd fits
  deleted_value v b k o l to rows.Bucket fits = absurd fits
  deleted_value v b k o l to (rows.Key n p) fits = absurd fits
  deleted_value v b k o l to (rows.Open blocks) fits = absurd fits
  deleted_value v b k o l to (rows.Snapshot name previous state) fits = absurd fits
  deleted_value v b k o l to (rows.SnapshotKey n p) fits = absurd fits
  deleted_value v b k o l to (rows.Renamed key) fits = absurd fits
  deleted_value v b k o l to (rows.Stripe n) fits = absurd fits

  renamed_value : (v b : List ℕ) (o l to : ℕ) (row : Row) → ValueFits (keys.Renamed v b o l) row → ValueFits (keys.Renamed volume bucket to l) row
  renamed_value v b o l to (rows.Renamed key) fits = fits
  renamed_value v b o l to rows.Volume fits = absurd fits
  renamed_value v b o l to rows.Bucket fits = absurd fits
  renamed_value v b o l to (rows.Key n p) fits = absurd fits
  renamed_value v b o l to (rows.Open blocks) fits = absurd fits
  renamed_value v b o l to (rows.Deleted blocks) fits = absurd fits
  renamed_value v b o l to (rows.Snapshot name previous state) fits = absurd fits
  renamed_value v b o l to (rows.SnapshotKey n p) fits = absurd fits
  renamed_value v b o l to (rows.Stripe n) fits = absurd fits

  moved_fits : (all : List RowEntry) (from to : ℕ) → to < 2 ^ 64 → (key : RowKey) (row : Row) → RowFits key row → ChangesFit (moved all volume bucket from to key row)
  moved_fits all from to is (keys.Deleted v b o k l) row fits = where_so (is_bucket volume bucket v b && o == from) _ (tt, (((is_volume, is_a_bucket, is, fits.0.3, fits.0.4), deleted_value v b k o l to row fits.1), tt))
  moved_fits all from to is (keys.Renamed v b o l) row fits = where_so (is_bucket volume bucket v b && o == from) _ (tt, last)
    where
      unless : (t : Bool) → ChangesFit (if t then [] else put (keys.Renamed volume bucket to l) row ∷ [])
      unless true = tt
      unless false = (((is_volume, is_a_bucket, is, fits.0.3), renamed_value v b o l to row fits.1), tt)

      last : ChangesFit (if from == 0 && is_some (row_of all (keys.Renamed volume bucket to l)) then [] else put (keys.Renamed volume bucket to l) row ∷ [])
      last = unless (from == 0 && is_some (row_of all (keys.Renamed volume bucket to l)))
  moved_fits all from to is (keys.Volume v) row fits = tt
  moved_fits all from to is (keys.Bucket v b) row fits = tt
  moved_fits all from to is (keys.Key v b k) row fits = tt
  moved_fits all from to is (keys.Open v b k n) row fits = tt
  moved_fits all from to is (keys.Snapshot v b n) row fits = tt
  moved_fits all from to is (keys.SnapshotKey v b n k) row fits = tt
  moved_fits all from to is (keys.Stripe s) row fits = tt

  dropped_fits : (number : ℕ) (key : RowKey) → ChangesFit (dropped volume bucket number key)
  dropped_fits number (keys.SnapshotKey v b n k) = where_so (is_bucket volume bucket v b && n == number) _ (tt, tt)
  dropped_fits number (keys.Volume v) = tt
  dropped_fits number (keys.Bucket v b) = tt
  dropped_fits number (keys.Key v b k) = tt
  dropped_fits number (keys.Open v b k n) = tt
  dropped_fits number (keys.Deleted v b o k l) = tt
  dropped_fits number (keys.Snapshot v b n) = tt
  dropped_fits number (keys.Renamed v b o l) = tt
  dropped_fits number (keys.Stripe s) = tt

  closed_fits : (key : RowKey) → ChangesFit (closed volume bucket key)
  closed_fits (keys.Open v b k n) = where_so (is_bucket volume bucket v b) _ (tt, tt)
  closed_fits (keys.Volume v) = tt
  closed_fits (keys.Bucket v b) = tt
  closed_fits (keys.Key v b k) = tt
  closed_fits (keys.Deleted v b o k l) = tt
  closed_fits (keys.Snapshot v b n) = tt
  closed_fits (keys.SnapshotKey v b n k) = tt
  closed_fits (keys.Renamed v b o l) = tt
  closed_fits (keys.Stripe s) = tt

  each_freed : (all : List RowEntry) (k : List ℕ) → IsKeyName k → (blocks : List Block) → AllByRecursion IsBlock blocks → ChangesFit (map (λ (block : Block). put (keys.Deleted volume bucket 0 k block.local) (rows.Deleted (block ∷ []))) (filter (λ block. not (is_in_a_key all block)) blocks))
  each_freed all k is [] fits = tt
  each_freed all k is (x ∷ blocks) fits = by_test (not (is_in_a_key all x)) (each_freed all k is blocks fits.1)
    where
      by_test : (t : Bool) → ChangesFit (map (λ (block : Block). put (keys.Deleted volume bucket 0 k block.local) (rows.Deleted (block ∷ []))) (filter (λ block. not (is_in_a_key all block)) blocks)) → ChangesFit (map (λ (block : Block). put (keys.Deleted volume bucket 0 k block.local) (rows.Deleted (block ∷ []))) (if t then x ∷ filter (λ block. not (is_in_a_key all block)) blocks else filter (λ block. not (is_in_a_key all block)) blocks))
      by_test true later = (((is_volume, is_a_bucket, omega arith, is, fits.0.1), ((omega arith, (fits.0, tt)), refl)), later)
      by_test false later = later

  freed_fits : (all : List RowEntry) (key : RowKey) (row : Row) → RowFits key row → ChangesFit (freed all volume bucket key row)
  freed_fits all (keys.Open v b k n) (rows.Open blocks) fits = where_so (is_bucket volume bucket v b) _ (each_freed all k fits.0.2 blocks fits.1.1)
  freed_fits all (keys.Open v b k n) rows.Volume fits = tt
  freed_fits all (keys.Open v b k n) rows.Bucket fits = tt
  freed_fits all (keys.Open v b k n) (rows.Key m p) fits = tt
  freed_fits all (keys.Open v b k n) (rows.Deleted blocks) fits = tt
  freed_fits all (keys.Open v b k n) (rows.Snapshot name previous state) fits = tt
  freed_fits all (keys.Open v b k n) (rows.SnapshotKey m p) fits = tt
  freed_fits all (keys.Open v b k n) (rows.Renamed key) fits = tt
  freed_fits all (keys.Open v b k n) (rows.Stripe m) fits = tt
  freed_fits all (keys.Volume v) row fits = tt
  freed_fits all (keys.Bucket v b) row fits = tt
  freed_fits all (keys.Key v b k) row fits = tt
  freed_fits all (keys.Deleted v b o k l) row fits = tt
  freed_fits all (keys.Snapshot v b n) row fits = tt
  freed_fits all (keys.SnapshotKey v b n k) row fits = tt
  freed_fits all (keys.Renamed v b o l) row fits = tt
  freed_fits all (keys.Stripe s) row fits = tt

unless_same : (t : Bool) (a : List Change) → ChangesFit a → ChangesFit (if t then [] else a)
unless_same true a fit = tt
unless_same false a fit = fit

operation_changes_fit : (all : List RowEntry) (operation : Operation) → EntriesFit all → OperationFits operation → ChangesFit (operation_changes all operation)
operation_changes_fit all (Put key row) entries fits = (fits, tt)
operation_changes_fit all (Remove key) entries fits = (tt, tt)
operation_changes_fit all (CopyKeys volume bucket number) entries fits = all_over _ all entries (λ e fit. copied_fits volume bucket fits.0 fits.1 number fits.2 e.key e.row fit)
operation_changes_fit all (MoveDeleted volume bucket from to) entries fits = unless_same (from == to) _ (all_over _ all entries (λ e fit. moved_fits volume bucket fits.0 fits.1 all from to fits.3 e.key e.row fit))
operation_changes_fit all (DropKeys volume bucket number) entries fits = all_over _ all entries (λ e fit. dropped_fits volume bucket fits.0 fits.1 number e.key)
operation_changes_fit all (DropOpen volume bucket) entries fits = all_append _ _ (all_over _ all entries (λ e fit. closed_fits volume bucket fits.0 fits.1 e.key)) (all_over _ all entries (λ e fit. freed_fits volume bucket fits.0 fits.1 all e.key e.row fit))

leads_fit : (before : List RowEntry) (items : List Operation) (after : List RowEntry) → Leads before items after → AreOperations items → KeysRise before → AllFit before → AllFit after
unfolding Leads
leads_fit before [] after leads fits rise all = subst AllFit (sym leads) all
leads_fit before (item ∷ items) after leads fits rise all =
    let entries = entries_fit before before all rise (λ e found. found) in
    let changes = operation_changes_fit before item entries fits.0 in
    leads_fit leads.0 items after leads.3 fits.1 leads.2.in_order (λ key row is. row_fits_after (operation_changes before item) key (row_of before key) row changes (λ old found. all key old found) (sym (leads.2.rows key) ∙ is))

fit_from : (before : List RowEntry) (last : Head) (bodies : List (List ℕ)) (all : List RowEntry) (head : Head) → BuildsFrom before last bodies all head → KeysRise before → AllFit before → AllFit all
unfolding BuildsFrom
fit_from before last [] all head builds rise fit = subst AllFit (sym builds.0) fit
fit_from before last (first ∷ bodies) all head builds rise fit =
    fit_from builds.1 (head_in builds.0) bodies all head builds.3 (leads_rise before builds.0.items builds.1 builds.2.leads rise) (leads_fit before builds.0.items builds.1 builds.2.leads builds.2.body_is.1 rise fit)

pub bodies_fit : (bodies : List (List ℕ)) (all : List RowEntry) (last : ℕ) → Builds bodies all last → (key : RowKey) (row : Row) → row_of all key ≡ Some row → RowFits key row
bodies_fit bodies all last builds = fit_from [] no_head bodies all builds.0 builds.1 tt (λ key row is. absurd (some_apart (sym is)))

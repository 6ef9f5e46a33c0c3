-- What is decided of the manager's own requests: the rows that change, and the operations.
use Rattle.std.proofs.Common.{◌≡◌, inl, inr, ◌≤◌, ℕ, zero, suc, true, false, List, [], ◌∷◌, length, map, Contains, ◌||◌, Bool, refl, sym, ◌∙◌, ap, subst, arith}
use Rattle.std.specs.List.{AllByRecursion, list_any}
use Rattle.oz_decision.specs.Drafts.{row_by_row}
use Rattle.oz_decision.specs.laws.SessionRows.{all_append}
use Rattle.oz_decision.specs.laws.Shown.{key_itself}
use Rattle.oz_effects.specs.Effects.{operation_changes}
use Rattle.oz_names.specs.Names.{stripe_of}
use Rattle.oz_om.specs.decider.Sizes.{most_operations}
use Rattle.oz_reclaim.specs.Service.{ArePurged, AreServed, IsPurged, NamesFew, key_named, operations_for as operations_of_service}
use Rattle.oz_reclaim.specs.laws.Origins.{Gives}
use Rattle.oz_requests.specs.declared.request.PurgeRow.{PurgeRow}
use Rattle.oz_requests.specs.declared.request.Request.{Request}
use Rattle.oz_requests.specs.declared.request.Request.TheVariants.{MoveDeleted, Purge, PurgeSnapshot}
use Rattle.oz_requests.specs.Names.{volume_in}
use Rattle.oz_rows.specs.declared.entry.RowEntry.{RowEntry}
use Rattle.oz_rows.specs.declared.key.RowKey.{RowKey}
use Rattle.oz_rows.specs.declared.key.RowKey.TheVariants as keys
use Rattle.oz_rows.specs.declared.operation.Change.{Change}
use Rattle.oz_rows.specs.declared.operation.Operation.TheVariants as operations
use Rattle.oz_rows.specs.Operations.{AreOperations}
use Rattle.oz_rows.specs.Rows.{KeyFits}
use Rattle.oz_rows.specs.RowMaps.{Rows, AreRows, gone, is_same}
use Rattle.oz_rows.specs.laws.Lengths.{no_longer}
use Rattle.oz_rows.specs.laws.Same.{same_is_one}
use Rattle.oz_sound.specs.stripes.Stripes.{ChangeOnly, stripe_of_key}
use Rattle.oz_om.proofs.decider_lemmas.Copies.{AreCopies, IsCopied, drops_copy, gone_copies, moves_copy, none_copies}
use Rattle.oz_om.proofs.decider_lemmas.Own.{IsOwn}
use Rattle.oz_om.proofs.decider_lemmas.Sizes.{goings_fit, goings_many}
use Rattle.oz_om.proofs.decider_lemmas.Wide.{drops_each, moves_each}

-- ---- the rows that a Purge names

module _ (v : List ℕ) where
  named_own : (named : List PurgeRow) (key : RowKey) → Contains (map (key_named v) named) key → stripe_of_key key ≡ stripe_of v
  named_own [] key (at, within, is) = absurd (omega (arith, within))
  named_own (row ∷ named) key (zero, within, is) = ap stripe_of_key (sym is)
  named_own (row ∷ named) key (suc at, within, is) = named_own named key (at, omega (arith, within), is)

  turned : (key : RowKey) (l : List RowKey) → Contains l key → list_any (is_same key) l ≡ true
  turned key [] (at, within, is) = absurd (omega (arith, within))
  turned key (x ∷ l) (zero, within, is) = ap (λ k. is_same key k || list_any (is_same key) l) is ∙ ap (λ (t : Bool). t || list_any (is_same key) l) (key_itself key)
  turned key (x ∷ l) (suc at, within, is) = later (is_same key x) (list_any (is_same key) l) (turned key l (at, omega (arith, within), is))
    where
      later : (s t : Bool) → t ≡ true → s || t ≡ true
      later true t e = refl
      later false t e = e

  module _ (all : Rows) (named : List PurgeRow) where
    goings_own : (l : List RowKey) → AllByRecursion (IsPurged all v named) l → ChangeOnly (stripe_of v) (map gone l)
    goings_own [] each = tt
    goings_own (key ∷ l) each = (named_own named key each.0.named_so, goings_own l each.1)

    fit_each : (l : List RowKey) → AllByRecursion (IsPurged all v named) l → AllByRecursion KeyFits l
    fit_each [] each = tt
    fit_each (key ∷ l) each = (each.0.fits, fit_each l each.1)

    among : (l : List RowKey) → AllByRecursion (IsPurged all v named) l → AllByRecursion (λ key. list_any (is_same key) (map (key_named v) named) ≡ true) l
    among [] each = tt
    among (key ∷ l) each = (turned key (map (key_named v) named) each.0.named_so, among l each.1)

    as_many : (l : List PurgeRow) → length (map (key_named v) l) ≡ length l
    as_many [] = refl
    as_many (row ∷ l) = ap suc (as_many l)

    few_go : (changes : List Change) → ArePurged all v named changes → length named ≤ 1024 → length (row_by_row changes) ≤ 1026
    few_go changes purged few =
        let most = no_longer is_same same_is_one purged.rows_gone (map (key_named v) named) purged.differ (among purged.rows_gone purged.each) in
        let same = as_many named in
        let many = goings_many purged.rows_gone in
        subst (λ (c : List Change). length (row_by_row c) ≤ 1026) (sym purged.are) (omega (arith, most, same, many, few))

-- ---- which rows change

module _ (all : Rows) (entries : List RowEntry) (are : AreRows entries all) where
  nothing_own : (stripe : ℕ) (changes : List Change) → changes ≡ [] → ChangeOnly stripe changes
  nothing_own stripe changes none = subst (ChangeOnly stripe) (sym none) tt

  pub service_changes_own : (request : Request) (changes : List Change) → AreServed all request changes → ChangeOnly (stripe_of (volume_in request)) changes
  service_changes_own (Purge v named) changes purged = subst (ChangeOnly (stripe_of v)) (sym purged.are) (goings_own v all named purged.rows_gone purged.each)
  service_changes_own (MoveDeleted v b n to) changes (inl (may, made)) =
      subst (ChangeOnly (stripe_of v)) (sym (made entries are)) (moves_each (IsOwn v) v b (λ o k l. refl) (λ o k l row. refl) (λ o l. refl) (λ o l row. refl) entries n to)
  service_changes_own (MoveDeleted v b n to) changes (inr (not, none)) = nothing_own (stripe_of v) changes none
  service_changes_own (PurgeSnapshot v b n) changes (inl (may, made)) =
      subst (ChangeOnly (stripe_of v)) (sym (made entries are))
      (all_append (IsOwn v) (operation_changes entries (operations.DropKeys v b n)) (gone (keys.Snapshot v b n) ∷ []) (drops_each (IsOwn v) v b n (λ k. refl) entries) (refl, tt))
  service_changes_own (PurgeSnapshot v b n) changes (inr (not, none)) = nothing_own (stripe_of v) changes none
  service_changes_own request changes served = absurd served

  pub service_copies : (request : Request) (changes : List Change) → AreServed all request changes → AreCopies all changes
  service_copies (Purge v named) changes purged = subst (AreCopies all) (sym purged.are) (gone_copies all purged.rows_gone)
  service_copies (MoveDeleted v b n to) changes (inl (may, made)) = subst (AreCopies all) (sym (made entries are)) (moves_copy all entries v b n to)
  service_copies (MoveDeleted v b n to) changes (inr (not, none)) = none_copies all changes none
  service_copies (PurgeSnapshot v b n) changes (inl (may, made)) =
      subst (AreCopies all) (sym (made entries are))
      (all_append (Gives (IsCopied all)) (operation_changes entries (operations.DropKeys v b n)) (gone (keys.Snapshot v b n) ∷ []) (drops_copy all entries v b n) ((λ row e. tt), tt))
  service_copies (PurgeSnapshot v b n) changes (inr (not, none)) = none_copies all changes none
  service_copies request changes served = absurd served

-- ---- the operations

some_change : {P : Type 0} (change : Change) (changes : List Change) → change ∷ changes ≡ [] → P
some_change change changes e = absurd (cc)

module _ (all : Rows) where
  pub service_fit : (request : Request) (changes : List Change) → AreServed all request changes → AreOperations (operations_of_service request changes)
  service_fit (Purge v named) changes purged = subst (λ (c : List Change). AreOperations (row_by_row c)) (sym purged.are) (goings_fit purged.rows_gone (fit_each v all named purged.rows_gone purged.each))
  service_fit (MoveDeleted v b n to) [] served = tt
  service_fit (MoveDeleted v b n to) (change ∷ changes) (inl (may, made)) = (may.fits, tt)
  service_fit (MoveDeleted v b n to) (change ∷ changes) (inr (not, none)) = some_change change changes none
  service_fit (PurgeSnapshot v b n) [] served = tt
  service_fit (PurgeSnapshot v b n) (change ∷ changes) (inl (may, made)) = (may.fits, (may.fits, tt))
  service_fit (PurgeSnapshot v b n) (change ∷ changes) (inr (not, none)) = some_change change changes none
  service_fit request changes served = absurd served

  pub service_few : (request : Request) → NamesFew request → (changes : List Change) → AreServed all request changes → length (operations_of_service request changes) ≤ most_operations request
  service_few (Purge v named) few changes purged = few_go v all named changes purged few
  service_few (MoveDeleted v b n to) few [] served = omega arith
  service_few (MoveDeleted v b n to) few (change ∷ changes) served = omega arith
  service_few (PurgeSnapshot v b n) few [] served = omega arith
  service_few (PurgeSnapshot v b n) few (change ∷ changes) served = omega arith
  service_few request few changes served = absurd served

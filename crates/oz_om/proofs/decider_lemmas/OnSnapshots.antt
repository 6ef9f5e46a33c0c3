-- What is decided of snapshots: the rows that change, the operations, and where the keys come from that a snapshot gets.
use Rattle.std.proofs.Common.{◌≡◌, inl, inr, ◌≤◌, ◌<◌, ◌*◌, ℕ, Bool, true, false, List, [], ◌∷◌, ◌++◌, append-nil, length, Option, Some, cond, refl, sym, ◌∙◌, ap, subst, arith}
use mathlib.Core.Bool.{false≢true}
use Rattle.std.proofs.Math.Nat.{mod-lt}
use Rattle.std.specs.Prelude.{sum}
use Rattle.std.specs.List.{AllByRecursion, flat_map}
use Rattle.oz_om.specs.decider.Premises.{IsInGrammarFor}
use Rattle.oz_om.specs.decider.Records.{operations_of_snapshots}
use Rattle.oz_om.specs.decider.Sizes.{most_bytes}
use Rattle.oz_decision.specs.Drafts.{row_by_row}
use Rattle.oz_decision.specs.Meets.{AreInGrammar}
use Rattle.oz_decision.specs.laws.SessionRows.{all_append}
use Rattle.oz_decision.specs.laws.Shown.{key_itself}
use Rattle.oz_effects.specs.Effects.{operation_changes}
use Rattle.oz_names.specs.Names.{stripe_of}
use Rattle.oz_reclaim.specs.Creates.{Creates, operations_of_create}
use Rattle.oz_reclaim.specs.Marks.{Marks}
use Rattle.oz_reclaim.specs.Snapshots.{AreRecorded as AreRecordedOfSnapshots, IsOnSnapshots}
use Rattle.oz_requests.specs.declared.reply.Reply.{Reply}
use Rattle.oz_requests.specs.declared.request.Request.{Request}
use Rattle.oz_requests.specs.declared.request.Request.TheVariants.{CreateSnapshot, DeleteSnapshot, InfoSnapshot, ListSnapshots}
use Rattle.oz_requests.specs.Names.{volume_in}
use Rattle.oz_rows.specs.declared.entry.RowEntry.{RowEntry}
use Rattle.oz_rows.specs.declared.key.RowKey.{RowKey}
use Rattle.oz_rows.specs.declared.key.RowKey.TheVariants as keys
use Rattle.oz_rows.specs.declared.operation.Change.{Change}
use Rattle.oz_rows.specs.declared.operation.Operation.TheVariants as operations
use Rattle.oz_rows.specs.declared.row.Row.{Row}
use Rattle.oz_rows.specs.declared.row.Row.TheVariants as rows
use Rattle.oz_rows.specs.declared.row.SnapshotState.TheVariants.{Live}
use Rattle.oz_rows.specs.Operations.{AreOperations, batch_bytes}
use Rattle.oz_rows.specs.Rows.{RowFits}
use Rattle.oz_rows.specs.RowMaps.{Rows, AreRows, after_changes, gone, is_same, put, row_after, row_after_one}
use Rattle.oz_rows.specs.laws.Same.{same_is_one}
use Rattle.oz_sound.specs.stripes.Stripes.{ChangeOnly}
use Rattle.oz_om.proofs.decider_lemmas.Copies.{AreCopies, copies_copy, moves_copy, none_copies}
use Rattle.oz_om.proofs.decider_lemmas.Own.{IsOwn}
use Rattle.oz_om.proofs.decider_lemmas.Wide.{copies_each, moves_each}

-- ---- which rows change

module _ (all : Rows) (entries : List RowEntry) (are : AreRows entries all) where
  -- what follows the rows of the stripe and of the snapshot
  abbrev later : List ℕ → List ℕ → ℕ → List Change
  later v b n = operation_changes entries (operations.CopyKeys v b n) ++ (operation_changes entries (operations.MoveDeleted v b 0 n) ++ [])

  wide : (P : Change → Type 0) (v b : List ℕ) (n : ℕ) → ((k : List ℕ) (row : Row) → P (put (keys.SnapshotKey v b n k) row))
      → ((o : ℕ) (k : List ℕ) (l : ℕ) → P (gone (keys.Deleted v b o k l))) → ((o : ℕ) (k : List ℕ) (l : ℕ) (row : Row) → P (put (keys.Deleted v b o k l) row))
      → ((o l : ℕ) → P (gone (keys.Renamed v b o l))) → ((o l : ℕ) (row : Row) → P (put (keys.Renamed v b o l) row)) → AllByRecursion P (later v b n)
  wide P v b n gets goes comes renamed_goes renamed_comes =
      let moves = operation_changes entries (operations.MoveDeleted v b 0 n) in
      all_append P (operation_changes entries (operations.CopyKeys v b n)) (moves ++ []) (copies_each P v b n gets entries)
      (subst (AllByRecursion P) (sym (append-nil moves)) (moves_each P v b goes comes renamed_goes renamed_comes entries 0 n))

  created_own : (v b name : List ℕ) (n previous : ℕ) → ChangeOnly (stripe_of v) (flat_map (operation_changes entries) (operations_of_create v b name n previous))
  created_own v b name n previous =
      (refl, (refl, wide (IsOwn v) v b n (λ k row. refl) (λ o k l. refl) (λ o k l row. refl) (λ o l. refl) (λ o l row. refl)))

  nothing_own : (stripe : ℕ) (changes : List Change) → changes ≡ [] → ChangeOnly stripe changes
  nothing_own stripe changes none = subst (ChangeOnly stripe) (sym none) tt

  pub snapshot_changes_own : (request : Request) → IsOnSnapshots request → (reply : Reply) (bytes : List ℕ) (changes : List Change) → AreRecordedOfSnapshots all request reply bytes changes → ChangeOnly (stripe_of (volume_in request)) changes
  snapshot_changes_own (CreateSnapshot v b name) is reply bytes changes (inl (done, made)) = subst (ChangeOnly (stripe_of v)) (sym (made.made entries are)) (created_own v b name made.number made.previous)
  snapshot_changes_own (CreateSnapshot v b name) is reply bytes changes (inr refused) = nothing_own (stripe_of v) changes refused.2.1
  snapshot_changes_own (DeleteSnapshot v b name) is reply bytes changes (inl (done, made)) = subst (ChangeOnly (stripe_of v)) (sym made.marked) (refl, tt)
  snapshot_changes_own (DeleteSnapshot v b name) is reply bytes changes (inr refused) = nothing_own (stripe_of v) changes refused.2.1
  snapshot_changes_own (ListSnapshots v b) is reply bytes changes nothing = nothing_own (stripe_of v) changes nothing.1
  snapshot_changes_own (InfoSnapshot v b name) is reply bytes changes nothing = nothing_own (stripe_of v) changes nothing.1
  snapshot_changes_own request is reply bytes changes recorded = absurd is

  -- each block of a snapshot's new key stood in a row
  created_copies : (v b name : List ℕ) (n previous : ℕ) → AreCopies all (flat_map (operation_changes entries) (operations_of_create v b name n previous))
  created_copies v b name n previous = (
    (λ row e. tt),
    (
      (λ row e. tt),
      copies_copy all entries are v b n (operation_changes entries (operations.MoveDeleted v b 0 n) ++ [])
          (subst (AreCopies all) (sym (append-nil (operation_changes entries (operations.MoveDeleted v b 0 n)))) (moves_copy all entries v b 0 n)),
    ),
  )

  pub snapshot_copies : (request : Request) → IsOnSnapshots request → (reply : Reply) (bytes : List ℕ) (changes : List Change) → AreRecordedOfSnapshots all request reply bytes changes → AreCopies all changes
  snapshot_copies (CreateSnapshot v b name) is reply bytes changes (inl (done, made)) = subst (AreCopies all) (sym (made.made entries are)) (created_copies v b name made.number made.previous)
  snapshot_copies (CreateSnapshot v b name) is reply bytes changes (inr refused) = none_copies all changes refused.2.1
  snapshot_copies (DeleteSnapshot v b name) is reply bytes changes (inl (done, made)) = subst (AreCopies all) (sym made.marked) ((λ row e. tt), tt)
  snapshot_copies (DeleteSnapshot v b name) is reply bytes changes (inr refused) = none_copies all changes refused.2.1
  snapshot_copies (ListSnapshots v b) is reply bytes changes nothing = none_copies all changes nothing.1
  snapshot_copies (InfoSnapshot v b name) is reply bytes changes nothing = none_copies all changes nothing.1
  snapshot_copies request is reply bytes changes recorded = absurd is

  -- ---- the operations

  none_are : (request : Request) (bytes : List ℕ) (changes : List Change) → operations_of_snapshots request [] ≡ [] → bytes ≡ [] → changes ≡ [] → bytes ≡ batch_bytes (operations_of_snapshots request changes)
  none_are request bytes changes empty no_bytes none = no_bytes ∙ sym (ap batch_bytes empty) ∙ ap (λ (c : List Change). batch_bytes (operations_of_snapshots request c)) (sym none)

  pub snapshot_operations : (request : Request) → IsOnSnapshots request → (reply : Reply) (bytes : List ℕ) (changes : List Change) → AreRecordedOfSnapshots all request reply bytes changes → bytes ≡ batch_bytes (operations_of_snapshots request changes)
  snapshot_operations (CreateSnapshot v b name) is reply bytes changes (inl (done, made)) = made.batch ∙ ap (λ (c : List Change). batch_bytes (operations_of_snapshots (CreateSnapshot v b name) c)) (sym (made.made entries are))
  snapshot_operations (CreateSnapshot v b name) is reply bytes changes (inr refused) = none_are (CreateSnapshot v b name) bytes changes refl refused.2.0 refused.2.1
  snapshot_operations (DeleteSnapshot v b name) is reply bytes changes (inl (done, made)) = made.batch
  snapshot_operations (DeleteSnapshot v b name) is reply bytes changes (inr refused) = none_are (DeleteSnapshot v b name) bytes changes refl refused.2.0 refused.2.1
  snapshot_operations (ListSnapshots v b) is reply bytes changes nothing = none_are (ListSnapshots v b) bytes changes refl nothing.0 nothing.1
  snapshot_operations (InfoSnapshot v b name) is reply bytes changes nothing = none_are (InfoSnapshot v b name) bytes changes refl nothing.0 nothing.1
  snapshot_operations request is reply bytes changes recorded = absurd is

  -- the row of the new snapshot stays while keys are copied and rows move
  abbrev is_snapshot : RowKey → Bool
  is_snapshot (keys.Snapshot v b n) = true
  is_snapshot key = false

  abbrev Passes : List Change → Type 0
  Passes changes = AllByRecursion (λ (change : Change). is_snapshot change.key ≡ false) changes

  stays : (changes : List Change) → Passes changes → (key : RowKey) → is_snapshot key ≡ true → (row : Option Row) → row_after changes key row ≡ row
  stays [] passes key is row = refl
  stays (change ∷ changes) passes key is row = stays changes passes.1 key is (row_after_one change key row) ∙ by (is_same change.key key) refl
    where
      by : (t : Bool) → is_same change.key key ≡ t → cond t change.row row ≡ row
      by true e = absurd (false≢true (sym passes.0 ∙ ap is_snapshot (same_is_one change.key key e) ∙ is))
      by false e = refl

  snapshot_row : (v b name : List ℕ) (n previous : ℕ) → after_changes (flat_map (operation_changes entries) (operations_of_create v b name n previous)) all (keys.Snapshot v b n) ≡ Some (rows.Snapshot name previous Live)
  snapshot_row v b name n previous =
      let here = keys.Snapshot v b n in
      let first = row_after_one (put (keys.Stripe (stripe_of v)) (rows.Stripe n)) here (all here) in
      stays (later v b n) (wide (λ (change : Change). is_snapshot change.key ≡ false) v b n (λ k row. refl) (λ o k l. refl) (λ o k l row. refl) (λ o l. refl) (λ o l row. refl)) here refl
      (cond (is_same here here) (Some (rows.Snapshot name previous Live)) first)
      ∙ ap (λ (t : Bool). cond t (Some (rows.Snapshot name previous Live)) first) (key_itself here)

  stripe_is : (v : List ℕ) → stripe_of v < 16
  stripe_is v = mod-lt (sum v) (omega arith)

  module _ (fit : AreInGrammar all) (v b name : List ℕ) (bytes : List ℕ) (changes : List Change) (now_fit : AreInGrammar (after_changes changes all)) where
    created_fit : Creates all v b name bytes changes → AreOperations (operations_of_snapshots (CreateSnapshot v b name) changes)
    created_fit made =
        let n = made.number in
        let few = made.few in
        let is = made.made entries are in
        let row : RowFits (keys.Snapshot v b n) (rows.Snapshot name made.previous Live) =
        now_fit (keys.Snapshot v b n) (rows.Snapshot name made.previous Live)
        (ap (λ (c : List Change). after_changes c all (keys.Snapshot v b n)) is ∙ snapshot_row v b name n made.previous) in
        subst (λ (c : List Change). AreOperations (operations_of_snapshots (CreateSnapshot v b name) c)) (sym is)
        ((stripe_is v, few), (row, (row.0, ((row.0.0, row.0.1, (omega arith), row.0.2.1), tt))))

    marked_fit : Marks all v b name bytes changes → AreOperations (operations_of_snapshots (DeleteSnapshot v b name) changes)
    marked_fit made = subst (λ (c : List Change). AreOperations (row_by_row c)) (sym made.marked) (fit (keys.Snapshot v b made.number) (rows.Snapshot name made.previous Live) made.there, tt)

  nothing_fit : (request : Request) (changes : List Change) → AreOperations (operations_of_snapshots request []) → changes ≡ [] → AreOperations (operations_of_snapshots request changes)
  nothing_fit request changes empty none = subst (λ (c : List Change). AreOperations (operations_of_snapshots request c)) (sym none) empty

  pub snapshot_fit : AreInGrammar all → (request : Request) → IsOnSnapshots request → (reply : Reply) (bytes : List ℕ) (changes : List Change) → AreInGrammar (after_changes changes all) → AreRecordedOfSnapshots all request reply bytes changes → AreOperations (operations_of_snapshots request changes)
  snapshot_fit fit (CreateSnapshot v b name) is reply bytes changes now_fit (inl (done, made)) = created_fit fit v b name bytes changes now_fit made
  snapshot_fit fit (CreateSnapshot v b name) is reply bytes changes now_fit (inr refused) = nothing_fit (CreateSnapshot v b name) changes tt refused.2.1
  snapshot_fit fit (DeleteSnapshot v b name) is reply bytes changes now_fit (inl (done, made)) = marked_fit fit v b name bytes changes now_fit made
  snapshot_fit fit (DeleteSnapshot v b name) is reply bytes changes now_fit (inr refused) = nothing_fit (DeleteSnapshot v b name) changes tt refused.2.1
  snapshot_fit fit (ListSnapshots v b) is reply bytes changes now_fit nothing = nothing_fit (ListSnapshots v b) changes tt nothing.1
  snapshot_fit fit (InfoSnapshot v b name) is reply bytes changes now_fit nothing = nothing_fit (InfoSnapshot v b name) changes tt nothing.1
  snapshot_fit fit request is reply bytes changes now_fit recorded = absurd is

  -- how many there are
  pub few_operations : (request : Request) → IsOnSnapshots request → (reply : Reply) (bytes : List ℕ) (changes : List Change) → AreRecordedOfSnapshots all request reply bytes changes → length (operations_of_snapshots request changes) ≤ 4
  few_operations (CreateSnapshot v b name) is reply bytes changes (inl (done, made)) = subst (λ (c : List Change). length (operations_of_snapshots (CreateSnapshot v b name) c) ≤ 4) (sym (made.made entries are)) (omega arith)
  few_operations (CreateSnapshot v b name) is reply bytes changes (inr refused) = subst (λ (c : List Change). length (operations_of_snapshots (CreateSnapshot v b name) c) ≤ 4) (sym refused.2.1) (omega arith)
  few_operations (DeleteSnapshot v b name) is reply bytes changes (inl (done, made)) = subst (λ (c : List Change). length (row_by_row c) ≤ 4) (sym made.marked) (omega arith)
  few_operations (DeleteSnapshot v b name) is reply bytes changes (inr refused) = subst (λ (c : List Change). length (row_by_row c) ≤ 4) (sym refused.2.1) (omega arith)
  few_operations (ListSnapshots v b) is reply bytes changes nothing = subst (λ (c : List Change). length (row_by_row c) ≤ 4) (sym nothing.1) (omega arith)
  few_operations (InfoSnapshot v b name) is reply bytes changes nothing = subst (λ (c : List Change). length (row_by_row c) ≤ 4) (sym nothing.1) (omega arith)
  few_operations request is reply bytes changes recorded = absurd is

  -- how many bytes there are
  pub snapshot_size : (request : Request) → IsOnSnapshots request → IsInGrammarFor all request → (reply : Reply) (bytes : List ℕ) (changes : List Change) → AreRecordedOfSnapshots all request reply bytes changes
      → (AreInGrammar all → length bytes ≤ 4 * 6304) → length bytes ≤ most_bytes request
  snapshot_size (CreateSnapshot v b name) is in_grammar reply bytes changes recorded short = short in_grammar
  snapshot_size (DeleteSnapshot v b name) is in_grammar reply bytes changes recorded short = short in_grammar
  snapshot_size (ListSnapshots v b) is in_grammar reply bytes changes nothing short = omega (arith, ap length nothing.0)
  snapshot_size (InfoSnapshot v b name) is in_grammar reply bytes changes nothing short = omega (arith, ap length nothing.0)
  snapshot_size request is in_grammar reply bytes changes recorded short = absurd is

-- Batches one after another, and batches of one operation that changes many rows.
use Rattle.std.proofs.Common.{◌≡◌, ℕ, List, [], ◌∷◌, ◌++◌, Option, refl, sym, ◌∙◌, ap, subst}
use Rattle.std.proofs.lemmas.List.{append-nil}
use Rattle.std.proofs.lemmas.List.Concat.{flat_map-append}
use Rattle.oz_rows.specs.declared.entry.RowEntry.{RowEntry}
use Rattle.oz_rows.specs.declared.key.RowKey.{RowKey}
use Rattle.oz_rows.specs.declared.row.Row.{Row}
use Rattle.oz_rows.specs.declared.operation.Change.{Change}
use Rattle.oz_rows.specs.declared.operation.Operation.{Operation}
use Rattle.oz_rows.specs.declared.operation.Operation.TheVariants.{CopyKeys, MoveDeleted, DropKeys, DropOpen}
use Rattle.oz_rows.specs.Operations.{OperationFits, AreOperations, operation_bytes, batch_bytes}
use Rattle.oz_rows.specs.RowMaps.{Rows, AreRows, row_of, row_after, after_changes}
use Rattle.oz_rows.specs.laws.Changes.{become}
use Rattle.oz_effects.specs.Effects.{Leads, IsPossible, operation_changes}
use Rattle.oz_effects.specs.Build.{IsAtFault}
use Rattle.oz_effects.specs.Batches.{IsBatchOf}
use Rattle.oz_effects.specs.laws.Based.{IsWide, based_after}
use Rattle.oz_effects.specs.laws.Steps.{leads_rise}

leads_join : (before between after : List RowEntry) (a b : List Operation) → Leads before a between → Leads between b after → Leads before (a ++ b) after
unfolding Leads
leads_join before between after [] b first second = subst (λ (rows : List RowEntry). Leads rows b after) first second
leads_join before between after (operation ∷ a) b first second = (first.0, first.1, first.2, leads_join first.0 between after a b first.3 second)

operations_join : (a b : List Operation) → AreOperations a → AreOperations b → AreOperations (a ++ b)
operations_join [] b first second = second
operations_join (operation ∷ a) b first second = (first.0, operations_join a b first.1 second)

changes_join : (a b : List Change) (key : RowKey) (row : Option Row) → row_after (a ++ b) key row ≡ row_after b key (row_after a key row)
changes_join [] b key row = refl
changes_join (change ∷ a) b key row = changes_join a b key _

-- a batch and a second over the rows after it
pub batches_are_one : (rows : Rows) (bytes later : List ℕ) (changes others : List Change) → IsBatchOf rows bytes changes
    → IsBatchOf (after_changes changes rows) later others → IsBatchOf rows (bytes ++ later) (changes ++ others)
batches_are_one rows bytes later changes others first second = record {
  items = first.items ++ second.items;
  fit = operations_join first.items second.items first.fit second.fit;
  bytes_are = ap (λ (text : List ℕ). text ++ later) first.bytes_are ∙ ap (λ (text : List ℕ). batch_bytes first.items ++ text) second.bytes_are
      ∙ sym (flat_map-append operation_bytes first.items second.items);
  comes = λ all are based.
      let one = first.comes all are based in
      let rise = leads_rise all first.items one.after one.leads are.in_order in
      let between : AreRows one.after (after_changes changes rows) =
      record { in_order = rise; rows_are = λ key. one.rows_are key ∙ ap (row_after changes key) (are.rows_are key) } in
      let two = second.comes one.after between one.based in
      record {
        after = two.after;
        leads = leads_join all one.after two.after first.items second.items one.leads two.leads;
        based = two.based;
        rows_are = λ key. two.rows_are key ∙ ap (row_after others key) (one.rows_are key) ∙ sym (changes_join changes others key (row_of all key));
      };
}

possible : (all : List RowEntry) (operation : Operation) → IsWide operation → IsPossible all operation
possible all (CopyKeys volume bucket number) wide = tt
possible all (MoveDeleted volume bucket from to) wide = tt
possible all (DropKeys volume bucket number) wide = tt
possible all (DropOpen volume bucket) wide = tt
possible all operation wide = absurd wide

never_at_fault : (after : List RowEntry) (items later : List Operation) (operation : Operation) → IsWide operation → IsAtFault after items later operation → ⊥
never_at_fault after items later (CopyKeys volume bucket number) wide fault = fault
never_at_fault after items later (MoveDeleted volume bucket from to) wide fault = fault
never_at_fault after items later (DropKeys volume bucket number) wide fault = fault
never_at_fault after items later (DropOpen volume bucket) wide fault = fault
never_at_fault after items later operation wide fault = wide

-- an operation that changes many rows
pub wide_is_batch : (rows : Rows) (operation : Operation) (changes : List Change) → OperationFits operation → IsWide operation
    → ((all : List RowEntry) → AreRows all rows → changes ≡ operation_changes all operation) → IsBatchOf rows (operation_bytes operation) changes
unfolding Leads
wide_is_batch rows operation changes fits wide are_changes = record {
  items = operation ∷ [];
  fit = (fits, tt);
  bytes_are = sym (append-nil (operation_bytes operation));
  comes = λ all are based.
      let made = become (operation_changes all operation) all are.in_order in
      let leads : Leads all (operation ∷ []) made.0 = (made.0, possible all operation wide, made.1, refl) in
      record {
        after = made.0;
        leads = leads;
        based = based_after all (operation ∷ []) made.0 based leads (never_at_fault made.0 (operation ∷ []) [] operation wide, tt);
        rows_are = λ key. made.1.rows key ∙ ap (λ (changes : List Change). row_after changes key (row_of all key)) (sym (are_changes all are));
      };
}

-- Operations that are read and applied one after another.
use Rattle.std.proofs.Common.{◌≡◌, ℕ, ◌+◌, List, [], ◌∷◌, ◌++◌, length, Ok, refl, sym, ◌∙◌, ap, subst, arith}
use Rattle.std.proofs.lemmas.List.{append-nil, length-append}
use Rattle.std.proofs.lemmas.List.Concat.{flat_map-append}
use Rattle.oz_fields.specs.Field.{AreBytes}
use Rattle.oz_rows.specs.declared.operation.Operation.{Operation}
use Rattle.oz_rows.specs.Operations.{operation_bytes, AreOperations, batch_bytes}
use Rattle.oz_rows.specs.Reading.{operation_at}
use Rattle.oz_rows.specs.laws.Batches.{one_more}
use Rattle.oz_rows.specs.laws.OperationReads.{operation_reads}
use Rattle.oz_tables.specs.declared.built.body.Step.{Step}
use Rattle.oz_rows.specs.declared.entry.RowEntry.{RowEntry}
use Rattle.oz_effects.specs.Effects.{Leads, IsPossible, operation_changes}
use Rattle.oz_rows.specs.RowMaps.{Becomes}
use Rattle.oz_tables.specs.built.Steps.{operations_of, AreLeft, StepsLead}

pub leads_push : (before : List RowEntry) (items : List Operation) (operation : Operation) (between after : List RowEntry) → Leads before items between → IsPossible between operation → Becomes between (operation_changes between operation) after → Leads before (items ++ operation ∷ []) after
unfolding Leads
leads_push before [] operation between after leads possible becomes = (after, subst (λ (rows : List RowEntry). IsPossible rows operation) leads possible, subst (λ (rows : List RowEntry). Becomes rows (operation_changes rows operation) after) leads becomes, refl)
leads_push before (first ∷ items) operation between after (one, possible_first, becomes_first, leads) possible becomes = (one, possible_first, becomes_first, leads_push one items operation between after leads possible becomes)

operations_push : (steps : List Step) (step : Step) → operations_of (steps ++ step ∷ []) ≡ operations_of steps ++ step.operation ∷ []
operations_push [] step = refl
operations_push (first ∷ steps) step = ap (λ (items : List Operation). first.operation ∷ items) (operations_push steps step)

batch_push : (items : List Operation) (operation : Operation) → length (batch_bytes (items ++ operation ∷ [])) ≡ length (batch_bytes items) + length (operation_bytes operation)
batch_push items operation =
    ap length (flat_map-append operation_bytes items (operation ∷ []) ∙ ap (λ (text : List ℕ). batch_bytes items ++ text) (append-nil (operation_bytes operation)))
    ∙ length-append (batch_bytes items) (operation_bytes operation)

left_push : (steps : List Step) (step : Step) (rest after : ℕ) → rest ≡ length (operation_bytes step.operation) + after → step.left ≡ rest → AreLeft rest steps → AreLeft after (steps ++ step ∷ [])
left_push [] step rest after parts is left =
    let one : length (batch_bytes (step.operation ∷ [])) ≡ length (operation_bytes step.operation) = ap length (append-nil (operation_bytes step.operation)) in
    (omega (arith, one, parts, is), tt)
left_push (first ∷ steps) step rest after parts is left =
    let more : length (batch_bytes (operations_of (first ∷ (steps ++ step ∷ [])))) ≡ length (batch_bytes (operations_of (first ∷ steps))) + length (operation_bytes step.operation)
    = ap (λ (items : List Operation). length (batch_bytes (first.operation ∷ items))) (operations_push steps step) ∙ batch_push (operations_of (first ∷ steps)) step.operation in
    (omega (arith, more, left.0, parts), left_push steps step rest after parts is left.1)

pub none_read : (bytes : List ℕ) (all : List RowEntry) → StepsLead all bytes [] bytes all
unfolding Leads
none_read bytes all = record { fit = tt; parts = refl; leads = refl; left = tt }

pub steps_more : (before : List RowEntry) (bytes : List ℕ) (steps : List Step) (rest : List ℕ) (between : List RowEntry) (operation : Operation) (behind : List ℕ) (after : List RowEntry)
    → AreBytes rest → operation_at rest ≡ Ok (operation, behind) → IsPossible between operation → Becomes between (operation_changes between operation) after
    → StepsLead before bytes steps rest between → StepsLead before bytes (steps ++ record { left = length rest; operation = operation } ∷ []) behind after
steps_more before bytes steps rest between operation behind after fit here possible becomes so_far =
    let step : Step = record { left = length rest; operation = operation } in
    let pushed = operations_push steps step in
    let read = one_more (operations_of steps) operation bytes rest behind fit here (so_far.fit, so_far.parts) in
    let spelled = operation_reads.one_spelling rest operation behind fit here in
    let sizes : length rest ≡ length (operation_bytes operation) + length behind = ap length spelled.1 ∙ length-append (operation_bytes operation) behind in
    record {
      fit = subst AreOperations (sym pushed) read.0;
      parts = read.1 ∙ ap (λ (items : List Operation). batch_bytes items ++ behind) (sym pushed);
      leads = subst (λ (items : List Operation). Leads before items after) (sym pushed) (leads_push before (operations_of steps) operation between after so_far.leads possible becomes);
      left = left_push steps step (length rest) (length behind) sizes refl so_far.left;
    }

-- What one body makes, and where it is damaged.
use Rattle.std.proofs.Common.{◌≡◌, ℕ, ◌+◌, ◌-◌, List, [], ◌∷◌, ◌++◌, length, refl, ◌∙◌, ap, subst, inr, arith}
use Rattle.std.proofs.lemmas.List.{append-nil, length-append}
use Rattle.std.proofs.lemmas.List.Concat.{flat_map-append}
use Rattle.oz_rows.specs.declared.operation.Head.{Head}
use Rattle.oz_rows.specs.declared.operation.Operation.{Operation}
use Rattle.oz_rows.specs.Operations.{operation_bytes, batch_bytes, head_bytes, IsBody}
use Rattle.oz_tables.specs.declared.built.body.Step.{Step}
use Rattle.oz_rows.specs.declared.entry.RowEntry.{RowEntry}
use Rattle.oz_effects.specs.Build.{AllAreBased, NoneAtFault, IsNextBody, IsDamagedBody}
use Rattle.oz_tables.specs.built.Steps.{operations_of, AreLeft, BatchLeads, HeadRises, FirstAtFault}
use Rattle.oz_effects.specs.laws.Based.{based_after}

operations_split : (earlier : List Step) (step : Step) (later : List Step) → operations_of (earlier ++ step ∷ later) ≡ operations_of earlier ++ step.operation ∷ operations_of later
operations_split [] step later = refl
operations_split (first ∷ earlier) step later = ap (λ (items : List Operation). first.operation ∷ items) (operations_split earlier step later)

left_at : (earlier : List Step) (step : Step) (later : List Step) → AreLeft 0 (earlier ++ step ∷ later) → step.left ≡ length (batch_bytes (operations_of (step ∷ later))) + 0
left_at [] step later left = left.0
left_at (first ∷ earlier) step later left = left_at earlier step later left.1

module _ (last : Head) (before : List RowEntry) (bytes : List ℕ) (head : Head) (rest : List ℕ) (rising : HeadRises last bytes head rest) where
  module _ (steps : List Step) (after : List RowEntry) (leads : BatchLeads before rest steps after) where
    is_body : IsBody bytes (record { layout = head.layout; index = head.index; items = operations_of steps })
    is_body = (rising.fits, leads.fit, rising.parts ∙ ap (λ (rest : List ℕ). head_bytes head ++ rest) (leads.parts ∙ append-nil (batch_bytes (operations_of steps))))

    pub body_follows : AllAreBased before → NoneAtFault after (operations_of steps) (operations_of steps) [] → IsNextBody last before bytes (record { layout = head.layout; index = head.index; items = operations_of steps }) after
    body_follows based none = record { body_is = is_body; rises = rising.rises; leads = leads.leads; based = based_after before (operations_of steps) after based leads.leads none }

    pub orphan_left : (left : ℕ) → FirstAtFault after steps left → IsDamagedBody last before bytes (length bytes - left)
    orphan_left left first = inr (inr (record {
      body = record { layout = head.layout; index = head.index; items = operations_of steps };
      after = after;
      earlier = operations_of first.earlier;
      operation = first.step.operation;
      later = operations_of first.later;
      body_is = is_body;
      rises = rising.rises;
      leads = leads.leads;
      parts = ap operations_of first.parts ∙ operations_split first.earlier first.step first.later;
      first = first.first;
      at_fault = first.at_fault;
      begins = place;
    }))
      where
        batch_parts : batch_bytes (operations_of steps) ≡ batch_bytes (operations_of first.earlier) ++ batch_bytes (operations_of (first.step ∷ first.later))
        batch_parts = ap batch_bytes (ap operations_of first.parts ∙ operations_split first.earlier first.step first.later) ∙ flat_map-append operation_bytes (operations_of first.earlier) (operations_of (first.step ∷ first.later))

        so_many : length bytes ≡ length (head_bytes head) + (length (batch_bytes (operations_of first.earlier)) + length (batch_bytes (operations_of (first.step ∷ first.later))))
        so_many =
            ap length (is_body.2 ∙ ap (λ (batch : List ℕ). head_bytes head ++ batch) batch_parts)
            ∙ length-append (head_bytes head) (batch_bytes (operations_of first.earlier) ++ batch_bytes (operations_of (first.step ∷ first.later)))
            ∙ ap (λ (n : ℕ). length (head_bytes head) + n) (length-append (batch_bytes (operations_of first.earlier)) (batch_bytes (operations_of (first.step ∷ first.later))))

        step_left : first.step.left ≡ length (batch_bytes (operations_of (first.step ∷ first.later))) + 0
        step_left = left_at first.earlier first.step first.later (subst (AreLeft 0) first.parts leads.left)

        place : length bytes - left ≡ length (head_bytes head) + length (batch_bytes (operations_of first.earlier))
        place = omega (arith, so_many, step_left, first.left_is)

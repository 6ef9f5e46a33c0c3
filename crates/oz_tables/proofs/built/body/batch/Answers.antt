use Rattle.std.proofs.Common.{List, refl, sym, ◌∙◌, subst, arith}
use Rattle.oz_fields.specs.laws.Bytes.{AreBytes-behind}
use Rattle.oz_rows.specs.Operations.{batch_bytes}
use Rattle.oz_rows.specs.laws.Batches.{fewer_left}
use Rattle.oz_tables.specs.declared.built.body.Step.{Step}
use Rattle.oz_tables.specs.built.Steps.{operations_of, StepsLead}
use Rattle.oz_tables.proofs.built_lemmas.StepLists.{none_read, steps_more}
use Rattle.oz_tables.proofs.built.body.batch.Goals as goal

pub loop-rest-init : goal.loop-rest-init
loop-rest-init c = record {
  last_index = refl;
  lead = subst (λ (steps : List Step). StepsLead c.args.tables.now.rows c.args.bytes.now steps c.args.bytes.now c.args.tables.now.rows) (sym c.new-steps.ensures.items) (none_read c.args.bytes.now c.args.tables.now.rows);
}

pub loop-rest-smaller : goal.loop-rest-smaller
loop-rest-smaller c =
    let fit = AreBytes-behind c.args.bytes.now (batch_bytes (operations_of c.loop-rest.steps.items)) c.loop-rest.rest.now (λ k. omega (arith, c.type_inv.bytes k)) c.loop-rest.invariant.lead.parts in
    fewer_left c.in_ok-operation.operation c.loop-rest.rest.now c.in_ok-operation.after.now fit c.in_ok-operation.ensures

pub loop-rest-preserved : goal.loop-rest-preserved
loop-rest-preserved c =
    let fit = AreBytes-behind c.args.bytes.now (batch_bytes (operations_of c.loop-rest.steps.items)) c.loop-rest.rest.now (λ k. omega (arith, c.type_inv.bytes k)) c.loop-rest.invariant.lead.parts in
    record {
      last_index = c.perform.ensures.last_index ∙ c.loop-rest.invariant.last_index;
      lead = subst (λ (steps : List Step). StepsLead c.args.tables.now.rows c.args.bytes.now steps c.in_ok-operation.after.now c.perform.new.tables.rows) (sym c.in_ok-push.ensures.items)
          (steps_more c.args.tables.now.rows c.args.bytes.now c.loop-rest.steps.items c.loop-rest.rest.now c.loop-rest.tables.rows c.in_ok-operation.operation c.in_ok-operation.after.now c.perform.new.tables.rows
          fit c.in_ok-operation.ensures c.if-not-is_possible.ensures.possible c.in_ok-perform.ensures.becomes c.loop-rest.invariant.lead);
    }

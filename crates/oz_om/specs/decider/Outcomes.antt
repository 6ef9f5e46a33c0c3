-- What may come of a request.
use Rattle.std.specs.Prelude.{◌≡◌, ℕ, Option, None}
use Rattle.oz_om.specs.declared.decider.outcome.Outcome.{Outcome}
use Rattle.oz_om.specs.declared.decider.outcome.Outcome.TheVariants.{Decided}
use Rattle.oz_decision.specs.declared.decision.Decision.{Decision}
use Rattle.oz_fields.specs.declared.block.Block.{Block}
use Rattle.oz_model.specs.Refusals.{refusal}
use Rattle.oz_model.specs.Scope.{scope_of}
use Rattle.oz_namespace.specs.declared.namespace.Namespace.{Namespace}
use Rattle.oz_requests.specs.declared.request.Family.TheVariants.{Allocation}
use Rattle.oz_requests.specs.declared.request.Request.{Request}
use Rattle.oz_requests.specs.Families.{family_of}
use Rattle.oz_requests.specs.Names.{volume_in}

-- where there is a decision, this holds of it
abbrev pub IfDecided : Outcome → (Decision → Type 0) → Type 0
IfDecided (Decided decision) Holds = Holds decision
IfDecided outcome Holds = Unit {0}

-- a session is to get a block, no code applies, and none was picked
abbrev pub WantsBlock : Namespace → Request → Option (Block × ℕ) → Type 0
WantsBlock namespace request pick =
    (family_of request ≡ Allocation) × (refusal (scope_of namespace (volume_in request)) request ≡ None)
    × (pick ≡ None)

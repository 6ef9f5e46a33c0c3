-- No request of the service job is refused for want of a block.
use Rattle.std.proofs.Common.{◌≡◌, ℕ, List, Result, Ok, Err, sym, ap, ◌∙◌}
use Rattle.oz_core.specs.declared.event.Event.{Event}
use Rattle.oz_core.specs.declared.opening.Opening.{Opening}
use Rattle.oz_requests.specs.declared.request.Family.{Family}
use Rattle.oz_requests.specs.declared.request.Family.TheVariants.{Service}
use Rattle.oz_requests.specs.declared.request.Request.{Request}
use Rattle.oz_requests.specs.declared.request.Request.TheVariants.{AllocateBlock}
use Rattle.oz_requests.specs.Families.{family_of}
use Rattle.oz_om.specs.declared.refusal.Refusal.{Refusal}
use Rattle.oz_om.specs.declared.refusal.Refusal.TheVariants as refusals
use Rattle.oz_om.specs.Refusals.{RefusalHolds}
use Rattle.oz_om.specs.Served.{WaitsForNoOther, service_id}

error_of : Result ℕ Refusal → Refusal
error_of (Err refusal) = refusal
error_of (Ok index) = refusals.Early

pub one_error : (one other : Refusal) → ◌≡◌ {A = Result ℕ Refusal} (Err one) (Err other) → one ≡ other
unfolding error_of
one_error one other same = ap error_of same

pub never_empty : (Coherent : Type 0) (opening : Opening) (story : List Event) (request : Request) → WaitsForNoOther story request
    → family_of request ≡ Service → Coherent → (stripe : ℕ) → RefusalHolds Coherent opening story service_id (refusals.PoolEmpty stripe) → ⊥
never_empty Coherent opening story request waits service coherent stripe holds =
    let empty = holds.1 coherent in
    let same = waits (AllocateBlock empty.volume empty.bucket empty.key empty.session empty.exclude) empty.asked in
    let other : family_of (AllocateBlock empty.volume empty.bucket empty.key empty.session empty.exclude) ≡ Service = ap family_of same ∙ service in
    absurd cc

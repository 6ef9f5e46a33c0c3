-- What stands in a story stands in each that begins with it; and how the asker's seat is refused.
use Rattle.std.proofs.Common.{◌≡◌, ◌≤◌, ℕ, zero, suc, List, [], ◌∷◌, ◌++◌, length, length-append, append-nil, Some, Result, Ok, Err, refl, sym, ap, ◌∙◌, arith}
use Rattle.std.proofs.lemmas.Option.{none-some}
use Rattle.std.specs.Prelude.{slice_get}
use Rattle.oz_asker.specs.Asked.{IsAskAt}
use Rattle.oz_asker.specs.declared.fault.AskFault.{AskFault}
use Rattle.oz_asker.specs.declared.fault.AskFault.TheVariants as faults
use Rattle.oz_core.specs.declared.event.Event.{Event}
use Rattle.oz_requests.specs.declared.reply.Reply.{Reply}
use Rattle.oz_requests.specs.declared.request.AskId.{AskId}
use Rattle.oz_requests.specs.declared.request.Request.{Request}
use Rattle.oz_turn.specs.Told.{BeginsWith}
use Rattle.oz_om.specs.declared.refusal.Refusal.{Refusal}
use Rattle.oz_om.specs.declared.refusal.Refusal.TheVariants as refusals
use Rattle.oz_om.specs.Refusals.{AskStands, refusal_of}

there_still : {A : Type 0} (l more : List A) (k : ℕ) (x : A) → slice_get l k ≡ Some x → slice_get (l ++ more) k ≡ Some x
there_still [] more k x is = absurd (none-some x is)
there_still (y ∷ l) more zero x is = is
there_still (y ∷ l) more (suc k) x is = there_still l more k x is

pub asked_still : (story seen : List Event) (place : ℕ) (id : AskId) (request : Request) → BeginsWith story seen → IsAskAt seen place id request → IsAskAt story place id request
asked_still story seen place id request begins ask =
    (ask.0, ap (λ (l : List Event). slice_get l place) begins.1 ∙ there_still seen begins.0 place _ ask.1)

pub longer : (story seen : List Event) → BeginsWith story seen → length seen ≤ length story
longer story seen begins = omega (arith, ap length begins.1, length-append seen begins.0)

pub begins_itself : {A : Type 0} (l : List A) → BeginsWith l l
begins_itself l = ([], sym (append-nil l))

err_of : Result Reply Refusal → Refusal
err_of (Err refusal) = refusal
err_of (Ok reply) = refusals.Early

pub one_err : (one other : Refusal) → ◌≡◌ {A = Result Reply Refusal} (Err one) (Err other) → one ≡ other
unfolding err_of
one_err one other same = ap err_of same

fault_of : Result ℕ AskFault → AskFault
fault_of (Err fault) = fault
fault_of (Ok place) = faults.Early

pub one_fault : (one other : AskFault) → ◌≡◌ {A = Result ℕ AskFault} (Err one) (Err other) → one ≡ other
unfolding fault_of
one_fault one other same = ap fault_of same

pub fault_stands : (story : List Event) (id : AskId) (request : Request) (fault : AskFault)
    → ((count : ℕ) → fault ≡ faults.Stopped count → (place : ℕ) × IsAskAt story place id request) → AskStands story id request (Err (refusal_of fault))
fault_stands story id request faults.OtherBlocks stands = tt
fault_stands story id request faults.Early stands = tt
fault_stands story id request (faults.Stopped count) stands = stands count refl
fault_stands story id request faults.OutOfMemory stands = tt

-- where a refusal comes once the Ask stands
pub refused_stands : (story : List Event) (id : AskId) (request : Request) (refusal : Refusal) → (place : ℕ) × IsAskAt story place id request
    → AskStands story id request (Err refusal)
refused_stands story id request refusals.OtherBlocks stands = tt
refused_stands story id request refusals.Early stands = tt
refused_stands story id request (refusals.Stopped count) stands = stands
refused_stands story id request (refusals.PoolEmpty stripe) stands = stands
refused_stands story id request (refusals.Later held asked) stands = stands
refused_stands story id request refusals.OutOfMemory stands = tt

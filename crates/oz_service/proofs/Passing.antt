-- What a pass found, step by step.
use Rattle.std.proofs.Common.{◌≡◌, append-nil, ⊎_elim, ℕ, ◌<◌, ◌≤◌, ◌+◌, nat_lt, ◌||◌, Bool, true, false, List, [], ◌++◌, Option, None, Some, refl, sym, ◌∙◌, ap, subst, arith}
use Rattle.std.proofs.lemmas.Bool.{false≢true}
use Rattle.std.proofs.lemmas.Bool.Decides.{nat_tests}
use Rattle.oz_core.specs.declared.event.Event.{Event}
use Rattle.oz_core.specs.declared.opening.Opening.{Opening}
use Rattle.oz_names.specs.declared.limits.TheConstants.{STRIPES}
use Rattle.oz_om.specs.Purging.{HadNoRows, NoneHadAny}
use Rattle.oz_om.specs.Working.{HadNone, HadWork, IsFirstWork, NoneBelow}
use Rattle.oz_reclaim.specs.Work.{WorksOff}
use Rattle.oz_requests.specs.declared.request.Family.TheVariants.{Service}
use Rattle.oz_requests.specs.declared.request.Request.{Request}
use Rattle.oz_requests.specs.Families.{family_of}
use Rattle.oz_rows.specs.RowMaps.{Rows}
use Rattle.oz_service.specs.declared.pass.passing.Passed.TheVariants.{Idle}
use Rattle.oz_service.specs.Pass.{FoundWork, outcome_of}
use Rattle.oz_service.specs.Sending.{NoneIsToSend}
use Rattle.oz_service.proofs.Going.{begins_then}
use Rattle.oz_turn.specs.Told.{BeginsWith}

below : (a b : ℕ) → nat_lt a b ≡ true → a < b
below a b e = grind (arith, nat_tests, e)

not_below : (a b : ℕ) → nat_lt a b ≡ false → b ≤ a
not_below a b e = grind (arith, nat_tests, e)

-- ---- what was found between two places was found between two that lie around them

module _ (first second third fourth : List Event) (earlier : BeginsWith second first) (later : BeginsWith fourth third) where
  pub no_rows_around : (Coherent : Type 0) (opening : Opening) (loaded : Rows) (stripe : ℕ)
      → HadNoRows Coherent opening loaded stripe second third → HadNoRows Coherent opening loaded stripe first fourth
  no_rows_around Coherent opening loaded stripe it = record {
    story = it.story;
    behind = begins_then first second it.story earlier it.behind;
    seen = begins_then it.story third fourth it.seen later;
    none = it.none;
  }

  pub rows_around : (Coherent : Type 0) (opening : Opening) (loaded : Rows) (end : ℕ)
      → NoneHadAny Coherent opening loaded end second third → NoneHadAny Coherent opening loaded end first fourth
  rows_around Coherent opening loaded end none stripe less = no_rows_around Coherent opening loaded stripe (none stripe less)

  pub work_around : (opening : Opening) (loaded : Rows) (end : ℕ) → NoneBelow opening loaded end second third → NoneBelow opening loaded end first fourth
  work_around opening loaded end none stripe less =
      let it = none stripe less in record {
        story = it.story;
        behind = begins_then first second it.story earlier it.behind;
        seen = begins_then it.story third fourth it.seen later;
        none = it.none;
      }

  pub sent_around : (opening : Opening) → NoneIsToSend opening second third → NoneIsToSend opening first fourth
  sent_around opening it = record {
    place = it.place;
    since = begins_then first second it.place earlier it.since;
    within = begins_then it.place third fourth it.within later;
    so = it.so;
  }

-- ---- stripe by stripe

pub one_stripe_more : (Coherent : Type 0) (opening : Opening) (loaded : Rows) (n : ℕ) (first before after : List Event)
    → BeginsWith before first → BeginsWith after before → NoneHadAny Coherent opening loaded n first before
    → HadNoRows Coherent opening loaded n before after → NoneHadAny Coherent opening loaded (n + 1) first after
one_stripe_more Coherent opening loaded n first before after earlier later none now stripe less = by (nat_lt stripe n) refl
  where
    by : (t : Bool) → nat_lt stripe n ≡ t → HadNoRows Coherent opening loaded stripe first after
    by true e = no_rows_around first first before after ([], sym (append-nil first)) later Coherent opening loaded stripe (none stripe (below stripe n e))
    by false e =
        let above = not_below stripe n e in
        let same : n ≡ stripe = omega (arith, above, less) in
        subst (λ (m : ℕ). HadNoRows Coherent opening loaded m first after) same
        (no_rows_around first before after after earlier ([], sym (append-nil after)) Coherent opening loaded n now)

-- ---- what is found of deleted snapshots

works_for_service : (all : Rows) (volume bucket : List ℕ) (number : ℕ) (request : Request) → WorksOff all volume bucket number request → family_of request ≡ Service
works_for_service all volume bucket number request = ⊎_elim (λ moves. ap family_of moves.1) (λ purges. ap family_of purges.0)

pub found_first : (opening : Opening) (loaded : Rows) (first before after : List Event) (request : Option Request) → BeginsWith after before
    → IsFirstWork opening loaded first before request → FoundWork opening loaded first after request
found_first opening loaded first before after None later none = work_around first first before after ([], sym (append-nil first)) later opening loaded STRIPES none
found_first opening loaded first before after (Some request) later it =
    let had = it.3 in
    works_for_service had.rows had.work.0 had.work.1 had.work.2 request had.work.4

-- ---- what a pass answers

pub neither : (a b : Bool) → (a || b) ≡ false → (a ≡ false) × (b ≡ false)
neither true b e = absurd (false≢true (sym e))
neither false b e = (refl, e)

pub idle_of : (any flushed : Bool) → outcome_of any flushed ≡ Idle → (any ≡ false) × (flushed ≡ true)
idle_of true flushed e = absurd cc
idle_of false true e = (refl, refl)
idle_of false false e = absurd cc

-- Which asks need more ids, event by event.
use Rattle.std.proofs.Common.{ℕ, ◌+◌, List, get_or, refl, sym, subst, ◌⊎◌}
use Rattle.std.proofs.lemmas.List.Elements.{All-contains, Contains-get_or}
use Rattle.std.specs.List.{All, Any, Contains}
use Rattle.oz_requests.specs.declared.request.Exclude.{Exclude}
use Rattle.oz_requests.specs.declared.request.Request.{Request}
use Rattle.oz_requests.specs.declared.request.Request.TheVariants as requests
use Rattle.oz_requests.specs.declared.request.AskId.{AskId}
use Rattle.oz_core.specs.declared.event.Event.{Event}
use Rattle.oz_core.specs.declared.event.EventKind.{EventKind}
use Rattle.oz_core.specs.declared.event.EventKind.TheVariants as kind
use Rattle.oz_core.specs.declared.opening.Opening.{Opening}
use Rattle.oz_core.specs.Grants.{IsExcluded, IsSpent}
use Rattle.oz_core.specs.Law.{IsNeeded}
use Rattle.oz_core.specs.Manager.{IsUsed}
use Rattle.oz_scm_law.specs.Words.{block_at, IsSpentIn, NeedsMoreIn, NeedsMore}

abbrev an_event : ℕ → EventKind → Event
an_event seat kind = record { seat = seat; kind = kind }

pub spent : (opening : Opening) (story : List Event) (stripe : ℕ) (exclude : Exclude) → All (λ (event : Event). IsSpentIn opening story stripe exclude event.kind) story → IsSpent opening story stripe exclude
spent opening story stripe exclude all block pipeline is =
    let here = All-contains (λ (event : Event). IsSpentIn opening story stripe exclude event.kind) story (an_event is.seat (kind.Grant stripe block.container pipeline is.first is.count)) all is.there refl is.place is.within in
    subst (λ (n : ℕ). IsUsed opening story (block_at block.container n) ⊎ IsExcluded exclude (block_at block.container n) pipeline) (sym is.local) here

spent-kind : (opening : Opening) (story : List Event) (stripe : ℕ) (exclude : Exclude) → IsSpent opening story stripe exclude → (seat : ℕ) (kind : EventKind) → Contains story (an_event seat kind) → IsSpentIn opening story stripe exclude kind
spent-kind opening story stripe exclude is seat (kind.Grant to container pipeline first count) there = λ same place within.
    is (block_at container (first + place)) pipeline (record {
      seat = seat;
      first = first;
      count = count;
      there = subst (λ (n : ℕ). Contains story (an_event seat (kind.Grant n container pipeline first count))) same there;
      place = place;
      within = within;
      local = refl;
    })
spent-kind opening story stripe exclude is seat kind there = tt

pub spent-each : (opening : Opening) (story : List Event) (stripe : ℕ) (exclude : Exclude) → IsSpent opening story stripe exclude → All (λ (event : Event). IsSpentIn opening story stripe exclude event.kind) story
spent-each opening story stripe exclude is k d below =
    spent-kind opening story stripe exclude is (get_or story k d).seat (get_or story k d).kind (Contains-get_or story k d below)

needed-in : (opening : Opening) (story : List Event) (stripe container pipeline seat : ℕ) (id : AskId) (request : Request) → Contains story (an_event seat (kind.Ask id request)) → NeedsMoreIn opening story stripe container pipeline request → IsNeeded opening story stripe container pipeline
needed-in opening story stripe container pipeline seat id (requests.AllocateBlock volume bucket key session exclude) there needs = record {
  seat = seat;
  id = id;
  volume = volume;
  bucket = bucket;
  key = key;
  session = session;
  exclude = exclude;
  asked = there;
  of_stripe = needs.0;
  container_allowed = needs.1.container_allowed;
  pipeline_allowed = needs.1.pipeline_allowed;
  none_left = needs.1.none_left;
}
needed-in opening story stripe container pipeline seat id request there needs = absurd needs

needed-kind : (opening : Opening) (story : List Event) (stripe container pipeline seat : ℕ) (kind : EventKind) → Contains story (an_event seat kind) → NeedsMore opening story stripe container pipeline kind → IsNeeded opening story stripe container pipeline
needed-kind opening story stripe container pipeline seat (kind.Ask id request) there needs = needed-in opening story stripe container pipeline seat id request there needs
needed-kind opening story stripe container pipeline seat kind there needs = absurd needs

pub needed : (opening : Opening) (story : List Event) (stripe container pipeline : ℕ) → Any (λ (event : Event). NeedsMore opening story stripe container pipeline event.kind) story → IsNeeded opening story stripe container pipeline
needed opening story stripe container pipeline any = needed-kind opening story stripe container pipeline any.1.seat any.1.kind (any.0, any.2, any.3) any.4

pub needed-finds : (opening : Opening) (story : List Event) (stripe container pipeline : ℕ) → IsNeeded opening story stripe container pipeline → Any (λ (event : Event). NeedsMore opening story stripe container pipeline event.kind) story
needed-finds opening story stripe container pipeline is = (
  is.asked.0,
  an_event is.seat (kind.Ask is.id (requests.AllocateBlock is.volume is.bucket is.key is.session is.exclude)),
  is.asked.1,
  is.asked.2,
  (is.of_stripe, record { container_allowed = is.container_allowed; pipeline_allowed = is.pipeline_allowed; none_left = is.none_left }),
)

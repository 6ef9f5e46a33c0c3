-- How the service job's seat goes on, step by step.
use Rattle.std.proofs.Common.{◌≡◌, ◌⊎◌, ⊎_elim, List, [], ◌∷◌, ◌++◌, map, append-nil, append_assoc, refl, sym, ap, ◌∙◌}
use Rattle.std.proofs.lemmas.List.{map-append}
use Rattle.oz_core.specs.declared.event.Event.{Event}
use Rattle.oz_om.specs.Served.{AddsAsk, service_ask}
use Rattle.oz_requests.specs.declared.request.Request.{Request}
use Rattle.oz_turn.specs.Told.{BeginsWith}
use Rattle.oz_service.specs.Pass.{AskedMore, GoesOn, LooksOn, ServiceView}

pub begins_same : (story : List Event) → BeginsWith story story
begins_same story = ([], sym (append-nil story))

pub begins_then : (first second third : List Event) → BeginsWith second first → BeginsWith third second → BeginsWith third first
begins_then first second third one two =
    (one.0 ++ two.0, two.1 ∙ (ap (λ (l : List Event). l ++ two.0) one.1 ∙ append_assoc first one.0 two.0))

pub asked_none : (before after : List Event) → after ≡ before → AskedMore before after
asked_none before after same = record { requests = []; added = same ∙ sym (append-nil before) }

pub asked_then : (first second third : List Event) → AskedMore first second → AskedMore second third → AskedMore first third
asked_then first second third one two = record {
  requests = one.requests ++ two.requests;
  added = two.added
      ∙ (ap (λ (l : List Event). l ++ map service_ask two.requests) one.added
      ∙ (append_assoc first (map service_ask one.requests) (map service_ask two.requests)
      ∙ ap (λ (l : List Event). first ++ l) (sym (map-append service_ask one.requests two.requests))));
}

pub asked_one : (story before after : List Event) (request : Request) → (after ≡ before) ⊎ AddsAsk story before after request → AskedMore before after
asked_one story before after request = ⊎_elim (asked_none before after) (λ adds. record { requests = request ∷ []; added = adds.added })

pub stays : (it : ServiceView) → GoesOn it it
stays it = record { seen = begins_same it.seen; mine = asked_none it.mine it.mine refl }

pub goes_then : (first second third : ServiceView) → GoesOn first second → GoesOn second third → GoesOn first third
goes_then first second third one two = record {
  seen = begins_then first.seen second.seen third.seen one.seen two.seen;
  mine = asked_then first.mine second.mine third.mine one.mine two.mine;
}

pub looked_goes : (first second : ServiceView) → LooksOn first second → GoesOn first second
looked_goes first second looks = record { seen = looks.seen; mine = asked_none first.mine second.mine looks.mine }

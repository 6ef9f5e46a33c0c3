-- The service job goes on, pass by pass.
use Rattle.std.proofs.Common.{◌≡◌, ◌++◌, List, append_assoc, ap, ◌∙◌, sym, map}
use Rattle.std.proofs.lemmas.List.{map-append}
use Rattle.oz_core.specs.declared.event.Event.{Event}
use Rattle.oz_service.specs.Pass.{AskedMore, GoesOn, ServiceView}
use Rattle.oz_turn.specs.Told.{BeginsWith}

begins_then : (first second third : List Event) → BeginsWith second first → BeginsWith third second → BeginsWith third first
begins_then first second third one two =
    (one.0 ++ two.0, two.1 ∙ (ap (λ (l : List Event). l ++ two.0) one.1 ∙ append_assoc first one.0 two.0))

mapped_then : {A B : Type 0} (f : A → B) (first second third : List B) (one two : List A) → second ≡ first ++ map f one → third ≡ second ++ map f two
    → third ≡ first ++ map f (one ++ two)
mapped_then {A} {B} f first second third one two before after =
    after
    ∙ (ap (λ (l : List B). l ++ map f two) before
    ∙ (append_assoc first (map f one) (map f two)
    ∙ ap (λ (l : List B). first ++ l) (sym (map-append f one two))))

asked_then : (first second third : List Event) → AskedMore first second → AskedMore second third → AskedMore first third
asked_then first second third one two = record {
  requests = one.requests ++ two.requests;
  added = mapped_then _ first second third one.requests two.requests one.added two.added;
}

pub freed_then : (first second third : ServiceView) → GoesOn first second → GoesOn second third → GoesOn first third
freed_then first second third one two = record {
  seen = begins_then first.seen second.seen third.seen one.seen two.seen;
  mine = asked_then first.mine second.mine third.mine one.mine two.mine;
}

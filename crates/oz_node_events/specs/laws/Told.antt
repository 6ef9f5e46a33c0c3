-- What came of notes stands in the story, and of more notes in what was told further on.
use Rattle.std.proofs.Common.{◌≡◌, ℕ, List, [], ◌∷◌, ◌++◌, refl, sym, ap, ◌∙◌, subst, append_assoc}
use Rattle.std.specs.Prelude.{map}
use Rattle.oz_core.specs.declared.event.Event.{Event}
use Rattle.oz_replicas.specs.declared.note.Note.{Note}
use Rattle.oz_requests.specs.declared.request.AskId.{AskId}
use Rattle.oz_node_events.specs.Noting.{AreTold, IsNotedBy, NotingView, StandIn, event_of}

stand_later : (events front story : List Event) → StandIn events story → StandIn events (front ++ story)
stand_later [] front story stand = tt
stand_later (event ∷ events) front story stand =
    (front ++ stand.0, (stand.1.0, (ap (λ l. front ++ l) stand.1.1.0 ∙ sym (append_assoc front stand.0 (event ∷ stand.1.0)), stand.1.1.1)))

stand_joined : (one other front story : List Event) → StandIn one front → StandIn other story
    → StandIn (one ++ other) (front ++ story)
stand_joined [] other front story first then = stand_later other front story then
stand_joined (event ∷ one) other front story first then = (
  first.0,
  (
    first.1.0 ++ story,
    (
      ap (λ l. l ++ story) first.1.1.0 ∙ append_assoc first.0 (event ∷ first.1.0) story,
      stand_joined one other first.1.0 story first.1.1.1 then,
    ),
  ),
)

map_parts : {A B : Type 0} (f : A → B) (one other : List A) → map f (one ++ other) ≡ map f one ++ map f other
map_parts f [] other = refl
map_parts f (x ∷ one) other = ap (λ l. f x ∷ l) (map_parts f one other)

pub told_joined : (id other : AskId) (first place : ℕ) (before after : List Note) (a b c : List Event)
    → other ≡ id → place ≡ first → AreTold id first before a b → AreTold other place after b c
    → AreTold id first (before ++ after) a c
told_joined id other first place before after a b c same at one two =
    let then = subst (λ (i : AskId). AreTold i first after b c) same (subst (λ (n : ℕ). AreTold other n after b c) at two) in
    record {
      since = one.since ++ then.since;
      goes_on = then.goes_on ∙ (ap (λ l. l ++ then.since) one.goes_on ∙ append_assoc a one.since then.since);
      told = subst (λ (l : List Event). StandIn l (one.since ++ then.since)) (sym (map_parts (event_of id first) before after))
          (stand_joined (map (event_of id first) before) (map (event_of id first) after) one.since then.since one.told then.told);
    }

-- a noter that has seen this
abbrev with_seen : List Event → NotingView → NotingView
with_seen seen noter = record {
  reference = noter.reference;
  by = noter.by;
  seen = seen;
  mine = noter.mine;
  room = noter.room;
  id = noter.id;
  first = noter.first;
  subject = noter.subject;
}

pub noted_joined : (first second third : NotingView) (before after : List Note) → IsNotedBy first before second
    → IsNotedBy second after third → IsNotedBy first (before ++ after) third
noted_joined first second third before after one two = record {
  same = two.same ∙ ap (with_seen third.seen) one.same;
  told = told_joined first.id second.id first.first second.first before after first.seen second.seen third.seen
      (ap (λ (v : NotingView). v.id) one.same) (ap (λ (v : NotingView). v.first) one.same) one.told two.told;
}

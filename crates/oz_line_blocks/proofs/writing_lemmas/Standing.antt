-- Answers that stand in a part of a story stand in the whole.
use Rattle.std.proofs.Common.{◌≡◌, ℕ, Bool, true, List, [], ◌∷◌, take, drop, Option, None, Some, Contains, sym, ap, ◌∙◌, subst}
use Rattle.std.proofs.lemmas.Bool.{or_left, or_right}
use Rattle.std.proofs.lemmas.List.{take-append-drop}
use Rattle.std.proofs.lemmas.List.Elements.{Contains-append_left}
use Rattle.std.proofs.lemmas.List.Folds.{list_any-append}
use Rattle.oz_core.specs.declared.event.Event.{Event}
use Rattle.oz_core.specs.declared.event.EventKind.{EventKind}
use Rattle.oz_core.specs.declared.event.EventKind.TheVariants.{Refused}
use Rattle.oz_core.specs.declared.event.PutRefusal.{PutRefusal}
use Rattle.oz_core.specs.Law.{puts}
use Rattle.oz_core.specs.Seats.{datanode_seat}
use Rattle.oz_core.specs.Stories.{has_event}
use Rattle.oz_fields.specs.declared.block.Block.{Block}
use Rattle.oz_requests.specs.declared.request.AskId.{AskId}
use Rattle.oz_turn.specs.Told.{BeginsWith}
use Rattle.oz_underway.specs.UnderWay.{HasAnswered, HaveAnswered}

-- of the first of a list, and of what is behind them
has_before : (is : EventKind → Bool) (n : ℕ) (story : List Event) → has_event is (take n story) ≡ true → has_event is story ≡ true
has_before is n story so =
    subst (λ (l : List Event). has_event is l ≡ true) (take-append-drop n story)
    (list_any-append (λ (event : Event). is event.kind) (take n story) (drop n story)
    ∙ or_left (has_event is (take n story)) (has_event is (drop n story)) so)

has_behind : (is : EventKind → Bool) (n : ℕ) (story : List Event) → has_event is (drop n story) ≡ true → has_event is story ≡ true
has_behind is n story so =
    subst (λ (l : List Event). has_event is l ≡ true) (take-append-drop n story)
    (list_any-append (λ (event : Event). is event.kind) (take n story) (drop n story)
    ∙ or_right (has_event is (take n story)) (has_event is (drop n story)) so)

pub has_within : (is : EventKind → Bool) (n m : ℕ) (story : List Event) → has_event is (take m (drop n story)) ≡ true → has_event is story ≡ true
has_within is n m story so = has_behind is n story (has_before is m (drop n story) so)

-- in a story that goes on
pub has_later : (is : EventKind → Bool) (later story : List Event) → BeginsWith later story → has_event is story ≡ true → has_event is later ≡ true
has_later is later story begins so =
    ap (has_event is) begins.1
    ∙ (list_any-append (λ (event : Event). is event.kind) story begins.0
    ∙ or_left (has_event is story) (has_event is begins.0) so)

module _ (id : AskId) (block : Block) (later story : List Event) (begins : BeginsWith later story) where
  answered_later : (dn : ℕ) (answer : Option PutRefusal) → HasAnswered story id block dn answer → HasAnswered later id block dn answer
  answered_later dn None put = has_later (puts dn block) later story begins put
  answered_later dn (Some refusal) there =
      let event : Event = record { seat = datanode_seat dn; kind = Refused dn block id refusal } in
      subst (λ (l : List Event). Contains l event) (sym begins.1) (Contains-append_left story begins.0 event there)

  pub all_answered_later : (dns : List ℕ) (answers : List (Option PutRefusal)) → HaveAnswered story id block dns answers → HaveAnswered later id block dns answers
  all_answered_later [] [] have = have
  all_answered_later [] (answer ∷ answers) have = have
  all_answered_later (dn ∷ dns) [] have = have
  all_answered_later (dn ∷ dns) (answer ∷ answers) have = (answered_later dn answer have.0, all_answered_later dns answers have.1)

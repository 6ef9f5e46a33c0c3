-- Where the last Ask of a line was decided.
use Rattle.std.proofs.Common.{◌≡◌, ◌≢◌, ⊎_elim, ℕ, suc, ◌<◌, List, [], ◌∷◌, ◌++◌, length, take, drop, refl, sym, ap, ◌∙◌, subst, append_assoc, arith}
use Rattle.oz_script.specs.declared.lines.script.Script.{Script}
use Rattle.oz_requests.specs.declared.request.AskId.{AskId}
use Rattle.oz_requests.specs.declared.reply.Reply.{Reply}
use Rattle.oz_core.specs.declared.event.Event.{Event}
use Rattle.oz_core.specs.declared.event.EventKind.TheVariants.{Decide}
use Rattle.oz_core.specs.declared.limits.TheConstants.{SERVICE_CLIENT}
use Rattle.oz_core.specs.declared.opening.Opening.{Opening}
use Rattle.oz_core.specs.Asks.{ask_id, asks_of}
use Rattle.oz_core.specs.Contents.{OpeningBytes}
use Rattle.oz_core.specs.Law.{DecideIsEnabled}
use Rattle.oz_asker.specs.Decided.{IsDecideAt}
use Rattle.oz_buffer.specs.Buffer.{AllFollow, Follows}
use Rattle.oz_kept.specs.laws.Deleted.{split_at}
use Rattle.oz_turn.specs.Told.{BeginsWith}
use Rattle.oz_underway.specs.laws.Asks.{asks_count, its_line, step_of_last}
use Rattle.oz_underway.specs.laws.Going.{either_way, follow_first, follow_front, follow_behind, no_fewer, none_more}
use Rattle.oz_underway.specs.laws.Replies.{pending_is_last}

-- behind a front, which begins with what stood since, the id was decided so
pub record IsDecidedSince (later since : List Event) (id : AskId) (reply : Reply) : Type 0 where
  pub front : List Event
  pub seat : ℕ
  pub index : ℕ
  pub batch : List ℕ
  pub behind : BeginsWith front since
  pub goes_on : BeginsWith later (front ++ record { seat = seat; kind = Decide id index reply batch } ∷ [])
  pub asked_so : asks_count id.client id.line (front ++ record { seat = seat; kind = Decide id index reply batch } ∷ []) ≡ id.step

module _ (Coherent : Type 0) (opening : Opening) (bytes : OpeningBytes) (script : Script) where
  pub decided_since : (later since : List Event) (place : ℕ) (id : AskId) (reply : Reply) → id.client ≢ SERVICE_CLIENT → Coherent
      → AllFollow (Follows Coherent opening bytes script) [] later → BeginsWith later since
      → asks_count id.client id.line since < id.step → IsDecideAt later place id reply → IsDecidedSince later since id reply
  decided_since later since place id reply other coherent all begins fewer (seat, index, batch, is) =
      let event : Event = record { seat = seat; kind = Decide id index reply batch } in
      let front = take place later in
      let rest = drop (suc place) later in
      let parts : later ≡ front ++ event ∷ rest = split_at later place event is in
      let follow = subst (λ (l : List Event). AllFollow (Follows Coherent opening bytes script) [] l) parts all in
      let before = follow_front (Follows Coherent opening bytes script) [] front (event ∷ rest) follow in
      let here = follow_first (Follows Coherent opening bytes script) front event rest
      (follow_behind (Follows Coherent opening bytes script) [] front (event ∷ rest) follow) in
      let enabled : DecideIsEnabled opening front seat id index reply batch = here.enabled coherent in
      let last = pending_is_last Coherent opening bytes script id.client id.line front other coherent before id
      (its_line id.client id.line id refl refl) enabled.request enabled.undecided in
      let step = step_of_last Coherent opening bytes script id.client id.line other front coherent before id last in
      record {
        front = front;
        seat = seat;
        index = index;
        batch = batch;
        behind = ⊎_elim
            (λ (so : BeginsWith front since). so)
            (λ (back : BeginsWith since front). absurd (omega (arith, no_fewer (ask_id id.client id.line) since front back, step, fewer)))
            (either_way front (event ∷ rest) since begins.0 (sym parts ∙ begins.1));
        goes_on = (rest, parts ∙ sym (append_assoc front (event ∷ []) rest));
        asked_so = ap length (none_more (ask_id id.client id.line) front event (asks_of id.client id.line front) refl refl) ∙ sym step;
      }

-- The reply that a line got last is that to its last Ask: what it names is read for that one.
use Rattle.std.proofs.Common.{
  ◌≡◌,
  ◌≢◌,
  ℕ,
  zero,
  suc,
  ◌+◌,
  ◌≤◌,
  Bool,
  true,
  false,
  not,
  ◌&&◌,
  cond,
  List,
  [],
  ◌∷◌,
  ◌++◌,
  length,
  Option,
  None,
  Some,
  Contains,
  All,
  refl,
  sym,
  ap,
  ◌∙◌,
  subst,
  append_assoc,
  arith,
}
use Rattle.std.proofs.lemmas.Bool.{ne_eqb}
use Rattle.std.proofs.lemmas.List.Elements.{All-contains, Contains-append_right}
use Rattle.std.proofs.lemmas.List.Sums.{fold_push}
use Rattle.std.proofs.lemmas.Option.{none-some, same_Some}
use Rattle.std.specs.List.{cons_option, slice_get}
use Rattle.std.specs.Option.{option_map_or}
use Rattle.oz_command.specs.declared.command.Command.{Command}
use Rattle.oz_fields.specs.declared.block.Piece.{Piece}
use Rattle.oz_script.specs.declared.lines.script.Line.{Line}
use Rattle.oz_script.specs.declared.lines.script.Script.{Script}
use Rattle.oz_requests.specs.declared.answer.Answer.TheVariants as told
use Rattle.oz_requests.specs.declared.reply.Reply.{Reply}
use Rattle.oz_requests.specs.declared.reply.Reply.TheVariants as replies
use Rattle.oz_requests.specs.declared.request.AskId.{AskId}
use Rattle.oz_core.specs.declared.event.Event.{Event}
use Rattle.oz_core.specs.declared.event.EventKind.{EventKind}
use Rattle.oz_core.specs.declared.event.EventKind.TheVariants.{Decide}
use Rattle.oz_core.specs.declared.limits.TheConstants.{SERVICE_CLIENT}
use Rattle.oz_core.specs.declared.opening.Opening.{Opening}
use Rattle.oz_core.specs.Asks.{ask_id, is_of_line, is_own, last_ask, replies_to, reply_to}
use Rattle.oz_core.specs.Coherent.{BlocksAreCoherent}
use Rattle.oz_core.specs.Contents.{OpeningBytes}
use Rattle.oz_core.specs.Due.{IsDue, reads_piece}
use Rattle.oz_core.specs.Law.{DecideIsEnabled, IsNamed}
use Rattle.oz_core.specs.Nodes.{doubts, holds, is_intact}
use Rattle.oz_core.specs.Scm.{members}
use Rattle.oz_core.specs.Stories.{all_told, has_event, last_in}
use Rattle.oz_client.specs.declared.progress.Progress.{Progress}
use Rattle.oz_client.specs.LineState.{pieces_in}
use Rattle.oz_client.specs.Onward.{IsReading}
use Rattle.oz_client.specs.laws.Reading.{read_is_there}
use Rattle.oz_client.specs.Replies.{pieces_of_reply}
use Rattle.oz_client.specs.Stories.{IsAt}
use Rattle.oz_asker.specs.laws.Asks.{legal_of_follow}
use Rattle.oz_buffer.specs.Buffer.{AllFollow, Follows}
use Rattle.oz_kept.specs.reopened.laws.Placed.{held_by_member}
use Rattle.oz_turn.specs.Told.{BeginsWith}
use Rattle.oz_underway.specs.UnderWay.{IsSaid, IsUnderWay, ask_of}
use Rattle.oz_underway.specs.laws.Asks.{asks_count, last_id, scripted, step_of_last}
use Rattle.oz_underway.specs.laws.Going.{
  begins_itself,
  begins_through,
  count_more,
  follow_before,
  follow_behind,
  follow_first,
  follow_front,
  kept_always,
  no_fewer,
  none_more,
  told_more,
}
use Rattle.oz_underway.specs.laws.Replied.{block_among}
use Rattle.oz_underway.specs.laws.Replies.{few_replies, pending_is_last}

-- ---- the last that events tell

pub record IsToldLast {X : Type 0} (tells : EventKind → Option X) (story : List Event) (x : X) : Type 0 where
  pub front : List Event
  pub event : Event
  pub behind : List Event
  pub parts : story ≡ front ++ event ∷ behind
  pub told : tells event.kind ≡ Some x
  pub all : length (all_told tells story) ≡ length (all_told tells front) + 1

module _ {X : Type 0} (tells : EventKind → Option X) where
  one_more_event : (story : List Event) (event : Event) → ((x : X) → last_in (all_told tells story) ≡ Some x → IsToldLast tells story x)
      → (x : X) → last_in (all_told tells (story ++ event ∷ [])) ≡ Some x → IsToldLast tells (story ++ event ∷ []) x
  one_more_event story event was x is = by (tells event.kind) refl
    where
      grown : (o : Option X) → tells event.kind ≡ o → all_told tells (story ++ event ∷ []) ≡ all_told tells story ++ cons_option o []
      grown o same = told_more tells story event ∙ ap (λ (t : Option X). all_told tells story ++ cons_option t []) same

      by : (o : Option X) → tells event.kind ≡ o → IsToldLast tells (story ++ event ∷ []) x
      by None none =
          let as_before : all_told tells (story ++ event ∷ []) ≡ all_told tells story = none_more tells story event (all_told tells story) none refl in
          let it = was x (sym (ap last_in as_before) ∙ is) in
          record {
            front = it.front;
            event = it.event;
            behind = it.behind ++ event ∷ [];
            parts = ap (λ (l : List Event). l ++ event ∷ []) it.parts ∙ append_assoc it.front (it.event ∷ it.behind) (event ∷ []);
            told = it.told;
            all = ap length as_before ∙ it.all;
          }
      by (Some y) some =
          let now : last_in (all_told tells (story ++ event ∷ [])) ≡ Some y = ap last_in (grown (Some y) some)
          ∙ fold_push (λ before z. Some z) None (all_told tells story) y in
          record {
            front = story;
            event = event;
            behind = [];
            parts = refl;
            told = some ∙ (sym now ∙ is);
            all = count_more tells story event ∙ ap (λ (o : Option X). length (all_told tells story) + length (cons_option o [])) some;
          }

-- ---- the last reply is that to the last Ask

-- a Decide of this id replied so
pub record IsDecidedSo (opening : Opening) (story : List Event) (id : AskId) (reply : Reply) : Type 0 where
  pub front : List Event
  pub behind : List Event
  pub seat : ℕ
  pub index : ℕ
  pub batch : List ℕ
  pub parts : story ≡ front ++ record { seat = seat; kind = Decide id index reply batch } ∷ behind
  pub enabled : DecideIsEnabled opening front seat id index reply batch

decided_later : (opening : Opening) (story seen : List Event) (id : AskId) (reply : Reply) → BeginsWith story seen → IsDecidedSo opening seen id reply
    → IsDecidedSo opening story id reply
decided_later opening story seen id reply begins was =
    let event : Event = record { seat = was.seat; kind = Decide id was.index reply was.batch } in
    record {
      front = was.front;
      behind = was.behind ++ begins.0;
      seat = was.seat;
      index = was.index;
      batch = was.batch;
      parts = begins.1 ∙ (ap (λ (l : List Event). l ++ begins.0) was.parts ∙ append_assoc was.front (event ∷ was.behind) begins.0);
      enabled = was.enabled;
    }

-- an event that tells a line's reply is a Decide
record IsReplyOf (client line : ℕ) (kind : EventKind) (reply : Reply) : Type 0 where
  id : AskId
  index : ℕ
  batch : List ℕ
  is : kind ≡ Decide id index reply batch
  of : is_of_line client line id ≡ true

reply_of : (client line : ℕ) (kind : EventKind) (reply : Reply) → reply_to client line kind ≡ Some reply → IsReplyOf client line kind reply
reply_of client line (Decide id index given batch) reply is = by (is_of_line client line id) refl is
  where
    by : (t : Bool) → is_of_line client line id ≡ t → cond t (Some given) None ≡ Some reply → IsReplyOf client line (Decide id index given batch) reply
    by true of is = record { id = id; index = index; batch = batch; is = ap (λ (r : Reply). Decide id index r batch) (same_Some given reply is); of = of }
    by false of is = absurd (none-some reply is)
reply_of client line kind reply is = absurd (none-some reply is)

module _ (Coherent : Type 0) (opening : Opening) (bytes : OpeningBytes) (script : Script) where
  abbrev Follow : List Event → Event → Type 0
  Follow = Follows Coherent opening bytes script

  pub told_at_last : {X : Type 0} (tells : EventKind → Option X) (story : List Event) → AllFollow Follow [] story → (x : X)
      → last_in (all_told tells story) ≡ Some x → IsToldLast tells story x
  told_at_last {X} tells story all =
      kept_always Follow (λ front. (x : X) → last_in (all_told tells front) ≡ Some x → IsToldLast tells front x) story all
      (λ front event begins follow follows was. one_more_event tells front event was)
      (λ x none. absurd (none-some x none))

  pub last_decided : (client line : ℕ) (story : List Event) → client ≢ SERVICE_CLIENT → Coherent → AllFollow Follow [] story
      → (reply : Reply) → last_in (replies_to client line story) ≡ Some reply → length (replies_to client line story) ≡ asks_count client line story
      → IsDecidedSo opening story (record { client = client; line = line; step = asks_count client line story }) reply
  last_decided client line story other coherent all reply last decided =
      let it = told_at_last (reply_to client line) story all reply last in
      let of = reply_of client line it.event.kind reply it.told in
      let event : Event = record { seat = it.event.seat; kind = Decide of.id of.index reply of.batch } in
      let parts : story ≡ it.front ++ event ∷ it.behind = it.parts
      ∙ ap (λ (kind : EventKind). it.front ++ record { seat = it.event.seat; kind = kind } ∷ it.behind) of.is in
      let follow = subst (λ (l : List Event). AllFollow Follow [] l) parts all in
      let before = follow_front Follow [] it.front (event ∷ it.behind) follow in
      let here = follow_first Follow it.front event it.behind (follow_behind Follow [] it.front (event ∷ it.behind) follow) in
      let enabled : DecideIsEnabled opening it.front it.event.seat of.id of.index reply of.batch = here.enabled coherent in
      let with = follow_before Follow story (it.front ++ event ∷ []) (it.behind, parts ∙ sym (append_assoc it.front (event ∷ []) it.behind)) all in
      let few = few_replies Coherent opening bytes script client line (it.front ++ event ∷ []) other coherent with in
      let replied = count_more (reply_to client line) it.front event
      ∙ ap (λ (o : Option Reply). length (replies_to client line it.front) + length (cons_option o []))
      (sym (ap (reply_to client line) of.is) ∙ it.told) in
      let asked = ap length (none_more (ask_id client line) it.front event (all_told (ask_id client line) it.front) refl refl) in
      let no_more = no_fewer (ask_id client line) story it.front (event ∷ it.behind, parts) in
      let count : asks_count client line it.front ≡ asks_count client line story = omega (arith, few, replied, asked, no_more, it.all, decided) in
      let its = last_id Coherent opening bytes script client line other it.front coherent before of.id
      (pending_is_last Coherent opening bytes script client line it.front other coherent before of.id of.of enabled.request enabled.undecided) in
      let id_is : of.id ≡ record { client = client; line = line; step = asks_count client line story } = its
      ∙ ap (λ (n : ℕ). record { client = client; line = line; step = n }) count in
      subst (λ (id : AskId). IsDecidedSo opening story id reply) id_is
      (record { front = it.front; behind = it.behind; seat = it.event.seat; index = of.index; batch = of.batch; parts = parts; enabled = enabled })

-- ---- what is read next was replied last

pub record IsAmongReplied (given : List Reply) (number : ℕ) (piece : Piece) : Type 0 where
  pub pieces : List Piece
  pub last : last_in given ≡ Some (replies.Pieces pieces)
  pub its : slice_get pieces number ≡ Some piece

among_replied : (given : List Reply) (number : ℕ) (piece : Piece) → slice_get (pieces_in given) number ≡ Some piece → IsAmongReplied given number piece
among_replied given number piece next = by (last_in given) refl next
  where
    by_reply : (reply : Reply) → last_in given ≡ Some reply → slice_get (pieces_of_reply reply) number ≡ Some piece → IsAmongReplied given number piece
    by_reply (replies.Pieces pieces) last its = record { pieces = pieces; last = last; its = its }
    by_reply reply last its = absurd cc

    by : (o : Option Reply) → last_in given ≡ o → slice_get (option_map_or pieces_of_reply o []) number ≡ Some piece → IsAmongReplied given number piece
    by None last none = absurd cc
    by (Some reply) last its = by_reply reply last its

there_at : (pieces : List Piece) (k : ℕ) (piece : Piece) → slice_get pieces k ≡ Some piece → Contains pieces piece
there_at [] k piece is = absurd cc
there_at (first ∷ pieces) zero piece is = (0, omega arith, same_Some first piece is)
there_at (first ∷ pieces) (suc k) piece is = let rest = there_at pieces k piece is in (suc rest.0, omega (arith, rest.1), rest.2)

none_told : (xs : List Reply) (reply : Reply) → last_in xs ≡ Some reply → 1 ≤ length xs
none_told [] reply none = absurd (none-some reply none)
none_told (x ∷ xs) reply last = omega arith

-- the pieces were replied to the line's last Ask
pub record IsReadFor (opening : Opening) (story : List Event) (id : AskId) (number : ℕ) (piece : Piece) : Type 0 where
  pub some : 1 ≤ id.step
  pub pieces : List Piece
  pub its : slice_get pieces number ≡ Some piece
  pub among : Contains pieces piece
  pub decided : IsDecidedSo opening story id (replies.Pieces pieces)

module _ (Coherent : Type 0) (opening : Opening) (bytes : OpeningBytes) (script : Script) (seen : List Event) (line : Line) (asked said : ℕ)
    (command : Command) (progress : Progress) (piece : Piece)
    (coherent : Coherent) (way : IsUnderWay Coherent opening bytes script seen line asked said command progress) (reading : IsReading command progress piece)
    (story : List Event) (begins : BeginsWith story seen) (all : AllFollow (Follows Coherent opening bytes script) [] story) where
  story_since : BeginsWith story way.since
  story_since = begins_through story seen way.since begins way.goes_on

  pub its_reply : IsReadFor opening story (ask_of line asked) (length progress.read) piece
  unfolding story_since
  its_reply =
      let all_since = follow_before (Follows Coherent opening bytes script) story way.since story_since all in
      let at : IsAt opening bytes script way.since line command progress = way.has way.since (begins_itself way.since) all_since way.asked_so way.said_so in
      let next = among_replied progress.came.replies (length progress.read) piece
      (read_is_there command (pieces_in progress.came.replies) (length progress.read) piece reading.next) in
      let last : last_in (replies_to line.client line.number way.since) ≡ Some (replies.Pieces next.pieces) = ap last_in at.of_line.replies ∙ next.last in
      let it = last_decided Coherent opening bytes script line.client line.number way.since way.of_client coherent all_since
      (replies.Pieces next.pieces) last at.decided in
      let of : IsDecidedSo opening way.since (ask_of line asked) (replies.Pieces next.pieces) =
      subst (λ (n : ℕ). IsDecidedSo opening way.since (ask_of line n) (replies.Pieces next.pieces)) way.asked_so it in
      let some = none_told (replies_to line.client line.number way.since) (replies.Pieces next.pieces) last in
      record {
        some = omega (arith, some, at.decided, way.asked_so);
        pieces = next.pieces;
        its = next.its;
        among = there_at next.pieces (length progress.read) piece next.its;
        decided = decided_later opening story way.since (ask_of line asked) (replies.Pieces next.pieces) story_since of;
      }

  pub read_is_named : IsNamed story (ask_of line asked) piece.block × (is_own (ask_of line asked) ≡ false)
  read_is_named =
      let its = its_reply in
      let event : Event = record {
        seat = its.decided.seat;
        kind = Decide (ask_of line asked) its.decided.index (replies.Pieces its.pieces) its.decided.batch;
      } in
      let of_script = scripted line.client line.number asked way.of_client in
      let stepped = ne_eqb asked 0 (λ none. omega (arith, none, its.some)) in (
        record {
          seat = its.decided.seat;
          index = its.decided.index;
          reply = replies.Pieces its.pieces;
          batch = its.decided.batch;
          there = subst (λ (l : List Event). Contains l event) (sym its.decided.parts)
              (Contains-append_right its.decided.front (event ∷ its.decided.behind) event (0, omega arith, refl));
          named = block_among its.pieces piece its.among;
        },
        λ i. of_script i && stepped i,
      )

  -- where no member is intact none is
  pub none_intact : BlocksAreCoherent opening bytes → last_ask line.client line.number story ≡ Some (ask_of line asked) → IsSaid story line said progress
      → All (λ dn. is_intact opening story (ask_of line asked) piece.block dn ≡ false) (members opening story piece.block.container)
      → IsDue opening bytes script story line (told.NoReplica (length progress.read) piece.block)
  unfolding story_since
  none_intact whole last still none =
      let so = sym (step_of_last Coherent opening bytes script line.client line.number way.of_client story coherent all (ask_of line asked) last) in
      let at : IsAt opening bytes script story line command progress = way.has story story_since all so still in
      let next = among_replied progress.came.replies (length progress.read) piece
      (read_is_there command (pieces_in progress.came.replies) (length progress.read) piece reading.next) in
      record {
        id = ask_of line asked;
        last = last;
        pieces = next.pieces;
        looked_up = ap last_in at.of_line.replies ∙ next.last;
        piece = piece;
        its = ap (λ (c : Command). reads_piece c next.pieces (length progress.read)) at.of_line.does
            ∙ (ap (λ (ps : List Piece). reads_piece command ps (length progress.read))
            (ap (λ (o : Option Reply). option_map_or pieces_of_reply o []) (sym next.last)) ∙ reading.next);
        block_is = refl;
        none = λ dn known. by dn (holds opening story dn piece.block) refl;
      }
    where
      by : (dn : ℕ) (t : Bool) → holds opening story dn piece.block ≡ t → is_intact opening story (ask_of line asked) piece.block dn ≡ false
      by dn false away = ap (λ (t : Bool). t && not (has_event (doubts dn piece.block (ask_of line asked)) story)) away
      by dn true held =
          All-contains (λ (dn : ℕ). is_intact opening story (ask_of line asked) piece.block dn ≡ false) (members opening story piece.block.container) dn none
          (held_by_member opening bytes story piece.block dn (legal_of_follow Coherent opening bytes script story coherent all) whole held)

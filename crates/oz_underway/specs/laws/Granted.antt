-- A reply that comes where no more was said of a line's blocks, and what it grants.
use Rattle.std.proofs.Common.{
  ◌≡◌,
  ◌≢◌,
  ◌⊎◌,
  ⊎_elim,
  inl,
  inr,
  ℕ,
  suc,
  ◌+◌,
  ◌-◌,
  ◌≤◌,
  Bool,
  true,
  false,
  ◌||◌,
  ◌&&◌,
  ◌==◌,
  not,
  is_none,
  cond,
  List,
  [],
  ◌∷◌,
  ◌++◌,
  length,
  take,
  drop,
  Option,
  None,
  Some,
  Contains,
  refl,
  sym,
  ap,
  ◌∙◌,
  subst,
  length-append,
  append_assoc,
  append-nil,
  arith,
}
use Rattle.std.proofs.Math.Bool.{or-true}
use Rattle.std.proofs.Math.Seq.{take-append-add}
use Rattle.std.proofs.lemmas.Bool.{and_parts, false≢true}
use Rattle.std.proofs.lemmas.List.{take-append-drop}
use Rattle.std.proofs.lemmas.List.Elements.{Contains-append_left, Contains-append_right}
use Rattle.std.proofs.lemmas.List.Folds.{list_any-append}
use Rattle.std.proofs.lemmas.List.Sums.{sum_by-cons}
use Rattle.std.specs.Prelude.{count_by, nat_le}
use Rattle.std.specs.List.{cons_option, filter_map, list_any, list_all, slice_get}
use Rattle.oz_command.specs.declared.command.Command.{Command}
use Rattle.oz_fields.specs.declared.block.Block.{Block}
use Rattle.oz_script.specs.declared.lines.script.Line.{Line}
use Rattle.oz_script.specs.declared.lines.script.Script.{Script}
use Rattle.oz_requests.specs.declared.reply.Reply.{Reply}
use Rattle.oz_requests.specs.declared.reply.Reply.TheVariants as replies
use Rattle.oz_requests.specs.declared.request.AskId.{AskId}
use Rattle.oz_core.specs.declared.event.Event.{Event}
use Rattle.oz_core.specs.declared.event.EventKind.{EventKind}
use Rattle.oz_core.specs.declared.event.EventKind.TheVariants.{Ask, Decide, Refused, Wrote}
use Rattle.oz_core.specs.declared.event.PutRefusal.{PutRefusal}
use Rattle.oz_core.specs.declared.limits.TheConstants.{SERVICE_CLIENT}
use Rattle.oz_core.specs.declared.opening.Opening.{Opening}
use Rattle.oz_core.specs.Asks.{ask_id, asks, asks_of, is_asked, is_id, is_script, reply_to, replies_to}
use Rattle.oz_core.specs.Contents.{OpeningBytes, WasGranted, piece_number, written_for, wrote}
use Rattle.oz_core.specs.Due.{AreContents}
use Rattle.oz_core.specs.Law.{DecideIsEnabled, IsLegal, KindIsEnabled, writes}
use Rattle.oz_core.specs.Manager.{IsUsed, granted_block}
use Rattle.oz_core.specs.Nodes.{is_block}
use Rattle.oz_core.specs.Scm.{members}
use Rattle.oz_core.specs.Steps.{GrantedBlock, grant_in, grant_to, granted_to, is_any, is_written, refuses_so, refusing_members}
use Rattle.oz_core.specs.Stories.{has_event}
use Rattle.oz_steps.specs.declared.came.Granted.{Granted}
use Rattle.oz_steps.specs.Came.{granted_by}
use Rattle.oz_steps.specs.Grants.{AreGrants, IsUnsettled, has_fate_written}
use Rattle.oz_client.specs.declared.progress.Progress.{Progress}
use Rattle.oz_client.specs.declared.step.Got.TheVariants as gots
use Rattle.oz_client.specs.LineState.{pieces_in, progress_after}
use Rattle.oz_client.specs.Stories.{IsAt}
use Rattle.oz_asker.specs.Decided.{IsDecideAt}
use Rattle.oz_asker.specs.laws.Asks.{legal_of_follow, same_id}
use Rattle.oz_buffer.specs.Buffer.{AllFollow, Follows}
use Rattle.oz_buffer.specs.Became.{times_said}
use Rattle.oz_buffer.specs.laws.Courses.{asked-push}
use Rattle.oz_kept.specs.laws.Contents.{one_block}
use Rattle.oz_kept.specs.laws.Deleted.{enabled_at, found_at, split_at}
use Rattle.oz_kept.specs.laws.Granted.{told_among}
use Rattle.oz_kept.specs.reopened.laws.Placed.{event_there}
use Rattle.oz_turn.specs.Told.{BeginsWith}
use Rattle.oz_underway.specs.UnderWay.{IsToBeWritten, IsUnderWay, IsUnwritten, ask_of, is_all_written, says_for, times_asked}
use Rattle.oz_underway.specs.laws.Asks.{its_line, scripted, step_of_asked, step_of_last}
use Rattle.oz_underway.specs.laws.Blocks.{none_granted, written_once}
use Rattle.oz_underway.specs.laws.Fates.{StillSettled, grants_still, one_granted, quiet_stands, stays_settled}
use Rattle.oz_underway.specs.laws.Going.{
  begins_itself,
  begins_push,
  begins_through,
  count_more,
  either_way,
  follow_before,
  follow_behind,
  follow_first,
  happened_still,
  no_fewer,
  none_more,
  same_by_count,
  told_longer,
  told_more,
}
use Rattle.oz_underway.specs.laws.Grants.{IsLastAsked, granted_now, last_asked, unused_before}
use Rattle.oz_underway.specs.laws.Replies.{few_replies, none_more_replied, pending_is_last}
use Rattle.oz_underway.specs.laws.Said.{no_fewer_said, refused_stay, written_stay}
use Rattle.oz_underway.specs.laws.Starting.{started_still}
use Rattle.oz_underway.specs.laws.UnderWay.{reply_comes}
use Rattle.oz_underway.specs.laws.Unsaid.{fewer_has, unsaid}

-- ---- fronts

front_behind : (later seen : List Event) (place : ℕ) → BeginsWith later seen → length seen ≤ place → BeginsWith (take place later) seen
front_behind later seen place begins le =
    let more = place - length seen in
    let same : length seen + (place - length seen) ≡ place = omega arith in (
      take (place - length seen) begins.0,
      ap (take place) begins.1 ∙ (ap (λ (n : ℕ). take n (seen ++ begins.0)) (sym same) ∙ take-append-add seen begins.0 (place - length seen)),
    )

same_next : (before : List Event) (a c : Event) (b d : List Event) → before ++ a ∷ b ≡ before ++ c ∷ d → a ≡ c
same_next [] a c b d e = cc
same_next (x ∷ before) a c b d e = let rest : before ++ a ∷ b ≡ before ++ c ∷ d = cc in same_next before a c b d rest

-- ---- what isn't so

or_none : (a b : Bool) → a ≡ false → b ≡ false → (a || b) ≡ false
or_none a b first then = ap (λ (t : Bool). t || b) first ∙ then

count_none : (is : ℕ → Bool) → ((n : ℕ) → is n ≡ false) → (l : List ℕ) → count_by is l ≡ 0
count_none is none [] = refl
count_none is none (n ∷ l) =
    let parts = sum_by-cons (λ (x : ℕ). cond (is x) 1 0) n l in
    let here : ◌≡◌ {A = ℕ} (cond (is n) 1 0) 0 = ap (λ (t : Bool). cond t 1 0) (none n) in
    omega (arith, parts, here, count_none is none l)

-- who refuses so says something for the ask
pub refuses_for : (counts : PutRefusal → Bool) (grant : GrantedBlock) (dn : ℕ) (kind : EventKind) → refuses_so counts grant dn kind ≡ true
    → says_for grant.id kind ≡ true
refuses_for counts grant dn (Refused other block id refusal) is =
    (and_parts (other == dn && is_block grant.block block) (is_id grant.id id)
    (and_parts (other == dn && is_block grant.block block && is_id grant.id id) (counts refusal) is).0).1
refuses_for counts grant dn kind is = absurd (false≢true is)

-- a block that was written was granted before
module _ (opening : Opening) (story : List Event) (legal : IsLegal opening story) (block : Block) where
  used_of_grant : (front more : List Event) → front ++ more ≡ story → (id : AskId) (before : List Event) → WasGranted front id block before
      → IsUsed opening story block
  used_of_grant front more parts id before was =
      let ask : Event = record { seat = was.asker; kind = Ask id was.request } in
      let event : Event = record { seat = was.stripe; kind = Decide id was.index (replies.Granted block was.pipeline) was.batch } in
      let among : Contains front event = subst (λ (l : List Event). Contains l event) (sym was.asked)
      (Contains-append_right before (ask ∷ was.behind) event (Contains-append_right (ask ∷ []) was.behind event was.decided)) in
      let there : Contains story event = subst (λ (l : List Event). Contains l event) parts (Contains-append_left front more event among) in
      inr (inr (inr (told_among granted_block story event block there refl)))

  used_of_write : (seat : ℕ) (kind : EventKind) (front more : List Event) → front ++ more ≡ story → KindIsEnabled opening front seat kind
      → writes block kind ≡ true → IsUsed opening story block
  used_of_write seat (Wrote other id) front more parts enabled is =
      let same = one_block block other is in
      used_of_grant front more parts id enabled.before (subst (λ (b : Block). WasGranted front id b enabled.before) (sym same) enabled.granted)
  used_of_write seat kind front more parts enabled is = absurd (false≢true is)

  pub used_of_written : has_event (writes block) story ≡ true → IsUsed opening story block
  used_of_written is =
      let it = event_there (writes block) story is in
      used_of_write it.event.seat it.event.kind (take it.there.0 story) (drop it.there.0 story) (take-append-drop it.there.0 story)
      (enabled_at opening story legal it.there.0 it.event (found_at story it.event it.there)) it.so

module _ (Coherent : Type 0) (opening : Opening) (bytes : OpeningBytes) (script : Script) where
  abbrev Follow : List Event → Event → Type 0
  Follow = Follows Coherent opening bytes script

  abbrev UnderWay : List Event → Line → ℕ → ℕ → Command → Progress → Type 0
  UnderWay = IsUnderWay Coherent opening bytes script

  -- a line that had asked so often hadn't asked again before that Ask
  before_asked : (line : Line) (asked : ℕ) (since front : List Event) (last : List Event) (behind : List Event) (ask : Event) → line.client ≢ SERVICE_CLIENT
      → Coherent
      → AllFollow Follow [] since → times_asked since line ≡ asked → asks (ask_of line (asked + 1)) ask.kind ≡ true
      → front ≡ last ++ ask ∷ behind → BeginsWith front since → BeginsWith last since
  before_asked line asked since front last behind ask other coherent all so is parts begins =
      ⊎_elim (λ later. later) back (either_way last (ask ∷ behind) since begins.0 (sym parts ∙ begins.1))
    where
      back : BeginsWith since last → BeginsWith last since
      back ([], same) = ([], sym (same ∙ append-nil last) ∙ sym (append-nil since))
      back (event ∷ rest, same) =
          let id = ask_of line (asked + 1) in
          let whole : last ++ ask ∷ behind ≡ last ++ event ∷ (rest ++ begins.0) =
          sym parts ∙ (begins.1 ∙ (ap (λ (l : List Event). l ++ begins.0) same ∙ append_assoc last (event ∷ rest) begins.0)) in
          let first : ask ≡ event = same_next last ask event behind (rest ++ begins.0) whole in
          let asked_there : is_asked id (last ++ event ∷ []) ≡ true =
          asked-push id last event
          ∙ (ap (λ (e : Event). is_asked id last || asks id e.kind) (sym first)
          ∙ (ap (λ (t : Bool). is_asked id last || t) is ∙ or-true (is_asked id last))) in
          let there : is_asked id since ≡ true =
          happened_still (asks id) since (last ++ event ∷ []) (rest, same ∙ sym (append_assoc last (event ∷ []) rest)) asked_there in
          let few : asked + 1 ≤ times_asked since line = step_of_asked Coherent opening bytes script id other since coherent all there in
          absurd (omega (arith, few, so))

  its_reply : (line : Line) (step index : ℕ) (reply : Reply) (batch : List ℕ)
      → reply_to line.client line.number (Decide (ask_of line step) index reply batch) ≡ Some reply
  its_reply line step index reply batch = ap (λ (t : Bool). cond t (Some reply) None) (its_line line.client line.number (ask_of line step) refl refl)

  its_grant : (line : Line) (step index : ℕ) (reply : Reply) (batch : List ℕ)
      → grant_to line.client line.number (Decide (ask_of line step) index reply batch) ≡ grant_in (ask_of line step) reply
  its_grant line step index reply batch =
      ap (λ (t : Bool). cond t (grant_in (ask_of line step) reply) None) (its_line line.client line.number (ask_of line step) refl refl)

  -- the same replies grant the same
  pub same_granted : (client line : ℕ) (story seen : List Event) (begins : BeginsWith story seen)
      → length (replies_to client line story) ≤ length (replies_to client line seen)
      → granted_to client line story ≡ granted_to client line seen
  same_granted client line story seen begins few =
      let parts = ap length (told_longer (reply_to client line) story seen begins)
      ∙ length-append (replies_to client line seen) (replies_to client line begins.0) in
      let none : replies_to client line begins.0 ≡ [] = none_more_replied client line begins.0 (omega (arith, parts, few)) in
      told_longer (grant_to client line) story seen begins
      ∙ (ap (λ (gs : List GrantedBlock). granted_to client line seen ++ gs) (none_granted client line begins.0 (ap (filter_map granted_by) none))
      ∙ append-nil (granted_to client line seen))

  module _ (seen later base : List Event) (line : Line) (asked said place seat index : ℕ) (batch : List ℕ) (command : Command) (progress : Progress)
      (reply : Reply)
      (coherent : Coherent) (way : UnderWay seen line asked said command progress) (idle : progress.came.writing ≡ None) (unread : progress.read ≡ [])
      (follow : AllFollow Follow [] later) (goes : BeginsWith later seen) (from : BeginsWith seen base)
      (first : times_said line.client line.number base ≡ said) (last : times_said line.client line.number later ≡ said) (behind : length seen ≤ place)
      (is : slice_get later place ≡ Some (record { seat = seat; kind = Decide (ask_of line (asked + 1)) index reply batch })) where
    abbrev id : AskId
    id = ask_of line (asked + 1)

    abbrev event : Event
    event = record { seat = seat; kind = Decide (ask_of line (asked + 1)) index reply batch }

    abbrev front : List Event
    front = take place later

    abbrev now : List Event
    now = take place later ++ record { seat = seat; kind = Decide (ask_of line (asked + 1)) index reply batch } ∷ []

    parts : later ≡ front ++ event ∷ drop (suc place) later
    parts = split_at later place event is

    goes_now : BeginsWith later now
    goes_now = (drop (suc place) later, parts ∙ sym (append_assoc front (event ∷ []) (drop (suc place) later)))

    front_seen : BeginsWith front seen
    front_seen = front_behind later seen place goes behind

    front_since : BeginsWith front way.since
    front_since = begins_through front seen way.since front_seen way.goes_on

    now_front : BeginsWith now front
    now_front = (event ∷ [], refl)

    all_front : AllFollow Follow [] front
    all_front = follow_before Follow later front (begins_through later now front goes_now now_front) follow

    all_now : AllFollow Follow [] now
    all_now = follow_before Follow later now goes_now follow

    all_since : AllFollow Follow [] way.since
    all_since = follow_before Follow front way.since front_since all_front

    enabled : DecideIsEnabled opening front seat id index reply batch
    enabled =
        (follow_first Follow front event (drop (suc place) later)
        (follow_behind Follow [] front (event ∷ drop (suc place) later) (subst (λ (l : List Event). AllFollow Follow [] l) parts follow))).enabled coherent

    of_script : is_script id ≡ true
    of_script = scripted line.client line.number (asked + 1) way.of_client

    -- ---- how much was said, and how often it asked

    said_front : times_said line.client line.number front ≡ said
    said_front =
        let few = no_fewer_said line.client line.number front base (begins_through front seen base front_seen from) in
        let more = no_fewer_said line.client line.number later front (begins_through later now front goes_now now_front) in
        omega (arith, few, more, first, last)

    said_now : times_said line.client line.number now ≡ said
    said_now =
        let few = no_fewer_said line.client line.number now front now_front in
        let more = no_fewer_said line.client line.number later now goes_now in
        omega (arith, few, more, said_front, last)

    asked_front : times_asked front line ≡ asked + 1
    asked_front =
        sym (step_of_last Coherent opening bytes script line.client line.number way.of_client front coherent all_front id
        (pending_is_last Coherent opening bytes script line.client line.number front way.of_client coherent all_front id
        (its_line line.client line.number id refl refl) enabled.request enabled.undecided))

    asked_now : times_asked now line ≡ asked + 1
    asked_now = ap length (none_more (ask_id line.client line.number) front event (asks_of line.client line.number front) refl refl) ∙ asked_front

    -- ---- what it had

    at_since : IsAt opening bytes script way.since line command progress
    at_since = way.has way.since (begins_itself way.since) all_since way.asked_so way.said_so

    grants_since : AreGrants opening way.since progress.came.attempts None (granted_to line.client line.number way.since)
    grants_since = subst
        (λ (w : Option Granted). AreGrants opening way.since progress.came.attempts w
        (granted_to line.client line.number way.since)) idle at_since.of_line.grants

    replied_since : length (replies_to line.client line.number way.since) ≡ asked
    replied_since = at_since.decided ∙ way.asked_so

    replied_now : length (replies_to line.client line.number now) ≡ length (replies_to line.client line.number front) + 1
    replied_now =
        count_more (reply_to line.client line.number) front event
        ∙ ap (λ (o : Option Reply). length (replies_to line.client line.number front) + length (cons_option o []))
        (its_reply line (asked + 1) index reply batch)

    replied_front : length (replies_to line.client line.number front) ≡ asked
    replied_front =
        let few = few_replies Coherent opening bytes script line.client line.number now way.of_client coherent all_now in
        let some = no_fewer (reply_to line.client line.number) front way.since front_since in
        omega (arith, few, some, replied_since, replied_now, asked_now)

    replies_front : replies_to line.client line.number front ≡ progress.came.replies
    replies_front = same_by_count (reply_to line.client line.number) front way.since front_since (replied_front ∙ sym replied_since) ∙ at_since.of_line.replies

    granted_front : granted_to line.client line.number front ≡ granted_to line.client line.number way.since
    granted_front = same_granted line.client line.number front way.since front_since (omega (arith, replied_front, replied_since))

    as_since : StillSettled Coherent opening bytes script line.client line.number way.since front progress.came.attempts
    as_since =
        stays_settled Coherent opening bytes script line.client line.number way.since front progress.came.attempts coherent all_since all_front front_since
        grants_since granted_front
        (by (list_all has_fate_written progress.came.attempts) refl)
      where
        by : (t : Bool) → list_all has_fate_written progress.came.attempts ≡ t
            → (list_all has_fate_written progress.came.attempts ≡ true)
            ⊎ (times_said line.client line.number front ≡ times_said line.client line.number way.since)
        by true each = inl each
        by false some =
            let unwritten : is_all_written progress ≡ false = λ i. is_none (idle i) && some i in
            inr (said_front ∙ sym (way.said_so unwritten))

    -- ---- a block that it is granted

    module _ (block : Block) (pipeline : ℕ) (granted : reply ≡ replies.Granted block pipeline) where
      grants_it : DecideIsEnabled opening front seat id index (replies.Granted block pipeline) batch
      grants_it = subst (λ (r : Reply). DecideIsEnabled opening front seat id index r batch) granted enabled

      unsaid_front : has_event (says_for id) front ≡ false
      unsaid_front = unsaid Coherent opening bytes script id (omega arith) front coherent all_front of_script enabled.request enabled.undecided

      its_turn : (asker : IsLastAsked front id grants_it.request) → length (written_for line.client line.number front) ≡ piece_number id asker.before
      its_turn asker =
          let ask : Event = record { seat = asker.asker; kind = Ask id grants_it.request } in
          let since = before_asked line asked way.since front asker.before asker.behind ask way.of_client coherent all_since way.asked_so
          (same_id id) asker.parts front_since in
          let few = no_fewer (wrote line.client line.number) asker.before way.since since in
          let more = no_fewer (wrote line.client line.number) front asker.before (ask ∷ asker.behind, asker.parts) in
          omega (arith, few, more, ap length as_since.written)

      to_be_written : IsToBeWritten now line (asked + 1) (record { block = block; pipeline = pipeline })
      to_be_written =
          let asker = last_asked Coherent opening bytes script id grants_it.request front all_front grants_it.undecided in
          let grant : Event = record { seat = seat; kind = Decide id index (replies.Granted block pipeline) batch } in
          subst (λ (r : Reply). IsToBeWritten (front ++ record { seat = seat; kind = Decide id index r batch } ∷ []) line (asked + 1)
          (record { block = block; pipeline = pipeline })) (sym granted)
          (record {
            before = asker.before;
            its = granted_now Coherent opening bytes script front seat index pipeline id block batch grants_it asker;
            on = refl;
            in_turn = ap length (none_more (wrote line.client line.number) front grant (written_for line.client line.number front) refl refl) ∙ its_turn asker;
            unsaid = list_any-append (λ (e : Event). says_for id e.kind) front (grant ∷ []) ∙ ap (λ (t : Bool). t || (false || false)) unsaid_front;
          })

      abbrev its : GrantedBlock
      its = record { id = ask_of line (asked + 1); block = block; pipeline = pipeline }

      unwritten_front : is_written front (record { id = ask_of line (asked + 1); block = block; pipeline = pipeline }) ≡ false
      unwritten_front = by (is_written front its) refl
        where
          by : (t : Bool) → is_written front its ≡ t → t ≡ false
          by false none = refl
          by true some =
              let used = used_of_written opening front (legal_of_follow Coherent opening bytes script front coherent all_front) block
              (written_once block line.client line.number front some) in
              absurd (unused_before Coherent opening bytes script front seat index pipeline id block batch grants_it used)

      unsettled : (story : List Event) → BeginsWith story front → times_said line.client line.number story ≡ said
          → IsUnsettled opening story (record { id = ask_of line (asked + 1); block = block; pipeline = pipeline })
          (record { block = block; pipeline = pipeline })
      unsettled story begins still =
          let same : times_said line.client line.number story ≡ times_said line.client line.number front = still ∙ sym said_front in
          let unwritten : is_written story its ≡ false =
          ap (list_any (is_block block)) (written_stay line.client line.number front story begins same) ∙ unwritten_front in
          let none : (dn : ℕ) → has_event (refuses_so is_any its dn) story ≡ false =
          λ dn. refused_stay line.client line.number dn is_any its (its_line line.client line.number id refl refl) front story begins same
          ∙ fewer_has (refuses_so is_any its dn) (says_for id) (refuses_for is_any its dn) front unsaid_front in
          let few : refusing_members opening story is_any its ≡ 0 =
          count_none (λ dn. has_event (refuses_so is_any its dn) story) none (members opening story block.container) in
          record {
            block = refl;
            pipeline = refl;
            unsettled = λ i. unwritten i || (nat_le 2 (few i) && not (unwritten i));
          }

    -- ---- from then on

    fresh : IsUnwritten now line (asked + 1) (granted_by reply)
    fresh = by reply refl
      where
        by : (given : Reply) → reply ≡ given → IsUnwritten now line (asked + 1) (granted_by given)
        by (replies.Granted block pipeline) same = to_be_written block pipeline same
        by given same = tt

    module _ (story : List Event) (begins : BeginsWith story now) (all : AllFollow Follow [] story) (so : times_asked story line ≡ asked + 1)
        (still : times_said line.client line.number story ≡ said) where
      story_front : BeginsWith story front
      story_front = begins_through story now front begins now_front

      same_said : times_said line.client line.number story ≡ times_said line.client line.number front
      same_said = still ∙ sym said_front

      few_now : length (replies_to line.client line.number story) ≤ length (replies_to line.client line.number now)
      few_now =
          let few = few_replies Coherent opening bytes script line.client line.number story way.of_client coherent all in
          omega (arith, few, so, replied_now, replied_front)

      replies_story : replies_to line.client line.number story ≡ progress.came.replies ++ reply ∷ []
      replies_story =
          let some = no_fewer (reply_to line.client line.number) story now begins in
          same_by_count (reply_to line.client line.number) story now begins (omega (arith, few_now, some))
          ∙ (told_more (reply_to line.client line.number) front event
          ∙ (ap (λ (o : Option Reply). replies_to line.client line.number front ++ cons_option o []) (its_reply line (asked + 1) index reply batch)
          ∙ ap (λ (rs : List Reply). rs ++ reply ∷ []) replies_front))

      granted_story : granted_to line.client line.number story ≡ granted_to line.client line.number way.since ++ cons_option (grant_in id reply) []
      granted_story =
          same_granted line.client line.number story now begins few_now
          ∙ (told_more (grant_to line.client line.number) front event
          ∙ (ap (λ (o : Option GrantedBlock). granted_to line.client line.number front ++ cons_option o []) (its_grant line (asked + 1) index reply batch)
          ∙ ap (λ (gs : List GrantedBlock). gs ++ cons_option (grant_in id reply) []) granted_front))

      old_grants : AreGrants opening story progress.came.attempts None (granted_to line.client line.number way.since)
      old_grants =
          subst (AreGrants opening story progress.came.attempts None) granted_front
          (grants_still opening front story progress.came.attempts (granted_to line.client line.number front)
          (λ grant among. quiet_stands Coherent opening bytes script line.client line.number front story grant coherent all_front all story_front same_said
          among)
          as_since.grants)

      grants_story : AreGrants opening story progress.came.attempts (granted_by reply) (granted_to line.client line.number story)
      grants_story =
          subst (λ (gs : List GrantedBlock). AreGrants opening story progress.came.attempts (granted_by reply) gs) (sym granted_story) (by reply refl)
        where
          none : AreGrants opening story progress.came.attempts None (granted_to line.client line.number way.since ++ [])
          none = subst (λ (gs : List GrantedBlock). AreGrants opening story progress.came.attempts None gs)
              (sym (append-nil (granted_to line.client line.number way.since))) old_grants

          by : (given : Reply) → reply ≡ given
              → AreGrants opening story progress.came.attempts (granted_by given)
              (granted_to line.client line.number way.since ++ cons_option (grant_in id given) [])
          by (replies.Granted block pipeline) same =
              one_granted opening story progress.came.attempts (granted_to line.client line.number way.since)
              (record { id = ask_of line (asked + 1); block = block; pipeline = pipeline }) (record { block = block; pipeline = pipeline })
              old_grants (unsettled block pipeline same story story_front still)
          by given same = none

      at_story : IsAt opening bytes script story line command (progress_after progress (gots.Reply reply))
      at_story = record {
        of_line = record {
          does = at_since.of_line.does;
          commits = way.labelled story (begins_through story front way.since story_front front_since) all;
          replies = replies_story;
          grants = grants_story;
          written = written_stay line.client line.number front story story_front same_said ∙ (as_since.written ∙ at_since.of_line.written);
        };
        decided =
            let some = no_fewer (reply_to line.client line.number) story now begins in
            omega (arith, few_now, some, replied_now, replied_front, so);
        read = subst (λ (read : List (List ℕ)). AreContents opening bytes script story
            (take (length read) (pieces_in (progress.came.replies ++ reply ∷ []))) read) (sym unread) tt;
      }

    pub granted_reply : UnderWay later line (asked + 1) said command (progress_after progress (gots.Reply reply))
    granted_reply = by (is_all_written (progress_after progress (gots.Reply reply))) refl
      where
        none_of : (o : Option Granted) → is_none o ≡ true → o ≡ None
        none_of None is = refl
        none_of (Some granted) is = absurd (false≢true is)

        by : (t : Bool) → is_all_written (progress_after progress (gots.Reply reply)) ≡ t
            → UnderWay later line (asked + 1) said command (progress_after progress (gots.Reply reply))
        by true each =
            let both = and_parts (is_none (granted_by reply)) (list_all has_fate_written progress.came.attempts) each in
            reply_comes Coherent opening bytes script seen later line asked said command progress reply coherent way idle unread both.1
            (none_of (granted_by reply) both.0) follow goes
            place said (seat, index, batch, is)
        by false some = record {
          there = way.there;
          of_client = way.of_client;
          since = now;
          goes_on = goes_now;
          started = started_still now way.since line (begins_push front way.since event front_since) way.started;
          asked_so = asked_now;
          said_so = λ unwritten. said_now;
          unwritten = fresh;
          labelled = λ story begins all. way.labelled story (begins_through story now way.since begins (begins_push front way.since event front_since)) all;
          has = λ story begins all so as_said. at_story story begins all so (as_said some);
        }

  pub decided_reply : (seen later base : List Event) (line : Line) (asked said place : ℕ) (command : Command) (progress : Progress) (reply : Reply) → Coherent
      → UnderWay seen line asked said command progress → progress.came.writing ≡ None → progress.read ≡ [] → AllFollow Follow [] later
      → BeginsWith later seen → BeginsWith seen base
      → times_said line.client line.number base ≡ said → times_said line.client line.number later ≡ said → length seen ≤ place
      → IsDecideAt later place (ask_of line (asked + 1)) reply
      → UnderWay later line (asked + 1) said command (progress_after progress (gots.Reply reply))
  decided_reply seen later base line asked said place command progress reply coherent way idle unread follow goes from first last behind
      (seat, index, batch, is) =
      granted_reply seen later base line asked said place seat index batch command progress reply coherent way idle unread follow goes from first last behind is

-- A line whose block's members have answered.
use Rattle.std.proofs.Common.{
  ◌≡◌,
  ◌⊎◌,
  ⊎_elim,
  inl,
  inr,
  ℕ,
  ◌+◌,
  ◌%◌,
  ◌≤◌,
  ◌<◌,
  ◌==◌,
  Bool,
  true,
  false,
  ◌||◌,
  ◌&&◌,
  is_none,
  cond,
  List,
  [],
  ◌∷◌,
  ◌++◌,
  map,
  filter,
  length,
  take,
  Option,
  None,
  Some,
  All,
  Contains,
  eq-eqb,
  refl,
  sym,
  ap,
  ◌∙◌,
  subst,
  append-nil,
  arith,
}
use Rattle.std.proofs.Math.Bool.{or-false}
use Rattle.std.proofs.lemmas.Bool.{and_from, and_parts, false≢true, leb-true, or_left, or_right}
use Rattle.std.proofs.lemmas.List.{map-append}
use Rattle.std.proofs.lemmas.List.Elements.{All-cons, All-nil, Contains-append_left, Contains-push, filter-append}
use Rattle.std.proofs.lemmas.List.Folds.{list_any-append}
use Rattle.std.proofs.lemmas.List.Sums.{sum_by-cons}
use Rattle.std.specs.Prelude.{count_by, nat_le}
use Rattle.std.specs.List.{list_all, list_any}
use Rattle.oz_command.specs.declared.command.Command.{Command}
use Rattle.oz_fields.specs.declared.block.Block.{Block}
use Rattle.oz_fields.specs.declared.block.Piece.{Piece}
use Rattle.oz_script.specs.declared.lines.script.Line.{Line}
use Rattle.oz_script.specs.declared.lines.script.Script.{Script}
use Rattle.oz_script.specs.lines.Numbered.{IsNumbered}
use Rattle.oz_nodes.specs.Pipelines.{members_of, pipelines_of}
use Rattle.oz_requests.specs.declared.reply.Reply.TheVariants as replies
use Rattle.oz_requests.specs.declared.request.AskId.{AskId}
use Rattle.oz_core.specs.declared.event.Event.{Event}
use Rattle.oz_core.specs.declared.event.EventKind.{EventKind}
use Rattle.oz_core.specs.declared.event.EventKind.TheVariants.{Decide, Refused, Wrote}
use Rattle.oz_core.specs.declared.event.PutRefusal.{PutRefusal}
use Rattle.oz_core.specs.declared.opening.Opening.{Opening}
use Rattle.oz_core.specs.Asks.{is_id, is_of_line, reply_to, replies_to}
use Rattle.oz_core.specs.Contents.{OpeningBytes, WasGranted, written_for, wrote}
use Rattle.oz_core.specs.Due.{AreContents}
use Rattle.oz_core.specs.Fits.{EventFits}
use Rattle.oz_core.specs.Law.{KindIsEnabled, WroteIsEnabled, puts, refuses, writes}
use Rattle.oz_core.specs.Nodes.{is_block}
use Rattle.oz_core.specs.Scm.{members}
use Rattle.oz_core.specs.Seats.{IsLineSeat, datanode_seat}
use Rattle.oz_core.specs.Steps.{GrantedBlock, granted_to, is_abandoned, is_settled, is_written}
use Rattle.oz_core.specs.Stories.{all_told, has_event}
use Rattle.oz_steps.specs.declared.came.Attempt.{Attempt}
use Rattle.oz_steps.specs.declared.came.Granted.{Granted}
use Rattle.oz_steps.specs.Came.{with_answers}
use Rattle.oz_steps.specs.Grants.{AreAnswers, AreGrants, fate_of, has_fate_written, written_blocks}
use Rattle.oz_steps.specs.laws.Settled.{all-settled}
use Rattle.oz_client.specs.declared.progress.Progress.{Progress}
use Rattle.oz_client.specs.declared.step.Got.TheVariants as gots
use Rattle.oz_client.specs.declared.step.Written.{Written}
use Rattle.oz_client.specs.LineState.{came_written, pieces_in, progress_after}
use Rattle.oz_client.specs.Stories.{IsAt}
use Rattle.oz_asker.specs.laws.Asks.{legal_of_follow, same_id}
use Rattle.oz_buffer.specs.Buffer.{AllFollow, Follows}
use Rattle.oz_buffer.specs.Became.{times_said}
use Rattle.oz_kept.specs.laws.Contents.{its_grant, one_block}
use Rattle.oz_kept.specs.laws.Deleted.{enabled_at, first_or_later, found_at}
use Rattle.oz_kept.specs.laws.Granted.{one_id, told_among}
use Rattle.oz_kept.specs.reopened.laws.Placed.{event_there}
use Rattle.oz_turn.specs.Told.{BeginsWith}
use Rattle.oz_underway.specs.UnderWay.{HasAnswered, HaveAnswered, IsSaid, IsToBeWritten, IsUnderWay, ask_of, is_all_written, times_asked}
use Rattle.oz_underway.specs.laws.Answered.{
  AreCounted,
  IsAnswerIn,
  are_counted,
  its_answer,
  its_id,
  refused_as_before,
  refusing_as_answered,
  same_block,
  since_then,
}
use Rattle.oz_underway.specs.laws.Asks.{its_line, of_line}
use Rattle.oz_underway.specs.laws.Contents.{content_still}
use Rattle.oz_underway.specs.laws.Fates.{
  IsGrantOf,
  IsLastOf,
  StandsAsBefore,
  grant_members,
  grant_of,
  grants_still,
  its_fate,
  last_of,
  one_attempt,
  stays_settled,
  written_by_two,
}
use Rattle.oz_underway.specs.laws.Going.{begins_itself, begins_through, follow_before, no_fewer, same_by_count, told_longer}
use Rattle.oz_underway.specs.laws.Granted.{same_granted}
use Rattle.oz_underway.specs.laws.Grants.{its_pipeline}
use Rattle.oz_underway.specs.laws.Members.{AreThree, are_three}
use Rattle.oz_underway.specs.laws.Piece.{granted_story, granting, members_story, new}
use Rattle.oz_underway.specs.laws.Replies.{few_replies, only_one}
use Rattle.oz_underway.specs.laws.Said.{said_longer}
use Rattle.oz_underway.specs.laws.Starting.{started_still}

-- ---- what a list has

none_told : {X : Type 0} (xs : List X) → length xs ≡ 0 → xs ≡ []
none_told [] none = refl
none_told (x ∷ xs) none = absurd (omega (arith, none))

each_of_all : {X : Type 0} (is : X → Bool) (xs : List X) (x : X) → list_all is xs ≡ true → Contains xs x → is x ≡ true
each_of_all is [] x all among = absurd (omega (arith, among.1))
each_of_all is (first ∷ xs) x all among =
    let parts = and_parts (is first) (list_all is xs) all in
    ⊎_elim
    (λ (same : first ≡ x). ap is (sym same) ∙ parts.0)
    (λ later. each_of_all is xs x parts.1 later)
    (first_or_later first x xs among)

first_not : (a b : Bool) → (a || b) ≡ false → a ≡ false
first_not true b none = none
first_not false b none = refl

contents_still : (Coherent : Type 0) (opening : Opening) (bytes : OpeningBytes) (script : Script) → IsNumbered script → Coherent → (story seen : List Event)
    → AllFollow (Follows Coherent opening bytes script) [] story → BeginsWith story seen → (pieces : List Piece) (read : List (List ℕ))
    → AreContents opening bytes script seen pieces read → AreContents opening bytes script story pieces read
contents_still Coherent opening bytes script numbered coherent story seen all begins [] [] are = are
contents_still Coherent opening bytes script numbered coherent story seen all begins [] (one ∷ read) are = are
contents_still Coherent opening bytes script numbered coherent story seen all begins (first ∷ pieces) [] are = are
contents_still Coherent opening bytes script numbered coherent story seen all begins (first ∷ pieces) (one ∷ read) are = (
  content_still Coherent opening bytes script numbered story seen first.block one coherent all begins are.0,
  contents_still Coherent opening bytes script numbered coherent story seen all begins pieces read are.1,
)

record AreThreeAnswers (story : List Event) (id : AskId) (block : Block) (a b c : ℕ) (answers : List (Option PutRefusal)) : Type 0 where
  x : Option PutRefusal
  y : Option PutRefusal
  z : Option PutRefusal
  are : answers ≡ x ∷ y ∷ z ∷ []
  answered : HaveAnswered story id block (a ∷ b ∷ c ∷ []) (x ∷ y ∷ z ∷ [])

three_answers : (story : List Event) (id : AskId) (block : Block) (a b c : ℕ) (answers : List (Option PutRefusal))
    → HaveAnswered story id block (a ∷ b ∷ c ∷ []) answers
    → AreThreeAnswers story id block a b c answers
three_answers story id block a b c [] have = absurd have
three_answers story id block a b c (x ∷ []) have = absurd have.1
three_answers story id block a b c (x ∷ y ∷ []) have = absurd have.1.1
three_answers story id block a b c (x ∷ y ∷ z ∷ []) have = record { x = x; y = y; z = z; are = refl; answered = have }
three_answers story id block a b c (x ∷ y ∷ z ∷ w ∷ more) have = absurd have.1.1.1

-- ---- what the law wants of the answers

module _ (story : List Event) (id : AskId) (block : Block) where
  abbrev PutOrRefused : ℕ → Type 0
  PutOrRefused dn = (has_event (puts dn block) story ≡ true) ⊎ (has_event (refuses dn block id) story ≡ true)

  refused_there : (dn : ℕ) (refusal : PutRefusal) (l : List Event) → Contains l (record { seat = datanode_seat dn; kind = Refused dn block id refusal })
      → has_event (refuses dn block id) l ≡ true
  refused_there dn refusal [] there = absurd (omega (arith, there.1))
  refused_there dn refusal (first ∷ l) there =
      ⊎_elim
      (λ (same : first ≡ record { seat = datanode_seat dn; kind = Refused dn block id refusal }).
      or_left (refuses dn block id first.kind) (has_event (refuses dn block id) l)
      (ap (λ (e : Event). refuses dn block id e.kind) same
      ∙ and_from (dn == dn && is_block block block) (is_id id id) (and_from (dn == dn) (is_block block block) (eq-eqb dn dn refl) (same_block block))
      (same_id id)))
      (λ later. or_right (refuses dn block id first.kind) (has_event (refuses dn block id) l) (refused_there dn refusal l later))
      (first_or_later first (record { seat = datanode_seat dn; kind = Refused dn block id refusal }) l there)

  answered_one : (dn : ℕ) (answer : Option PutRefusal) → HasAnswered story id block dn answer → PutOrRefused dn
  answered_one dn None put = inl put
  answered_one dn (Some refusal) there = inr (refused_there dn refusal story there)

  answered_each : (dns : List ℕ) (answers : List (Option PutRefusal)) → HaveAnswered story id block dns answers → All PutOrRefused dns
  answered_each [] [] have = All-nil PutOrRefused
  answered_each [] (answer ∷ answers) have = absurd have
  answered_each (dn ∷ dns) [] have = absurd have
  answered_each (dn ∷ dns) (answer ∷ answers) have =
      All-cons PutOrRefused dn dns (answered_one dn answer have.0) (answered_each dns answers have.1)

  put_one : (dn : ℕ) (answer : Option PutRefusal) → HasAnswered story id block dn answer
      → cond (is_none answer) 1 0 ≤ cond (has_event (puts dn block) story) 1 0
  put_one dn None put = subst (λ (t : Bool). 1 ≤ cond t 1 0) (sym put) (omega arith)
  put_one dn (Some refusal) there = omega arith

  put_by_as_many : (dns : List ℕ) (answers : List (Option PutRefusal)) → HaveAnswered story id block dns answers
      → count_by is_none answers ≤ count_by (λ (dn : ℕ). has_event (puts dn block) story) dns
  put_by_as_many [] [] have = omega arith
  put_by_as_many [] (answer ∷ answers) have = absurd have
  put_by_as_many (dn ∷ dns) [] have = absurd have
  put_by_as_many (dn ∷ dns) (answer ∷ answers) have =
      let one = sum_by-cons (λ (a : Option PutRefusal). cond (is_none a) 1 0) answer answers in
      let other = sum_by-cons (λ (dn : ℕ). cond (has_event (puts dn block) story) 1 0) dn dns in
      let rest = put_by_as_many dns answers have.1 in
      let first = put_one dn answer have.0 in
      omega (arith, one, other, rest, first)

module _ (Coherent : Type 0) (opening : Opening) (bytes : OpeningBytes) (script : Script) where
  abbrev Follow : List Event → Event → Type 0
  Follow = Follows Coherent opening bytes script

  module _ (seen : List Event) (line : Line) (asked said : ℕ) (command : Command) (progress : Progress) (granted : Granted) (coherent : Coherent)
      (way : IsUnderWay Coherent opening bytes script seen line asked said command progress) (writing : progress.came.writing ≡ Some granted)
      (nodes : progress.nodes ≡ length opening.nodes) (least : 3 ≤ length opening.nodes)
      (later : List Event) (begins : BeginsWith later seen) (all : AllFollow Follow [] later) (x y z : Option PutRefusal)
      (answered : HaveAnswered later (ask_of line asked) granted.block (members_of progress.nodes granted.pipeline) (x ∷ y ∷ z ∷ [])) where
    abbrev id : AskId
    id = ask_of line asked

    to_write : IsToBeWritten way.since line asked granted
    to_write = new Coherent opening bytes script seen line asked said command progress granted coherent way writing later begins all

    since : BeginsWith later way.since
    since = begins_through later seen way.since begins way.goes_on

    follow_since : AllFollow Follow [] way.since
    follow_since = follow_before Follow later way.since since all

    at : IsAt opening bytes script way.since line command progress
    at = way.has way.since (begins_itself way.since) follow_since way.asked_so way.said_so

    granted_later : WasGranted later id granted.block to_write.before
    unfolding to_write
    granted_later = granted_story Coherent opening bytes script seen line asked said command progress granted coherent way writing later begins all

    abbrev a : ℕ
    a = granted.pipeline % progress.nodes

    abbrev b : ℕ
    b = (granted.pipeline + 1) % progress.nodes

    abbrev c : ℕ
    c = (granted.pipeline + 2) % progress.nodes

    apart : AreThree progress.nodes granted.pipeline
    apart =
        let event : Event = record {
          seat = to_write.its.stripe;
          kind = Decide (ask_of line asked) to_write.its.index (replies.Granted granted.block to_write.its.pipeline) to_write.its.batch;
        } in
        let there : Contains way.since event = granting way.since (ask_of line asked) granted.block to_write.before to_write.its in
        let known = its_pipeline Coherent opening bytes script way.since coherent follow_since there.0 to_write.its.stripe to_write.its.index
        to_write.its.pipeline (ask_of line asked) granted.block to_write.its.batch
        (found_at way.since event there) in
        are_three progress.nodes granted.pipeline (omega (arith, least, nodes))
        (subst (λ (n : ℕ). granted.pipeline < pipelines_of n) (sym nodes) (subst (λ (p : ℕ). p < pipelines_of (length opening.nodes)) to_write.on known))

    in_a : IsAnswerIn line.client line.number id granted.block since.0 a x
    in_a = its_answer Coherent opening bytes script later way.since since coherent all id granted.block to_write.before granted_later to_write.unsaid a x
        answered.0

    in_b : IsAnswerIn line.client line.number id granted.block since.0 b y
    in_b = its_answer Coherent opening bytes script later way.since since coherent all id granted.block to_write.before granted_later to_write.unsaid b y
        answered.1.0

    in_c : IsAnswerIn line.client line.number id granted.block since.0 c z
    in_c = its_answer Coherent opening bytes script later way.since since coherent all id granted.block to_write.before granted_later to_write.unsaid c z
        answered.1.1.0

    said_then : (n : ℕ) → times_said line.client line.number later ≡ said + (3 + n) → times_said line.client line.number since.0 ≡ 3 + n
    said_then n now =
        let unwritten : is_all_written progress ≡ false = ap (λ (w : Option Granted). is_none w && list_all has_fate_written progress.came.attempts) writing in
        omega (arith, now, said_longer line.client line.number later way.since since, way.said_so unwritten)

    counted : (n : ℕ) → times_said line.client line.number later ≡ said + (3 + n) → n ≤ length (all_told (wrote line.client line.number) since.0)
        → AreCounted line.client line.number a b c n since.0
    counted n now many =
        are_counted Coherent opening bytes script later way.since since coherent all id granted.block to_write.before granted_later to_write.unsaid
        a b c apart.one apart.two apart.three x y z in_a in_b in_c n (said_then n now) many

    -- where three things were said since, no block was written
    none_written : times_said line.client line.number later ≡ said + 3 → all_told (wrote line.client line.number) since.0 ≡ []
    none_written now = none_told (all_told (wrote line.client line.number) since.0) (counted 0 (omega (arith, now)) (omega arith)).written

    pub quorum_fits : times_said line.client line.number later ≡ said + 3 → EventFits opening bytes script later (Wrote granted.block (ask_of line asked))
    quorum_fits now = record {
      before = to_write.before;
      granted = granted_later;
      in_turn =
          ap length
          (told_longer (wrote line.client line.number) later way.since since
          ∙ (ap (λ (bs : List Block). written_for line.client line.number way.since ++ bs) (none_written now)
          ∙ append-nil (written_for line.client line.number way.since)))
          ∙ to_write.in_turn;
    }

    -- ---- what became of it

    few_replied : (story : List Event) → AllFollow Follow [] story → times_asked story line ≡ asked
        → length (replies_to line.client line.number story) ≤ length (replies_to line.client line.number way.since)
    few_replied story follow so =
        let few = few_replies Coherent opening bytes script line.client line.number story way.of_client coherent follow in
        omega (arith, few, so, at.decided, way.asked_so)

    module _ (numbered : IsNumbered script) (asked_so : times_asked later line ≡ asked) (two : Bool)
        (two_is : nat_le 2 (count_by is_none (x ∷ y ∷ z ∷ [])) ≡ two)
        (wrote_is : all_told (wrote line.client line.number) since.0 ≡ cond two (granted.block ∷ []) []) (n : ℕ)
        (each : AreCounted line.client line.number a b c n since.0)
        (now : ℕ) (said_now : times_said line.client line.number later ≡ now) where
      last : IsLastOf opening way.since progress.came.attempts granted (granted_to line.client line.number way.since)
      last =
          last_of opening way.since progress.came.attempts granted (granted_to line.client line.number way.since)
          (subst (λ (w : Option Granted). AreGrants opening way.since progress.came.attempts w
          (granted_to line.client line.number way.since)) writing at.of_line.grants)

      -- one that has the block was granted it by that Ask
      its_ask : (grant : GrantedBlock) → IsGrantOf line.client line.number way.since grant → grant.block ≡ granted.block → grant.id ≡ ask_of line asked
      its_ask grant its same =
          let legal = legal_of_follow Coherent opening bytes script way.since coherent follow_since in
          one_id opening way.since legal granted.block grant.id (ask_of line asked)
          (record {
            seat = its.seat;
            index = its.index;
            pipeline = grant.pipeline;
            batch = its.batch;
            there = subst (λ (b : Block). Contains way.since
                (record { seat = its.seat; kind = Decide grant.id its.index (replies.Granted b grant.pipeline) its.batch })) same its.there;
          })
          (its_grant opening way.since legal (ask_of line asked) granted.block to_write.before to_write.its)

      of_last : IsGrantOf line.client line.number way.since last.grant
      of_last =
          grant_of line.client line.number way.since last.grant
          (subst (λ (l : List GrantedBlock). Contains l last.grant) (sym last.parts) (Contains-push last.earlier last.grant))

      last_id : last.grant.id ≡ ask_of line asked
      last_id = its_ask last.grant of_last last.unsettled.block

      of_earlier : (grant : GrantedBlock) → Contains last.earlier grant → IsGrantOf line.client line.number way.since grant
      of_earlier grant among =
          grant_of line.client line.number way.since grant
          (subst (λ (l : List GrantedBlock). Contains l grant) (sym last.parts) (Contains-append_left last.earlier (last.grant ∷ []) grant among))

      -- the earlier ones are settled, and so of other blocks
      other_block : (grant : GrantedBlock) → Contains last.earlier grant → is_block grant.block granted.block ≡ false
      other_block grant among = by (is_block grant.block granted.block) refl
        where
          by : (t : Bool) → is_block grant.block granted.block ≡ t → t ≡ false
          by false is = refl
          by true is =
              let block_is : grant.block ≡ granted.block = one_block grant.block granted.block is in
              let ids : grant.id ≡ last.grant.id = its_ask grant (of_earlier grant among) block_is ∙ sym last_id in
              let blocks : grant.block ≡ last.grant.block = block_is ∙ sym last.unsettled.block in
              let settled = each_of_all (is_settled opening way.since) last.earlier grant
              (all-settled opening way.since progress.came.attempts last.earlier last.before) among in
              let same : is_settled opening way.since grant ≡ is_settled opening way.since last.grant =
              λ i. is_settled opening way.since (record { id = ids i; block = blocks i; pipeline = grant.pipeline }) in
              absurd (false≢true (sym last.unsettled.unsettled ∙ (sym same ∙ settled)))

      wrote_later : written_for line.client line.number later ≡ written_for line.client line.number way.since ++ cond two (granted.block ∷ []) []
      wrote_later = told_longer (wrote line.client line.number) later way.since since
          ∙ ap (λ (bs : List Block). written_for line.client line.number way.since ++ bs) wrote_is

      written_any : (block : Block) → list_any (is_block block) (written_for line.client line.number later)
          ≡ (list_any (is_block block) (written_for line.client line.number way.since) || list_any (is_block block) (cond two (granted.block ∷ []) []))
      written_any block =
          ap (list_any (is_block block)) wrote_later
          ∙ list_any-append (is_block block) (written_for line.client line.number way.since) (cond two (granted.block ∷ []) [])

      in_line : (grant : GrantedBlock) → is_of_line line.client line.number grant.id ≡ true → (story : List Event)
          → is_written story grant ≡ list_any (is_block grant.block) (written_for line.client line.number story)
      in_line grant of story =
          let ids = of_line line.client line.number grant.id of in
          λ i. list_any (is_block grant.block) (written_for (ids.0 i) (ids.1 i) story)

      older : (grant : GrantedBlock) → Contains last.earlier grant → StandsAsBefore opening way.since later grant
      older grant among =
          let its = of_earlier grant among in
          let away = other_block grant among in
          let none : (t : Bool) → list_any (is_block grant.block) (cond t (granted.block ∷ []) []) ≡ false = no_more grant.block away in
          let later_too : IsGrantOf line.client line.number later grant = record {
            of = its.of;
            seat = its.seat;
            index = its.index;
            batch = its.batch;
            there = subst (λ (l : List Event). Contains l
                (record { seat = its.seat; kind = Decide grant.id its.index (replies.Granted grant.block grant.pipeline) its.batch })) (sym since.1)
                (Contains-append_left way.since since.0 _ its.there);
          } in
          let moved = grant_members Coherent opening bytes script line.client line.number later grant coherent all later_too
          ∙ sym (grant_members Coherent opening bytes script line.client line.number way.since grant coherent follow_since its) in
          record {
            written =
                in_line grant its.of later
                ∙ (written_any grant.block
                ∙ (ap (λ (t : Bool). list_any (is_block grant.block) (written_for line.client line.number way.since) || t) (none two)
                ∙ (or-false (list_any (is_block grant.block) (written_for line.client line.number way.since))
                ∙ sym (in_line grant its.of way.since))));
            refusing = λ counts i.
                count_by
                (λ (dn : ℕ). refused_as_before Coherent opening bytes script later way.since since coherent all id granted.block to_write.before
                granted_later to_write.unsaid
                a b c apart.one apart.two apart.three x y z in_a in_b in_c n each counts grant its.of away dn i)
                (moved i);
          }
        where
          no_more : (block : Block) → is_block block granted.block ≡ false → (t : Bool) → list_any (is_block block) (cond t (granted.block ∷ []) []) ≡ false
          no_more block away true = ap (λ (t : Bool). t || false) away
          no_more block away false = refl

      -- it is written where two put it
      answers_are : AreAnswers opening later last.grant (x ∷ y ∷ z ∷ [])
      answers_are = record {
        written =
            in_line last.grant of_last.of later
            ∙ (written_any last.grant.block
            ∙ (ap (λ (t : Bool). t || list_any (is_block last.grant.block) (cond two (granted.block ∷ []) [])) unwritten
            ∙ (here two ∙ sym two_is)));
        refused = λ counts.
            refusing_as_answered Coherent opening bytes script later way.since since coherent all id granted.block to_write.before granted_later to_write.unsaid
            a b c apart.one apart.two apart.three x y z in_a in_b in_c n each counts last.grant last_id last.unsettled.block
            (ap (λ (block : Block). members opening later block.container) last.unsettled.block
            ∙ members_story Coherent opening bytes script seen line asked said command progress granted coherent way writing later begins all nodes);
      }
        where
          unwritten : list_any (is_block last.grant.block) (written_for line.client line.number way.since) ≡ false
          unwritten =
              sym (in_line last.grant of_last.of way.since)
              ∙ first_not (is_written way.since last.grant) (is_abandoned opening way.since last.grant) last.unsettled.unsettled

          here : (t : Bool) → list_any (is_block last.grant.block) (cond t (granted.block ∷ []) []) ≡ t
          here true = ap (λ (t : Bool). t || false)
              (subst (λ (block : Block). is_block last.grant.block block ≡ true) last.unsettled.block (same_block last.grant.block))
          here false = refl

      abbrev attempt : Attempt
      attempt = record { granted = granted; fate = fate_of (x ∷ y ∷ z ∷ []) }

      abbrev attempts : List Attempt
      attempts = progress.came.attempts ++ record { granted = granted; fate = fate_of (x ∷ y ∷ z ∷ []) } ∷ []

      grants_later : AreGrants opening later attempts None (granted_to line.client line.number later)
      grants_later =
          subst (AreGrants opening later attempts None)
          (sym (same_granted Coherent opening bytes script line.client line.number later way.since since (few_replied later all asked_so) ∙ last.parts))
          (one_attempt opening later progress.came.attempts last.earlier last.grant attempt
          (grants_still opening way.since later progress.came.attempts last.earlier older last.before)
          (record { block = last.unsettled.block; pipeline = last.unsettled.pipeline; fate = its_fate opening later last.grant x y z answers_are }))

      written_later : written_for line.client line.number later ≡ written_blocks attempts
      written_later =
          wrote_later
          ∙ (ap (λ (bs : List Block). bs ++ cond two (granted.block ∷ []) []) at.of_line.written
          ∙ sym more)
        where
          block_of : Attempt → Block
          block_of attempt = attempt.granted.block

          by : (t : Bool) → map (λ (a : Attempt). a.granted.block) (cond t (record { granted = granted; fate = fate_of (x ∷ y ∷ z ∷ []) } ∷ []) [])
              ≡ cond t (granted.block ∷ []) []
          by true = refl
          by false = refl

          more : written_blocks attempts ≡ written_blocks progress.came.attempts ++ cond two (granted.block ∷ []) []
          more =
              ap (map (λ (a : Attempt). a.granted.block)) (filter-append has_fate_written progress.came.attempts (attempt ∷ []))
              ∙ (map-append (λ (a : Attempt). a.granted.block) (filter has_fate_written progress.came.attempts) (filter has_fate_written (attempt ∷ []))
              ∙ ap (λ (l : List Block). written_blocks progress.came.attempts ++ l)
              (ap (λ (t : Bool). map (λ (a : Attempt). a.granted.block) (cond t (attempt ∷ []) [])) (written_by_two (x ∷ y ∷ z ∷ []) two two_is) ∙ by two))

      abbrev after : Progress
      after = record progress { came = with_answers progress.came granted (x ∷ y ∷ z ∷ []) }

      at_story : (story : List Event) → BeginsWith story later → AllFollow Follow [] story → times_asked story line ≡ asked → IsSaid story line now after
          → IsAt opening bytes script story line command after
      at_story story goes follow so still =
          let granted_same =
          same_granted Coherent opening bytes script line.client line.number story later goes
          (let some = no_fewer (reply_to line.client line.number) later way.since since in let few = few_replied story follow so in omega (arith, some, few)) in
          let settled = stays_settled Coherent opening bytes script line.client line.number later story attempts coherent all follow goes grants_later
          granted_same
          (quiet (list_all has_fate_written attempts) refl) in
          let from = begins_through story later way.since goes since in
          let replied : replies_to line.client line.number story ≡ replies_to line.client line.number way.since =
          same_by_count (reply_to line.client line.number) story way.since from
          (let some = no_fewer (reply_to line.client line.number) story way.since from in let few = few_replied story follow so in omega (arith, some, few)) in
          record {
            of_line = record {
              does = at.of_line.does;
              commits = way.labelled story from follow;
              replies = replied ∙ at.of_line.replies;
              grants = settled.grants;
              written = settled.written ∙ written_later;
            };
            decided = ap length replied ∙ (at.decided ∙ (way.asked_so ∙ sym so));
            read = contents_still Coherent opening bytes script numbered coherent story way.since follow from
                (take (length progress.read) (pieces_in progress.came.replies)) progress.read at.read;
          }
        where
          quiet : (t : Bool) → list_all has_fate_written attempts ≡ t
              → (list_all has_fate_written attempts ≡ true) ⊎ (times_said line.client line.number story ≡ times_said line.client line.number later)
          quiet true each = inl each
          quiet false some = inr (still some ∙ sym said_now)

      has_answered : IsUnderWay Coherent opening bytes script later line asked now command after
      has_answered = record {
        there = way.there;
        of_client = way.of_client;
        since = later;
        goes_on = begins_itself later;
        started = started_still later way.since line since way.started;
        asked_so = asked_so;
        said_so = λ unwritten. said_now;
        unwritten = tt;
        labelled = λ story goes follow. way.labelled story (begins_through story later way.since goes since) follow;
        has = at_story;
      }

    -- fewer than two put it
    pub unwritten_way : IsNumbered script → times_asked later line ≡ asked → nat_le 2 (count_by is_none (x ∷ y ∷ z ∷ [])) ≡ false → (now : ℕ) → now ≡ said + 3
        → times_said line.client line.number later ≡ now
        → IsUnderWay Coherent opening bytes script later line asked now command (record progress { came = with_answers progress.came granted (x ∷ y ∷ z ∷ []) })
    unwritten_way numbered asked_so few now more said_now =
        has_answered numbered asked_so false few (none_written (said_now ∙ more)) 0 (counted 0 (omega (arith, said_now, more)) (omega arith)) now said_now

    -- two put it, and it was written
    wrote_there : has_event (writes granted.block) later ≡ true → Contains (all_told (wrote line.client line.number) since.0) granted.block
    wrote_there is =
        let it = event_there (writes granted.block) later is in
        by it.there.0 it.event.seat it.event.kind it.there
        (enabled_at opening later (legal_of_follow Coherent opening bytes script later coherent all) it.there.0 it.event
        (found_at later it.event it.there)) it.so
      where
        by : (place seat : ℕ) (kind : EventKind) → Contains later (record { seat = seat; kind = kind }) → KindIsEnabled opening (take place later) seat kind
            → writes granted.block kind ≡ true → Contains (all_told (wrote line.client line.number) since.0) granted.block
        by place seat (Wrote block other) among enabled so =
            let same : granted.block ≡ block = one_block granted.block block so in
            let ids : ask_of line asked ≡ other =
            its_id Coherent opening bytes script later way.since since coherent all id granted.block to_write.before granted_later to_write.unsaid place
            other block enabled.before same enabled.granted in
            let event : Event = record { seat = seat; kind = Wrote block other } in
            let then : Contains since.0 event =
            since_then Coherent opening bytes script later way.since since coherent all id granted.block to_write.before granted_later to_write.unsaid event
            among
            (subst (λ (i : AskId). is_id (ask_of line asked) i ≡ true) ids (same_id (ask_of line asked))) in
            let of : is_of_line line.client line.number other ≡ true =
            subst (λ (i : AskId). is_of_line line.client line.number i ≡ true) ids (its_line line.client line.number (ask_of line asked) refl refl) in
            told_among (wrote line.client line.number) since.0 event granted.block then
            (ap (λ (t : Bool). cond t (Some block) None) of ∙ ap Some (sym same))
        by place seat kind among enabled so = absurd (false≢true so)

    -- where three things were said since, it isn't written
    not_written : times_said line.client line.number later ≡ said + 3 → has_event (writes granted.block) later ≡ false
    not_written now = by (has_event (writes granted.block) later) refl
      where
        by : (t : Bool) → has_event (writes granted.block) later ≡ t → t ≡ false
        by false is = refl
        by true is =
            let there = wrote_there is in
            let none : ◌≡◌ {A = ℕ} (length (all_told (wrote line.client line.number) since.0)) 0 = ap length (none_written now) in
            absurd (omega (arith, there.1, none))

    pub may_be_written : (seat : ℕ) → IsLineSeat seat → nat_le 2 (count_by is_none (x ∷ y ∷ z ∷ [])) ≡ true
        → times_said line.client line.number later ≡ said + 3
        → WroteIsEnabled opening later seat granted.block (ask_of line asked)
    may_be_written seat of_line two now =
        let its_members = members_story Coherent opening bytes script seen line asked said command progress granted coherent way writing later begins all
        nodes in
        let many = put_by_as_many later (ask_of line asked) granted.block (members_of progress.nodes granted.pipeline) (x ∷ y ∷ z ∷ []) answered in
        let least_two : 2 ≤ count_by is_none (x ∷ y ∷ z ∷ []) = leb-true _ _ two in
        let quorum : 2 ≤ count_by (λ (dn : ℕ). has_event (puts dn granted.block) later) (members_of progress.nodes granted.pipeline) =
        omega (arith, many, least_two) in
        record {
          of_line = of_line;
          before = to_write.before;
          granted = granted_later;
          answered = subst (λ (l : List ℕ). All (λ (dn : ℕ). (has_event (puts dn granted.block) later ≡ true)
              ⊎ (has_event (refuses dn granted.block (ask_of line asked)) later ≡ true)) l)
              (sym its_members) (answered_each later (ask_of line asked) granted.block (members_of progress.nodes granted.pipeline) (x ∷ y ∷ z ∷ []) answered);
          quorum = subst (λ (l : List ℕ). 2 ≤ count_by (λ (dn : ℕ). has_event (puts dn granted.block) later) l) (sym its_members) quorum;
          unwritten = not_written now;
        }

    pub written_way : IsNumbered script → times_asked later line ≡ asked → nat_le 2 (count_by is_none (x ∷ y ∷ z ∷ [])) ≡ true
        → has_event (writes granted.block) later ≡ true
        → (now : ℕ) → now ≡ said + 4 → times_said line.client line.number later ≡ now
        → IsUnderWay Coherent opening bytes script later line asked now command (record progress { came = with_answers progress.came granted (x ∷ y ∷ z ∷ []) })
    written_way numbered asked_so two so now more said_now =
        let there = wrote_there so in
        let each = counted 1 (omega (arith, said_now, more)) (omega (arith, there.1)) in
        has_answered numbered asked_so true two
        (only_one (all_told (wrote line.client line.number) since.0) granted.block there (omega (arith, each.written))) 1 each now said_now

  -- whatever comes back
  module _ (seen : List Event) (line : Line) (asked said : ℕ) (command : Command) (progress : Progress) (granted : Granted) (written : Written)
      (coherent : Coherent)
      (numbered : IsNumbered script) (way : IsUnderWay Coherent opening bytes script seen line asked said command progress)
      (writing : progress.came.writing ≡ Some granted)
      (nodes : progress.nodes ≡ length opening.nodes) (least : 3 ≤ length opening.nodes)
      (later : List Event) (begins : BeginsWith later seen) (all : AllFollow Follow [] later) (asked_so : times_asked later line ≡ asked)
      (answered : HaveAnswered later (ask_of line asked) granted.block (members_of progress.nodes granted.pipeline) written.answers) where
    they : AreThreeAnswers later (ask_of line asked) granted.block (granted.pipeline % progress.nodes) ((granted.pipeline + 1) % progress.nodes)
        ((granted.pipeline + 2) % progress.nodes) written.answers
    they =
        three_answers later (ask_of line asked) granted.block (granted.pipeline % progress.nodes) ((granted.pipeline + 1) % progress.nodes)
        ((granted.pipeline + 2) % progress.nodes)
        written.answers answered

    as_came : (now : ℕ) → IsUnderWay Coherent opening bytes script later line asked now command
        (record progress { came = with_answers progress.came granted (they.x ∷ they.y ∷ they.z ∷ []) })
        → IsUnderWay Coherent opening bytes script later line asked now command (progress_after progress (gots.Written written))
    as_came now is =
        subst (λ (w : Option Granted). IsUnderWay Coherent opening bytes script later line asked now command
        (record progress { came = came_written progress.came w written.answers })) (sym writing)
        (subst (λ (l : List (Option PutRefusal)). IsUnderWay Coherent opening bytes script later line asked now command
        (record progress { came = with_answers progress.came granted l })) (sym they.are) is)

    pub given_up_way : nat_le 2 (count_by is_none written.answers) ≡ false → times_said line.client line.number later ≡ said + 3
        → IsUnderWay Coherent opening bytes script later line asked (said + 3) command (progress_after progress (gots.Written written))
    given_up_way few now =
        as_came (said + 3)
        (unwritten_way seen line asked said command progress granted coherent way writing nodes least later begins all they.x they.y they.z they.answered
        numbered asked_so (sym (ap (λ (l : List (Option PutRefusal)). nat_le 2 (count_by is_none l)) they.are) ∙ few) (said + 3) refl now)

    pub quorum_way : nat_le 2 (count_by is_none written.answers) ≡ true → has_event (writes granted.block) later ≡ true
        → times_said line.client line.number later ≡ said + 4
        → IsUnderWay Coherent opening bytes script later line asked (said + 4) command (progress_after progress (gots.Written written))
    quorum_way two wrote_it now =
        as_came (said + 4)
        (written_way seen line asked said command progress granted coherent way writing nodes least later begins all they.x they.y they.z they.answered
        numbered asked_so (sym (ap (λ (l : List (Option PutRefusal)). nat_le 2 (count_by is_none l)) they.are) ∙ two) wrote_it (said + 4) refl now)

  -- the answers may be in a story of which it isn't known how often the line asked
  pub quorum_may_fit : (seen : List Event) (line : Line) (asked said : ℕ) (command : Command) (progress : Progress) (granted : Granted)
      (answers : List (Option PutRefusal)) → Coherent
      → IsUnderWay Coherent opening bytes script seen line asked said command progress → progress.came.writing ≡ Some granted
      → progress.nodes ≡ length opening.nodes → 3 ≤ length opening.nodes
      → (story : List Event) → BeginsWith story seen → AllFollow Follow [] story
      → HaveAnswered story (ask_of line asked) granted.block (members_of progress.nodes granted.pipeline) answers
      → times_said line.client line.number story ≡ said + 3
      → EventFits opening bytes script story (Wrote granted.block (ask_of line asked))
  quorum_may_fit seen line asked said command progress granted answers coherent way writing nodes least story begins all answered now =
      let they = three_answers story (ask_of line asked) granted.block (granted.pipeline % progress.nodes) ((granted.pipeline + 1) % progress.nodes)
      ((granted.pipeline + 2) % progress.nodes)
      answers answered in
      quorum_fits seen line asked said command progress granted coherent way writing nodes least story begins all they.x they.y they.z they.answered now

  pub quorum_may_follow : (seen : List Event) (line : Line) (asked said seat : ℕ) (command : Command) (progress : Progress) (granted : Granted)
      (answers : List (Option PutRefusal))
      → IsUnderWay Coherent opening bytes script seen line asked said command progress → progress.came.writing ≡ Some granted
      → progress.nodes ≡ length opening.nodes → 3 ≤ length opening.nodes → IsLineSeat seat → nat_le 2 (count_by is_none answers) ≡ true
      → (story : List Event) → BeginsWith story seen → AllFollow Follow [] story
      → HaveAnswered story (ask_of line asked) granted.block (members_of progress.nodes granted.pipeline) answers
      → times_said line.client line.number story ≡ said + 3
      → Follow story (record { seat = seat; kind = Wrote granted.block (ask_of line asked) })
  quorum_may_follow seen line asked said seat command progress granted answers way writing nodes least of_line two story begins all answered now =
      let they = three_answers story (ask_of line asked) granted.block (granted.pipeline % progress.nodes) ((granted.pipeline + 1) % progress.nodes)
      ((granted.pipeline + 2) % progress.nodes)
      answers answered in
      record {
        of_seat = tt;
        enabled = λ coherent.
            may_be_written seen line asked said command progress granted coherent way writing nodes least story begins all they.x they.y they.z
            they.answered seat of_line
            (sym (ap (λ (l : List (Option PutRefusal)). nat_le 2 (count_by is_none l)) they.are) ∙ two) now;
        fits = λ coherent.
            quorum_fits seen line asked said command progress granted coherent way writing nodes least story begins all they.x they.y they.z they.answered now;
      }

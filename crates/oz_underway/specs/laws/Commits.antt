-- What a line that opened a label wrote stays, once the line was told OK; so what the label stands for stays.
use Rattle.std.proofs.Common.{
  ◌≡◌,
  ◌≢◌,
  ◌⊎◌,
  ⊎_elim,
  inl,
  inr,
  ℕ,
  suc,
  ◌-◌,
  ◌<◌,
  Bool,
  true,
  false,
  ◌||◌,
  ◌&&◌,
  ◌==◌,
  cond,
  List,
  [],
  ◌∷◌,
  ◌++◌,
  length,
  filter,
  Option,
  None,
  Some,
  is_some,
  Contains,
  refl,
  sym,
  ap,
  ◌∙◌,
  subst,
  arith,
}
use Rattle.std.proofs.Math.Bool.{or-true}
use Rattle.std.proofs.lemmas.Bool.{and_parts, eqb-true, false≢true, ltb-true}
use Rattle.std.proofs.lemmas.List.Elements.{All-contains, All-contains_itself, All-filter, Contains-append_right, filter_passes}
use Rattle.std.proofs.lemmas.Option.{none-some, same_Some}
use Rattle.std.specs.List.{cons_option, fold, list_any, slice_get}
use Rattle.std.specs.Prelude.{nat_lt}
use Rattle.oz_command.specs.declared.command.Command.{Command}
use Rattle.oz_command.specs.declared.command.Data.{Data}
use Rattle.oz_command.specs.declared.command.Command.TheVariants as commands
use Rattle.oz_fields.specs.declared.block.Block.{Block}
use Rattle.oz_script.specs.declared.lines.script.Line.{Line}
use Rattle.oz_script.specs.declared.lines.script.Script.{Script}
use Rattle.oz_script.specs.lines.Numbered.{IsNumbered}
use Rattle.oz_namespace.specs.declared.namespace.Namespace.{Namespace}
use Rattle.oz_requests.specs.declared.answer.Answer.{Answer}
use Rattle.oz_requests.specs.declared.answer.Answer.TheVariants as told
use Rattle.oz_requests.specs.declared.answer.Values.{Values}
use Rattle.oz_requests.specs.declared.reply.Reply.{Reply}
use Rattle.oz_requests.specs.declared.reply.Reply.TheVariants as replies
use Rattle.oz_requests.specs.declared.request.AskId.{AskId}
use Rattle.oz_requests.specs.declared.request.Request.{Request}
use Rattle.oz_requests.specs.declared.request.Request.TheVariants as requests
use Rattle.oz_requests.specs.Names.{volume_in}
use Rattle.oz_model.specs.Answers.{Answers}
use Rattle.oz_model.specs.Refusals.{refusal}
use Rattle.oz_model.specs.Scope.{scope_of}
use Rattle.oz_model.specs.laws.Grants.{grants_none}
use Rattle.oz_core.specs.declared.event.Event.{Event}
use Rattle.oz_core.specs.declared.event.EventKind.{EventKind}
use Rattle.oz_core.specs.declared.event.EventKind.TheVariants.{Ask, Decide, Told, Wrote}
use Rattle.oz_core.specs.declared.limits.TheConstants.{SERVICE_CLIENT}
use Rattle.oz_core.specs.declared.opening.Opening.{Opening}
use Rattle.oz_core.specs.Asks.{answer_to, ask_id, asks_of, is_of_line, is_told, reply_to, replies_to}
use Rattle.oz_core.specs.Contents.{OpeningBytes, WasGranted, wrote, written_for}
use Rattle.oz_core.specs.Due.{IsDone, IsDue, LineIsDone}
use Rattle.oz_core.specs.Fits.{AskFits, EventFits, ToldFits}
use Rattle.oz_core.specs.Lines.{HasStarted}
use Rattle.oz_core.specs.Steps.{
  Target,
  block_step,
  commit_if,
  commit_step,
  is_code,
  is_open_at,
  is_opened_as,
  next_step,
  opening_line,
  opens_before,
  pieces_from,
  pieces_needed,
  put_step,
  session_in,
  step_of,
  target,
  target_of,
  was_told_ok,
}
use Rattle.oz_core.specs.Manager.{namespace_at}
use Rattle.oz_core.specs.Stories.{last_in}
use Rattle.oz_steps.specs.declared.label.Label.{Label}
use Rattle.oz_steps.specs.Lines.{IsLabel}
use Rattle.oz_asker.specs.Decided.{IsDecidedAsAsked}
use Rattle.oz_asker.specs.laws.Asks.{decided_as_asked, legal_of_follow}
use Rattle.oz_buffer.specs.Buffer.{AllFollow, Follows}
use Rattle.oz_buffer.specs.laws.Courses.{is_told-push}
use Rattle.oz_buffer.specs.laws.Following.{follow-push}
use Rattle.oz_kept.specs.laws.Deleted.{found_at}
use Rattle.oz_kept.specs.laws.Lines.{lines_apart}
use Rattle.oz_turn.specs.Told.{BeginsWith}
use Rattle.oz_underway.specs.UnderWay.{LabelStays}
use Rattle.oz_underway.specs.laws.Asks.{asks_count, of_line, script_of_line}
use Rattle.oz_underway.specs.laws.Going.{
  begins_itself,
  begins_push,
  follow_before,
  follow_behind,
  follow_first,
  kept_always,
  kept_on,
  no_fewer,
  none_more,
  same_by_count,
  told_more,
}
use Rattle.oz_underway.specs.laws.Labels.{never_opened, none_told, open_still}
use Rattle.oz_underway.specs.laws.Order.{has_number, in_order}
use Rattle.oz_underway.specs.laws.Replies.{few_replies}
use Rattle.oz_underway.specs.laws.Told.{asks_stop, told_still}

-- who asks for a session is granted no block
no_block : (namespace : Namespace) (volume bucket key : List ℕ) (block : Block) (pipeline : ℕ)
    → Answers namespace (requests.CreateKey volume bucket key) (replies.Granted block pipeline) → ⊥
unfolding Answers
no_block namespace volume bucket key block pipeline answers =
    let request : Request = requests.CreateKey volume bucket key in
    let none = grants_none (refusal (scope_of namespace (volume_in request)) request) (scope_of namespace (volume_in request)) request
    (replies.Granted block pipeline) (λ e. absurd cc) answers in
    absurd cc

-- the first entry behind a front
behind_front : {A : Type 0} (front rest : List A) (x : A) → slice_get (front ++ x ∷ rest) (length front) ≡ Some x
behind_front [] rest x = refl
behind_front (y ∷ front) rest x = behind_front front rest x

-- a line that opens a label
pub record Opens (command : Command) : Type 0 where
  pub label : List ℕ
  pub volume : List ℕ
  pub bucket : List ℕ
  pub key : List ℕ
  pub payload : Data
  pub is : command ≡ commands.KeyOpen label volume bucket key payload

opens_of : (name : List ℕ) (command : Command) → is_opened_as name command ≡ true → Opens command
opens_of name (commands.KeyOpen label volume bucket key payload) is =
    record { label = label; volume = volume; bucket = bucket; key = key; payload = payload; is = refl }
opens_of name command is = absurd (false≢true is)

module _ (Coherent : Type 0) (opening : Opening) (bytes : OpeningBytes) (script : Script) (numbered : IsNumbered script)
    (opened : Line) (there : Contains script.lines opened) (other : opened.client ≢ SERVICE_CLIENT) (opens : Opens opened.command) where
  abbrev Follow : List Event → Event → Type 0
  Follow = Follows Coherent opening bytes script

  abbrev written : List Event → List Block
  written story = written_for opened.client opened.number story

  -- it asks for a session, or has not written all
  asked_open : (front : List Event) (request : Request) → next_step opening script front opened ≡ Some request
      → (request ≡ requests.CreateKey opens.volume opens.bucket opens.key) ⊎ (length (written front) < pieces_needed opened.command)
  asked_open front request next = by_code (list_any is_code (replies_to opened.client opened.number front)) next
    where
      to : Target
      to = target opens.volume opens.bucket opens.key

      by_written : (session : ℕ) (t : Bool) → nat_lt (length (written front)) (pieces_needed opened.command) ≡ t
          → cond t (block_step opening front opened to session) None ≡ Some request → length (written front) < pieces_needed opened.command
      by_written session true lt is = ltb-true (length (written front)) (pieces_needed opened.command) lt
      by_written session false lt is = absurd (none-some request is)

      by_session : (session : Option ℕ) → put_step opening front opened to false session ≡ Some request
          → (request ≡ requests.CreateKey opens.volume opens.bucket opens.key) ⊎ (length (written front) < pieces_needed opened.command)
      by_session None is = inl (sym (same_Some (requests.CreateKey opens.volume opens.bucket opens.key) request is))
      by_session (Some session) is = inr (by_written session (nat_lt (length (written front)) (pieces_needed opened.command)) refl is)

      by_code : (t : Bool) → cond t None (step_of opening script front opened opened.command) ≡ Some request
          → (request ≡ requests.CreateKey opens.volume opens.bucket opens.key) ⊎ (length (written front) < pieces_needed opened.command)
      by_code true is = absurd (none-some request is)
      by_code false is =
          by_session (session_in (replies_to opened.client opened.number front))
          (subst (λ (c : Command). step_of opening script front opened c ≡ Some request) opens.is is)

  its_fit : (front : List Event) (id : AskId) (request : Request) → is_of_line opened.client opened.number id ≡ true
      → EventFits opening bytes script front (Ask id request) → next_step opening script front opened ≡ Some request
  its_fit front id request of fits =
      let fit : AskFits opening script front id request = fits.0 (script_of_line opened.client opened.number id other of) in
      let same = of_line opened.client opened.number id of in
      let one : fit.line ≡ opened = lines_apart script numbered fit.line opened fit.its.there there (fit.its.of_client ∙ same.0) (fit.its.of_number ∙ same.1) in
      subst (λ (l : Line). next_step opening script front l ≡ Some request) one fit.next

  -- who was granted a block asked for it before all was written
  granted_in_time : (front : List Event) (id : AskId) (block : Block) (before : List Event) → Coherent → AllFollow Follow [] front
      → is_of_line opened.client opened.number id ≡ true → WasGranted front id block before
      → length (written before) < pieces_needed opened.command
  granted_in_time front id block before coherent all of was =
      let ask : Event = record { seat = was.asker; kind = Ask id was.request } in
      let decide : Event = record { seat = was.stripe; kind = Decide id was.index (replies.Granted block was.pipeline) was.batch } in
      let parts = subst (λ (l : List Event). AllFollow Follow [] l) was.asked all in
      let here : Follow before ask = follow_first Follow before ask was.behind (follow_behind Follow [] before (ask ∷ was.behind) parts) in
      let next = its_fit before id was.request of (here.fits coherent) in
      let asked : slice_get front (length before) ≡ Some ask = ap (λ (l : List Event). slice_get l (length before)) was.asked
      ∙ behind_front before was.behind ask in
      let among : Contains front decide = subst (λ (l : List Event). Contains l decide) (sym was.asked)
      (Contains-append_right before (ask ∷ was.behind) decide (Contains-append_right (ask ∷ []) was.behind decide was.decided)) in
      let legal = legal_of_follow Coherent opening bytes script front coherent all in
      let decided : IsDecidedAsAsked opening front among.0 was.stripe id was.request (replies.Granted block was.pipeline) =
      decided_as_asked opening front legal id (script_of_line opened.client opened.number id other of) (length before) among.0 was.stripe was.index was.request
      (replies.Granted block was.pipeline) was.batch (was.asker, asked) (found_at front decide among) in
      ⊎_elim
      (λ (create : was.request ≡ requests.CreateKey opens.volume opens.bucket opens.key).
      absurd (no_block (namespace_at opening front among.0) opens.volume opens.bucket opens.key block was.pipeline
      (subst (λ (r : Request). Answers (namespace_at opening front among.0) r (replies.Granted block was.pipeline)) create decided.one_thread)))
      (λ fewer. fewer)
      (asked_open before was.request next)

  -- all was decided, and all written
  record IsClosed (story : List Event) : Type 0 where
    was_told : is_told opened.client opened.number story ≡ true
    decided : length (replies_to opened.client opened.number story) ≡ asks_count opened.client opened.number story
    whole : length (written story) ≡ pieces_needed opened.command

  no_write : (front : List Event) (kind : EventKind) → Coherent → AllFollow Follow [] front → EventFits opening bytes script front kind
      → length (written front) ≡ pieces_needed opened.command → wrote opened.client opened.number kind ≡ None
  no_write front (Wrote block id) coherent all fits whole = by (is_of_line opened.client opened.number id) refl
    where
      by : (t : Bool) → is_of_line opened.client opened.number id ≡ t → cond t (Some block) None ≡ None
      by false apart = refl
      by true of =
          let same = of_line opened.client opened.number id of in
          let fewer = granted_in_time front id block fits.before coherent all of fits.granted in
          let as_own : (l : List Event) → length (written_for id.client id.line l) ≡ length (written l) =
          λ l. ap (λ (c : ℕ). length (written_for c id.line l)) same.0 ∙ ap (λ (n : ℕ). length (written_for opened.client n l)) same.1 in
          absurd (omega (arith, fewer, whole, fits.in_turn, as_own front, as_own fits.before))
  no_write front kind coherent all fits whole = refl

  record AreSame (story since : List Event) : Type 0 where
    replies : replies_to opened.client opened.number story ≡ replies_to opened.client opened.number since
    blocks : written story ≡ written since
    asks : asks_of opened.client opened.number story ≡ asks_of opened.client opened.number since

  closed_same : (story since : List Event) → Coherent → AllFollow Follow [] story → BeginsWith story since → IsClosed since → AreSame story since
  closed_same story since coherent all begins closed =
      let asks = asks_stop Coherent opening bytes script opened.client opened.number story since other coherent all begins closed.was_told in
      let few = few_replies Coherent opening bytes script opened.client opened.number story other coherent all in
      let many = no_fewer (reply_to opened.client opened.number) story since begins in
      record {
        replies = same_by_count (reply_to opened.client opened.number) story since begins (omega (arith, few, many, ap length asks, closed.decided));
        blocks = kept_on Follow (λ front. written front ≡ written since) story since begins all
            (λ front event goes follow follows was.
            none_more (wrote opened.client opened.number) front event (written since)
            (no_write front event.kind coherent follow (follows.fits coherent) (ap length was ∙ closed.whole)) was)
            refl;
        asks = asks;
      }

  still_closed : (story since : List Event) → Coherent → AllFollow Follow [] story → BeginsWith story since → IsClosed since → IsClosed story
  still_closed story since coherent all begins closed =
      let same = closed_same story since coherent all begins closed in
      record {
        was_told = told_still opened.client opened.number story since begins closed.was_told;
        decided = ap length same.replies ∙ (closed.decided ∙ sym (ap length same.asks));
        whole = ap length same.blocks ∙ closed.whole;
      }

  -- where it is told OK, that is so
  is_done : (front : List Event) (values : Values) → IsDue opening bytes script front opened (told.Ok values) → IsDone opening bytes script front opened values
  is_done front values due = subst (λ (c : Command). LineIsDone opening bytes script front opened c values) opens.is due

  told_ok : (front : List Event) (seat client number : ℕ) (answer : Answer) → (client == opened.client && number == opened.number) ≡ true
      → ToldFits opening bytes script front client number answer → was_told_ok (Some answer) ≡ true
      → IsClosed (front ++ record { seat = seat; kind = Told client number answer } ∷ [])
  told_ok front seat client number (told.Ok values) its fits ok =
      let event : Event = record { seat = seat; kind = Told client number (told.Ok values) } in
      let parts = and_parts (client == opened.client) (number == opened.number) its in
      let one : fits.line ≡ opened = lines_apart script numbered fits.line opened fits.its.there there
      (fits.its.of_client ∙ eqb-true client opened.client parts.0) (fits.its.of_number ∙ eqb-true number opened.number parts.1) in
      let done = is_done front values (subst (λ (l : Line). IsDue opening bytes script front l (told.Ok values)) one fits.due) in
      record {
        was_told = is_told-push opened.client opened.number front event
            ∙ (ap (λ (t : Bool). is_told opened.client opened.number front || is_some (cond t (Some (told.Ok values)) None)) its
            ∙ or-true (is_told opened.client opened.number front));
        decided = ap length (none_more (reply_to opened.client opened.number) front event (replies_to opened.client opened.number front) refl refl)
            ∙ (done.decided
            ∙ sym (ap length (none_more (ask_id opened.client opened.number) front event (asks_of opened.client opened.number front) refl refl)));
        whole = ap length (none_more (wrote opened.client opened.number) front event (written front) refl refl) ∙ done.written;
      }
  told_ok front seat client number answer its fits ok = absurd (false≢true ok)

  ok_now : (front : List Event) (seat : ℕ) (kind : EventKind) → EventFits opening bytes script front kind
      → was_told_ok (last_in (cons_option (answer_to opened.client opened.number kind) [])) ≡ true
      → IsClosed (front ++ record { seat = seat; kind = kind } ∷ [])
  ok_now front seat (Told client number answer) fits ok = by (client == opened.client && number == opened.number) refl ok
    where
      by : (t : Bool) → (client == opened.client && number == opened.number) ≡ t → was_told_ok (last_in (cons_option (cond t (Some answer) None) [])) ≡ true
          → IsClosed (front ++ record { seat = seat; kind = Told client number answer } ∷ [])
      by true its ok = told_ok front seat client number answer its fits ok
      by false its ok = absurd (false≢true ok)
  ok_now front seat kind fits ok = absurd (false≢true ok)

  closed_once_open : (story : List Event) → Coherent → AllFollow Follow [] story → is_open_at story opened ≡ true → IsClosed story
  closed_once_open story coherent all =
      kept_always Follow (λ front. is_open_at front opened ≡ true → IsClosed front) story all
      (λ front event begins follow follows was is.
      further front event follow follows was is (is_told opened.client opened.number front) refl)
      (λ is. absurd (false≢true is))
    where
      further : (front : List Event) (event : Event) → AllFollow Follow [] front → Follow front event → (is_open_at front opened ≡ true → IsClosed front)
          → is_open_at (front ++ event ∷ []) opened ≡ true → (t : Bool) → is_told opened.client opened.number front ≡ t → IsClosed (front ++ event ∷ [])
      further front event follow follows was is true told_there =
          let longer = follow-push Follow front event follow follows in
          let goes = begins_push front front event (begins_itself front) in
          still_closed (front ++ event ∷ []) front coherent longer goes
          (was (sym (open_still Coherent opening bytes script opened (front ++ event ∷ []) front coherent longer goes told_there) ∙ is))
      further front event follow follows was is false untold =
          let none = none_told (answer_to opened.client opened.number) front untold in
          let answers = told_more (answer_to opened.client opened.number) front event
          ∙ ap (λ (l : List Answer). l ++ cons_option (answer_to opened.client opened.number event.kind) []) none in
          ok_now front event.seat event.kind (follows.fits coherent) (sym (ap (λ (l : List Answer). was_told_ok (last_in l)) answers) ∙ is)

  -- so its commit stays
  commit_if_same : (story since : List Event) (to : Option Target) (session : Option ℕ) → written story ≡ written since
      → commit_if story opened to session ≡ commit_if since opened to session
  commit_if_same story since (Some to) (Some session) same =
      ap (λ (blocks : List Block). Some (requests.CommitKey to.volume to.bucket to.key session (pieces_from 0 opened.command blocks))) same
  commit_if_same story since None session same = refl
  commit_if_same story since (Some to) None same = refl

  abbrev step : List Event → Bool → Option Request
  step l t = cond t (commit_if l opened (target_of opened.command) (session_in (replies_to opened.client opened.number l))) None

  pub commit_same : (story since : List Event) → Coherent → AllFollow Follow [] story → BeginsWith story since
      → is_told opened.client opened.number since ≡ true → commit_step story (Some opened) ≡ commit_step since (Some opened)
  commit_same story since coherent all begins was_told = by (is_open_at since opened) refl
    where
      open_same : is_open_at story opened ≡ is_open_at since opened
      open_same = open_still Coherent opening bytes script opened story since coherent all begins was_told

      by : (t : Bool) → is_open_at since opened ≡ t → commit_step story (Some opened) ≡ commit_step since (Some opened)
      by false shut = ap (step story) (open_same ∙ shut) ∙ sym (ap (step since) shut)
      by true open_there =
          let before = follow_before Follow story since begins all in
          let same = closed_same story since coherent all begins (closed_once_open since coherent before open_there) in
          ap (step story) (open_same ∙ open_there)
          ∙ (ap (λ (rs : List Reply). commit_if story opened (target_of opened.command) (session_in rs)) same.replies
          ∙ (commit_if_same story since (target_of opened.command) (session_in (replies_to opened.client opened.number since)) same.blocks
          ∙ sym (ap (step since) open_there)))

-- ---- the line that opened a label

last_among : {X : Type 0} (xs : List X) (x : X) → last_in xs ≡ Some x → Contains xs x
last_among [] x is = absurd (none-some x is)
last_among (y ∷ xs) x is = from y xs x is
  where
    from : {X : Type 0} (y : X) (xs : List X) (x : X) → fold (λ before z. Some z) (Some y) xs ≡ Some x → Contains (y ∷ xs) x
    from y [] x is = (0, omega arith, same_Some y x is)
    from y (z ∷ xs) x is = let later = from z xs x is in (suc later.0, omega (arith, later.1), later.2)

pub record IsOpening (script : Script) (line opened : Line) : Type 0 where
  pub there : Contains script.lines opened
  pub of_client : opened.client ≡ line.client
  pub earlier : opened.number < line.number
  pub opens : Opens opened.command

opening_is : (script : Script) (line opened : Line) (name : List ℕ) → opening_line script line name ≡ Some opened → IsOpening script line opened
opening_is script line opened name is =
    let test : Line → Bool = λ (l : Line). opens_before line name l in
    let among = last_among (filter (opens_before line name) script.lines) opened is in
    let passes : opens_before line name opened ≡ true =
    All-contains (λ (l : Line). opens_before line name l ≡ true) (filter (opens_before line name) script.lines) opened
    (filter_passes (opens_before line name) script.lines) among in
    let outer = and_parts (opened.client == line.client && nat_lt opened.number line.number) (is_opened_as name opened.command) passes in
    let inner = and_parts (opened.client == line.client) (nat_lt opened.number line.number) outer.0 in
    record {
      there = All-contains (Contains script.lines) (filter (opens_before line name) script.lines) opened
          (All-filter (opens_before line name) (Contains script.lines) script.lines (All-contains_itself script.lines)) among;
      of_client = eqb-true opened.client line.client inner.0;
      earlier = ltb-true opened.number line.number inner.1;
      opens = opens_of name opened.command outer.1;
    }

module _ (Coherent : Type 0) (opening : Opening) (bytes : OpeningBytes) (script : Script) (numbered : IsNumbered script) (line : Line)
    (other : line.client ≢ SERVICE_CLIENT) where
  abbrev MayFollow : List Event → Event → Type 0
  MayFollow = Follows Coherent opening bytes script

  -- a line that has started comes behind the line that opened its label, which was told
  opening_told : (story : List Event) (opened : Line) → Coherent → AllFollow MayFollow [] story → HasStarted story line → IsOpening script line opened
      → is_told opened.client opened.number story ≡ true
  opening_told story opened coherent all started is =
      let order = in_order Coherent opening bytes script numbered line.client story coherent all in
      let has = has_number script.lines [] opened numbered.in_order is.there in
      let last = started.before_it (omega (arith, has.some, is.earlier)) in
      let few = order.within (line.number - 1) last in
      subst (λ (c : ℕ). is_told c opened.number story ≡ true) (sym is.of_client)
      (order.each opened.number has.some (omega (arith, few, is.earlier)))

  module _ (since seen : List Event) (coherent : Coherent) (all : AllFollow MayFollow [] seen) (goes : BeginsWith seen since)
      (started : HasStarted since line) where
    commit_then : (name : List ℕ) (opened : Line) → opening_line script line name ≡ Some opened
        → (story : List Event) → AllFollow MayFollow [] story → BeginsWith story since → commit_step story (Some opened) ≡ commit_step since (Some opened)
    commit_then name opened is story follow begins =
        let its = opening_is script line opened name is in
        let was_told = opening_told since opened coherent (follow_before MayFollow story since begins follow) started its in
        commit_same Coherent opening bytes script numbered opened its.there
        (λ service. other (sym its.of_client ∙ service)) its.opens story since coherent follow begins was_told

    label_of_name : (name : List ℕ) (label : Option Label) (o : Option Line) → opening_line script line name ≡ o
        → IsLabel script seen line (commands.KeyCommit name) label
        → LabelStays Coherent opening bytes script since line (commands.KeyCommit name) label
    label_of_name name label None none is = absurd (never_opened script seen line name label none is)
    label_of_name name None (Some opened) its (first, is, shut) = λ story begins follow.
        let there = opening_is script line first name is in
        let was_told = opening_told since first coherent (follow_before MayFollow story since begins follow) started there in (
          first,
          is,
          open_still Coherent opening bytes script first story since coherent follow begins was_told
              ∙ (sym (open_still Coherent opening bytes script first seen since coherent all goes was_told) ∙ shut),
        )
    label_of_name name (Some label) (Some opened) its is = λ story begins follow.
        ap (commit_step story) its
        ∙ (commit_then name opened its story follow begins
        ∙ (sym (commit_then name opened its seen all goes)
        ∙ (sym (ap (commit_step seen) its) ∙ is)))

    -- what the label stands for is the same in each story from the line's start on
    pub label_stays : (command : Command) (label : Option Label) → IsLabel script seen line command label
        → LabelStays Coherent opening bytes script since line command label
    label_stays (commands.KeyCommit name) label is = label_of_name name label (opening_line script line name) refl is
    label_stays command label is = λ story begins follow. tt

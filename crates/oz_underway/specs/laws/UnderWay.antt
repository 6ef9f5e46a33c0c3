-- Lines that are under way.
use Rattle.std.proofs.Common.{
  ◌≡◌,
  ◌≢◌,
  ⊎_elim,
  ℕ,
  ◌+◌,
  ◌≤◌,
  ◌<◌,
  Bool,
  true,
  false,
  ◌&&◌,
  is_none,
  cond,
  List,
  [],
  ◌∷◌,
  ◌++◌,
  length,
  take,
  Option,
  None,
  Some,
  Contains,
  refl,
  sym,
  ap,
  ◌∙◌,
  subst,
  length-append,
  append-nil,
  arith,
}
use Rattle.std.proofs.lemmas.Bool.{cases_lt, false≢true}
use Rattle.std.proofs.lemmas.Option.{none-some, same_Some}
use Rattle.std.specs.List.{cons_option, filter_map, list_all}
use Rattle.oz_command.specs.declared.command.Command.{Command}
use Rattle.oz_fields.specs.declared.block.Piece.{Piece}
use Rattle.oz_script.specs.declared.lines.script.Line.{Line}
use Rattle.oz_script.specs.declared.lines.script.Script.{Script}
use Rattle.oz_script.specs.lines.Numbered.{IsNumbered}
use Rattle.oz_requests.specs.declared.answer.Answer.{Answer}
use Rattle.oz_requests.specs.declared.request.AskId.{AskId}
use Rattle.oz_requests.specs.declared.request.Request.{Request}
use Rattle.oz_requests.specs.declared.reply.Reply.{Reply}
use Rattle.oz_core.specs.declared.event.Event.{Event}
use Rattle.oz_core.specs.declared.event.EventKind.{EventKind}
use Rattle.oz_core.specs.declared.event.EventKind.TheVariants.{Ask, Decide, Told}
use Rattle.oz_core.specs.declared.limits.TheConstants.{SERVICE_CLIENT}
use Rattle.oz_core.specs.declared.opening.Opening.{Opening}
use Rattle.oz_core.specs.Asks.{ask_id, asks_of, is_asked, is_id, is_of_line, is_script, last_ask, pending, pending_after, reply_to, replies_to}
use Rattle.oz_core.specs.Contents.{HasContent, OpeningBytes, written_for}
use Rattle.oz_core.specs.Due.{AreContents, IsDue}
use Rattle.oz_core.specs.Fits.{AskFits, EventFits}
use Rattle.oz_core.specs.Law.{AskIsEnabled}
use Rattle.oz_core.specs.Lines.{HasStarted}
use Rattle.oz_core.specs.Steps.{GrantedBlock, grant_to, granted_to, next_step}
use Rattle.oz_steps.specs.declared.came.Granted.{Granted}
use Rattle.oz_steps.specs.declared.label.Label.{Label}
use Rattle.oz_steps.specs.Lines.{IsLabel}
use Rattle.oz_steps.specs.Came.{granted_by}
use Rattle.oz_steps.specs.laws.Next.{request-so}
use Rattle.oz_steps.specs.Requests.{request_by}
use Rattle.oz_steps.specs.Grants.{AreGrants, has_fate_written, written_blocks}
use Rattle.oz_client.specs.declared.progress.Progress.{Progress}
use Rattle.oz_client.specs.declared.step.Got.{Got}
use Rattle.oz_client.specs.declared.step.Got.TheVariants as gots
use Rattle.oz_client.specs.declared.step.Step.TheVariants as steps
use Rattle.oz_client.specs.LineState.{nothing_yet, pieces_in, progress_after}
use Rattle.oz_client.specs.Onward.{IsReading}
use Rattle.oz_client.specs.laws.Reading.{read_is_there}
use Rattle.oz_client.specs.Stories.{HasIt, IsAt, IsStepEverywhere}
use Rattle.oz_asker.specs.Decided.{IsDecideAt}
use Rattle.oz_buffer.specs.Buffer.{AllFollow, Follows}
use Rattle.oz_buffer.specs.laws.Courses.{pending-push}
use Rattle.oz_kept.specs.laws.Granted.{one_ask_id}
use Rattle.oz_kept.specs.laws.Lines.{lines_apart}
use Rattle.oz_turn.specs.Told.{BeginsWith}
use Rattle.oz_underway.specs.UnderWay.{IsLast, IsSaid, IsUnderWay, IsUnwritten, LabelStays, is_all_written, times_asked}
use Rattle.oz_underway.specs.laws.Asks.{asked_of_step, its_line, of_line, pending_was_asked, script_of_line, scripted, step_of_asked}
use Rattle.oz_underway.specs.laws.Blocks.{attempts_written, none_granted, same_written, still_grants}
use Rattle.oz_underway.specs.laws.Contents.{contents_more, content_still}
use Rattle.oz_underway.specs.laws.Deciding.{decided_since}
use Rattle.oz_underway.specs.laws.Going.{among_since, begins_itself, begins_push, begins_through, follow_before, kept_on, no_fewer, none_more, told_longer}
use Rattle.oz_underway.specs.laws.Lasting.{times_of_last}
use Rattle.oz_underway.specs.laws.Replies.{few_replies, none_more_replied, one_more}
use Rattle.oz_underway.specs.laws.Commits.{label_stays}
use Rattle.oz_underway.specs.laws.Said.{said_between, said_of_written}
use Rattle.oz_underway.specs.laws.Starting.{fresh_front, not_service, started_still}

abbrev next_id : Line → ℕ → AskId
next_id line asked = record { client = line.client; line = line.number; step = asked + 1 }

module _ (Coherent : Type 0) (opening : Opening) (bytes : OpeningBytes) (script : Script) where
  abbrev Follow : List Event → Event → Type 0
  Follow = Follows Coherent opening bytes script

  abbrev UnderWay : List Event → Line → ℕ → ℕ → Command → Progress → Type 0
  UnderWay = IsUnderWay Coherent opening bytes script

  pub still_under_way : (later seen : List Event) (line : Line) (asked said : ℕ) (command : Command) (progress : Progress) → BeginsWith later seen
      → UnderWay seen line asked said command progress → UnderWay later line asked said command progress
  still_under_way later seen line asked said command progress begins way = record {
    there = way.there;
    of_client = way.of_client;
    since = way.since;
    goes_on = begins_through later seen way.since begins way.goes_on;
    started = way.started;
    asked_so = way.asked_so;
    said_so = way.said_so;
    unwritten = way.unwritten;
    labelled = way.labelled;
    has = way.has;
  }

  -- where all its blocks are written it doesn't matter what is said of them
  pub whatever_said : (seen : List Event) (line : Line) (asked said other : ℕ) (command : Command) (progress : Progress) → is_all_written progress ≡ true
      → UnderWay seen line asked said command progress → UnderWay seen line asked other command progress
  whatever_said seen line asked said other command progress written way = record {
    there = way.there;
    of_client = way.of_client;
    since = way.since;
    goes_on = way.goes_on;
    started = way.started;
    asked_so = way.asked_so;
    said_so = said_of_written way.since line other progress written;
    unwritten = way.unwritten;
    labelled = way.labelled;
    has = λ story goes all so as_said. way.has story goes all so (said_of_written story line said progress written);
  }

  -- ---- what is asked

  -- a line that may ask with the next step asked no more than before
  asked_no_more : (story since : List Event) (line : Line) (asked : ℕ) → line.client ≢ SERVICE_CLIENT → Coherent → AllFollow Follow [] story
      → BeginsWith story since → times_asked since line ≡ asked → is_asked (next_id line asked) story ≡ false → times_asked story line ≡ asked
  asked_no_more story since line asked other coherent all begins so unasked =
      let id = next_id line asked in
      let few : times_asked story line < asked + 1 = ⊎_elim
      (λ (lt : times_asked story line < asked + 1). lt)
      (λ (le : asked + 1 ≤ times_asked story line). absurd
      (false≢true (sym unasked ∙ asked_of_step Coherent opening bytes script id other (omega arith) story coherent all le)))
      (cases_lt (times_asked story line) (asked + 1)) in
      let many = no_fewer (ask_id line.client line.number) story since begins in
      omega (arith, few, many, so)

  module _ (seen : List Event) (line : Line) (asked said : ℕ) (command : Command) (progress : Progress) (got : Got) (request : Request)
      (coherent : Coherent) (way : UnderWay seen line asked said command progress) (step : IsStepEverywhere command progress got (steps.Ask request))
      (has_it : (story : List Event) → HasIt opening bytes script story line command progress got) where
    next_in : (story : List Event) → BeginsWith story way.since → AllFollow Follow [] story → times_asked story line ≡ asked
        → IsSaid story line said progress → next_step opening script story line ≡ Some request
    next_in story begins all so as_said = step opening bytes script story line (way.has story begins all so as_said) (has_it story)

    pub ask_fits : (story : List Event) (seat : ℕ) → BeginsWith story seen → AllFollow Follow [] story
        → IsSaid story line said progress → AskIsEnabled opening story seat (next_id line asked) request
        → EventFits opening bytes script story (Ask (next_id line asked) request)
    ask_fits story seat begins all as_said enabled =
        let id = next_id line asked in
        let of_script : is_script id ≡ true = scripted line.client line.number (asked + 1) way.of_client in
        let goes = begins_through story seen way.since begins way.goes_on in
        let so = asked_no_more story way.since line asked way.of_client coherent all goes way.asked_so (enabled.unasked of_script) in (
          λ is. record {
            line = line;
            its = record { there = way.there; of_client = refl; of_number = refl };
            started = started_still story way.since line goes way.started;
            next = next_in story goes all so as_said;
            in_turn = ap (λ n. n + 1) (sym so);
          },
          λ not_so. absurd (false≢true (sym not_so ∙ of_script)),
        )

    -- what is pending of the id was asked since
    asked_the_same : IsNumbered script → (front : List Event) → BeginsWith front way.since → AllFollow Follow [] front → IsSaid front line said progress
        → (kind : EventKind)
        → EventFits opening bytes script front kind
        → ((other : Request) → pending (next_id line asked) front ≡ Some other → other ≡ request)
        → (other : Request) → pending_after (next_id line asked) (pending (next_id line asked) front) kind ≡ Some other → other ≡ request
    asked_the_same numbered front begins all as_said (Ask id made) fits was other is = by (is_id (next_id line asked) id) refl is
      where
        by : (t : Bool) → is_id (next_id line asked) id ≡ t → cond t (Some made) (pending (next_id line asked) front) ≡ Some other → other ≡ request
        by true same is =
            let one : next_id line asked ≡ id = one_ask_id (next_id line asked) id same in
            let fit : AskFits opening script front (next_id line asked) made =
            subst (λ (i : AskId). AskFits opening script front i made) (sym one)
            (fits.0 (subst (λ (i : AskId). is_script i ≡ true) one (scripted line.client line.number (asked + 1) way.of_client))) in
            let its : fit.line ≡ line = lines_apart script numbered fit.line line fit.its.there way.there fit.its.of_client fit.its.of_number in
            let so : times_asked front line ≡ asked = omega (arith, fit.in_turn) in
            let next : next_step opening script front line ≡ Some made = subst (λ (l : Line). next_step opening script front l ≡ Some made) its fit.next in
            sym (same_Some made other is) ∙ same_Some made request (sym next ∙ next_in front begins all so as_said)
        by false apart is = was other is
    asked_the_same numbered front begins all as_said (Decide id index reply batch) fits was other is = by (is_id (next_id line asked) id) is
      where
        by : (t : Bool) → cond t None (pending (next_id line asked) front) ≡ Some other → other ≡ request
        by true is = absurd (none-some other is)
        by false is = was other is
    asked_the_same numbered front begins all as_said kind fits was other is = was other is

    pub pending_is_request : IsNumbered script → (story : List Event) → BeginsWith story seen → AllFollow Follow [] story
        → IsSaid story line said progress → (other : Request) → pending (next_id line asked) story ≡ Some other → other ≡ request
    pending_is_request numbered story begins all =
        let id = next_id line asked in
        let goes = begins_through story seen way.since begins way.goes_on in
        kept_on Follow (λ front. IsSaid front line said progress → (other : Request) → pending id front ≡ Some other → other ≡ request) story way.since goes all
        (λ front event behind follow follows was after other is.
        let as_said = said_between (front ++ event ∷ []) front way.since line said progress (event ∷ [], refl) behind way.said_so after in
        asked_the_same numbered front behind follow as_said event.kind (follows.fits coherent) (was as_said) other (sym (pending-push id front event) ∙ is))
        (λ as_said other is.
        let before = follow_before Follow story way.since goes all in
        let was = pending_was_asked Coherent opening bytes script id way.since before other is in
        let few : asked + 1 ≤ times_asked way.since line = step_of_asked Coherent opening bytes script id way.of_client way.since coherent before was in
        absurd (omega (arith, few, way.asked_so)))

  -- ---- who has no next step asks no more

  pub idle_asks : IsNumbered script → (seen : List Event) (line : Line) (asked said : ℕ) (command : Command) (progress : Progress) → Coherent
      → UnderWay seen line asked said command progress → request_by command progress.label progress.came ≡ None
      → (story : List Event) → BeginsWith story seen → AllFollow Follow [] story → IsSaid story line said progress → times_asked story line ≡ asked
  idle_asks numbered seen line asked said command progress coherent way idle story begins all =
      let goes = begins_through story seen way.since begins way.goes_on in
      kept_on Follow (λ front. IsSaid front line said progress → times_asked front line ≡ asked) story way.since goes all
      (λ front event behind follow follows was after.
      let as_said = said_between (front ++ event ∷ []) front way.since line said progress (event ∷ [], refl) behind way.said_so after in
      ap length (none_more (ask_id line.client line.number) front event (asks_of line.client line.number front)
      (no_ask front behind follow as_said event.kind (follows.fits coherent) (was as_said)) refl) ∙ was as_said)
      (λ as_said. way.asked_so)
    where
      no_ask : (front : List Event) → BeginsWith front way.since → AllFollow Follow [] front → IsSaid front line said progress → (kind : EventKind)
          → EventFits opening bytes script front kind
          → times_asked front line ≡ asked → ask_id line.client line.number kind ≡ None
      no_ask front behind follow as_said (Ask id request) fits was = by (is_of_line line.client line.number id) refl
        where
          by : (t : Bool) → is_of_line line.client line.number id ≡ t → cond t (Some id) None ≡ None
          by false apart = refl
          by true of =
              let fit : AskFits opening script front id request = fits.0 (script_of_line line.client line.number id way.of_client of) in
              let same = of_line line.client line.number id of in
              let its : fit.line ≡ line =
              lines_apart script numbered fit.line line fit.its.there way.there (fit.its.of_client ∙ same.0) (fit.its.of_number ∙ same.1) in
              let next : next_step opening script front line ≡ Some request =
              subst (λ (l : Line). next_step opening script front l ≡ Some request) its fit.next in
              let none : next_step opening script front line ≡ None =
              request-so opening script front line command progress.label progress.came (way.has front behind follow was as_said).of_line ∙ idle in
              absurd (none-some request (sym none ∙ next))
      no_ask front behind follow as_said kind fits was = refl

  -- ---- a line begins

  pub begins : (seen : List Event) (line : Line) (said : ℕ) (command : Command) (nodes : ℕ) (label : Option Label) → Coherent → Contains script.lines line
      → line.client ≢ SERVICE_CLIENT → HasStarted seen line → line.command ≡ command → asks_of line.client line.number seen ≡ []
      → LabelStays Coherent opening bytes script seen line command label
      → UnderWay seen line 0 said command (nothing_yet nodes label)
  begins seen line said command nodes label coherent there other started does none labelled = record {
    there = there;
    of_client = other;
    since = seen;
    goes_on = begins_itself seen;
    started = started;
    asked_so = ap length none;
    said_so = said_of_written seen line said (nothing_yet nodes label) refl;
    unwritten = tt;
    labelled = labelled;
    has = λ story goes all so as_said.
        let few = few_replies Coherent opening bytes script line.client line.number story other coherent all in
        let replies : replies_to line.client line.number story ≡ [] = none_more_replied line.client line.number story (omega (arith, few, so)) in
        let grants : granted_to line.client line.number story ≡ [] = none_granted line.client line.number story (ap (filter_map granted_by) replies) in
        record {
          of_line = record {
            does = does;
            commits = labelled story goes all;
            replies = replies;
            grants = grants;
            written = same_written Coherent opening bytes script line.client line.number story [] coherent all (story, refl)
                (λ grant among. absurd (omega (arith, among.1))) grants;
          };
          decided = ap length replies ∙ sym so;
          read = tt;
        };
  }

  -- from its start on
  pub begins_started : IsNumbered script → (seen : List Event) (line : Line) (said : ℕ) (command : Command) (nodes : ℕ) (label : Option Label) → Coherent
      → Contains script.lines line
      → AllFollow Follow [] seen → HasStarted seen line → line.command ≡ command → IsLabel script seen line command label
      → UnderWay seen line 0 said command (nothing_yet nodes label)
  begins_started numbered seen line said command nodes label coherent there all started does is =
      let other = not_service script numbered line there in
      let fresh = fresh_front Coherent opening bytes script numbered line there other seen coherent all started in
      still_under_way seen fresh.0 line 0 said command (nothing_yet nodes label) fresh.1.goes_on
      (begins fresh.0 line said command nodes label coherent there other fresh.1.started does fresh.1.unasked
      (label_stays Coherent opening bytes script numbered line other fresh.0 seen coherent all fresh.1.goes_on fresh.1.started command label is))

  -- ---- a reply comes

  module _ (seen later : List Event) (line : Line) (asked said : ℕ) (command : Command) (progress : Progress) (reply : Reply)
      (coherent : Coherent) (way : UnderWay seen line asked said command progress)
      (idle : progress.came.writing ≡ None) (unread : progress.read ≡ []) (written : list_all has_fate_written progress.came.attempts ≡ true)
      (no_grant : granted_by reply ≡ None) (follow : AllFollow Follow [] later) (goes : BeginsWith later seen) where
    -- before the line asked again
    at_since : IsAt opening bytes script way.since line command progress
    at_since =
        way.has way.since (begins_itself way.since)
        (follow_before Follow later way.since (begins_through later seen way.since goes way.goes_on) follow)
        way.asked_so way.said_so

    grants_since : AreGrants opening way.since progress.came.attempts None (granted_to line.client line.number way.since)
    grants_since = subst
        (λ (w : Option Granted). AreGrants opening way.since progress.came.attempts w
        (granted_to line.client line.number way.since)) idle at_since.of_line.grants

    module _ (event : Event) (is : reply_to line.client line.number event.kind ≡ Some reply) (story : List Event) (all : AllFollow Follow [] story)
        (since : BeginsWith story way.since) (among : Contains since.0 event) (so : times_asked story line ≡ asked + 1) where
      one_reply : replies_to line.client line.number since.0 ≡ reply ∷ []
      one_reply =
          let few = few_replies Coherent opening bytes script line.client line.number story way.of_client coherent all in
          let before = at_since.decided ∙ way.asked_so in
          one_more line.client line.number asked story way.since since event reply before (omega (arith, few, so)) among is

      replies_now : replies_to line.client line.number story ≡ progress.came.replies ++ reply ∷ []
      replies_now =
          told_longer (reply_to line.client line.number) story way.since since
          ∙ (ap (λ (rs : List Reply). rs ++ replies_to line.client line.number since.0) at_since.of_line.replies
          ∙ ap (λ (rs : List Reply). progress.came.replies ++ rs) one_reply)

      same_grants : granted_to line.client line.number story ≡ granted_to line.client line.number way.since
      same_grants =
          let none : granted_to line.client line.number since.0 ≡ [] = none_granted line.client line.number since.0
          (ap (filter_map granted_by) one_reply ∙ ap (λ (o : Option Granted). cons_option o []) no_grant) in
          told_longer (grant_to line.client line.number) story way.since since
          ∙ (ap (λ (gs : List GrantedBlock). granted_to line.client line.number way.since ++ gs) none
          ∙ append-nil (granted_to line.client line.number way.since))

      grants_now : AreGrants opening story progress.came.attempts (granted_by reply) (granted_to line.client line.number story)
      grants_now =
          let still = still_grants opening story way.since progress.came.attempts (granted_to line.client line.number way.since) since written grants_since in
          subst (λ (w : Option Granted). AreGrants opening story progress.came.attempts w (granted_to line.client line.number story)) (sym no_grant)
          (subst (λ (gs : List GrantedBlock). AreGrants opening story progress.came.attempts None gs) (sym same_grants) still)

      written_now : written_for line.client line.number story ≡ written_blocks progress.came.attempts
      written_now =
          same_written Coherent opening bytes script line.client line.number story way.since coherent all since
          (attempts_written opening way.since progress.came.attempts (granted_to line.client line.number way.since) written grants_since)
          same_grants
          ∙ at_since.of_line.written

      at_now : IsAt opening bytes script story line command (progress_after progress (gots.Reply reply))
      at_now = record {
        of_line = record {
          does = at_since.of_line.does;
          commits = way.labelled story since all;
          replies = replies_now;
          grants = grants_now;
          written = written_now;
        };
        decided =
            let before = ap length (sym at_since.of_line.replies) ∙ (at_since.decided ∙ way.asked_so) in
            omega (arith, ap length replies_now, length-append progress.came.replies (reply ∷ []), before, so);
        read = subst (λ (read : List (List ℕ)). AreContents opening bytes script story
            (take (length read) (pieces_in (progress.came.replies ++ reply ∷ []))) read) (sym unread) tt;
      }

    pub reply_comes : (place now : ℕ) → IsDecideAt later place (next_id line asked) reply
        → UnderWay later line (asked + 1) now command (progress_after progress (gots.Reply reply))
    reply_comes place now decided =
        let id = next_id line asked in
        let since = begins_through later seen way.since goes way.goes_on in
        let found = decided_since Coherent opening bytes script later way.since place id reply way.of_client coherent follow since
        (omega (arith, way.asked_so)) decided in
        let event : Event = record { seat = found.seat; kind = Decide id found.index reply found.batch } in
        let behind = begins_push found.front way.since event found.behind in
        record {
          there = way.there;
          of_client = way.of_client;
          since = found.front ++ event ∷ [];
          goes_on = found.goes_on;
          started = started_still (found.front ++ event ∷ []) way.since line behind way.started;
          asked_so = found.asked_so;
          said_so = said_of_written (found.front ++ event ∷ []) line now (progress_after progress (gots.Reply reply)) all_written;
          unwritten = subst (IsUnwritten (found.front ++ event ∷ []) line (asked + 1)) (sym no_grant) tt;
          labelled = λ story begins all. way.labelled story (begins_through story (found.front ++ event ∷ []) way.since begins behind) all;
          has = λ story begins all so as_said.
              let among = among_since story way.since found.front event found.behind begins in
              at_now event (its_reply line (asked + 1) found.index reply found.batch) story all among.0 among.1 so;
        }
      where
        all_written : is_all_written (progress_after progress (gots.Reply reply)) ≡ true
        all_written =
            ap (λ (w : Option Granted). is_none w && list_all has_fate_written progress.came.attempts) no_grant ∙ written

        its_reply : (line : Line) (step index : ℕ) (reply : Reply) (batch : List ℕ)
            → reply_to line.client line.number (Decide (record { client = line.client; line = line.number; step = step }) index reply batch) ≡ Some reply
        its_reply line step index reply batch =
            ap (λ (t : Bool). cond t (Some reply) None)
            (its_line line.client line.number (record { client = line.client; line = line.number; step = step }) refl refl)

  -- ---- a piece is read

  pub piece_read : IsNumbered script
      → (seen later : List Event) (line : Line) (asked said : ℕ) (command : Command) (progress : Progress) (piece : Piece) (content : List ℕ) → Coherent
      → UnderWay seen line asked said command progress → IsReading command progress piece → IsSaid later line said progress → BeginsWith later seen
      → AllFollow Follow [] later
      → HasContent opening bytes script later piece.block content
      → UnderWay later line asked said command (record progress { read = progress.read ++ content ∷ [] })
  piece_read numbered seen later line asked said command progress piece content coherent way reading as_said begins all has =
      let behind = begins_through later seen way.since begins way.goes_on in
      record {
        there = way.there;
        of_client = way.of_client;
        since = later;
        goes_on = begins_itself later;
        started = started_still later way.since line behind way.started;
        asked_so = idle_asks numbered seen line asked said command progress coherent way reading.idle.no_step later begins all as_said;
        said_so = as_said;
        unwritten = subst (IsUnwritten later line asked) (sym reading.idle.unwritten) tt;
        labelled = λ story goes follow. way.labelled story (begins_through story later way.since goes behind) follow;
        has = λ story goes follow so still.
            let at = way.has story (begins_through story later way.since goes behind) follow so still in
            record {
              of_line = at.of_line;
              decided = at.decided;
              read = contents_more opening bytes script story (pieces_in progress.came.replies) progress.read piece content
                  (read_is_there command (pieces_in progress.came.replies) (length progress.read) piece reading.next) at.read
                  (content_still Coherent opening bytes script numbered story later piece.block content coherent follow goes has);
            };
      }

  -- ---- what is told

  pub told_is_due : (seen : List Event) (line : Line) (asked said : ℕ) (command : Command) (progress : Progress) (got : Got) (answer : Answer)
      → UnderWay seen line asked said command progress → IsStepEverywhere command progress got (steps.Tell answer)
      → (story : List Event) → BeginsWith story seen → AllFollow Follow [] story → times_asked story line ≡ asked → IsSaid story line said progress
      → HasIt opening bytes script story line command progress got → IsDue opening bytes script story line answer
  told_is_due seen line asked said command progress got answer way step story begins all so as_said has_it =
      step opening bytes script story line (way.has story (begins_through story seen way.since begins way.goes_on) all so as_said) has_it

  -- what is due is what the script leads to
  pub due_fits : (seen : List Event) (line : Line) (asked said : ℕ) (command : Command) (progress : Progress) (answer : Answer)
      → UnderWay seen line asked said command progress → (story : List Event) → BeginsWith story seen → IsDue opening bytes script story line answer
      → EventFits opening bytes script story (Told line.client line.number answer)
  due_fits seen line asked said command progress answer way story begins due = record {
    line = line;
    its = record { there = way.there; of_client = refl; of_number = refl };
    started = started_still story way.since line (begins_through story seen way.since begins way.goes_on) way.started;
    due = due;
  }

  pub told_fits : (seen : List Event) (line : Line) (asked said : ℕ) (command : Command) (progress : Progress) (got : Got) (answer : Answer)
      (last : Option AskId) → Coherent
      → UnderWay seen line asked said command progress → IsStepEverywhere command progress got (steps.Tell answer) → IsLast last asked
      → (story : List Event) → BeginsWith story seen → AllFollow Follow [] story → last_ask line.client line.number story ≡ last
      → IsSaid story line said progress
      → HasIt opening bytes script story line command progress got
      → EventFits opening bytes script story (Told line.client line.number answer)
  told_fits seen line asked said command progress got answer last coherent way step of_last story begins all is as_said has_it =
      due_fits seen line asked said command progress answer way story begins
      (told_is_due seen line asked said command progress got answer way step story begins all
      (times_of_last Coherent opening bytes script line.client line.number asked story way.of_client coherent all last of_last is) as_said has_it)

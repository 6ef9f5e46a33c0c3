-- What a line needs, and what it is to be told where its stripe is granted nothing.
use Rattle.std.proofs.Common.{◌≡◌, ◌≢◌, ◌≤◌, ℕ, Bool, true, false, List, [], ◌∷◌, ◌++◌, Option, None, Some, Err, refl, sym, ap, ◌∙◌, subst, arith, take}
use Rattle.std.proofs.lemmas.Option.{none-some}
use Rattle.std.proofs.lemmas.List.Elements.{All-head, All-tail}
use Rattle.std.specs.Prelude.{Contains, length}
use Rattle.oz_command.specs.declared.command.AdminCommand.TheVariants as admin
use Rattle.oz_command.specs.declared.command.Command.{Command}
use Rattle.oz_command.specs.declared.command.Command.TheVariants as commands
use Rattle.oz_core.specs.declared.event.Event.{Event}
use Rattle.oz_core.specs.declared.opening.Opening.{Opening}
use Rattle.oz_core.specs.Asks.{is_script, last_ask, pending}
use Rattle.oz_core.specs.Contents.{OpeningBytes}
use Rattle.oz_core.specs.Due.{IsDue, NeedsGrant, NeedsScm, NeedsSome}
use Rattle.oz_core.specs.Grants.{IsSpent}
use Rattle.oz_core.specs.Law.{IsNeeded}
use Rattle.oz_core.specs.Manager.{asked_late, namespace_of}
use Rattle.oz_core.specs.Seats.{scm_seat, stripe_seat}
use Rattle.oz_fields.specs.declared.block.Block.{Block}
use Rattle.oz_script.specs.declared.lines.script.Line.{Line}
use Rattle.oz_script.specs.declared.lines.script.Script.{Script}
use Rattle.oz_model.specs.Answers.{Answers, reply_from}
use Rattle.oz_model.specs.Refusals.{refusal}
use Rattle.oz_model.specs.Scope.{scope_of}
use Rattle.oz_names.specs.declared.code.Code.{Code}
use Rattle.oz_namespace.specs.declared.namespace.Namespace.{Namespace}
use Rattle.oz_requests.specs.declared.reply.Reply.{Reply}
use Rattle.oz_requests.specs.declared.reply.Reply.TheVariants as replies
use Rattle.oz_requests.specs.declared.request.AskId.{AskId}
use Rattle.oz_requests.specs.declared.request.Exclude.{Exclude}
use Rattle.oz_requests.specs.declared.request.Request.{Request}
use Rattle.oz_requests.specs.declared.request.Request.TheVariants.{AllocateBlock}
use Rattle.oz_scm.specs.declared.fault.GrantFault.{GrantFault}
use Rattle.oz_scm.specs.declared.fault.GrantFault.TheVariants as faults
use Rattle.oz_asker.specs.laws.Asks.{legal_of_follow}
use Rattle.oz_buffer.specs.Buffer.{AllFollow, Follows}
use Rattle.oz_kept.specs.laws.Granted.{pending_asked}
use Rattle.oz_scm_events.specs.Granted.{IsRefusal, own_after}
use Rattle.oz_underway.specs.striped.Shares.{share_of}
use Rattle.oz_underway.specs.striped.laws.Requests.{share_answers}
use Rattle.oz_underway.specs.striped.laws.Shares.{share_is_there}
use Rattle.oz_underway.specs.striped.laws.Stories.{share_of_seen}
use Rattle.oz_asker.specs.declared.telling.still.Still.TheVariants as rests
use Rattle.oz_asker.specs.telling.Still.{StandsStill}
use Rattle.oz_turn.specs.Told.{BeginsWith}
use Rattle.oz_underway.specs.laws.Going.{begins_through, follow_behind}
use Rattle.oz_line_blocks.specs.granting.Granting.{IsDueWhileStill, WasEmpty, answer_of, stills_of}
use Rattle.oz_line_blocks.proofs.granting_lemmas.Spent.{Refuses, refuses, spent_on}
use Rattle.oz_line_blocks.proofs.granting_lemmas.Still.{between, none_own, own, still_own, still_since, take_begins}
use Rattle.oz_line_blocks.proofs.granting_lemmas.Waiting.{Waits, waits_on}

-- ---- no code applies

no_code : (refused : Option Code) (reply : Reply) (block : Block) (pipeline : ℕ) → reply ≡ replies.Granted block pipeline
    → (other : Block) (on : ℕ) → reply ≡ reply_from refused (replies.Granted other on) → refused ≡ None
no_code None reply block pipeline is other on so = refl
no_code (Some code) reply block pipeline is other on so = absurd cc

pub allowed : (namespace : Namespace) (volume bucket key : List ℕ) (session : ℕ) (exclude : Exclude) (block : Block) (pipeline : ℕ)
    → Answers namespace (AllocateBlock volume bucket key session exclude) (replies.Granted block pipeline)
    → refusal (scope_of namespace volume) (AllocateBlock volume bucket key session exclude) ≡ None
unfolding Answers
allowed namespace volume bucket key session exclude block pipeline (other, on, so) =
    no_code (refusal (scope_of namespace volume) (AllocateBlock volume bucket key session exclude)) (replies.Granted block pipeline) block pipeline refl other on so

-- ---- what is due

needs_scm : (opening : Opening) (story : List Event) (line : Line) (command : Command) → command ≢ commands.Admin admin.Drain → NeedsSome opening story line
    → NeedsScm opening story line command
needs_scm opening story line (commands.Admin admin.Close) other needs = tt
needs_scm opening story line (commands.Admin admin.Containers) other needs = tt
needs_scm opening story line (commands.Admin admin.Drain) other needs = absurd (other refl)
needs_scm opening story line command other needs = needs

pub due : (opening : Opening) (bytes : OpeningBytes) (script : Script) (story : List Event) (line : Line) (exclude : Exclude) (fault : GrantFault)
    → line.command ≢ commands.Admin admin.Drain → NeedsGrant opening story line exclude → IsRefusal opening story exclude fault
    → IsDue opening bytes script story line (answer_of fault)
due opening bytes script story line exclude (faults.Stopped count) other needs refused =
    (λ none. none-some count (sym none ∙ refused), needs_scm opening story line line.command other (exclude, needs))
due opening bytes script story line exclude faults.NoPipeline other needs refused = record { needs = (exclude, needs); unhalted = refused.0; none_up = refused.1 }
due opening bytes script story line exclude faults.Excluded other needs refused =
    record { exclude = exclude; needs = needs; unhalted = refused.0; some_up = refused.1; none_free = refused.2 }
due opening bytes script story line exclude (faults.IdsSpent next count) other needs refused = record {
  exclude = exclude;
  needs = needs;
  unhalted = refused.0;
  free = refused.1;
  spent = omega (arith, refused.2, refused.3, refused.4);
}
due opening bytes script story line exclude faults.OutOfMemory other needs refused = tt

module _ (Coherent : Type 0) (opening : Opening) (bytes : OpeningBytes) (script : Script) (coherent : Coherent) where
  abbrev Follow : List Event → Event → Type 0
  Follow = Follows Coherent opening bytes script

  module _ (seen : List Event) (place : ℕ) (id : AskId) (stripe : ℕ) (exclude : Exclude) (was : WasEmpty opening seen place id stripe exclude) where
    abbrev request : Request
    request = AllocateBlock was.empty.volume was.empty.bucket was.empty.key was.empty.session was.empty.exclude

    -- it was needed there
    pub needed_there : (container pipeline : ℕ) → (Contains exclude.containers container → ⊥) → (Contains exclude.pipelines pipeline → ⊥)
        → IsNeeded opening was.story stripe container pipeline
    needed_there container pipeline apart beside =
        let asked = pending_asked id request was.story was.empty.asked in
        record {
          seat = asked.seat;
          id = asked.other;
          volume = was.empty.volume;
          bucket = was.empty.bucket;
          key = was.empty.key;
          session = was.empty.session;
          exclude = was.empty.exclude;
          asked = asked.there;
          of_stripe = sym was.empty.its_stripe;
          container_allowed = λ there. apart (subst (λ (e : Exclude). Contains e.containers container) (sym was.its) there);
          pipeline_allowed = λ there. beside (subst (λ (e : Exclude). Contains e.pipelines pipeline) (sym was.its) there);
          none_left = was.empty.spent;
        }

    -- and so it is where the stripe has decided nothing and the storage container manager granted nothing since
    module _ (of_script : is_script id ≡ true) (story : List Event) (begins : BeginsWith story was.story) (all : AllFollow Follow [] story)
        (same : own (stripe_seat stripe) story ≡ own (stripe_seat stripe) was.story) (mine : List Event) (gave : own scm_seat story ≡ mine)
        (refused : Refuses (own scm_seat was.story) mine) where
      whole : AllFollow Follow [] (was.story ++ begins.0)
      whole = subst (AllFollow Follow []) begins.1 all

      behind : AllFollow Follow was.story begins.0
      behind = follow_behind Follow [] was.story begins.0 whole

      none : own (stripe_seat stripe) begins.0 ≡ []
      none = none_own (stripe_seat stripe) was.story begins.0 (ap (own (stripe_seat stripe)) (sym begins.1) ∙ same)

      waits : Waits Coherent opening bytes script coherent id of_script request (was.story ++ begins.0)
      waits = waits_on Coherent opening bytes script coherent id of_script request was.story begins.0
          (record { undecided = was.empty.asked; in_time = was.in_time }) behind
          (subst (λ (n : ℕ). own (stripe_seat n) begins.0 ≡ []) was.empty.its_stripe none)

      answers : (block : Block) (pipeline : ℕ) → Answers (namespace_of opening story) request (replies.Granted block pipeline)
      answers block pipeline =
          let before = namespace_of opening was.story in
          let there = share_is_there stripe before in
          let here = share_of_seen stripe opening story was.story begins.0 (share_of stripe before) (legal_of_follow Coherent opening bytes script story coherent all) begins.1 same there in
          (share_answers stripe (namespace_of opening story) (share_of stripe before) request (replies.Granted block pipeline) (sym was.empty.its_stripe) here).1
          ((share_answers stripe before (share_of stripe before) request (replies.Granted block pipeline) (sym was.empty.its_stripe) there).0 (was.empty.no_code block pipeline))

      pub needs_here : (line : Line) → last_ask line.client line.number story ≡ Some id → NeedsGrant opening story line exclude
      needs_here line last = subst (NeedsGrant opening story line) (sym was.its) (record {
        id = id;
        volume = was.empty.volume;
        bucket = was.empty.bucket;
        key = was.empty.key;
        session = was.empty.session;
        last = last;
        undecided = subst (λ (l : List Event). pending id l ≡ Some request) (sym begins.1) waits.undecided;
        in_time = subst (λ (l : List Event). asked_late id l ≡ false) (sym begins.1) waits.in_time;
        allowed = allowed (namespace_of opening story) was.empty.volume was.empty.bucket was.empty.key was.empty.session was.empty.exclude
            (record { container = 0; local = 0 }) 0 (answers (record { container = 0; local = 0 }) 0);
        none_left = subst (λ (n : ℕ). IsSpent opening story n was.empty.exclude) was.empty.its_stripe
            (subst (λ (l : List Event). IsSpent opening l stripe was.empty.exclude) (sym begins.1)
            (spent_on Coherent opening bytes script coherent was.story begins.0 mine stripe was.empty.exclude behind
            (ap (own scm_seat) (sym begins.1) ∙ gave) refused was.empty.spent));
      })

    pub refused_due : (of_script : is_script id ≡ true) (later : List Event) (reached : ℕ) (before mine : List Event) (stopped : Bool) (fault : GrantFault)
        → BeginsWith later seen → reached ≤ length later → own scm_seat (take reached later) ≡ mine → own scm_seat was.story ≡ before
        → mine ≡ own_after stopped stripe before (Err fault) → IsRefusal opening mine exclude fault
        → ((story : List Event) → AllFollow Follow [] story → IsRefusal opening (own scm_seat story) exclude fault → IsRefusal opening story exclude fault)
        → IsDueWhileStill Coherent opening bytes script later id (answer_of fault) (stills_of reached stripe place)
    refused_due of_script later reached before mine stopped fault goes_on within gave had after refused law line client number other story begins all last still =
        let scm_still = All-head (StandsStill story) (rests.Seat scm_seat reached) (rests.Seat (stripe_seat stripe) place ∷ []) still in
        let stripe_still = All-head (StandsStill story) (rests.Seat (stripe_seat stripe) place) []
        (All-tail (StandsStill story) (rests.Seat scm_seat reached) (rests.Seat (stripe_seat stripe) place ∷ []) still) in
        let from_there : BeginsWith story was.story = begins_through story later was.story begins (begins_through later seen was.story goes_on was.begins) in
        let so : own scm_seat story ≡ mine = still_own scm_seat story reached scm_still ∙ (ap (own scm_seat) (take_begins scm_seat story later reached begins within) ∙ gave) in
        let same = still_since (stripe_seat stripe) story was.story place from_there was.reached stripe_still in
        let none : Refuses (own scm_seat was.story) mine =
        subst (λ (l : List Event). Refuses l mine) (sym had) (subst (Refuses before) (sym after) (refuses stopped stripe before fault)) in
        due opening bytes script story line exclude fault other
        (needs_here of_script story from_there all same mine so none line
        (ap (λ (n : ℕ). last_ask n line.number story) client ∙ (ap (λ (n : ℕ). last_ask id.client n story) number ∙ last)))
        (law story all (subst (λ (l : List Event). IsRefusal opening l exclude fault) (sym so) refused))

    -- where the storage container manager has stood still, it gave nothing since
    pub had_then : (shown now : List Event) → BeginsWith shown seen → BeginsWith now shown → StandsStill now (rests.Seat scm_seat place)
        → own scm_seat was.story ≡ own scm_seat shown
    had_then shown now goes_on later stood =
        let first = begins_through shown seen was.story goes_on was.begins in
        let same = still_since scm_seat now was.story place (begins_through now shown was.story later first) was.reached stood in
        sym (between scm_seat was.story shown now first later same)

-- A put that is done has its key named: nothing is asked behind a code, and so its commit was asked, and done.
use Rattle.std.proofs.Common.{◌≡◌, ◌≢◌, ⊎_elim, ℕ, suc, ◌≤◌, Bool, true, false}
use Rattle.std.proofs.Common.{not, ◌||◌, ◌&&◌, ◌==◌, cond, List, [], ◌∷◌, ◌++◌}
use Rattle.std.proofs.Common.{length, take, drop, Option, None, Some, Contains, refl, sym, ◌∙◌, ap, subst, append-nil, arith}
use Rattle.std.proofs.Math.Bool.{or-false}
use Rattle.std.proofs.lemmas.Bool.{and_parts, eqb-true, ne_eqb, lt-ltb, ltb-true, cases_lt, false≢true}
use Rattle.std.proofs.lemmas.Cmp.{tied_itself}
use Rattle.std.proofs.lemmas.List.{length-append, take-append-drop}
use Rattle.std.proofs.lemmas.List.Elements.{filter_map-append}
use Rattle.std.proofs.lemmas.List.Folds.{list_any-append}
use Rattle.std.proofs.lemmas.List.Sums.{fold-append}
use Rattle.std.proofs.lemmas.Option.{none-some, same_Some}
use Rattle.std.specs.Cmp.Lexicographic.{nat_list_cmp_total}
use Rattle.std.specs.FinMap.{get, insert, get-insert}
use Rattle.std.specs.List.{cons_option, list_all, list_any, slice_get}
use Rattle.std.specs.Option.{option_and_then}
use Rattle.std.specs.Ordering.{is_eq}
use Rattle.std.specs.Prelude.{nat_lt}
use Rattle.oz_command.specs.declared.command.Command.TheVariants as commands
use Rattle.oz_command.specs.declared.command.Data.{Data}
use Rattle.oz_fields.specs.declared.block.Block.{Block}
use Rattle.oz_fields.specs.declared.block.Piece.{Piece}
use Rattle.oz_names.specs.declared.code.Code.{Code}
use Rattle.oz_namespace.specs.declared.namespace.Bucket.{Bucket}
use Rattle.oz_namespace.specs.declared.namespace.Namespace.{Namespace}
use Rattle.oz_namespace.specs.Namespace.{ByName, pieces_of}
use Rattle.oz_requests.specs.declared.answer.Values.{Values}
use Rattle.oz_requests.specs.declared.reply.Reply.{Reply}
use Rattle.oz_requests.specs.declared.reply.Reply.TheVariants as replies
use Rattle.oz_requests.specs.declared.request.AskId.{AskId}
use Rattle.oz_requests.specs.declared.request.Exclude.{Exclude}
use Rattle.oz_requests.specs.declared.request.Request.{Request}
use Rattle.oz_requests.specs.declared.request.Request.TheVariants as requests
use Rattle.oz_script.specs.declared.lines.script.Line.{Line}
use Rattle.oz_script.specs.declared.lines.script.Script.{Script}
use Rattle.oz_model.specs.Answers.{Answers, after, reply_from}
use Rattle.oz_model.specs.Refusals.{refusal}
use Rattle.oz_model.specs.Scope.{scope_of}
use Rattle.oz_core.specs.declared.event.Event.{Event}
use Rattle.oz_core.specs.declared.event.EventKind.{EventKind}
use Rattle.oz_core.specs.declared.event.EventKind.TheVariants.{Ask, Decide}
use Rattle.oz_core.specs.declared.limits.TheConstants.{SERVICE_CLIENT}
use Rattle.oz_core.specs.declared.opening.Opening.{Opening}
use Rattle.oz_core.specs.Asks.{is_id, is_of_line, is_script, pending, pending_after, reply_to, replies_to}
use Rattle.oz_core.specs.Contents.{IsLineOf, OpeningBytes, written_for, wrote}
use Rattle.oz_core.specs.Due.{IsDone}
use Rattle.oz_core.specs.Fits.{EventFits, FitsFrom}
use Rattle.oz_core.specs.Law.{AskIsEnabled, DecideIsEnabled, IsLegal, IsLegalFrom, KindIsEnabled}
use Rattle.oz_core.specs.Manager.{namespace_of}
use Rattle.oz_core.specs.Steps.{Target, target, block_step, commit_of, excluded, granted_to}
use Rattle.oz_core.specs.Steps.{is_code, is_done, is_settled, next_of_put, next_step, pieces_from, pieces_needed, put_step, session_in, step_of}
use Rattle.oz_core.specs.Stories.{last_in}
use Rattle.oz_om.specs.Asks.{same_id}
use Rattle.oz_buffer.specs.laws.Courses.{pending-push}
use Rattle.oz_kept.specs.Held.{LinesAreApart}
use Rattle.oz_kept.specs.laws.Contents.{same_line}
use Rattle.oz_kept.specs.laws.Deleted.{enabled_at, found_at, got_of_taken, split_at}
use Rattle.oz_kept.specs.laws.Granted.{WasAsked, fits_at, one_ask_id, pending_asked}
use Rattle.oz_kept.specs.laws.Places.{moved_over}
use Rattle.oz_kept.specs.reopened.laws.Named.{told_event}
use Rattle.oz_store.specs.striped.laws.Stories.{decided_next}
use Rattle.oz_headline.specs.Puts.{HasNamed}

-- what the line was replied, and what was written for it
abbrev replied : Line → List Event → List Reply
replied line story = replies_to line.client line.number story

abbrev written : Line → List Event → List Block
written line story = written_for line.client line.number story

-- ---- lists

last_pushed : {X : Type 0} (xs : List X) (x : X) → last_in (xs ++ x ∷ []) ≡ Some x
last_pushed xs x = fold-append (λ before y. Some y) None xs (x ∷ [])

record IsAmong {X : Type 0} (p : X → Bool) (xs : List X) : Type 0 where
  it : X
  there : Contains xs it
  so : p it ≡ true

one_of : {X : Type 0} (p : X → Bool) (xs : List X) → list_any p xs ≡ true → IsAmong p xs
one_of p [] is = absurd (false≢true is)
one_of {X} p (x ∷ xs) is = by (p x) refl (one_of p xs)
  where
    by : (t : Bool) → p x ≡ t → (list_any p xs ≡ true → IsAmong p xs) → IsAmong p (x ∷ xs)
    by true so rest = record { it = x; there = (0, omega arith, refl); so = so }
    by false not_so rest =
        let later = rest (sym (ap (λ (t : Bool). t || list_any p xs) not_so) ∙ is) in
        record { it = later.it; there = (suc later.there.0, omega (arith, later.there.1), later.there.2); so = later.so }

none_longer : {X : Type 0} (xs ys : List X) → length (xs ++ ys) ≤ length xs → ys ≡ []
none_longer xs [] few = refl
none_longer xs (y ∷ ys) few = absurd (omega (arith, few, length-append xs (y ∷ ys)))

-- ---- what a commit leaves

got_inserted : {V : Type 0} (m : ByName V) (name : List ℕ) (v : V) → get (insert m name v) name ≡ Some v
got_inserted m name v =
    get-insert nat_list_cmp_total m name v name
    ∙ ap (λ o. cond (is_eq o) (Some v) (get m name)) (tied_itself nat_list_cmp_total name)

commit_names : (namespace : Namespace) (volume bucket key : List ℕ) (session : ℕ) (pieces : List Piece)
    → pieces_of (after namespace (requests.CommitKey volume bucket key session pieces) replies.Done) volume bucket key ≡ Some pieces
unfolding after
commit_names namespace volume bucket key session pieces =
    ap (λ (o : Option (ByName Bucket)). option_and_then (λ (b : Bucket). get b.keys key) (option_and_then (λ buckets. get buckets bucket) o))
    (got_inserted namespace.volumes volume _)
    ∙ (ap (λ (o : Option Bucket). option_and_then (λ (b : Bucket). get b.keys key) o) (got_inserted _ bucket _)
    ∙ got_inserted _ key pieces)

-- ---- which steps of a put are replied that they are done

other_reply : (refused : Option Code) (given : Reply) → is_done given ≡ false → replies.Done ≡ reply_from refused given → ⊥
other_reply None given apart is = false≢true (sym apart ∙ sym (ap is_done is))
other_reply (Some code) given apart is = false≢true (sym (ap is_done is))

no_session : (namespace : Namespace) (volume bucket key : List ℕ) → Answers namespace (requests.CreateKey volume bucket key) replies.Done → ⊥
unfolding Answers
no_session namespace volume bucket key answers =
    other_reply (refusal (scope_of namespace volume) (requests.CreateKey volume bucket key)) _ refl answers

no_block : (namespace : Namespace) (volume bucket key : List ℕ) (session : ℕ) (exclude : Exclude)
    → Answers namespace (requests.AllocateBlock volume bucket key session exclude) replies.Done → ⊥
unfolding Answers
no_block namespace volume bucket key session exclude answers =
    other_reply (refusal (scope_of namespace volume) (requests.AllocateBlock volume bucket key session exclude)) _ refl answers.2

no_fewer : (a b : ℕ) → nat_lt a b ≡ false → b ≤ a
no_fewer a b e = ⊎_elim (λ lt. absurd (false≢true (sym e ∙ lt-ltb a b lt))) (λ le. le) (cases_lt a b)

-- the commit alone, behind as many writes as the line needs
module _ (opening : Opening) (namespace : Namespace) (story : List Event) (line : Line) (to : Target) (request : Request)
    (answers : Answers namespace request replies.Done) where
  record IsCommit : Type 0 where
    session : ℕ
    is : request ≡ commit_of story line to session
    whole : pieces_needed line.command ≤ length (written line story)

  answered_as : (asked : Request) → Some asked ≡ Some request → Answers namespace asked replies.Done
  answered_as asked is = subst (λ (r : Request). Answers namespace r replies.Done) (sym (same_Some asked request is)) answers

  abbrev is_short : Bool
  is_short = nat_lt (length (written line story)) (pieces_needed line.command)

  abbrev commits : Bool
  commits = true && not (list_any is_done (replied line story))

  abbrev block_of : ℕ → Request
  block_of session = requests.AllocateBlock to.volume to.bucket to.key session (excluded opening story line.client line.number)

  commit_asked : next_of_put opening story line to true ≡ Some request → IsCommit
  commit_asked = by (session_in (replied line story))
    where
      granted : (session : ℕ) (t : Bool) → cond t (Some (block_of session)) None ≡ Some request → ⊥
      granted session true is = no_block namespace to.volume to.bucket to.key session _ (answered_as (block_of session) is)
      granted session false is = none-some request is

      committed : (session : ℕ) → pieces_needed line.command ≤ length (written line story) → (t : Bool)
          → cond t (Some (commit_of story line to session)) None ≡ Some request → IsCommit
      committed session whole true is =
          record { session = session; is = sym (same_Some (commit_of story line to session) request is); whole = whole }
      committed session whole false is = absurd (none-some request is)

      stepped : (session : ℕ) (t : Bool) → is_short ≡ t
          → cond t (block_step opening story line to session) (cond commits (Some (commit_of story line to session)) None) ≡ Some request → IsCommit
      stepped session true e is = absurd (granted session (list_all (is_settled opening story) (granted_to line.client line.number story)) is)
      stepped session false e is = committed session (no_fewer _ _ e) commits is

      by : (session : Option ℕ) → put_step opening story line to true session ≡ Some request → IsCommit
      by None is = absurd (no_session namespace to.volume to.bucket to.key (answered_as (requests.CreateKey to.volume to.bucket to.key) is))
      by (Some session) is = stepped session is_short refl is

-- ---- behind a code nothing is asked, and nothing is pending

module _ (opening : Opening) (bytes : OpeningBytes) (script : Script) (apart : LinesAreApart script)
    (line : Line) (there : Contains script.lines line) (of_script : line.client ≢ SERVICE_CLIENT) where
  abbrev is_its : AskId → Bool
  is_its id = is_of_line line.client line.number id

  -- One thing at most is pending of the line. Once it was replied a code, nothing is, and the code is its last reply.
  record AreInTurn (asked : AskId → Option Request) (so_far : List Reply) : Type 0 where
    one : (id other : AskId) → is_its id ≡ true → is_its other ≡ true
        → (request made : Request) → asked id ≡ Some request → asked other ≡ Some made → id ≡ other
    none : list_any is_code so_far ≡ true → (id : AskId) → is_its id ≡ true → asked id ≡ None
    last : list_any is_code so_far ≡ true → (reply : Reply) → last_in so_far ≡ Some reply → is_code reply ≡ true

  abbrev InTurn : List Event → Type 0
  InTurn story = AreInTurn (λ id. pending id story) (replied line story)

  -- and so it is behind one event more
  abbrev asked_after : List Event → EventKind → AskId → Option Request
  asked_after before kind id = pending_after id (pending id before) kind

  abbrev InTurnAfter : List Event → EventKind → Type 0
  InTurnAfter before kind =
      AreInTurn (asked_after before kind) (replied line before ++ cons_option (reply_to line.client line.number kind) [])

  its_parts : (id : AskId) → is_its id ≡ true → (id.client ≡ line.client) × (id.line ≡ line.number)
  its_parts id its =
      let parts = and_parts (id.client == line.client) (id.line == line.number) its in
      (eqb-true id.client line.client parts.0, eqb-true id.line line.number parts.1)

  its_script : (id : AskId) → is_its id ≡ true → is_script id ≡ true
  its_script id its =
      ap (λ (c : ℕ). not (c == SERVICE_CLIENT)) (its_parts id its).0 ∙ ap not (ne_eqb line.client SERVICE_CLIENT of_script)

  of_its : (id other : AskId) → is_its other ≡ true → is_of_line other.client other.line id ≡ is_its id
  of_its id other its =
      ap (λ (c : ℕ). is_of_line c other.line id) (its_parts other its).0
      ∙ ap (λ (l : ℕ). is_of_line line.client l id) (its_parts other its).1

  -- what it asks is its next step
  fitting : (before : List Event) (id : AskId) (request : Request) → is_its id ≡ true
      → EventFits opening bytes script before (Ask id request) → next_step opening script before line ≡ Some request
  fitting before id request its fits =
      let asks = fits.0 (its_script id its) in
      let parts = its_parts id its in
      let own : IsLineOf script id.client id.line line = record { there = there; of_client = sym parts.0; of_number = sym parts.1 } in
      subst (λ (l : Line). next_step opening script before l ≡ Some request)
      (same_line script apart id.client id.line asks.line line asks.its own) asks.next

  no_code_then : (before : List Event) (request : Request)
      → next_step opening script before line ≡ Some request → list_any is_code (replied line before) ≡ false
  no_code_then before request = by (list_any is_code (replied line before))
    where
      by : (t : Bool) → cond t None (step_of opening script before line line.command) ≡ Some request → t ≡ false
      by true is = absurd (none-some request is)
      by false is = refl

  -- an id that isn't the line's is none of its ids
  never_its : (id other : AskId) → is_its id ≡ true → is_its other ≡ false → is_id id other ≡ false
  never_its id other its none = by (is_id id other) refl
    where
      by : (t : Bool) → is_id id other ≡ t → t ≡ false
      by false e = refl
      by true e = absurd (false≢true (sym none ∙ (ap is_its (sym (one_ask_id id other e)) ∙ its)))

  module _ (before : List Event) (was : InTurn before) where
    as_before : (asked : AskId → Option Request) → ((id : AskId) → is_its id ≡ true → asked id ≡ pending id before)
        → AreInTurn asked (replied line before ++ [])
    as_before asked same =
        subst (AreInTurn asked) (sym (append-nil (replied line before))) (record {
          one = λ id other its too request made is also.
              was.one id other its too request made (sym (same id its) ∙ is) (sym (same other too) ∙ also);
          none = λ code id its. same id its ∙ was.none code id its;
          last = was.last;
        })

    after_ask : (seat : ℕ) (asking : AskId) (made : Request) → AskIsEnabled opening before seat asking made
        → EventFits opening bytes script before (Ask asking made) → InTurnAfter before (Ask asking made)
    after_ask seat asking made enabled fits = by (is_its asking) refl
      where
        -- nothing else is pending
        this : is_its asking ≡ true → (id : AskId) → is_its id ≡ true → (request : Request) → (t : Bool) → is_id id asking ≡ t
            → cond t (Some made) (pending id before) ≡ Some request → id ≡ asking
        this its id of request true same is = one_ask_id id asking same
        this its id of request false same is =
            absurd (none-some request (sym (enabled.decided (its_script asking its) id (of_its id asking its ∙ of)) ∙ is))

        by : (t : Bool) → is_its asking ≡ t → InTurnAfter before (Ask asking made)
        by false none = as_before (asked_after before (Ask asking made))
            (λ id its. ap (λ (t : Bool). cond t (Some made) (pending id before)) (never_its id asking its none))
        by true its =
            let no_code = ap (list_any is_code) (append-nil (replied line before))
            ∙ no_code_then before made (fitting before asking made its fits) in
            record {
              one = λ id other of too request asked is also.
                  this its id of request (is_id id asking) refl is ∙ sym (this its other too asked (is_id other asking) refl also);
              none = λ coded. absurd (false≢true (sym no_code ∙ coded));
              last = λ coded. absurd (false≢true (sym no_code ∙ coded));
            }

    after_decide : (seat : ℕ) (decided : AskId) (index : ℕ) (reply : Reply) (batch : List ℕ)
        → DecideIsEnabled opening before seat decided index reply batch → InTurnAfter before (Decide decided index reply batch)
    after_decide seat decided index reply batch enabled = by (is_its decided) refl
      where
        -- what was pending is decided
        gone : is_its decided ≡ true → (id : AskId) → is_its id ≡ true → (o : Option Request) → pending id before ≡ o
            → (t : Bool) → is_id id decided ≡ t → cond t None o ≡ None
        gone its id of o is true same = refl
        gone its id of None is false apart = refl
        gone its id of (Some request) is false apart =
            let same = was.one id decided of its request enabled.request is enabled.undecided in
            absurd (false≢true (sym apart ∙ subst (λ (i : AskId). is_id i decided ≡ true) (sym same) (same_id decided)))

        -- no code was replied before
        no_code : is_its decided ≡ true → (t : Bool) → list_any is_code (replied line before) ≡ t → t ≡ false
        no_code its false e = refl
        no_code its true e = absurd (none-some enabled.request (sym (was.none e decided its) ∙ enabled.undecided))

        is_last : is_its decided ≡ true → list_any is_code (replied line before ++ reply ∷ []) ≡ true → is_code reply ≡ true
        is_last its coded =
            sym (or-false (is_code reply))
            ∙ (sym (ap (λ (t : Bool). t || (is_code reply || false)) (no_code its (list_any is_code (replied line before)) refl))
            ∙ (sym (list_any-append is_code (replied line before) (reply ∷ [])) ∙ coded))

        in_turn_so : (t : Bool) → is_its decided ≡ t
            → AreInTurn (asked_after before (Decide decided index reply batch)) (replied line before ++ cons_option (cond t (Some reply) None) [])
        in_turn_so false none = as_before (asked_after before (Decide decided index reply batch))
            (λ id its. ap (λ (t : Bool). cond t None (pending id before)) (never_its id decided its none))
        in_turn_so true its = record {
          one = λ id other of too request asked is also.
              absurd (none-some request (sym (gone its id of (pending id before) refl (is_id id decided) refl) ∙ is));
          none = λ coded id of. gone its id of (pending id before) refl (is_id id decided) refl;
          last = λ coded last is.
              subst (λ (r : Reply). is_code r ≡ true)
              (same_Some reply last (sym (last_pushed (replied line before) reply) ∙ is)) (is_last its coded);
        }

        by : (t : Bool) → is_its decided ≡ t → InTurnAfter before (Decide decided index reply batch)
        by t e =
            subst (λ (u : Bool). AreInTurn (asked_after before (Decide decided index reply batch))
            (replied line before ++ cons_option (cond u (Some reply) None) [])) (sym e) (in_turn_so t e)

    after_kind : (seat : ℕ) (kind : EventKind) → KindIsEnabled opening before seat kind → EventFits opening bytes script before kind
        → InTurnAfter before kind
    after_kind seat (Ask asking made) enabled fits = after_ask seat asking made enabled fits
    after_kind seat (Decide decided index reply batch) enabled fits = after_decide seat decided index reply batch enabled
    after_kind seat kind enabled fits = as_before (asked_after before kind) (λ id its. refl)

  pushed : (before : List Event) (event : Event) → InTurnAfter before event.kind → InTurn (before ++ event ∷ [])
  pushed before event is =
      subst (λ (asked : AskId → Option Request). AreInTurn asked (replied line (before ++ event ∷ [])))
      (λ i id. sym (pending-push id before event) i)
      (subst (AreInTurn (asked_after before event.kind))
      (sym (filter_map-append (λ (e : Event). reply_to line.client line.number e.kind) before (event ∷ []))) is)

  in_turn_from : (before rest : List Event) → IsLegalFrom opening before rest → FitsFrom opening bytes script before rest
      → InTurn before → InTurn (before ++ rest)
  unfolding IsLegalFrom FitsFrom
  in_turn_from before [] legal fits was = subst InTurn (sym (append-nil before)) was
  in_turn_from before (event ∷ rest) legal fits was =
      subst InTurn (moved_over before rest event)
      (in_turn_from (before ++ event ∷ []) rest legal.1 fits.1
      (pushed before event (after_kind before was event.seat event.kind legal.0 fits.0)))

  in_turn : (story : List Event) → IsLegal opening story → FitsFrom opening bytes script [] story → InTurn story
  in_turn story legal fits = in_turn_from [] story legal fits (record {
    one = λ id other its too request made is also. absurd (none-some request is);
    none = λ coded. absurd (false≢true coded);
    last = λ coded. absurd (false≢true coded);
  })

-- ---- so a commit was asked and done

record IsReply (client number : ℕ) (kind : EventKind) (reply : Reply) : Type 0 where
  id : AskId
  index : ℕ
  batch : List ℕ
  is : kind ≡ Decide id index reply batch
  its : is_of_line client number id ≡ true

reply_kind : (client number : ℕ) (kind : EventKind) (reply : Reply) → reply_to client number kind ≡ Some reply → IsReply client number kind reply
reply_kind client number (Decide id index given batch) reply same = by (is_of_line client number id) refl same
  where
    by : (t : Bool) → is_of_line client number id ≡ t → cond t (Some given) None ≡ Some reply
        → IsReply client number (Decide id index given batch) reply
    by true its is =
        let kind = ap (λ (r : Reply). Decide id index r batch) (same_Some given reply is) in
        record { id = id; index = index; batch = batch; is = kind; its = its }
    by false its is = absurd (none-some reply is)
reply_kind client number kind reply is = absurd (none-some reply is)

done_is : (reply : Reply) → is_done reply ≡ true → reply ≡ replies.Done
done_is replies.Done e = refl
done_is reply e = absurd (false≢true e)

module _ (opening : Opening) (bytes : OpeningBytes) (script : Script) (story : List Event) (line : Line)
    (volume bucket key : List ℕ) (payload : Data) (it : Values)
    (legal : IsLegal opening story) (fits : FitsFrom opening bytes script [] story)
    (apart : LinesAreApart script) (there : Contains script.lines line) (of_script : line.client ≢ SERVICE_CLIENT)
    (puts : line.command ≡ commands.KeyPut volume bucket key payload) (done : IsDone opening bytes script story line it) where
  abbrev to : Target
  to = target volume bucket key

  put_next : (before : List Event) → list_any is_code (replied line before) ≡ false
      → next_step opening script before line ≡ next_of_put opening before line to true
  put_next before no_code =
      ap (λ (t : Bool). cond t None (step_of opening script before line line.command)) no_code
      ∙ ap (step_of opening script before line) puts

  never_coded : list_any is_code (replied line story) ≡ false
  never_coded = by (list_any is_code (replied line story)) refl
    where
      by : (t : Bool) → list_any is_code (replied line story) ≡ t → t ≡ false
      by false e = refl
      by true e =
          let turns = in_turn opening bytes script apart line there of_script story legal fits in
          absurd (false≢true (sym done.no_code ∙ turns.last e done.reply done.last))

  was_done : list_any is_done (replied line story) ≡ true
  was_done = by (session_in (replied line story)) (sym (put_next story never_coded) ∙ done.no_step)
    where
      committed : (session : ℕ) (t : Bool) → cond (true && not t) (Some (commit_of story line to session)) None ≡ None → t ≡ true
      committed session true is = refl
      committed session false is = absurd (none-some (commit_of story line to session) (sym is))

      whole : (session : ℕ) (t : Bool) → nat_lt (length (written line story)) (pieces_needed line.command) ≡ t
          → cond t (block_step opening story line to session)
          (cond (true && not (list_any is_done (replied line story))) (Some (commit_of story line to session)) None) ≡ None
          → list_any is_done (replied line story) ≡ true
      whole session true e is = absurd (omega (arith, ltb-true _ _ e, done.written))
      whole session false e is = committed session (list_any is_done (replied line story)) is

      by : (session : Option ℕ) → put_step opening story line to true session ≡ None → list_any is_done (replied line story) ≡ true
      by None is = absurd (none-some (requests.CreateKey volume bucket key) (sym is))
      by (Some session) is = whole session (nat_lt (length (written line story)) (pieces_needed line.command)) refl is

  -- where that was decided
  record IsCommitted : Type 0 where
    seat : ℕ
    id : AskId
    index : ℕ
    batch : List ℕ
    among : Contains story (record { seat = seat; kind = Decide id index replies.Done batch })
    its : is_of_line line.client line.number id ≡ true

  committed_there : IsCommitted
  committed_there =
      let one = one_of is_done (replied line story) was_done in
      let told = told_event (reply_to line.client line.number) story one.it one.there in
      let reply = reply_kind line.client line.number told.event.kind one.it told.told in
      let kind = reply.is ∙ ap (λ (r : Reply). Decide reply.id reply.index r reply.batch) (done_is one.it one.so) in
      record {
        seat = told.event.seat;
        id = reply.id;
        index = reply.index;
        batch = reply.batch;
        among = subst (λ (k : EventKind). Contains story (record { seat = told.event.seat; kind = k })) kind told.there;
        its = reply.its;
      }

  module _ (committed : IsCommitted) where
    event : Event
    event = record { seat = committed.seat; kind = Decide committed.id committed.index replies.Done committed.batch }

    front : List Event
    front = take committed.among.0 story

    found : slice_get story committed.among.0 ≡ Some event
    unfolding event
    found = found_at story event committed.among

    enabled : DecideIsEnabled opening front committed.seat committed.id committed.index replies.Done committed.batch
    unfolding event front
    enabled = enabled_at opening story legal committed.among.0 event found

    -- where it was asked
    asked : WasAsked committed.id enabled.request front
    asked = pending_asked committed.id enabled.request front enabled.undecided

    early : List Event
    early = take asked.there.0 story

    next : next_step opening script early line ≡ Some enabled.request
    unfolding front early
    next =
        let ask : Event = record { seat = asked.seat; kind = Ask asked.other enabled.request } in
        let there_asked = got_of_taken story committed.among.0 asked.there.0 ask (found_at front ask asked.there) in
        let same = one_ask_id committed.id asked.other asked.same in
        fitting opening bytes script apart line there of_script early asked.other enabled.request
        (subst (λ (id : AskId). is_of_line line.client line.number id ≡ true) same committed.its)
        (fits_at opening bytes script story fits asked.there.0 ask there_asked)

    commit : IsCommit opening (namespace_of opening front) early line to enabled.request enabled.one_thread
    commit =
        let no_code = no_code_then opening bytes script apart line there of_script early enabled.request next in
        commit_asked opening (namespace_of opening front) early line to enabled.request enabled.one_thread
        (sym (put_next early no_code) ∙ next)

    -- all was written by then
    same_written : written line early ≡ written line story
    unfolding early
    same_written =
        let behind = drop asked.there.0 story in
        let parts : written line story ≡ written line early ++ written line behind =
        ap (λ (l : List Event). written line l) (sym (take-append-drop asked.there.0 story))
        ∙ filter_map-append (λ (e : Event). wrote line.client line.number e.kind) early behind in
        let none = none_longer (written line early) (written line behind)
        (omega (arith, ap (λ (l : List Block). length l) parts, done.written, commit.whole)) in
        sym (parts ∙ (ap (λ (l : List Block). written line early ++ l) none ∙ append-nil (written line early)))

    was_replied : last_in (replied line (front ++ event ∷ [])) ≡ Some replies.Done
    unfolding event
    was_replied =
        ap last_in (filter_map-append (λ (e : Event). reply_to line.client line.number e.kind) front (event ∷ []))
        ∙ (ap (λ (t : Bool). last_in (replied line front ++ cons_option (cond t (Some replies.Done) None) [])) committed.its
        ∙ last_pushed (replied line front) replies.Done)

    key_named : pieces_of (namespace_of opening (front ++ event ∷ [])) volume bucket key ≡ Some (pieces_from 0 line.command (written line story))
    unfolding event
    key_named =
        let namespace = namespace_of opening front in
        ap (λ (n : Namespace). pieces_of n volume bucket key)
        (decided_next opening front committed.seat committed.id committed.index replies.Done committed.batch enabled.request enabled.undecided)
        ∙ (ap (λ (r : Request). pieces_of (after namespace r replies.Done) volume bucket key) commit.is
        ∙ (commit_names namespace volume bucket key commit.session (pieces_from 0 line.command (written line early))
        ∙ ap (λ (blocks : List Block). Some (pieces_from 0 line.command blocks)) same_written))

    has_named : HasNamed opening story line to
    unfolding front
    has_named =
        let rest = drop (suc committed.among.0) story in
        record {
          front = front ++ event ∷ [];
          rest = rest;
          parts = split_at story committed.among.0 event found ∙ sym (moved_over front rest event);
          replied = was_replied;
          named = key_named;
        }

  pub a_put_is_named : HasNamed opening story line (target volume bucket key)
  a_put_is_named = has_named committed_there

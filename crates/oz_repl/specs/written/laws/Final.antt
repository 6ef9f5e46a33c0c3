-- Once as many pieces are written as a line has, none is written for it any more.
use Rattle.std.proofs.Common.{◌≡◌, ◌≢◌, ℕ, zero, suc, ◌+◌, ◌<◌, ◌≤◌, Bool, true, false, not, ◌&&◌, ◌||◌, ◌==◌}
use Rattle.std.proofs.Common.{cond, List, [], ◌∷◌, ◌++◌, length, take, drop, fold, Option, None, Some, Contains}
use Rattle.std.proofs.Common.{refl, sym, ◌∙◌, ap, subst, append-nil, append_assoc, arith}
use Rattle.std.proofs.lemmas.Bool.{and_from, and_parts, eq-eqb, eqb-true, ltb-true}
use Rattle.std.proofs.lemmas.List.{length-append, take_at}
use Rattle.std.proofs.lemmas.List.Elements.{filter_map-append}
use Rattle.std.proofs.lemmas.List.Sums.{fold-append}
use Rattle.std.proofs.lemmas.Option.{none-some, same_Some}
use Rattle.std.specs.List.{cons_option, list_any, slice_get}
use Rattle.std.specs.Prelude.{nat_lt}
use Rattle.oz_command.specs.declared.command.Command.{Command}
use Rattle.oz_command.specs.declared.command.Command.TheVariants as commands
use Rattle.oz_fields.specs.declared.block.Block.{Block}
use Rattle.oz_model.specs.Answers.{Answers}
use Rattle.oz_model.specs.Refusals.{refusal}
use Rattle.oz_model.specs.Scope.{scope_of}
use Rattle.oz_model.specs.laws.Grants.{grants_none}
use Rattle.oz_requests.specs.declared.reply.Reply.{Reply}
use Rattle.oz_requests.specs.declared.reply.Reply.TheVariants as replies
use Rattle.oz_requests.specs.declared.request.AskId.{AskId}
use Rattle.oz_requests.specs.declared.request.Family.{Family}
use Rattle.oz_requests.specs.declared.request.Family.TheVariants as families
use Rattle.oz_requests.specs.declared.request.Request.{Request}
use Rattle.oz_requests.specs.declared.request.Request.TheVariants as requests
use Rattle.oz_requests.specs.Families.{family_of}
use Rattle.oz_requests.specs.Names.{volume_in}
use Rattle.oz_script.specs.declared.lines.script.Line.{Line}
use Rattle.oz_script.specs.declared.lines.script.Script.{Script}
use Rattle.oz_core.specs.declared.event.Event.{Event}
use Rattle.oz_core.specs.declared.event.EventKind.{EventKind}
use Rattle.oz_core.specs.declared.event.EventKind.TheVariants.{Ask, Decide}
use Rattle.oz_core.specs.declared.opening.Opening.{Opening}
use Rattle.oz_core.specs.Asks.{asks, is_asked, is_id, pending, pending_after, replies_to}
use Rattle.oz_core.specs.Contents.{OpeningBytes, WasGranted, written_for, wrote}
use Rattle.oz_core.specs.Fits.{AskFits, EventFits, FitsFrom, WroteFits}
use Rattle.oz_core.specs.Law.{DecideIsEnabled, IsLegal, IsLegalFrom}
use Rattle.oz_core.specs.Manager.{namespace_of}
use Rattle.oz_core.specs.Steps.{Target, block_step, commit_if, commit_of, commit_step, is_code}
use Rattle.oz_core.specs.Steps.{is_done, is_open_at, next_of_put, next_step, opening_line, pieces_needed}
use Rattle.oz_core.specs.Steps.{put_step, session_in, single, step_of, target_of}
use Rattle.oz_kept.specs.Held.{LinesAreApart}
use Rattle.oz_kept.specs.laws.Contents.{fits_to, its_grant, same_line}
use Rattle.oz_kept.specs.laws.Places.{legal_behind, legal_first}
use Rattle.oz_kept.specs.laws.Deleted.{found_at, legal_to, split_at}
use Rattle.oz_kept.specs.laws.Granted.{fits_at, granted_to_script}
use Rattle.oz_kept.specs.reopened.laws.Committed.{written_id}

-- ---- a step that asks for a block stands before the last piece is written

not_one : (given request : Request) → family_of given ≢ families.Allocation → Some given ≡ Some request → family_of request ≡ families.Allocation → ⊥
not_one given request other same allocates = other (ap family_of (same_Some given request same) ∙ allocates)

single_none : (story : List Event) (line : Line) (given request : Request) → family_of given ≢ families.Allocation
    → single story line (Some given) ≡ Some request → family_of request ≡ families.Allocation → ⊥
single_none story line given request other = by (list_any (λ (reply : Reply). true) (replies_to line.client line.number story))
  where
    by : (t : Bool) → cond t None (Some given) ≡ Some request → family_of request ≡ families.Allocation → ⊥
    by true e allocates = none-some request e
    by false e allocates = not_one given request other e allocates

module _ (opening : Opening) (script : Script) (story : List Event) (line : Line) (request : Request)
    (allocates : family_of request ≡ families.Allocation) where
  commit_none : (o : Option Line) → single story line (commit_step story o) ≡ Some request → ⊥
  commit_none None = by (list_any (λ (reply : Reply). true) (replies_to line.client line.number story))
    where
      by : (t : Bool) → cond t None None ≡ Some request → ⊥
      by true e = none-some request e
      by false e = none-some request e
  commit_none (Some opened) = by (list_any (λ (reply : Reply). true) (replies_to line.client line.number story))
      (is_open_at story opened) (target_of opened.command) (session_in (replies_to opened.client opened.number story))
    where
      by : (t u : Bool) (to : Option Target) (session : Option ℕ) → cond t None (cond u (commit_if story opened to session) None) ≡ Some request → ⊥
      by true u to session e = none-some request e
      by false false to session e = none-some request e
      by false true None session e = none-some request e
      by false true (Some to) None e = none-some request e
      by false true (Some to) (Some session) e = not_one (commit_of story opened to session) request (λ same. absurd cc) e allocates

  put_below : (to : Target) (commits : Bool) → next_of_put opening story line to commits ≡ Some request
      → length (written_for line.client line.number story) < pieces_needed line.command
  put_below to commits = by (session_in (replies_to line.client line.number story))
    where
      committed : (session : ℕ) (t : Bool) → cond t (Some (commit_of story line to session)) None ≡ Some request → ⊥
      committed session true e = not_one (commit_of story line to session) request (λ same. absurd cc) e allocates
      committed session false e = none-some request e

      written : (session : ℕ) (t : Bool) → nat_lt (length (written_for line.client line.number story)) (pieces_needed line.command) ≡ t
          → cond t (block_step opening story line to session)
          (cond (commits && not (list_any is_done (replies_to line.client line.number story)))
          (Some (commit_of story line to session)) None) ≡ Some request
          → length (written_for line.client line.number story) < pieces_needed line.command
      written session true below e = ltb-true (length (written_for line.client line.number story)) (pieces_needed line.command) below
      written session false below e = absurd (committed session (commits && not (list_any is_done (replies_to line.client line.number story))) e)

      by : (session : Option ℕ) → put_step opening story line to commits session ≡ Some request
          → length (written_for line.client line.number story) < pieces_needed line.command
      by None e = absurd (not_one (requests.CreateKey to.volume to.bucket to.key) request (λ same. absurd cc) e allocates)
      by (Some session) e = written session (nat_lt (length (written_for line.client line.number story)) (pieces_needed line.command)) refl e

  step_below : (command : Command) → line.command ≡ command → step_of opening script story line command ≡ Some request
      → length (written_for line.client line.number story) < pieces_needed line.command
  step_below (commands.KeyPut volume bucket key payload) is e = put_below (record { volume = volume; bucket = bucket; key = key }) true e
  step_below (commands.KeyOpen label volume bucket key payload) is e = put_below (record { volume = volume; bucket = bucket; key = key }) false e
  step_below (commands.KeyCommit label) is e = absurd (commit_none (opening_line script line label) e)
  step_below (commands.VolumeCreate volume) is e = absurd (single_none story line (requests.CreateVolume volume) request (λ same. absurd cc) e allocates)
  step_below (commands.VolumeDelete volume) is e = absurd (single_none story line (requests.DeleteVolume volume) request (λ same. absurd cc) e allocates)
  step_below (commands.VolumeInfo volume) is e = absurd (single_none story line (requests.InfoVolume volume) request (λ same. absurd cc) e allocates)
  step_below (commands.BucketCreate volume bucket) is e = absurd
      (single_none story line (requests.CreateBucket volume bucket) request (λ same. absurd cc) e allocates)
  step_below (commands.BucketDelete volume bucket) is e = absurd
      (single_none story line (requests.DeleteBucket volume bucket) request (λ same. absurd cc) e allocates)
  step_below (commands.BucketInfo volume bucket) is e = absurd
      (single_none story line (requests.InfoBucket volume bucket) request (λ same. absurd cc) e allocates)
  step_below (commands.BucketList volume) is e = absurd (single_none story line (requests.ListBuckets volume) request (λ same. absurd cc) e allocates)
  step_below (commands.KeyGet volume bucket snapshot key) is e = absurd
      (single_none story line (requests.LookupKey volume bucket snapshot key) request (λ same. absurd cc) e allocates)
  step_below (commands.KeyDelete volume bucket key) is e = absurd
      (single_none story line (requests.DeleteKey volume bucket key) request (λ same. absurd cc) e allocates)
  step_below (commands.KeyRename volume bucket key to) is e = absurd
      (single_none story line (requests.RenameKey volume bucket key to) request (λ same. absurd cc) e allocates)
  step_below (commands.KeyList volume bucket snapshot prefix start count) is e = absurd
      (single_none story line (requests.ListKeys volume bucket snapshot prefix start count) request (λ same. absurd cc) e allocates)
  step_below (commands.KeyExpire volume bucket) is e = absurd
      (single_none story line (requests.ExpireOpen volume bucket) request (λ same. absurd cc) e allocates)
  step_below (commands.SnapshotCreate volume bucket snapshot) is e = absurd
      (single_none story line (requests.CreateSnapshot volume bucket snapshot) request (λ same. absurd cc) e allocates)
  step_below (commands.SnapshotDelete volume bucket snapshot) is e = absurd
      (single_none story line (requests.DeleteSnapshot volume bucket snapshot) request (λ same. absurd cc) e allocates)
  step_below (commands.SnapshotInfo volume bucket snapshot) is e = absurd
      (single_none story line (requests.InfoSnapshot volume bucket snapshot) request (λ same. absurd cc) e allocates)
  step_below (commands.SnapshotList volume bucket) is e = absurd
      (single_none story line (requests.ListSnapshots volume bucket) request (λ same. absurd cc) e allocates)
  step_below (commands.Admin command) is e = absurd (none-some request e)

  pub next_below : next_step opening script story line ≡ Some request → length (written_for line.client line.number story) < pieces_needed line.command
  next_below = by (list_any is_code (replies_to line.client line.number story))
    where
      by : (t : Bool) → cond t None (step_of opening script story line line.command) ≡ Some request
          → length (written_for line.client line.number story) < pieces_needed line.command
      by true e = absurd (none-some request e)
      by false e = step_below line.command refl e

-- ---- what a granted block was asked by

is_allocation : (family : Family) → (family ≢ families.Allocation → ⊥) → family ≡ families.Allocation
is_allocation families.Buckets none = absurd (none (λ same. absurd cc))
is_allocation families.Keys none = absurd (none (λ same. absurd cc))
is_allocation families.Allocation none = refl
is_allocation families.Snapshots none = absurd (none (λ same. absurd cc))
is_allocation families.Service none = absurd (none (λ same. absurd cc))

allocation : (opening : Opening) (story : List Event) (request : Request) (block : Block) (pipeline : ℕ)
    → Answers (namespace_of opening story) request (replies.Granted block pipeline) → family_of request ≡ families.Allocation
unfolding Answers
allocation opening story request block pipeline answers =
    is_allocation (family_of request) (λ other.
    let none = grants_none (refusal (scope_of (namespace_of opening story) (volume_in request)) request)
    (scope_of (namespace_of opening story) (volume_in request)) request (replies.Granted block pipeline) other answers in
    absurd cc)

-- what is pending behind an Ask that is the last of its id
pending_since : (id : AskId) (behind : List Event) (before : Option Request) (request : Request) → is_asked id behind ≡ false
    → fold (λ before (event : Event). pending_after id before event.kind) before behind ≡ Some request → before ≡ Some request
pending_since id [] before request none e = e
pending_since id (event ∷ behind) before request none e =
    step event.kind (or_first (asks id event.kind) (is_asked id behind) none)
    (pending_since id behind (pending_after id before event.kind) request (or_second (asks id event.kind) (is_asked id behind) none) e)
  where
    or_first : (a b : Bool) → a || b ≡ false → a ≡ false
    or_first true b e = absurd cc
    or_first false b e = refl

    or_second : (a b : Bool) → a || b ≡ false → b ≡ false
    or_second true b e = absurd cc
    or_second false b e = e

    step : (kind : EventKind) → asks id kind ≡ false → pending_after id before kind ≡ Some request → before ≡ Some request
    step (Ask other made) not e = by (is_id id other) not e
      where
        by : (t : Bool) → t ≡ false → cond t (Some made) before ≡ Some request → before ≡ Some request
        by true not e = absurd cc
        by false not e = e
    step (Decide other index reply batch) not e = by (is_id id other) e
      where
        by : (t : Bool) → cond t None before ≡ Some request → before ≡ Some request
        by true e = absurd (none-some request e)
        by false e = e
    step kind not e = e

asked_front : (id : AskId) (story : List Event) (n : ℕ) → is_asked id story ≡ false → is_asked id (take n story) ≡ false
asked_front id story zero none = refl
asked_front id [] (suc n) none = refl
asked_front id (event ∷ story) (suc n) none = by (asks id event.kind) none (asked_front id story n)
  where
    by : (t : Bool) → t || is_asked id story ≡ false
        → (is_asked id story ≡ false → is_asked id (take n story) ≡ false) → t || is_asked id (take n story) ≡ false
    by true none rest = absurd cc
    by false none rest = rest none

itself : (id : AskId) → is_id id id ≡ true
itself id = and_from (id.client == id.client && id.line == id.line) (id.step == id.step)
    (and_from (id.client == id.client) (id.line == id.line) (eq-eqb id.client id.client refl)
    (eq-eqb id.line id.line refl)) (eq-eqb id.step id.step refl)

pending_asked : (id : AskId) (before rest : List Event) (seat : ℕ) (request other : Request)
    → is_asked id rest ≡ false → pending id (before ++ record { seat = seat; kind = Ask id request } ∷ rest) ≡ Some other → request ≡ other
pending_asked id before rest seat request other none e =
    let event : Event = record { seat = seat; kind = Ask id request } in
    let folded = sym (fold-append (λ before (event : Event). pending_after id before event.kind) None before (event ∷ rest)) ∙ e in
    let since = pending_since id rest (cond (is_id id id) (Some request) (pending id before)) other none folded in
    same_Some request other (sym (ap (λ (t : Bool). cond t (Some request) (pending id before)) (itself id)) ∙ since)

granted_request : (opening : Opening) (story : List Event) → IsLegal opening story → (id : AskId) (block : Block)
    (before : List Event) → (granted : WasGranted story id block before)
    → family_of granted.request ≡ families.Allocation
granted_request opening story legal id block before granted =
    let ask : Event = record { seat = granted.asker; kind = Ask id granted.request } in
    let decide : Event = record { seat = granted.stripe; kind = Decide id granted.index (replies.Granted block granted.pipeline) granted.batch } in
    let parts : story ≡ (before ++ ask ∷ take granted.decided.0 granted.behind) ++ decide ∷ drop (suc granted.decided.0) granted.behind =
    granted.asked ∙ ap (λ (l : List Event). before ++ ask ∷ l) (split_at granted.behind granted.decided.0 decide
    (found_at granted.behind decide granted.decided))
    ∙ sym (append_assoc before (ask ∷ take granted.decided.0 granted.behind) (decide ∷ drop (suc granted.decided.0) granted.behind)) in
    let may : DecideIsEnabled opening (before ++ ask ∷ take granted.decided.0 granted.behind) granted.stripe id
    granted.index (replies.Granted block granted.pipeline) granted.batch =
    legal_first opening (before ++ ask ∷ take granted.decided.0 granted.behind) decide (drop (suc granted.decided.0) granted.behind)
    (legal_behind opening [] (before ++ ask ∷ take granted.decided.0 granted.behind)
    (decide ∷ drop (suc granted.decided.0) granted.behind) (subst (IsLegalFrom opening []) parts legal)) in
    let same = pending_asked id before (take granted.decided.0 granted.behind) granted.asker granted.request
    may.request (asked_front id granted.behind granted.decided.0 granted.last) may.undecided in
    ap family_of same ∙ allocation opening (before ++ ask ∷ take granted.decided.0 granted.behind) may.request block granted.pipeline may.one_thread

-- ---- an event behind a front

at_front : (front : List Event) (event : Event) (rest : List Event) → slice_get (front ++ event ∷ rest) (length front) ≡ Some event
at_front [] event rest = refl
at_front (first ∷ front) event rest = at_front front event rest

fits_behind : (opening : Opening) (bytes : OpeningBytes) (script : Script) (front : List Event) (event : Event)
    (rest : List Event) → FitsFrom opening bytes script [] (front ++ event ∷ rest) → EventFits opening bytes script front event.kind
fits_behind opening bytes script front event rest fits =
    subst (λ (l : List Event). EventFits opening bytes script l event.kind) (take_at front (event ∷ rest) (length front) refl)
    (fits_at opening bytes script (front ++ event ∷ rest) fits (length front) event (at_front front event rest))

-- ---- the Ask of a block stands where a piece is missing

module _ (opening : Opening) (bytes : OpeningBytes) (script : Script) (apart : LinesAreApart script) (line : Line) (there : Contains script.lines line) where
  ask_below : (story : List Event) → IsLegal opening story → FitsFrom opening bytes script [] story
      → (id : AskId) (block : Block) (before : List Event) → WasGranted story id block before
      → id.client ≡ line.client → id.line ≡ line.number → length (written_for line.client line.number before) < pieces_needed line.command
  ask_below story legal fits id block before granted client number =
      let ask : Event = record { seat = granted.asker; kind = Ask id granted.request } in
      let scripted = granted_to_script opening bytes script story legal fits block id (its_grant opening story legal id block before granted) in
      let both = fits_behind opening bytes script before ask granted.behind (subst (FitsFrom opening bytes script []) granted.asked fits) in
      let ask_fits : AskFits opening script before id granted.request = both.0 scripted in
      let same = same_line script apart id.client id.line ask_fits.line line ask_fits.its
      (record { there = there; of_client = sym client; of_number = sym number }) in
      subst (λ (l : Line). length (written_for l.client l.number before) < pieces_needed l.command) same
      (next_below opening script before ask_fits.line granted.request (granted_request opening story legal id block before granted) ask_fits.next)

  module _ (story behind : List Event) (legal : IsLegal opening (story ++ behind)) (fits : FitsFrom opening bytes script [] (story ++ behind))
      (enough : pieces_needed line.command ≤ length (written_for line.client line.number story)) where
    not_written : (event : Event) → Contains behind event → wrote line.client line.number event.kind ≡ None
    not_written event among = by (wrote line.client line.number event.kind) refl
      where
        by : (o : Option Block) → wrote line.client line.number event.kind ≡ o → wrote line.client line.number event.kind ≡ None
        by None e = e
        by (Some block) e =
            let parts : story ++ behind ≡ (story ++ take among.0 behind) ++ event ∷ drop (suc among.0) behind =
            ap (λ (l : List Event). story ++ l) (split_at behind among.0 event (found_at behind event among))
            ∙ sym (append_assoc story (take among.0 behind) (event ∷ drop (suc among.0) behind)) in
            let written = written_id line.client line.number block event.kind e in
            let both = and_parts (written.0.client == line.client) (written.0.line == line.number) written.2 in
            let client = eqb-true written.0.client line.client both.0 in
            let number = eqb-true written.0.line line.number both.1 in
            let whole = subst (FitsFrom opening bytes script []) parts fits in
            let fit : WroteFits (story ++ take among.0 behind) block written.0 =
            subst (λ (kind : EventKind). EventFits opening bytes script (story ++ take among.0 behind) kind) written.1
            (fits_behind opening bytes script (story ++ take among.0 behind) event (drop (suc among.0) behind) whole) in
            let front_legal = legal_to opening [] (story ++ take among.0 behind) (event ∷ drop (suc among.0) behind)
            (subst (IsLegalFrom opening []) parts legal) in
            let front_fits = fits_to opening bytes script [] (story ++ take among.0 behind) (event ∷ drop (suc among.0) behind) whole in
            let below = ask_below (story ++ take among.0 behind) front_legal front_fits written.0 block fit.before fit.granted client number in
            let turn : length (written_for line.client line.number (story ++ take among.0 behind)) ≡ length (written_for line.client line.number fit.before) =
            subst (λ (c : ℕ). length (written_for c line.number (story ++ take among.0 behind)) ≡ length (written_for c line.number fit.before)) client
            (subst (λ (n : ℕ). length (written_for written.0.client n (story ++ take among.0 behind)) ≡ length
            (written_for written.0.client n fit.before)) number fit.in_turn) in
            let long : length (written_for line.client line.number (story ++ take among.0 behind)) ≡ length
            (written_for line.client line.number story) + length (written_for line.client line.number (take among.0 behind)) =
            ap (λ (l : List Block). length l) (filter_map-append (λ (event : Event). wrote line.client line.number event.kind) story (take among.0 behind))
            ∙ length-append (written_for line.client line.number story) (written_for line.client line.number (take among.0 behind)) in
            absurd (omega (arith, below, turn, long, enough))

    pub stays_written : written_for line.client line.number (story ++ behind) ≡ written_for line.client line.number story
    stays_written =
        filter_map-append (λ (event : Event). wrote line.client line.number event.kind) story behind
        ∙ ap (λ (l : List Block). written_for line.client line.number story ++ l) (tells_none behind not_written)
        ∙ append-nil (written_for line.client line.number story)
      where
        tells_none : (l : List Event) → ((event : Event) → Contains l event → wrote line.client line.number event.kind
            ≡ None) → written_for line.client line.number l ≡ []
        tells_none [] none = refl
        tells_none (event ∷ l) none =
            ap (λ (o : Option Block). cons_option o (written_for line.client line.number l)) (none event (zero, omega arith, refl))
            ∙ tells_none l (λ later (k, lt, is). none later (suc k, omega (arith, lt), is))

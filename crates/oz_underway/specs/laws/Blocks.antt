-- The blocks that a line was granted, and those that were written for it.
use Rattle.std.proofs.Common.{
  ◌≡◌,
  ◌≢◌,
  ⊎_elim,
  ℕ,
  Bool,
  true,
  false,
  ◌||◌,
  cond,
  List,
  [],
  ◌∷◌,
  length,
  Option,
  None,
  Some,
  Contains,
  refl,
  sym,
  ap,
  ◌∙◌,
  subst,
  arith,
}
use Rattle.std.proofs.lemmas.Bool.{and_parts, false≢true}
use Rattle.std.proofs.lemmas.List.Elements.{Contains-append_right}
use Rattle.std.proofs.lemmas.List.Folds.{list_any-append}
use Rattle.std.specs.List.{cons_option, filter_map, list_any, list_all}
use Rattle.oz_fields.specs.declared.block.Block.{Block}
use Rattle.oz_script.specs.declared.lines.script.Script.{Script}
use Rattle.oz_requests.specs.declared.request.AskId.{AskId}
use Rattle.oz_requests.specs.declared.reply.Reply.{Reply}
use Rattle.oz_requests.specs.declared.reply.Reply.TheVariants as replies
use Rattle.oz_requests.specs.declared.request.Family.TheVariants.{Allocation}
use Rattle.oz_requests.specs.declared.request.Request.{Request}
use Rattle.oz_requests.specs.Families.{family_of}
use Rattle.oz_requests.specs.Names.{volume_in}
use Rattle.oz_namespace.specs.declared.namespace.Namespace.{Namespace}
use Rattle.oz_model.specs.Answers.{Answers}
use Rattle.oz_model.specs.Buckets.{granted_by as blocks_granted}
use Rattle.oz_model.specs.Refusals.{refusal}
use Rattle.oz_model.specs.Scope.{scope_of}
use Rattle.oz_model.specs.laws.Grants.{grants_none}
use Rattle.oz_core.specs.declared.event.Event.{Event}
use Rattle.oz_core.specs.declared.event.EventKind.{EventKind}
use Rattle.oz_core.specs.declared.event.EventKind.TheVariants.{Ask, Decide, Wrote}
use Rattle.oz_core.specs.declared.opening.Opening.{Opening}
use Rattle.oz_core.specs.Asks.{is_of_line, reply_to, replies_to}
use Rattle.oz_core.specs.Contents.{OpeningBytes, WasGranted, wrote, written_for}
use Rattle.oz_core.specs.Law.{KindIsEnabled, writes}
use Rattle.oz_core.specs.Nodes.{is_block}
use Rattle.oz_core.specs.Steps.{GrantedBlock, grant_in, grant_to, granted_to, is_written}
use Rattle.oz_core.specs.Stories.{has_event}
use Rattle.oz_steps.specs.declared.came.Attempt.{Attempt}
use Rattle.oz_steps.specs.declared.fate.Fate.{Fate}
use Rattle.oz_steps.specs.declared.fate.Fate.TheVariants as fates
use Rattle.oz_steps.specs.Came.{granted_by}
use Rattle.oz_steps.specs.Grants.{AreGrants, IsAttempt, IsFate, has_fate_written, is_fate_written}
use Rattle.oz_buffer.specs.Buffer.{AllFollow, Follows}
use Rattle.oz_kept.specs.laws.Deleted.{first_or_later}
use Rattle.oz_kept.specs.laws.Granted.{told_among}
use Rattle.oz_turn.specs.Told.{BeginsWith}
use Rattle.oz_underway.specs.laws.Going.{count_more, happened_still, kept_on, no_fewer, none_more, same_by_count, told_longer}

-- ---- who is replied no grant is granted none

no_grant : (id : AskId) (reply : Reply) → granted_by reply ≡ None → grant_in id reply ≡ None
no_grant id (replies.Granted block pipeline) none = absurd cc
no_grant id reply none = refl

-- nor is who asked for no block
pub nothing_granted : (namespace : Namespace) (request : Request) (reply : Reply) → family_of request ≢ Allocation → Answers namespace request reply
    → granted_by reply ≡ None
unfolding Answers
nothing_granted namespace request reply other answers =
    none_of reply (grants_none (refusal (scope_of namespace (volume_in request)) request) (scope_of namespace (volume_in request)) request reply other answers)
  where
    none_of : (reply : Reply) → blocks_granted reply ≡ [] → granted_by reply ≡ None
    none_of (replies.Granted block pipeline) none = absurd cc
    none_of reply none = refl

first_none : {X : Type 0} (o : Option X) (xs : List X) → cons_option o xs ≡ [] → (o ≡ None) × (xs ≡ [])
first_none None xs e = (refl, e)
first_none (Some x) xs e = absurd cc

none_here : (client line : ℕ) (kind : EventKind) (rest : List Reply) → filter_map granted_by (cons_option (reply_to client line kind) rest) ≡ []
    → (grant_to client line kind ≡ None) × (filter_map granted_by rest ≡ [])
none_here client line (Decide id index reply batch) rest none = by (is_of_line client line id) none
  where
    by : (t : Bool) → filter_map granted_by (cons_option (cond t (Some reply) None) rest) ≡ []
        → (cond t (grant_in id reply) None ≡ None) × (filter_map granted_by rest ≡ [])
    by true none = let parts = first_none (granted_by reply) (filter_map granted_by rest) none in (no_grant id reply parts.0, parts.1)
    by false none = (refl, none)
none_here client line kind rest none = (refl, none)

pub none_granted : (client line : ℕ) (story : List Event) → filter_map granted_by (replies_to client line story) ≡ [] → granted_to client line story ≡ []
none_granted client line [] none = refl
none_granted client line (event ∷ story) none =
    let parts = none_here client line event.kind (replies_to client line story) none in
    ap (λ (o : Option GrantedBlock). cons_option o (granted_to client line story)) parts.0 ∙ none_granted client line story parts.1

-- ---- what was written

or_parts : (a b : Bool) (c : Bool) → (a ≡ true → c ≡ true) → (b ≡ true → c ≡ true) → (a || b) ≡ true → c ≡ true
or_parts true b c left right is = left refl
or_parts false b c left right is = right is

-- who wrote it for a line wrote it
pub written_once : (block : Block) (client line : ℕ) (story : List Event) → list_any (is_block block) (written_for client line story) ≡ true
    → has_event (writes block) story ≡ true
written_once block client line [] is = is
written_once block client line (event ∷ story) is = by event.kind (written_once block client line story) is
  where
    later : (a : Bool) → has_event (writes block) story ≡ true → (a || has_event (writes block) story) ≡ true
    later true so = refl
    later false so = so

    by : (kind : EventKind) → (list_any (is_block block) (written_for client line story) ≡ true → has_event (writes block) story ≡ true)
        → list_any (is_block block) (cons_option (wrote client line kind) (written_for client line story)) ≡ true
        → (writes block kind || has_event (writes block) story) ≡ true
    by (Wrote other id) rest is = here (is_of_line client line id) is
      where
        here : (t : Bool) → list_any (is_block block) (cons_option (cond t (Some other) None) (written_for client line story)) ≡ true
            → (is_block block other || has_event (writes block) story) ≡ true
        here true is = or_parts (is_block block other) (list_any (is_block block) (written_for client line story))
            (is_block block other || has_event (writes block) story)
            (λ so. ap (λ (t : Bool). t || has_event (writes block) story) so)
            (λ so. later (is_block block other) (rest so))
            is
        here false is = later (is_block block other) (rest is)
    by kind rest is = rest is

pub written_still : (story seen : List Event) (grant : GrantedBlock) → BeginsWith story seen → is_written seen grant ≡ true → is_written story grant ≡ true
written_still story seen grant begins is =
    let client = grant.id.client in
    let line = grant.id.line in
    ap (list_any (is_block grant.block)) (told_longer (wrote client line) story seen begins)
    ∙ (list_any-append (is_block grant.block) (written_for client line seen) (written_for client line begins.0)
    ∙ ap (λ (t : Bool). t || list_any (is_block grant.block) (written_for client line begins.0)) is)

-- the grant of a block is among those of its line
granted_among : (client line : ℕ) (front : List Event) (id : AskId) (block : Block) (before : List Event) → is_of_line client line id ≡ true
    → (was : WasGranted front id block before)
    → Contains (granted_to client line front) (record { id = id; block = block; pipeline = was.pipeline })
granted_among client line front id block before of was =
    let event : Event = record { seat = was.stripe; kind = Decide id was.index (replies.Granted block was.pipeline) was.batch } in
    let ask : Event = record { seat = was.asker; kind = Ask id was.request } in
    let among : Contains front event = subst (λ (l : List Event). Contains l event) (sym was.asked)
    (Contains-append_right before (ask ∷ was.behind) event (Contains-append_right (ask ∷ []) was.behind event was.decided)) in
    told_among (grant_to client line) front event (record { id = id; block = block; pipeline = was.pipeline }) among
    (ap (λ (t : Bool). cond t (Some (record { id = id; block = block; pipeline = was.pipeline })) None) of)

module _ (Coherent : Type 0) (opening : Opening) (bytes : OpeningBytes) (script : Script) where
  abbrev Follow : List Event → Event → Type 0
  Follow = Follows Coherent opening bytes script

  -- the blocks of these grants were written
  abbrev pub AllWritten : List Event → List GrantedBlock → Type 0
  AllWritten seen grants = (grant : GrantedBlock) → Contains grants grant → is_written seen grant ≡ true

  no_write : (client line : ℕ) (front seen : List Event) (seat : ℕ) (kind : EventKind) → BeginsWith front seen
      → AllWritten seen (granted_to client line front) → KindIsEnabled opening front seat kind → wrote client line kind ≡ None
  no_write client line front seen seat (Wrote block id) begins all enabled = by (is_of_line client line id) refl
    where
      by : (t : Bool) → is_of_line client line id ≡ t → cond t (Some block) None ≡ None
      by false apart = refl
      by true of =
          let grant : GrantedBlock = record { id = id; block = block; pipeline = enabled.granted.pipeline } in
          let written : is_written seen grant ≡ true = all grant (granted_among client line front id block enabled.before of enabled.granted) in
          let there = happened_still (writes block) front seen begins (written_once block id.client id.line seen written) in
          absurd (false≢true (sym enabled.unwritten ∙ there))
  no_write client line front seen seat kind begins all enabled = refl

  -- while nothing more is granted, and all was written, nothing more is written
  pub same_written : (client line : ℕ) (story seen : List Event) → Coherent → AllFollow Follow [] story → BeginsWith story seen
      → AllWritten seen (granted_to client line seen) → granted_to client line story ≡ granted_to client line seen
      → written_for client line story ≡ written_for client line seen
  same_written client line story seen coherent all begins written same =
      kept_on Follow (λ front. granted_to client line front ≡ granted_to client line seen → written_for client line front ≡ written_for client line seen)
      story seen begins all
      (λ front event goes follow follows was now.
      let few = no_fewer (grant_to client line) front seen goes in
      let more = count_more (grant_to client line) front event in
      let before : granted_to client line front ≡ granted_to client line seen =
      same_by_count (grant_to client line) front seen goes (omega (arith, few, more, ap length now)) in
      none_more (wrote client line) front event (written_for client line seen)
      (no_write client line front seen event.seat event.kind goes
      (subst (AllWritten seen) (sym before) written) (follows.enabled coherent))
      (was before))
      (λ same. refl)
      same

-- ---- attempts that were all written

fate_is : (fate : Fate) → is_fate_written fate ≡ true → fate ≡ fates.Written
fate_is fates.Written is = refl
fate_is fates.ContainerRefused is = absurd (false≢true is)
fate_is fates.PipelineRefused is = absurd (false≢true is)

attempt_written : (opening : Opening) (seen : List Event) (grant : GrantedBlock) (attempt : Attempt) → has_fate_written attempt ≡ true
    → IsAttempt opening seen grant attempt → is_written seen grant ≡ true
attempt_written opening seen grant attempt is at = subst (IsFate opening seen grant) (fate_is attempt.fate is) at.fate

pub attempts_written : (opening : Opening) (seen : List Event) (attempts : List Attempt) (grants : List GrantedBlock)
    → list_all has_fate_written attempts ≡ true
    → AreGrants opening seen attempts None grants → (grant : GrantedBlock) → Contains grants grant → is_written seen grant ≡ true
attempts_written opening seen [] grants each are grant among =
    let none = subst (λ (l : List GrantedBlock). Contains l grant) are among in absurd (omega (arith, none.1))
attempts_written opening seen (attempt ∷ attempts) grants each (first, others, is, at, rest) grant among =
    let parts = and_parts (has_fate_written attempt) (list_all has_fate_written attempts) each in
    ⊎_elim
    (λ (same : first ≡ grant). subst (λ (g : GrantedBlock). is_written seen g ≡ true) same (attempt_written opening seen first attempt parts.0 at))
    (λ later. attempts_written opening seen attempts others parts.1 rest grant later)
    (first_or_later first grant others (subst (λ (l : List GrantedBlock). Contains l grant) is among))

still_attempt : (opening : Opening) (story seen : List Event) (grant : GrantedBlock) (attempt : Attempt) → BeginsWith story seen
    → has_fate_written attempt ≡ true
    → IsAttempt opening seen grant attempt → IsAttempt opening story grant attempt
still_attempt opening story seen grant attempt begins is at = record {
  block = at.block;
  pipeline = at.pipeline;
  fate = subst (IsFate opening story grant) (sym (fate_is attempt.fate is))
      (written_still story seen grant begins (attempt_written opening seen grant attempt is at));
}

pub still_grants : (opening : Opening) (story seen : List Event) (attempts : List Attempt) (grants : List GrantedBlock) → BeginsWith story seen
    → list_all has_fate_written attempts ≡ true → AreGrants opening seen attempts None grants → AreGrants opening story attempts None grants
still_grants opening story seen [] grants begins each are = are
still_grants opening story seen (attempt ∷ attempts) grants begins each (first, others, is, at, rest) =
    let parts = and_parts (has_fate_written attempt) (list_all has_fate_written attempts) each in
    (first, others, is, still_attempt opening story seen first attempt begins parts.0 at, still_grants opening story seen attempts others begins parts.1 rest)

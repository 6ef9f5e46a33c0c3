-- The blocks that the manager's disk and the datanodes' name were granted, and so their ids are below the next.
use Rattle.std.proofs.Common.{
  ◌≡◌,
  ⊎_elim,
  ◌⊎◌,
  ℕ,
  suc,
  ◌<◌,
  Bool,
  true,
  false,
  List,
  [],
  ◌∷◌,
  ◌++◌,
  length,
  take,
  Option,
  None,
  Some,
  Contains,
  cond,
  inl,
  inr,
  refl,
  sym,
  ◌∙◌,
  ap,
  subst,
  append-nil,
  arith,
}
use Rattle.std.proofs.lemmas.List.{take_all}
use Rattle.std.proofs.lemmas.List.Elements.{Contains-append_left, Contains-append_right, filter_map-append}
use Rattle.std.specs.Prelude.{nat_le}
use Rattle.std.specs.List.{cons_option}
use Rattle.oz_fields.specs.declared.block.Block.{Block}
use Rattle.oz_script.specs.declared.lines.script.Script.{Script}
use Rattle.oz_namespace.specs.declared.namespace.Namespace.{Namespace}
use Rattle.oz_requests.specs.declared.reply.Reply.{Reply}
use Rattle.oz_requests.specs.declared.reply.Reply.TheVariants as replies
use Rattle.oz_requests.specs.declared.request.AskId.{AskId}
use Rattle.oz_requests.specs.declared.request.Request.{Request}
use Rattle.oz_model.specs.Answers.{after}
use Rattle.oz_model.specs.Buckets.{granted_by}
use Rattle.oz_model.specs.Reach.{IsReached}
use Rattle.oz_model.specs.laws.Reaches.{reach_grows}
use Rattle.oz_core.specs.declared.event.Event.{Event}
use Rattle.oz_core.specs.declared.event.EventKind.{EventKind}
use Rattle.oz_core.specs.declared.event.EventKind.TheVariants.{Decide, Grant}
use Rattle.oz_core.specs.declared.opening.Opening.{Opening}
use Rattle.oz_core.specs.Asks.{pending}
use Rattle.oz_core.specs.Coherent.{IsCoherent, IdsAreFresh}
use Rattle.oz_core.specs.Contents.{OpeningBytes, HasContent, WasThere}
use Rattle.oz_core.specs.Fits.{FitsFrom}
use Rattle.oz_core.specs.Law.{IsLegal, IsLegalFrom, KindIsEnabled}
use Rattle.oz_core.specs.Manager.{granted_block, block_of_reply, kept_block, namespace_step, namespace_after, namespace_from, namespace_of}
use Rattle.oz_core.specs.Nodes.{holds}
use Rattle.oz_core.specs.Scm.{next_id, containers}
use Rattle.oz_core.specs.Stories.{all_told}
use Rattle.oz_kept.specs.laws.Places.{moved_over, legal_first, legal_rest, namespace_next}
use Rattle.oz_kept.specs.laws.Reached.{in_none, in_one}
use Rattle.oz_kept.specs.laws.Kept.{front}
use Rattle.oz_kept.specs.laws.Deleted.{found_at, first_or_later, got_of_taken, front_legal}
use Rattle.oz_kept.specs.laws.Granted.{IsGrantedTo, of_grant}
use Rattle.oz_kept.specs.laws.Contents.{HasIts, at_each, holder_got, its_grant, GotIt}
use Rattle.oz_kept.specs.reopened.Left.{IsOfManager, IsLeftByManager}
use Rattle.oz_kept.specs.reopened.laws.Rising.{ids_rise, grant_below, grant_on, IsOn}

-- ---- what is told stands in an event

pub record IsTold {X : Type 0} (tells : EventKind → Option X) (story : List Event) (x : X) : Type 0 where
  pub event : Event
  pub there : Contains story event
  pub told : tells event.kind ≡ Some x

pub told_event : {X : Type 0} (tells : EventKind → Option X) (story : List Event) (x : X) → Contains (all_told tells story) x → IsTold tells story x
told_event tells [] x among = absurd (in_none x among)
told_event {X} tells (first ∷ story) x among = by (tells first.kind) refl (told_event tells story x)
  where
    behind : IsTold tells story x → IsTold tells (first ∷ story) x
    behind it = record { event = it.event; there = (suc it.there.0, omega (arith, it.there.1), it.there.2); told = it.told }

    by : (o : Option X) → tells first.kind ≡ o → (Contains (all_told tells story) x → IsTold tells story x) → IsTold tells (first ∷ story) x
    by None e rest = behind (rest (subst (λ (o : Option X). Contains (cons_option o (all_told tells story)) x) e among))
    by (Some y) e rest = ⊎_elim
        (λ same. record { event = first; there = (0, omega arith, refl); told = e ∙ ap Some same })
        (λ later. behind (rest later))
        (first_or_later y x (all_told tells story) (subst (λ (o : Option X). Contains (cons_option o (all_told tells story)) x) e among))

-- ---- who granted a block

some_block : (a b : Block) → Some a ≡ Some b → a ≡ b
some_block a b e = cc

one_reply : (reply : Reply) (block : Block) → block_of_reply reply ≡ Some block → (pipeline : ℕ) × (reply ≡ replies.Granted block pipeline)
one_reply (replies.Granted given pipeline) block e = (pipeline, ap (λ (b : Block). replies.Granted b pipeline) (some_block given block e))
one_reply reply block e = absurd cc

pub record WasGrantedIn (opening : Opening) (story : List Event) (legal : IsLegal opening story) (block : Block) : Type 0 where
  pub id : AskId
  pub grant : IsGrantedTo opening story legal block id

decided_grant : (opening : Opening) (story : List Event) (legal : IsLegal opening story) (block : Block) (event : Event) (id : AskId) (index : ℕ)
    (reply : Reply) (batch : List ℕ)
    → Contains story event → event.kind ≡ Decide id index reply batch → block_of_reply reply ≡ Some block → WasGrantedIn opening story legal block
decided_grant opening story legal block event id index reply batch there is granted =
    let one = one_reply reply block granted in
    let same : event ≡ record { seat = event.seat; kind = Decide id index (replies.Granted block one.0) batch } =
    ap (λ (kind : EventKind). record { seat = event.seat; kind = kind }) (is ∙ ap (λ (r : Reply). Decide id index r batch) one.1) in
    record {
      id = id;
      grant = record { seat = event.seat; index = index; pipeline = one.0; batch = batch; there = subst (λ (e : Event). Contains story e) same there };
    }

pub kept_grant : (opening : Opening) (story : List Event) (legal : IsLegal opening story) (most : ℕ) (block : Block)
    → Contains (all_told (kept_block most) story) block → WasGrantedIn opening story legal block
kept_grant opening story legal most block among = by told.event.kind refl
  where
    told : IsTold (kept_block most) story block
    told = told_event (kept_block most) story block among

    counted : (t : Bool) (reply : Reply) → cond t (block_of_reply reply) None ≡ Some block → block_of_reply reply ≡ Some block
    counted true reply e = e
    counted false reply e = absurd cc

    by : (kind : EventKind) → told.event.kind ≡ kind → WasGrantedIn opening story legal block
    by (Decide id index reply batch) e =
        decided_grant opening story legal block told.event id index reply batch told.there e
        (counted (nat_le index most) reply (sym (ap (kept_block most) e) ∙ told.told))
    by kind e = let none = sym (ap (kept_block most) e) ∙ told.told in absurd cc

-- it is below the next id, in a container that was made
module _ (opening : Opening) (story : List Event) (legal : IsLegal opening story) (block : Block) (was : WasGrantedIn opening story legal block) where
  pub granted_below : block.local < next_id opening story
  granted_below =
      let of = of_grant opening story legal block was.id was.grant in
      let event : Event = record { seat = of.1.seat; kind = Grant of.0 block.container was.grant.pipeline of.1.first of.1.count } in
      let found = got_of_taken story was.grant.there.0 of.1.there.0 event (found_at (take was.grant.there.0 story) event of.1.there) in
      let below = grant_below opening story legal of.1.there.0 of.1.seat of.0 block.container was.grant.pipeline of.1.first of.1.count found in
      omega (arith, below, of.1.local, of.1.within)

  pub granted_on : IsOn (containers opening story) block.container was.grant.pipeline
  granted_on =
      let of = of_grant opening story legal block was.id was.grant in
      let event : Event = record { seat = of.1.seat; kind = Grant of.0 block.container was.grant.pipeline of.1.first of.1.count } in
      let found = got_of_taken story was.grant.there.0 of.1.there.0 event (found_at (take was.grant.there.0 story) event of.1.there) in
      grant_on opening story legal of.1.there.0 of.1.seat of.0 block.container was.grant.pipeline of.1.first of.1.count found

-- ---- what the manager reaches

given_is : (reply : Reply) (block : Block) → Contains (granted_by reply) block → block_of_reply reply ≡ Some block
given_is (replies.Granted given pipeline) block among = ap Some (in_one given block among)
given_is reply block among = absurd (in_none block among)

step_named : (opening : Opening) (before : List Event) (seat : ℕ) (kind : EventKind) (block : Block) → KindIsEnabled opening before seat kind
    → IsReached (namespace_step (λ index. true) before (namespace_of opening before) kind) block → IsReached (namespace_of opening before) block
    ⊎ (granted_block kind ≡ Some block)
step_named opening before seat (Decide id index reply batch) block enabled reached =
    let asked : namespace_after (pending id before) (namespace_of opening before) reply ≡ after (namespace_of opening before) enabled.request reply =
    ap (λ (o : Option Request). namespace_after o (namespace_of opening before) reply) enabled.undecided in
    let grown = reach_grows block (namespace_of opening before) enabled.request reply enabled.one_thread
    (subst (λ (n : Namespace). IsReached n block) asked reached) in
    ⊎_elim (λ old. inl old) (λ given. inr (given_is reply block given)) grown
step_named opening before seat kind block enabled reached = inl reached

abbrev IsNamedBy : Opening → List Event → Block → Type 0
IsNamedBy opening story block = IsReached opening.namespace block ⊎ Contains (all_told granted_block story) block

told_last : (before : List Event) (event : Event) (block : Block) → granted_block event.kind ≡ Some block
    → Contains (all_told granted_block (before ++ event ∷ [])) block
told_last before event block is =
    subst (λ (l : List Block). Contains l block) (sym (filter_map-append (λ (event : Event). granted_block event.kind) before (event ∷ [])))
    (Contains-append_right (all_told granted_block before) (all_told granted_block (event ∷ [])) block
    (subst (λ (o : Option Block). Contains (cons_option o []) block) (sym is) (0, omega arith, refl)))

named_still : (opening : Opening) (before : List Event) (event : Event) (block : Block) → IsNamedBy opening before block
    → IsNamedBy opening (before ++ event ∷ []) block
named_still opening before event block (inl reached) = inl reached
named_still opening before event block (inr granted) =
    inr (subst (λ (l : List Block). Contains l block) (sym (filter_map-append (λ (event : Event). granted_block event.kind) before (event ∷ [])))
    (Contains-append_left (all_told granted_block before) (all_told granted_block (event ∷ [])) block granted))

named_from : (opening : Opening) (block : Block) (rest before : List Event) → IsLegalFrom opening before rest
    → (IsReached (namespace_of opening before) block → IsNamedBy opening before block)
    → IsReached (namespace_of opening (before ++ rest)) block → IsNamedBy opening (before ++ rest) block
named_from opening block [] before legal so =
    subst (λ (l : List Event). IsReached (namespace_of opening l) block → IsNamedBy opening l block) (sym (append-nil before)) so
named_from opening block (event ∷ rest) before legal so =
    subst (λ (l : List Event). IsReached (namespace_of opening l) block → IsNamedBy opening l block) (moved_over before rest event)
    (named_from opening block rest (before ++ event ∷ []) (legal_rest opening before event rest legal)
    (λ there. ⊎_elim
    (λ old. named_still opening before event block (so old))
    (λ given. inr (told_last before event block given))
    (step_named opening before event.seat event.kind block (legal_first opening before event rest legal)
    (subst (λ (n : Namespace). IsReached n block) (namespace_next opening before event) there))))

pub reached_named : (opening : Opening) (story : List Event) (block : Block) → IsLegal opening story → IsReached (namespace_of opening story) block
    → IsReached opening.namespace block ⊎ Contains (all_told granted_block story) block
unfolding namespace_from
reached_named opening story block legal reached = named_from opening block story [] legal (λ at_opening. inl at_opening) reached

pub of_manager : (opening : Opening) (story : List Event) (most : ℕ) (left : Opening) (block : Block) → IsLegal opening story
    → IsLeftByManager opening story most left
    → IsReached left.namespace block ⊎ Contains left.left block → IsOfManager opening most story block
unfolding namespace_from
of_manager opening story most left block legal manager (inl reached) =
    let kept = front opening most story [] legal in
    let there = subst (λ (n : Namespace). IsReached n block) (manager.namespace ∙ kept.namespace) reached in
    ⊎_elim
    (λ old. inl old)
    (λ granted. inr (inr (subst (λ (l : List Block). Contains l block) (sym kept.blocks) granted)))
    (reached_named opening (take kept.size story) block (front_legal opening story legal kept.size) there)
of_manager opening story most left block legal manager (inr deleted) = manager.deleted block deleted

-- ---- and the datanodes hold

module _ (opening : Opening) (bytes : OpeningBytes) (script : Script) (story : List Event) (coherent : IsCoherent opening bytes)
    (legal : IsLegal opening story) (fits : FitsFrom opening bytes script [] story) where
  pub held_content : (block : Block) (dn : ℕ) → holds opening story dn block ≡ true → HasIts opening bytes script story block dn
  held_content block dn held =
      let whole = take_all (length story) story (omega arith) in
      subst (λ (l : List Event). HasIts opening bytes script l block dn) whole
      (at_each opening bytes script coherent story legal fits block (length story) dn
      (subst (λ (l : List Event). GotIt opening l block dn) (sym whole) (holder_got opening story block dn held)))

  -- where a block that a datanode holds comes from
  pub held_from : (block : Block) (dn : ℕ) → holds opening story dn block ≡ true → WasThere opening block ⊎ WasGrantedIn opening story legal block
  held_from block dn held = by (held_content block dn held).content (held_content block dn held).its
    where
      by : (content : List ℕ) → HasContent opening bytes script story block content → WasThere opening block ⊎ WasGrantedIn opening story legal block
      by content (inl had) = inl (had.dn, had.held)
      by content (inr of) = inr (record { id = of.id; grant = its_grant opening story legal of.id block of.before of.granted })

-- ---- so their ids are below the next

pub at_opening_below : (opening : Opening) (story : List Event) (block : Block) → IsLegal opening story → block.local < opening.next_id
    → block.local < next_id opening story
at_opening_below opening story block legal below = let rises = ids_rise opening story [] legal in omega (arith, below, rises)

pub of_manager_below : (opening : Opening) (story : List Event) (most : ℕ) (block : Block) → IsLegal opening story → IdsAreFresh opening
    → IsOfManager opening most story block → block.local < next_id opening story
of_manager_below opening story most block legal fresh (inl reached) = at_opening_below opening story block legal (fresh block (inl reached))
of_manager_below opening story most block legal fresh (inr (inl left)) = at_opening_below opening story block legal (fresh block (inr (inl left)))
of_manager_below opening story most block legal fresh (inr (inr granted)) =
    granted_below opening story legal block (kept_grant opening story legal most block granted)

pub held_below : (opening : Opening) (story : List Event) (block : Block) (legal : IsLegal opening story) → IdsAreFresh opening → WasThere opening block
    ⊎ WasGrantedIn opening story legal block → block.local < next_id opening story
held_below opening story block legal fresh (inl there) = at_opening_below opening story block legal (fresh block (inr (inr there)))
held_below opening story block legal fresh (inr was) = granted_below opening story legal block was

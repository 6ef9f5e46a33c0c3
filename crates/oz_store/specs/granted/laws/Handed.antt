-- Who hands out the blocks of Grants.
use Rattle.std.proofs.Common.{◌≡◌, ⊎_elim, ℕ, suc, Bool, true, false, ◌==◌, List, [], ◌∷◌, take, filter, Some, Contains, cond, refl, sym, ◌∙◌, ap, subst, arith}
use mathlib.Core.Bool.{false≢true}
use Rattle.std.proofs.lemmas.Bool.{eqb-true, eq-eqb}
use Rattle.oz_fields.specs.declared.block.Block.{Block}
use Rattle.oz_namespace.specs.declared.namespace.Namespace.{Namespace}
use Rattle.oz_names.specs.Names.{stripe_of}
use Rattle.oz_requests.specs.declared.reply.Reply.{Reply}
use Rattle.oz_requests.specs.declared.reply.Reply.TheVariants as replies
use Rattle.oz_requests.specs.declared.request.Request.{Request}
use Rattle.oz_requests.specs.declared.request.Request.TheVariants.{AllocateBlock}
use Rattle.oz_requests.specs.Names.{volume_in}
use Rattle.oz_model.specs.Answers.{Answers}
use Rattle.oz_model.specs.Buckets.{granted_by}
use Rattle.oz_model.specs.Refusals.{refusal}
use Rattle.oz_model.specs.Scope.{scope_of}
use Rattle.oz_model.specs.laws.Grants.{grants_none}
use Rattle.oz_core.specs.declared.event.Event.{Event}
use Rattle.oz_core.specs.declared.event.EventKind.{EventKind}
use Rattle.oz_core.specs.declared.event.EventKind.TheVariants.{Decide}
use Rattle.oz_core.specs.declared.opening.Opening.{Opening}
use Rattle.oz_core.specs.Law.{IsLegal, KindIsEnabled, GrantIsAllowed}
use Rattle.oz_core.specs.Manager.{block_of_reply, granted_block, namespace_of}
use Rattle.oz_core.specs.Scm.{IsOfGrant}
use Rattle.oz_core.specs.Seats.{stripe_seat}
use Rattle.oz_core.specs.Stories.{all_told, mine}
use Rattle.oz_kept.specs.laws.Reached.{in_none}
use Rattle.oz_kept.specs.laws.Deleted.{enabled_at, first_or_later, found_at}
use Rattle.oz_kept.specs.laws.Granted.{told_among}
use Rattle.oz_kept.specs.reopened.laws.Named.{told_event}
use Rattle.oz_store.specs.granted.Granted.{handed_out}
use Rattle.oz_store.specs.granted.laws.Grants.{of_taken, one_stripe}

-- ---- the events of a seat

behind : {A : Type 0} (first x : A) (l : List A) → Contains l x → Contains (first ∷ l) x
behind first x l later = (suc later.0, omega (arith, later.1), later.2)

-- what a test leaves was there, and passes
of_filtered : {A : Type 0} (p : A → Bool) (l : List A) (x : A) → Contains (filter p l) x → Contains l x × (p x ≡ true)
of_filtered p [] x among = absurd (in_none x among)
of_filtered {A} p (first ∷ l) x among = by (p first) refl among (of_filtered p l x)
  where
    by : (t : Bool) → p first ≡ t → Contains (cond t (first ∷ filter p l) (filter p l)) x → (Contains (filter p l) x → Contains l x × (p x ≡ true))
        → Contains (first ∷ l) x × (p x ≡ true)
    by true passes among rest = ⊎_elim
        (λ same. ((0, omega arith, same), ap p (sym same) ∙ passes))
        (λ later. let r = rest later in (behind first x l r.0, r.1))
        (first_or_later first x (filter p l) among)
    by false fails among rest = let r = rest among in (behind first x l r.0, r.1)

-- and what passes stays
stays_filtered : {A : Type 0} (p : A → Bool) (l : List A) (x : A) → Contains l x → p x ≡ true → Contains (filter p l) x
stays_filtered p [] x there passes = absurd (in_none x there)
stays_filtered {A} p (first ∷ l) x there passes = by (p first) refl (stays_filtered p l x)
  where
    by : (t : Bool) → p first ≡ t → (Contains l x → p x ≡ true → Contains (filter p l) x) → Contains (cond t (first ∷ filter p l) (filter p l)) x
    by true is rest = ⊎_elim (λ same. (0, omega arith, same)) (λ later. behind first x (filter p l) (rest later passes)) (first_or_later first x l there)
    by false is rest = ⊎_elim (λ same. absurd (false≢true (sym is ∙ ap p same ∙ passes))) (λ later. rest later passes) (first_or_later first x l there)

-- ---- what a Decide grants is of a Grant to its own stripe

-- the block is of a Grant to the stripe of this seat
pub record IsOfSeat (story : List Event) (seat : ℕ) (block : Block) : Type 0 where
  pub stripe : ℕ
  pub pipeline : ℕ
  pub granted : IsOfGrant story stripe block pipeline
  pub its : seat ≡ stripe_seat stripe

some_block : (a b : Block) → Some a ≡ Some b → a ≡ b
some_block a b e = cc

none_named : (reply : Reply) (block : Block) → granted_by reply ≡ [] → block_of_reply reply ≡ Some block → ⊥
none_named (replies.Granted given pipeline) block none is = absurd cc
none_named reply block none is = absurd cc

reply_of_seat : (opening : Opening) (before : List Event) (namespace : Namespace) (seat : ℕ) (request : Request) (reply : Reply) (block : Block)
    → Answers namespace request reply → GrantIsAllowed opening before request reply → seat ≡ stripe_seat (stripe_of (volume_in request))
    → block_of_reply reply ≡ Some block → IsOfSeat before seat block
unfolding Answers
reply_of_seat opening before namespace seat (AllocateBlock volume bucket key session exclude)
    (replies.Granted given pipeline) block answers allowed its is = record {
      stripe = stripe_of volume;
      pipeline = pipeline;
      granted = subst (λ (b : Block). IsOfGrant before (stripe_of volume) b pipeline) (some_block given block is) allowed.to_stripe;
      its = its;
    }
reply_of_seat opening before namespace seat (AllocateBlock volume bucket key session exclude) reply block answers allowed its is = absurd cc
reply_of_seat opening before namespace seat request reply block answers allowed its is =
    let none = grants_none (refusal (scope_of namespace (volume_in request)) request) (scope_of namespace (volume_in request)) request reply
    (λ e. absurd cc) answers in
    absurd (none_named reply block none is)

kind_of_seat : (opening : Opening) (before : List Event) (seat : ℕ) (kind : EventKind) (block : Block) → KindIsEnabled opening before seat kind
    → granted_block kind ≡ Some block → IsOfSeat before seat block
kind_of_seat opening before seat (Decide id index reply batch) block enabled is =
    reply_of_seat opening before (namespace_of opening before) seat enabled.request reply block enabled.one_thread enabled.granted enabled.of_stripe is
kind_of_seat opening before seat kind block enabled is = absurd cc

module _ (opening : Opening) (story : List Event) (legal : IsLegal opening story) where
  pub of_seat : (event : Event) (block : Block) → Contains story event → granted_block event.kind ≡ Some block → IsOfSeat story event.seat block
  of_seat event block there is =
      let its = kind_of_seat opening (take there.0 story) event.seat event.kind block
      (enabled_at opening story legal there.0 event (found_at story event there)) is in
      record { stripe = its.stripe; pipeline = its.pipeline; granted = of_taken story there.0 its.stripe block its.pipeline its.granted; its = its.its }

  -- so no other stripe hands it out
  pub by_its_stripe : (event : Event) (block : Block) (stripe pipeline : ℕ) → Contains story event → granted_block event.kind ≡ Some block
      → IsOfGrant story stripe block pipeline → event.seat ≡ stripe_seat stripe
  by_its_stripe event block stripe pipeline there is of =
      let its = of_seat event block there is in
      its.its ∙ ap stripe_seat (one_stripe opening story legal its.stripe its.pipeline stripe pipeline block block its.granted of refl)

  -- and what was handed out is of a Grant to the stripe
  pub handed_granted : (stripe : ℕ) (block : Block) → Contains (handed_out stripe story) block → (pipeline : ℕ) × IsOfGrant story stripe block pipeline
  handed_granted stripe block handed =
      let told = told_event granted_block (mine (stripe_seat stripe) story) block handed in
      let own = of_filtered (λ (event : Event). event.seat == stripe_seat stripe) story told.event told.there in
      let its = of_seat told.event block own.0 told.told in
      let seats = eqb-true told.event.seat (stripe_seat stripe) own.1 in
      let same : its.stripe ≡ stripe = omega (arith, its.its, seats) in
      (its.pipeline, subst (λ (n : ℕ). IsOfGrant story n block its.pipeline) same its.granted)

  -- a block of a Grant that any Decide granted was handed out by the stripe
  pub granted_handed : (stripe pipeline : ℕ) (block : Block) → Contains (all_told granted_block story) block → IsOfGrant story stripe block pipeline
      → Contains (handed_out stripe story) block
  granted_handed stripe pipeline block granted of =
      let told = told_event granted_block story block granted in
      let seat = by_its_stripe told.event block stripe pipeline told.there told.told of in
      let own = stays_filtered (λ (event : Event). event.seat == stripe_seat stripe) story told.event told.there
      (eq-eqb told.event.seat (stripe_seat stripe) seat) in
      told_among granted_block (mine (stripe_seat stripe) story) told.event block own told.told

pub handed_told : (story : List Event) (stripe : ℕ) (block : Block) → Contains (handed_out stripe story) block → Contains (all_told granted_block story) block
handed_told story stripe block handed =
    let told = told_event granted_block (mine (stripe_seat stripe) story) block handed in
    let own = of_filtered (λ (event : Event). event.seat == stripe_seat stripe) story told.event told.there in
    told_among granted_block story told.event block own.0 told.told

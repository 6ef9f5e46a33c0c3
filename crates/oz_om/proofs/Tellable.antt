-- What is made over the rows of a stripe may be told.
use Rattle.std.proofs.Common.{◌≡◌, ◌≢◌, ◌↔◌, ◌⊎◌, inl, inr, ◌+◌, ℕ, true, List, [], ◌∷◌, ◌++◌, Option, None, Some, refl, sym, ap, ◌∙◌, subst, arith}
use Rattle.std.specs.Prelude.{Contains}
use Rattle.oz_cache.specs.Cache.{newest}
use Rattle.oz_core.specs.declared.event.Event.{Event}
use Rattle.oz_core.specs.declared.event.EventKind.TheVariants.{Decide}
use Rattle.oz_core.specs.declared.opening.Opening.{Opening}
use Rattle.oz_core.specs.Asks.{pending}
use Rattle.oz_core.specs.Contents.{OpeningBytes}
use Rattle.oz_core.specs.Law.{DecideIsEnabled, GrantIsAllowed, IndexGoesOn, IsLegal, MayBeGranted}
use Rattle.oz_core.specs.Scm.{IsOfGrant}
use Rattle.oz_core.specs.Manager.{last_index, namespace_of}
use Rattle.oz_core.specs.Seats.{stripe_seat}
use Rattle.oz_om.specs.decider.Premises.{GrantsNew}
use Rattle.oz_om.specs.decider.Deciders.{decider_of}
use Rattle.oz_om.specs.decider.Records.{AreRecordedBy}
use Rattle.oz_om.specs.declared.decider.decider.Decider.{Decider}
use Rattle.oz_om.specs.declared.decider.decider.Decider.TheVariants as deciders
use Rattle.oz_decision.specs.declared.decision.Decision.{Decision}
use Rattle.oz_decision.specs.Meets.{Meets, Stand, MayGo, granted_in}
use Rattle.oz_fields.specs.declared.block.Block.{Block}
use Rattle.oz_store.specs.granted.Granted.{AreOld, IsFree, handed_out}
use Rattle.oz_store.specs.granted.laws.Free.{free_allowed, free_new}
use Rattle.oz_script.specs.declared.lines.script.Script.{Script}
use Rattle.oz_locks.specs.Pool.{IsFirstAllowed, pool_of, used_by}
use Rattle.oz_locks.specs.Pool.{IsFree as IsFreeIn}
use Rattle.oz_locks.specs.Stripe.{StripeView}
use Rattle.oz_locks.specs.declared.pool.FreeBlock.{FreeBlock}
use Rattle.oz_model.specs.Answers.{after}
use Rattle.oz_model.specs.Grants.{IsPicked as IsPickedBy}
use Rattle.oz_names.specs.Names.{stripe_of}
use Rattle.oz_namespace.specs.declared.namespace.Namespace.{Namespace}
use Rattle.oz_owned.specs.Stood.{AreBased, IsBatchOfStripe, StandAt}
use Rattle.oz_owned.specs.laws.Standing.{newest_based}
use Rattle.oz_reclaim.specs.Origins.{RowsComeFrom}
use Rattle.oz_requests.specs.declared.reply.Reply.{Reply}
use Rattle.oz_requests.specs.declared.reply.Reply.TheVariants as replies
use Rattle.oz_requests.specs.declared.request.AskId.{AskId}
use Rattle.oz_requests.specs.declared.request.Exclude.{Exclude}
use Rattle.oz_requests.specs.declared.request.Family.TheVariants.{Allocation}
use Rattle.oz_requests.specs.declared.request.Request.{Request}
use Rattle.oz_requests.specs.declared.request.Request.TheVariants.{AllocateBlock}
use Rattle.oz_requests.specs.Families.{family_of}
use Rattle.oz_requests.specs.Names.{volume_in}
use Rattle.oz_rows.specs.declared.operation.Change.{Change}
use Rattle.oz_rows.specs.declared.entry.RowEntry.{RowEntry}
use Rattle.oz_rows.specs.RowMaps.{AreRows, Rows, after_changes}
use Rattle.oz_sound.specs.Sound.{IsSound, IsSoundButRenames}
use Rattle.oz_sound.specs.StandsFor.{StandsFor}
use Rattle.oz_store.specs.Store.{IsStore}
use Rattle.oz_store.specs.striped.Shares.{HasAllStripes, IsOfStripe, share_of}
use Rattle.oz_store.specs.striped.laws.Requests.{share_answers, share_stays}
use Rattle.oz_store.specs.striped.laws.Rows.{left_as_it_was, standing_has_all}
use Rattle.oz_store.specs.striped.laws.Shares.{one_share, share_is_there}
use Rattle.oz_store.specs.striped.laws.Stories.{share_decided, story_has_all}
use Rattle.oz_om.specs.Held.{IsHeld, IsMade, IsOpenAsk, IsPickFor, IsPicked, IsTellable}
use Rattle.oz_om.specs.Keeps.{AreAsked}
use Rattle.oz_om.specs.Opens.{Opens}
use Rattle.oz_om.proofs.Asked.{asked_after}
use Rattle.oz_om.proofs.Homes.{granted_home, homes_after, kept_after, locals_after}
use Rattle.oz_om.proofs.Legal.{legal_of}
use Rattle.oz_om.proofs.Old.{contains_at, handed_with, old_after, old_whole}
use Rattle.oz_om.proofs.Gone.{gone_logged}
use Rattle.oz_om.proofs.Whole.{whole_decided}
use Rattle.oz_sound.specs.stripes.Stripes.{only}
use Rattle.oz_om.proofs.Recorded.{recorded_spares, spares_opened}
use Rattle.oz_om.proofs.decider_lemmas.Choice.{is_on_snapshots}
use Rattle.oz_om.proofs.decider_lemmas.Copies.{AreCopies, spares_copies}
use Rattle.oz_om.proofs.decider_lemmas.OnSnapshots.{snapshot_copies}
use Rattle.oz_om.proofs.decider_lemmas.Reclaims.{service_copies}

-- what a pool has is free
abbrev pub PoolLaw : Type 0
PoolLaw = (stripe : ℕ) (known mine : List Event) (free : FreeBlock) → Contains (pool_of stripe known mine) free ↔ IsFreeIn stripe known mine free

some_bytes : (byte : ℕ) (more : List ℕ) → byte ∷ more ≡ [] → ⊥
some_bytes byte more e = absurd cc

-- what a decision puts into a snapshot's keys stood in rows before
recorded_copies : (all : Rows) (list : List RowEntry) → AreRows list all → (decider : Decider) (request : Request) → decider_of request ≡ decider → (reply : Reply) (bytes : List ℕ) (changes : List Change)
    → AreRecordedBy decider all request reply bytes changes → AreCopies all changes
recorded_copies all list are deciders.Buckets request is reply bytes changes recorded = spares_copies all changes (recorded_spares all deciders.Buckets request reply bytes changes refl recorded)
recorded_copies all list are deciders.Reading request is reply bytes changes recorded = spares_copies all changes (recorded_spares all deciders.Reading request reply bytes changes refl recorded)
recorded_copies all list are deciders.Changing request is reply bytes changes recorded = spares_copies all changes (recorded_spares all deciders.Changing request reply bytes changes refl recorded)
recorded_copies all list are deciders.Opening request is reply bytes changes recorded = spares_copies all changes (spares_opened all list are request reply changes recorded)
recorded_copies all list are deciders.Granting request is reply bytes changes recorded = spares_copies all changes (recorded_spares all deciders.Granting request reply bytes changes refl recorded)
recorded_copies all list are deciders.Committing request is reply bytes changes recorded = spares_copies all changes (recorded_spares all deciders.Committing request reply bytes changes refl recorded)
recorded_copies all list are deciders.Snapshots request is reply bytes changes recorded = snapshot_copies all list are request (is_on_snapshots request is) reply bytes changes recorded
recorded_copies all list are deciders.Reclaiming request is reply bytes changes recorded = service_copies all list are request changes recorded
recorded_copies all list are deciders.Nobody request is reply bytes changes recorded = absurd recorded

-- sound rows are so in all but what renamed rows say
pub but_renames : (all : Rows) (namespace : Namespace) → Stand IsSound all namespace → Stand IsSoundButRenames all namespace
but_renames all namespace stand =
    let sound = stand.sound in record {
      fit = stand.fit;
      stands = stand.stands;
      sound = record { blocks = sound.blocks; names = sound.names; numbers = sound.numbers; counts = sound.counts };
    }

module _ {T : Type 0} (Coherent Agrees : Type 0) (opening : Opening) (bytes : OpeningBytes) (script : Script) (loaded : Rows) (last : ℕ)
    (Keeps : ℕ → List Event → List Event → Rows → Type 0) (opens : Opens Coherent opening bytes loaded last Agrees Keeps)
    (pool : PoolLaw) (s : StripeView T) (story : List Event) (held : IsHeld Coherent opening bytes script loaded s story)
    (id : AskId) where
  module _ (coherent : Coherent) where
    pub legal : IsLegal opening story
    legal = legal_of Coherent opening bytes script coherent story held.follow

    store : IsStore loaded opening bytes
    store = opens.store coherent

    at : StandAt opening loaded s.number story (newest s.cache)
    at = held.keeps.stands coherent

    abbrev pub part : Namespace
    part = share_of s.number (namespace_of opening story)

    pub of : IsOfStripe s.number (namespace_of opening story) part
    of = share_is_there s.number (namespace_of opening story)

    all : HasAllStripes opening.namespace
    all = standing_has_all loaded opening.namespace store.stands

    all_now : HasAllStripes (namespace_of opening story)
    all_now = story_has_all opening story all

    among_pool : (exclude : Exclude) (free : FreeBlock) → IsFirstAllowed exclude s.pool free → Contains s.pool free
    among_pool exclude free first = subst (λ (l : List FreeBlock). Contains l free) (sym first.parts) (contains_at first.before first.behind free)

    free_of : (exclude : Exclude) (block : Block) (pipeline : ℕ) → IsPicked Agrees s exclude (Some (block, pipeline)) → IsFree story s.number block pipeline
    free_of exclude block pipeline picked =
        let free : FreeBlock = record { block = block; pipeline = pipeline } in
        let found = (pool s.number s.seen s.mine free).0 (subst (λ (l : List FreeBlock). Contains l free) (picked.left (opens.agrees.0 coherent)) (among_pool exclude free picked.first)) in
        record {
          granted = subst (λ (l : List Event). IsOfGrant l s.number block pipeline) held.seen found.granted;
          unused = λ among. found.unused (subst (λ (l : List Event). Contains (used_by l) block) held.own among);
        }

    pub grants_new : (request : Request) (pick : Option (Block × ℕ)) → IsPickFor Agrees s request pick → GrantsNew (newest s.cache) request pick
    grants_new (AllocateBlock volume bucket key session exclude) None picked = tt
    grants_new (AllocateBlock volume bucket key session exclude) (Some (block, pipeline)) picked =
        λ twin of_key stands same. free_new opening story legal s.number pipeline block (free_of exclude block pipeline picked) loaded (newest s.cache) store.rows (old_whole s.number loaded (handed_out s.number story) (newest s.cache) at.old) twin of_key stands same
    grants_new request pick picked = tt

    granted : (request : Request) (reply : Reply) (pick : Option (Block × ℕ)) → IsPickFor Agrees s request pick
        → (family_of request ≡ Allocation → IsPickedBy pick reply) → stripe_of (volume_in request) ≡ s.number → GrantIsAllowed opening story request reply
    granted (AllocateBlock volume bucket key session exclude) (replies.Granted block pipeline) pick picked by its =
        let this = subst (λ (p : Option (Block × ℕ)). IsPicked Agrees s exclude p) (by refl) picked in
        subst (λ (n : ℕ). MayBeGranted opening story n exclude block pipeline) (sym its)
        (free_allowed opening story legal s.number pipeline block (free_of exclude block pipeline this) store.disks.fresh store.disks.log exclude this.first.allowed)
    granted (AllocateBlock volume bucket key session exclude) reply pick picked by its = tt
    granted request reply pick picked by its = tt

  module _ (place : ℕ) (decision : Decision) (made : IsMade Agrees s story place id decision) (index : ℕ)
      (stays : decision.bytes ≡ [] → index ≡ last_index opening story)
      (rises : decision.bytes ≢ [] → index ≡ last_index opening story + 1) where
    abbrev pub rows : Rows
    rows = newest s.cache

    abbrev pub event : Event
    event = record { seat = stripe_seat s.number; kind = Decide id index decision.reply decision.bytes }

    module _ (coherent : Coherent) where
      is : pending id story ≡ Some made.request
      is = made.ask.undecided

      its : stripe_of (volume_in made.request) ≡ s.number
      its = made.ask.of_stripe

      meets : Meets IsSound rows (part coherent) made.request decision.reply decision.bytes decision.changes
      meets = made.made.meets (grants_new coherent made.request made.pick made.picked) (part coherent) (at coherent).stand

      loosely : Stand IsSoundButRenames rows (part coherent)
      loosely = but_renames rows (part coherent) (at coherent).stand

      come : RowsComeFrom rows (after_changes decision.changes rows) (granted_in decision.reply)
      come = made.made.origins (part coherent) loosely

      listed : AreBased rows
      listed = newest_based opening loaded s.number story rows held.keeps.listed.all held.keeps.listed.are (held.keeps.stood coherent)

      whole_stays : (after (namespace_of opening story) made.request decision.reply ≡ namespace_of opening story) ↔ (after (part coherent) made.request decision.reply ≡ part coherent)
      whole_stays = share_stays s.number (namespace_of opening story) (part coherent) made.request decision.reply its (of coherent) (all_now coherent)

      -- where nothing is written the namespace stays
      unchanged : decision.bytes ≡ [] → after (namespace_of opening story) made.request decision.reply ≡ namespace_of opening story
      unchanged none = whole_stays.1 (left_as_it_was rows (part coherent) made.request decision.reply (at coherent).stand.stands
          (subst (λ (l : List Change). StandsFor (after_changes l rows) (after (part coherent) made.request decision.reply)) (made.made.recorded.0 none) meets.leads.stands))

      either : (b : List ℕ) → decision.bytes ≡ b → (index ≡ last_index opening story) ⊎ (index ≡ last_index opening story + 1)
      either [] e = inl (stays e)
      either (byte ∷ more) e = inr (rises (λ none. some_bytes byte more (sym e ∙ none)))

      goes_on : IndexGoesOn opening story made.request decision.reply index
      goes_on = record {
        changes = λ changed. rises (λ none. changed (unchanged none));
        stays = λ same other. stays (made.made.recorded.1 (meets.keeps (whole_stays.0 same, other)));
        service = λ service. either decision.bytes refl;
      }

      to_none : index ≡ last_index opening story → decision.bytes ≡ []
      to_none same = by_case decision.bytes refl
        where
          by_case : (b : List ℕ) → decision.bytes ≡ b → decision.bytes ≡ []
          by_case [] e = e
          by_case (byte ∷ more) e = let next = rises (λ none. some_bytes byte more (sym e ∙ none)) in absurd (omega (arith, same, next))

      pub enabled : DecideIsEnabled opening story (stripe_seat s.number) id index decision.reply decision.bytes
      enabled = record {
        request = made.request;
        undecided = is;
        in_time = made.ask.in_time;
        of_stripe = ap stripe_seat (sym its);
        one_thread = (share_answers s.number (namespace_of opening story) (part coherent) made.request decision.reply its (of coherent)).1 meets.answers;
        granted = granted coherent made.request decision.reply made.pick made.picked made.made.picked its;
        index_goes_on = goes_on;
        recorded = (stays, to_none);
      }

      share_now : after (part coherent) made.request decision.reply ≡ share_of s.number (namespace_of opening (story ++ event ∷ []))
      share_now = one_share s.number (namespace_of opening (story ++ event ∷ [])) (after (part coherent) made.request decision.reply) (share_of s.number (namespace_of opening (story ++ event ∷ [])))
          (share_decided s.number opening story (part coherent) (stripe_seat s.number) id index decision.reply decision.bytes made.request (all coherent) is its (of coherent))
          (share_is_there s.number (namespace_of opening (story ++ event ∷ [])))

      old_next : AreOld (only s.number loaded) (handed_out s.number (story ++ event ∷ [])) (after_changes decision.changes rows)
      old_next = subst (λ (l : List Block). AreOld (only s.number loaded) l (after_changes decision.changes rows))
          (sym (handed_with s.number story id index decision.reply decision.bytes))
          (old_after (only s.number loaded) rows (handed_out s.number story) (at coherent).old decision.changes meets.leads.fit
          (recorded_copies rows listed.all listed.are (decider_of made.request) made.request refl decision.reply decision.bytes decision.changes made.made.exact)
          decision.reply (MayGo rows made.request) meets.blocks)

      pub stands : StandAt opening loaded s.number (story ++ event ∷ []) (after_changes decision.changes rows)
      stands = record {
        stand = subst (λ (n : Namespace). Stand IsSound (after_changes decision.changes rows) n) share_now meets.leads;
        old = old_next;
        homes_old = homes_after opening loaded s.number story rows (at coherent) id index decision.reply decision.bytes decision.changes
            (MayGo rows made.request) meets.blocks;
        keys_old = locals_after opening loaded s.number story rows (at coherent) id index decision.reply decision.bytes decision.changes
            (MayGo rows made.request) meets.blocks old_next meets.leads.fit come;
        kept_or_logged = kept_after opening loaded s.number story rows (at coherent) id index decision.reply decision.bytes decision.changes
            (MayGo rows made.request) meets.blocks
            (gone_logged opening bytes loaded (store coherent) s.number story s.mine (legal coherent) held.own rows (at coherent) (held.keeps.asked coherent)
            id made.request is its)
            (granted_home rows (part coherent) made.request decision.reply decision.bytes decision.changes meets.answers made.made.exact);
      }

      pub asks : AreAsked loaded s.number s.mine story (after_changes decision.changes rows)
      asks = asked_after opening loaded s.number story s.mine (legal coherent) held.own rows (at coherent) (after_changes decision.changes rows)
          (granted_in decision.reply) meets.leads.fit come (held.keeps.asked coherent)

    pub tellable : IsTellable Coherent opening loaded s.number (newest s.cache) s.mine story id decision.reply decision.bytes decision.changes index
    tellable =
        let safe = made.made.safe held.keeps.fit in
        record {
          batch_of = safe.batch;
          recorded = made.made.recorded;
          fit = safe.fit;
          enabled = enabled;
          of_stripe = λ coherent. subst (λ (n : ℕ). IsBatchOfStripe n rows decision.bytes decision.changes) (its coherent)
              (made.made.own_batch (part coherent) (loosely coherent));
          stands = stands;
          asked = asks;
          whole = λ coherent. whole_decided opening loaded s.number story rows (after_changes decision.changes rows) (granted_in decision.reply)
              (at coherent) (meets coherent).leads.fit (come coherent);
        }

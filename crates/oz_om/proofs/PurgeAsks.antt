-- What may be asked to be deleted may be so as the story goes on, and the stripe rests behind it.
use Rattle.std.proofs.Common.{◌≡◌, ◌⊎◌, inl, inr, ◌==◌, ℕ, ◌<◌, ◌≤◌, Bool, cond, List, [], ◌∷◌, ◌++◌, length, None, Contains, All, arith, refl, sym, ap, ◌∙◌, subst, append_assoc}
use Rattle.std.proofs.lemmas.Bool.{eq-eqb}
use Rattle.std.proofs.lemmas.List.Elements.{All-contains_itself, All-weaker, Contains-append_cases, Contains-append_left, filter-append, filter_map-append}
use Rattle.oz_buffer.specs.Buffer.{AllFollow, Follows}
use Rattle.oz_cache.specs.Cache.{newest}
use Rattle.oz_core.specs.declared.event.Event.{Event}
use Rattle.oz_core.specs.declared.event.EventKind.TheVariants.{PurgeAsk}
use Rattle.oz_core.specs.declared.event.Node.TheVariants.{Manager}
use Rattle.oz_core.specs.declared.opening.Opening.{Opening}
use Rattle.oz_core.specs.Contents.{OpeningBytes}
use Rattle.oz_core.specs.Law.{IsLegal, IsLegalFrom, PurgeAskIsEnabled}
use Rattle.oz_core.specs.Manager.{IsUsed, IsUsedAndKept, WasUsed, durable_index, halt_of, kept_namespace, last_index, namespace_of, pinned}
use Rattle.oz_core.specs.Seats.{stripe_seat}
use Rattle.oz_core.specs.Stories.{mine}
use Rattle.oz_fields.specs.declared.block.Block.{Block}
use Rattle.oz_kept.specs.laws.Deleted.{durable_rises, legal_to}
use Rattle.oz_kept.specs.laws.Places.{legal_behind}
use Rattle.oz_kept.specs.laws.Reached.{in_one, used_still}
use Rattle.oz_locks.specs.Purges.{AreAskedWhole, HaveWholeRows, asked_by, asked_in}
use Rattle.oz_locks.specs.Stripe.{StripeView}
use Rattle.oz_model.specs.Reach.{IsReached}
use Rattle.oz_names.specs.declared.limits.TheConstants.{STRIPES}
use Rattle.oz_namespace.specs.declared.namespace.Namespace.{Namespace}
use Rattle.oz_owned.specs.Own.{IsOwn}
use Rattle.oz_owned.specs.Stood.{HasStood, StandAt}
use Rattle.oz_owned.specs.laws.Front.{front_of}
use Rattle.oz_owned.specs.laws.Owned.{own_still}
use Rattle.oz_owned.specs.laws.Staying.{garbage_still}
use Rattle.oz_owned.specs.laws.Standing.{makes_nothing, stand_at_still}
use Rattle.oz_owned.specs.laws.Written.{stood_more}
use Rattle.oz_rows.specs.RowMaps.{Rows}
use Rattle.oz_script.specs.declared.lines.script.Script.{Script}
use Rattle.oz_sound.specs.stripes.Stripes.{only}
use Rattle.oz_om.specs.Held.{IsHeld, IsTold}
use Rattle.oz_om.specs.Keeps.{AreAsked, AreOutOfReach, KeepsRows, StayWhole}
use Rattle.oz_om.specs.Purging.{MayBeAsked}
use Rattle.oz_om.proofs.Legal.{legal_of}
use Rattle.oz_om.proofs.Whole.{out_of_reach_still, whole_further}

each_of : {A : Type 0} (P : A → Type 0) (l : List A) → ((x : A) → Contains l x → P x) → All P l
each_of P l each k d within = All-weaker (Contains l) P each l (All-contains_itself l) k d within

module _ (opening : Opening) (loaded : Rows) (stripe : ℕ) (story : List Event) (all : Rows) (blocks : List Block)
    (may : MayBeAsked opening loaded stripe story all blocks) where
  -- as the story goes on
  pub asked_further : (more : List Event) → IsLegal opening (story ++ more) → MayBeAsked opening loaded stripe (story ++ more) all blocks
  asked_further more legal =
      let rises = durable_rises opening more story (legal_behind opening [] story more legal) in
      let low = may.flushed in
      let at_story : AreOutOfReach opening story blocks = subst (λ (l : List Event). AreOutOfReach opening l blocks) (sym may.begins.1)
      (out_of_reach_still opening may.front may.begins.0 blocks (subst (IsLegal opening) may.begins.1 (legal_to opening [] story more legal)) may.out) in
      record {
        some = may.some;
        own = λ k d within. own_still loaded stripe story more _ (may.own k d within);
        front = may.front;
        begins = (may.begins.0 ++ more, ap (λ (l : List Event). l ++ more) may.begins.1 ∙ append_assoc may.front may.begins.0 more);
        flushed = omega (arith, low, rises);
        out = may.out;
        unpinned = λ block there. (garbage_still opening story more block legal (record {
          used = (at_story block there).0;
          unreached = (at_story block there).1;
          unpinned = may.unpinned block there;
        })).unpinned;
        whole = may.whole;
      }

  -- it may be asked for now
  pub purge_enabled : IsLegal opening story → stripe < STRIPES → halt_of Manager story ≡ None → PurgeAskIsEnabled opening story (stripe_seat stripe) blocks
  purge_enabled legal there unhalted =
      let most = durable_index opening story in
      let front = front_of opening story most legal in
      let is = front.1 in
      let further = is.longest may.front may.begins.0 may.begins.1 may.flushed in
      let out : AreOutOfReach opening front.0 blocks = subst (λ (l : List Event). AreOutOfReach opening l blocks) (sym further.1)
      (out_of_reach_still opening may.front further.0 blocks
      (subst (IsLegal opening) further.1 (legal_to opening [] front.0 is.behind (subst (IsLegal opening) is.parts legal))) may.out) in
      record {
        of_stripe = record { stripe = stripe; there = there; its = refl };
        unhalted = unhalted;
        some = may.some;
        used = each_of (IsUsedAndKept opening story) blocks
            (λ block among. subst (λ (l : List Block). WasUsed opening l block) (sym is.granted) (out block among).0);
        unreached = each_of (λ block. IsReached (kept_namespace opening story) block → ⊥) blocks
            (λ block among reached. (out block among).1 (subst (λ (n : Namespace). IsReached n block) is.namespace reached));
        unpinned = each_of (λ block. Contains (pinned story) block → ⊥) blocks may.unpinned;
      }

-- ---- behind it

module _ (opening : Opening) (loaded : Rows) (stripe : ℕ) (given story : List Event) (rows : Rows) (blocks : List Block) where
  abbrev purge : Event
  purge = record { seat = stripe_seat stripe; kind = PurgeAsk blocks }

  asked_or_before : (others : List Block) → Contains (asked_by (given ++ purge ∷ [])) others → (P : List Block → Type 0)
      → ((l : List Block) → Contains (asked_by given) l → P l) → P blocks → P others
  asked_or_before others there P before now = by (Contains-append_cases (asked_by given) (blocks ∷ []) others
      (subst (λ (l : List (List Block)). Contains l others) (filter_map-append (λ (event : Event). asked_in event.kind) given (purge ∷ [])) there))
    where
      by : Contains (asked_by given) others ⊎ Contains (blocks ∷ []) others → P others
      by (inl was) = before others was
      by (inr is) = subst P (in_one blocks others is) now

  pub keeps_asked : (Coherent : Type 0) → (Coherent → IsLegal opening (story ++ purge ∷ [])) → KeepsRows Coherent opening loaded stripe given story rows
      → (Coherent → MayBeAsked opening loaded stripe story rows blocks)
      → KeepsRows Coherent opening loaded stripe (given ++ purge ∷ []) (story ++ purge ∷ []) rows
  keeps_asked Coherent legal keeps may = record {
    own = filter-append (λ (e : Event). e.seat == stripe_seat stripe) story (purge ∷ [])
        ∙ ap (λ (t : Bool). mine (stripe_seat stripe) story ++ cond t (purge ∷ []) []) (eq-eqb (stripe_seat stripe) (stripe_seat stripe) refl)
        ∙ ap (λ (l : List Event). l ++ purge ∷ []) keeps.own;
    fit = keeps.fit;
    listed = keeps.listed;
    stands = stands_now;
    stood = stood_now;
    asked = λ coherent. record {
      own = λ others there. asked_or_before others there (λ l. All (IsOwn loaded stripe (story ++ purge ∷ [])) l)
          (λ l was k d within. own_still loaded stripe story (purge ∷ []) _ ((keeps.asked coherent).own l was k d within))
          (λ k d within. own_still loaded stripe story (purge ∷ []) _ ((may coherent).own k d within));
      whole = λ others there. asked_or_before others there (HaveWholeRows rows) (keeps.asked coherent).whole (may coherent).whole;
    };
    whole = λ coherent. whole_further opening loaded stripe story rows keeps.listed purge rows (legal coherent) (stood_now coherent)
        (λ l out whole. whole) (keeps.whole coherent);
  }
    where
      stands_now : Coherent → StandAt opening loaded stripe (story ++ purge ∷ []) rows
      stands_now coherent = stand_at_still stripe purge (λ own. refl) opening story (legal coherent) loaded rows (keeps.stands coherent)

      stood_now : Coherent → HasStood opening loaded stripe (story ++ purge ∷ []) rows
      stood_now coherent = stood_more (StandAt opening loaded stripe) stripe [] (only stripe loaded) story rows rows purge (keeps.stood coherent)
          (makes_nothing stripe purge (λ own. refl) rows) (stands_now coherent)

module _ {T : Type 0} (Coherent : Type 0) (opening : Opening) (bytes : OpeningBytes) (script : Script) (loaded : Rows) (old new : StripeView T)
    (story : List Event) (blocks : List Block) where
  -- what is kept of the stripe once it has asked
  pub told_asked : IsHeld Coherent opening bytes script loaded old story
      → (Coherent → MayBeAsked opening loaded old.number story (newest old.cache) blocks)
      → new.number ≡ old.number → new.seen ≡ story ++ record { seat = stripe_seat old.number; kind = PurgeAsk blocks } ∷ []
      → new.mine ≡ old.mine ++ record { seat = stripe_seat old.number; kind = PurgeAsk blocks } ∷ [] → newest new.cache ≡ newest old.cache
      → AllFollow (Follows Coherent opening bytes script) [] (story ++ record { seat = stripe_seat old.number; kind = PurgeAsk blocks } ∷ [])
      → IsTold Coherent opening bytes script loaded old new
  told_asked held may number seen given rows follow =
      let event : Event = record { seat = stripe_seat old.number; kind = PurgeAsk blocks } in
      record {
        number = number;
        event = event;
        story = seen ∙ ap (λ (l : List Event). l ++ event ∷ []) (sym held.seen);
        follow = subst (AllFollow (Follows Coherent opening bytes script) []) (sym seen) follow;
        keeps = subst (λ (n : ℕ). KeepsRows Coherent opening loaded n new.mine new.seen (newest new.cache)) (sym number)
            (subst (λ (l : List Event). KeepsRows Coherent opening loaded old.number l new.seen (newest new.cache)) (sym given)
            (subst (λ (l : List Event). KeepsRows Coherent opening loaded old.number (old.mine ++ event ∷ []) l (newest new.cache)) (sym seen)
            (subst (λ (r : Rows). KeepsRows Coherent opening loaded old.number (old.mine ++ event ∷ []) (story ++ event ∷ []) r) (sym rows)
            (keeps_asked opening loaded old.number old.mine story (newest old.cache) blocks Coherent
            (λ coherent. legal_of Coherent opening bytes script coherent (story ++ event ∷ []) follow) held.keeps may))));
      }

-- What is kept of a stripe once its decision is told.
use Rattle.std.proofs.Common.{◌≡◌, ◌≢◌, ◌==◌, ℕ, ◌<◌, Bool, cond, eq-eqb, List, [], ◌∷◌, ◌++◌, Option, None, Some, Contains, append-nil, refl, sym, ap, ◌∙◌, subst}
use Rattle.std.proofs.lemmas.List.Elements.{filter_map-append, filter-append}
use Rattle.oz_buffer.specs.Buffer.{AllFollow, Follows}
use Rattle.oz_cache.specs.Cache.{newest}
use Rattle.oz_core.specs.declared.event.Event.{Event}
use Rattle.oz_core.specs.declared.event.EventKind.TheVariants.{Decide}
use Rattle.oz_core.specs.declared.opening.Opening.{Opening}
use Rattle.oz_core.specs.Contents.{OpeningBytes}
use Rattle.oz_core.specs.Seats.{stripe_seat}
use Rattle.oz_core.specs.Stories.{mine}
use Rattle.oz_script.specs.declared.lines.script.Script.{Script}
use Rattle.oz_locks.specs.Purges.{asked_by, asked_in}
use Rattle.oz_locks.specs.Stripe.{StripeView}
use Rattle.oz_fields.specs.declared.block.Block.{Block}
use Rattle.oz_owned.specs.Stood.{HasStood, StandAt}
use Rattle.oz_owned.specs.laws.Owned.{own_still}
use Rattle.oz_owned.specs.laws.Written.{stood_more}
use Rattle.oz_requests.specs.declared.reply.Reply.{Reply}
use Rattle.oz_requests.specs.declared.request.AskId.{AskId}
use Rattle.oz_rows.specs.declared.operation.Change.{Change}
use Rattle.oz_rows.specs.declared.operation.TheConstants.{END_OF_INDEXES}
use Rattle.oz_rows.specs.RowMaps.{Rows, after_changes}
use Rattle.oz_sound.specs.stripes.Stripes.{only}
use Rattle.oz_turn.specs.Told.{KeepsOtherRooms}
use Rattle.oz_om.specs.Held.{IsHeld, IsTellable, IsTold}
use Rattle.oz_om.specs.Keeps.{AreAsked, KeepsRows}
use Rattle.oz_om.proofs.Legal.{legal_of}
use Rattle.oz_om.proofs.Whole.{whole_further}

-- a value that keeps the rooms of another for all other seats keeps those that were taken
pub rooms_kept : {T : Type 0} (room : T → ℕ → ℕ) (number : ℕ) (taken : Option T) (before after : T) → KeepsOtherRooms room number taken before
    → ((n : ℕ) → n ≢ number → room after n ≡ room before n) → KeepsOtherRooms room number taken after
rooms_kept room number None before after keeps same = keeps
rooms_kept room number (Some value) before after keeps same = λ n other. same n other ∙ keeps n other

module _ {T : Type 0} (Coherent : Type 0) (opening : Opening) (bytes : OpeningBytes) (script : Script) (loaded : Rows) (old new : StripeView T)
    (story : List Event) (id : AskId) (index : ℕ) (reply : Reply) (batch : List ℕ) (changes : List Change) where
  abbrev pub decide : Event
  decide = record { seat = stripe_seat old.number; kind = Decide id index reply batch }

  -- a Decide asks for nothing to be deleted
  same_asked : asked_by (old.mine ++ decide ∷ []) ≡ asked_by old.mine
  same_asked = filter_map-append (λ (event : Event). asked_in event.kind) old.mine (decide ∷ []) ∙ append-nil (asked_by old.mine)

  asked_told : AreAsked loaded old.number old.mine story (after_changes changes (newest old.cache))
      → AreAsked loaded old.number (old.mine ++ decide ∷ []) (story ++ decide ∷ []) (after_changes changes (newest old.cache))
  asked_told asked = record {
    own = λ blocks there k d within. own_still loaded old.number story (decide ∷ []) _
        (asked.own blocks (subst (λ (l : List (List Block)). Contains l blocks) same_asked there) k d within);
    whole = λ blocks there. asked.whole blocks (subst (λ (l : List (List Block)). Contains l blocks) same_asked there);
  }

  pub told_of : IsHeld Coherent opening bytes script loaded old story
      → IsTellable Coherent opening loaded old.number (newest old.cache) old.mine story id reply batch changes index
      → (batch ≢ [] → index < END_OF_INDEXES)
      → new.number ≡ old.number → new.seen ≡ story ++ decide ∷ [] → new.mine ≡ old.mine ++ decide ∷ []
      → newest new.cache ≡ after_changes changes (newest old.cache) → AllFollow (Follows Coherent opening bytes script) [] (story ++ decide ∷ [])
      → IsTold Coherent opening bytes script loaded old new
  told_of held tellable limit number seen given rows follow = record {
    number = number;
    event = decide;
    story = seen ∙ ap (λ (l : List Event). l ++ decide ∷ []) (sym held.seen);
    follow = subst (AllFollow (Follows Coherent opening bytes script) []) (sym seen) follow;
    keeps = subst (λ (n : ℕ). KeepsRows Coherent opening loaded n new.mine new.seen (newest new.cache)) (sym number)
        (subst (λ (l : List Event). KeepsRows Coherent opening loaded old.number l new.seen (newest new.cache)) (sym given)
        (subst (λ (l : List Event). KeepsRows Coherent opening loaded old.number (old.mine ++ decide ∷ []) l (newest new.cache)) (sym seen)
        (subst (λ (r : Rows). KeepsRows Coherent opening loaded old.number (old.mine ++ decide ∷ []) (story ++ decide ∷ []) r) (sym rows)
        (record {
          own = filter-append (λ (e : Event). e.seat == stripe_seat old.number) story (decide ∷ [])
              ∙ ap (λ (t : Bool). mine (stripe_seat old.number) story ++ cond t (decide ∷ []) []) (eq-eqb (stripe_seat old.number) (stripe_seat old.number) refl)
              ∙ ap (λ (l : List Event). l ++ decide ∷ []) held.keeps.own;
          fit = tellable.fit;
          listed = held.keeps.listed;
          stands = tellable.stands;
          stood = stood_now;
          asked = λ coherent. asked_told (tellable.asked coherent);
          whole = λ coherent. whole_further opening loaded old.number story (newest old.cache) held.keeps.listed decide
              (after_changes changes (newest old.cache)) (legal_of Coherent opening bytes script coherent (story ++ decide ∷ []) follow) (stood_now coherent)
              (tellable.whole coherent) (held.keeps.whole coherent);
        }))));
  }
    where
      stood_now : Coherent → HasStood opening loaded old.number (story ++ decide ∷ []) (after_changes changes (newest old.cache))
      stood_now coherent = stood_more (StandAt opening loaded old.number) old.number [] (only old.number loaded) story (newest old.cache)
          (after_changes changes (newest old.cache)) decide (held.keeps.stood coherent)
          (record { own = λ is. record { changes = changes; of_stripe = tellable.of_stripe coherent; limit = limit; leads = refl }; others = λ not. absurd (not refl) })
          (tellable.stands coherent)

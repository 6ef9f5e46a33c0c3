-- A block that is granted stands in the pool that it was picked from; and what a stripe is held for, when its pool changes.
use Rattle.std.proofs.Common.{◌≡◌, ℕ, List, [], Option, None, Some, ◌↔◌, refl, sym, ◌∙◌, subst}
use Rattle.std.proofs.lemmas.Option.{none-some}
use Rattle.std.specs.Prelude.{Any, Contains, IfSome}
use Rattle.oz_core.specs.declared.event.Event.{Event}
use Rattle.oz_core.specs.declared.opening.Opening.{Opening}
use Rattle.oz_core.specs.Contents.{OpeningBytes}
use Rattle.oz_core.specs.Manager.{block_of_reply}
use Rattle.oz_om.specs.decider.Records.{AreRecorded}
use Rattle.oz_om_session.specs.Records.{recorded_grant}
use Rattle.oz_rows.specs.declared.operation.Change.{Change}
use Rattle.oz_requests.specs.declared.reply.Reply.TheVariants as replies
use Rattle.oz_fields.specs.declared.block.Block.{Block}
use Rattle.oz_script.specs.declared.lines.script.Script.{Script}
use Rattle.oz_locks.specs.Stripe.{StripeView}
use Rattle.oz_locks.specs.declared.pool.FreeBlock.{FreeBlock}
use Rattle.oz_requests.specs.declared.reply.Reply.{Reply}
use Rattle.oz_requests.specs.declared.request.Exclude.{Exclude}
use Rattle.oz_requests.specs.declared.request.Request.{Request}
use Rattle.oz_requests.specs.declared.request.Request.TheVariants.{AllocateBlock}
use Rattle.oz_rows.specs.RowMaps.{Rows}
use Rattle.oz_om.specs.Held.{IsGrantOf, IsHeld, IsPickFor, IsPickedGrant, IsFirstOf}
use Rattle.oz_om.proofs.Old.{contains_at}

any_of : {A : Type 0} (P : A → Type 0) (l : List A) (x : A) → Contains l x → P x → Any P l
any_of P l x among holds = (among.0, x, among.1, among.2, holds)

module _ {T : Type 0} (Agrees : Type 0) (s : StripeView T) where
  first_pooled : (exclude : Exclude) (pick : Option (Block × ℕ)) (block : Block) (pipeline : ℕ) → IsFirstOf exclude s.pool pick → pick ≡ Some (block, pipeline)
      → Any (λ (free : FreeBlock). free.block ≡ block) s.pool
  first_pooled exclude pick block pipeline first is =
      let this = subst (λ (p : Option (Block × ℕ)). IsFirstOf exclude s.pool p) is first in
      let free : FreeBlock = record { block = block; pipeline = pipeline } in
      any_of (λ (f : FreeBlock). f.block ≡ block) s.pool free (subst (λ (l : List FreeBlock). Contains l free) (sym this.parts) (contains_at this.before this.behind free)) refl

  pick_pooled : (request : Request) (pick : Option (Block × ℕ)) (block : Block) (pipeline : ℕ) → IsPickFor Agrees s request pick → pick ≡ Some (block, pipeline)
      → Any (λ (free : FreeBlock). free.block ≡ block) s.pool
  pick_pooled (AllocateBlock volume bucket key session exclude) pick block pipeline picked is = first_pooled exclude pick block pipeline picked.first is
  pick_pooled request pick block pipeline picked is = absurd (none-some (block, pipeline) (sym picked ∙ is))

  pub pooled : (request : Request) (pick : Option (Block × ℕ)) (reply : Reply) (granted : Option Block) → IsPickFor Agrees s request pick
      → IsPickedGrant reply pick granted → IsGrantOf s.pool reply granted
  pooled request pick reply granted picked grant = record { granted_is = grant.granted_is; pooled = by_case granted refl }
    where
      by_case : (o : Option Block) → granted ≡ o → IfSome o (λ block. Any (λ (free : FreeBlock). free.block ≡ block) s.pool)
      by_case None is = tt
      by_case (Some block) is = let found = grant.picked block is in pick_pooled request pick block found.0 picked found.1

module _ {T : Type 0} (Coherent : Type 0) (opening : Opening) (bytes : OpeningBytes) (script : Script) (loaded : Rows) (story : List Event) where
  pub held_pooled : (s t : StripeView T) → t ≡ record s { pool = t.pool; known = t.known } → IsHeld Coherent opening bytes script loaded s story
      → IsHeld Coherent opening bytes script loaded t story
  held_pooled s t same held = subst (λ (v : StripeView T). IsHeld Coherent opening bytes script loaded v story) (sym same)
      (record { seen = held.seen; follow = held.follow; own = held.own; keeps = held.keeps })

module _ {T : Type 0} (Agrees : Type 0) (s : StripeView T) (rows : Rows) (bytes : List ℕ) (changes : List Change) where
  quiet_reply : (volume bucket key : List ℕ) (session : ℕ) (exclude : Exclude) (reply : Reply) (block : Block) → Some block ≡ block_of_reply reply
      → changes ≡ recorded_grant rows (AllocateBlock volume bucket key session exclude) reply → changes ≡ [] → ⊥
  quiet_reply volume bucket key session exclude (replies.Granted picked pipeline) block is recorded none = let bad = sym recorded ∙ none in absurd cc
  quiet_reply volume bucket key session exclude reply block is recorded none = none-some block (sym is)

  quiet_request : (request : Request) (pick : Option (Block × ℕ)) (reply : Reply) (block : Block) (pipeline : ℕ) → IsPickFor Agrees s request pick
      → pick ≡ Some (block, pipeline) → Some block ≡ block_of_reply reply → AreRecorded rows request reply bytes changes → changes ≡ [] → ⊥
  quiet_request (AllocateBlock volume bucket key session exclude) pick reply block pipeline picked is grants recorded none =
      quiet_reply volume bucket key session exclude reply block grants recorded none
  quiet_request request pick reply block pipeline picked is grants recorded none = none-some (block, pipeline) (sym picked ∙ is)

  -- where nothing is written no block is granted
  pub quiet_grant : (request : Request) (pick : Option (Block × ℕ)) (reply : Reply) (granted : Option Block) → IsPickFor Agrees s request pick
      → IsPickedGrant reply pick granted → AreRecorded rows request reply bytes changes → (bytes ≡ []) ↔ (changes ≡ []) → bytes ≡ [] → granted ≡ None
  quiet_grant request pick reply granted picked grant exact recorded none = by_case granted refl
    where
      by_case : (o : Option Block) → granted ≡ o → granted ≡ None
      by_case None is = is
      by_case (Some block) is = let found = grant.picked block is in
          absurd (quiet_request request pick reply block found.0 picked found.1 (sym is ∙ grant.granted_is) exact (recorded.0 none))

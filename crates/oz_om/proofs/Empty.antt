-- Where a stripe has no block left for a session.
use Rattle.std.proofs.Common.{◌≡◌, ◌⊎◌, inl, inr, ℕ, Bool, true, false, ◌&&◌, ◌==◌, eq-eqb, arith, List, Option, None, refl, sym, ap, ◌∙◌, subst}
use mathlib.Core.Bool.{false≢true}
use Rattle.std.proofs.lemmas.Bool.{and_parts, eqb-true}
use Rattle.std.proofs.lemmas.List.Folds.{Any-from_list_any, list_any_at}
use Rattle.std.specs.Prelude.{All, Contains}
use Rattle.oz_core.specs.declared.event.Event.{Event}
use Rattle.oz_core.specs.declared.opening.Opening.{Opening}
use Rattle.oz_core.specs.Contents.{OpeningBytes}
use Rattle.oz_core.specs.Grants.{IsExcluded}
use Rattle.oz_core.specs.Manager.{namespace_of}
use Rattle.oz_core.specs.Nodes.{is_block}
use Rattle.oz_core.specs.Scm.{IsOfGrant}
use Rattle.oz_om.specs.decider.Outcomes.{WantsBlock}
use Rattle.oz_fields.specs.declared.block.Block.{Block}
use Rattle.oz_store.specs.granted.Granted.{NoneIsFree, handed_out}
use Rattle.oz_store.specs.granted.laws.Free.{none_free_spent}
use Rattle.oz_script.specs.declared.lines.script.Script.{Script}
use Rattle.oz_locks.specs.Pool.{is_among, used_by}
use Rattle.oz_locks.specs.Stripe.{StripeView}
use Rattle.oz_locks.specs.declared.pool.FreeBlock.{FreeBlock}
use Rattle.oz_model.specs.Answers.{Answers, reply_from}
use Rattle.oz_model.specs.Refusals.{refusal}
use Rattle.oz_model.specs.Scope.{scope_of}
use Rattle.oz_names.specs.declared.code.Code.{Code}
use Rattle.oz_requests.specs.declared.reply.Reply.TheVariants.{Granted}
use Rattle.oz_requests.specs.declared.request.AskId.{AskId}
use Rattle.oz_requests.specs.declared.request.Exclude.{Exclude}
use Rattle.oz_requests.specs.declared.request.Family.TheVariants.{Allocation}
use Rattle.oz_requests.specs.declared.request.Request.{Request}
use Rattle.oz_requests.specs.declared.request.Request.TheVariants.{AllocateBlock}
use Rattle.oz_requests.specs.Families.{family_of}
use Rattle.oz_requests.specs.Names.{volume_in}
use Rattle.oz_rows.specs.RowMaps.{Rows}
use Rattle.oz_namespace.specs.declared.namespace.Namespace.{Namespace}
use Rattle.oz_store.specs.striped.Shares.{IsOfStripe}
use Rattle.oz_store.specs.striped.laws.Requests.{share_answers}
use Rattle.oz_store.specs.granted.Empty.{IsPoolEmpty}
use Rattle.oz_om.specs.Held.{IsHeld, IsOpenAsk, IsPickFor, IsPicked}
use Rattle.oz_om.specs.Opens.{Opens}
use Rattle.oz_om.proofs.Tellable.{PoolLaw, of, part}

-- a block is one of some where a test says so
itself : (block : Block) → is_block block block ≡ true
itself block = ap (λ (t : Bool). t && block.local == block.local) (eq-eqb block.container block.container refl) ∙ eq-eqb block.local block.local refl

same_block : (block other : Block) → is_block block other ≡ true → block ≡ other
same_block block other same =
    let parts = and_parts (other.container == block.container) (other.local == block.local) same in
    λ i. record { container = sym (eqb-true other.container block.container parts.0) i; local = sym (eqb-true other.local block.local parts.1) i }

among_is : (block : Block) (blocks : List Block) → is_among blocks block ≡ true → Contains blocks block
among_is block blocks is =
    let found = Any-from_list_any (λ (other : Block). is_block other block) blocks is in
    grind (arith, found, same_block)

is_among_of : (block : Block) (blocks : List Block) → Contains blocks block → is_among blocks block ≡ true
is_among_of block blocks among = list_any_at (λ (other : Block). is_block other block) blocks among.0 block among.1
    (ap (λ (b : Block). is_block b block) among.2 ∙ itself block)

all_of : {A : Type 0} (P : A → Type 0) (l : List A) → All P l → (x : A) → Contains l x → P x
all_of P l all x among = subst P among.2 (all among.0 x among.1)

module _ {T : Type 0} (Coherent Agrees : Type 0) (opening : Opening) (bytes : OpeningBytes) (script : Script) (loaded : Rows) (last : ℕ)
    (Keeps : ℕ → List Event → List Event → Rows → Type 0) (opens : Opens Coherent opening bytes loaded last Agrees Keeps)
    (pool : PoolLaw) (s : StripeView T) (story : List Event) (held : IsHeld Coherent opening bytes script loaded s story)
    (id : AskId) (coherent : Coherent) where
  abbrev share : Namespace
  share = part Coherent Agrees opening bytes script loaded last Keeps opens pool s story held id coherent

  share_is : IsOfStripe s.number (namespace_of opening story) share
  share_is = of Coherent Agrees opening bytes script loaded last Keeps opens pool s story held id coherent

  -- what isn't handed out is in the pool
  none_free : (exclude : Exclude) → IsPicked Agrees s exclude None → NoneIsFree story s.number exclude
  none_free exclude picked block pipeline granted = by_test (is_among (used_by s.mine) block) refl
    where
      free : FreeBlock
      free = record { block = block; pipeline = pipeline }

      by_test : (t : Bool) → is_among (used_by s.mine) block ≡ t → Contains (handed_out s.number story) block ⊎ IsExcluded exclude block pipeline
      by_test true e = inl (subst (λ (l : List Event). Contains (used_by l) block) (sym held.own) (among_is block (used_by s.mine) e))
      by_test false e = inr (all_of (λ (f : FreeBlock). IsExcluded exclude f.block f.pipeline) s.pool picked.first free
          (subst (λ (l : List FreeBlock). Contains l free) (sym (picked.left (opens.agrees.0 coherent)))
          ((pool s.number s.seen s.mine free).1 (record {
            granted = subst (λ (l : List Event). IsOfGrant l s.number block pipeline) (sym held.seen) granted;
            unused = λ among. false≢true (sym e ∙ is_among_of block (used_by s.mine) among);
          }))))

  answers_any : (request : Request) (block : Block) (pipeline : ℕ) → family_of request ≡ Allocation
      → refusal (scope_of share (volume_in request)) request ≡ None → Answers share request (Granted block pipeline)
  unfolding Answers
  answers_any (AllocateBlock volume bucket key session exclude) block pipeline is none =
      (block, pipeline, ap (λ (o : Option Code). reply_from o (Granted block pipeline)) (sym none))
  answers_any request block pipeline is none = absurd cc

  pub no_block : (place : ℕ) (request : Request) (pick : Option (Block × ℕ)) → IsOpenAsk story place id s.number request
      → IsPickFor Agrees s request pick → WantsBlock share request pick → IsPoolEmpty opening story id s.number
  no_block place (AllocateBlock volume bucket key session exclude) pick ask picked wants =
      let request = AllocateBlock volume bucket key session exclude in
      record {
        volume = volume;
        bucket = bucket;
        key = key;
        session = session;
        exclude = exclude;
        asked = ask.undecided;
        its_stripe = sym ask.of_stripe;
        no_code = λ block pipeline. (share_answers s.number (namespace_of opening story) share request (Granted block pipeline) ask.of_stripe share_is).1
            (answers_any request block pipeline refl wants.1);
        spent = (none_free_spent opening story s.number exclude (none_free exclude (subst (λ (p : Option (Block × ℕ)). IsPicked Agrees s exclude p) wants.2 picked)));
      }
  no_block place request pick ask picked wants = absurd cc

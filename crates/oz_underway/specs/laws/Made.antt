-- Containers that were made: their members stay, and each block that was named lies in one.
use Rattle.std.proofs.Common.{◌≡◌, ⊎_elim, inl, ℕ, List, [], ◌++◌, length, take, drop, Option, None, Some, IsSome, Contains, refl, sym, ap, ◌∙◌, subst}
use Rattle.std.proofs.lemmas.List.{take-append-drop}
use Rattle.std.proofs.lemmas.Option.{none-some, same_Some}
use Rattle.std.specs.FinMap.{get}
use Rattle.oz_fields.specs.declared.block.Block.{Block}
use Rattle.oz_requests.specs.declared.reply.Reply.{Reply}
use Rattle.oz_requests.specs.declared.reply.Reply.TheVariants as replies
use Rattle.oz_requests.specs.declared.request.AskId.{AskId}
use Rattle.oz_model.specs.Reach.{IsReached}
use Rattle.oz_core.specs.declared.event.Event.{Event}
use Rattle.oz_core.specs.declared.event.EventKind.{EventKind}
use Rattle.oz_core.specs.declared.event.EventKind.TheVariants.{Decide}
use Rattle.oz_core.specs.declared.opening.Container.{Container}
use Rattle.oz_core.specs.declared.opening.Opening.{Opening}
use Rattle.oz_core.specs.Coherent.{BlocksAreCoherent}
use Rattle.oz_core.specs.Contents.{OpeningBytes}
use Rattle.oz_core.specs.Law.{DecideIsEnabled, IsLegal, IsNamed}
use Rattle.oz_core.specs.Manager.{block_of_reply, granted_block, named_by, namespace_of}
use Rattle.oz_core.specs.Scm.{containers, members}
use Rattle.oz_core.specs.Stories.{all_told}
use Rattle.oz_kept.specs.laws.Deleted.{enabled_at, found_at, front_legal}
use Rattle.oz_kept.specs.laws.Reached.{in_none, in_one}
use Rattle.oz_kept.specs.reopened.laws.Named.{granted_on, reached_named, told_event}
use Rattle.oz_kept.specs.reopened.laws.Rising.{IsOn, members_on, stays_on}
use Rattle.oz_turn.specs.Told.{BeginsWith}
use Rattle.oz_underway.specs.laws.Replied.{replied_reached}

-- it is there, on its pipeline
on_some : (opening : Opening) (story : List Event) (number : ℕ) → IsSome (get (containers opening story) number) → (pipeline : ℕ)
    × IsOn (containers opening story) number pipeline
on_some opening story number some = by (get (containers opening story) number) refl some
  where
    by : (o : Option Container) → get (containers opening story) number ≡ o → IsSome o → (pipeline : ℕ) × IsOn (containers opening story) number pipeline
    by None is none = absurd cc
    by (Some container) is some = (container.pipeline, record { container = container; made = is; on = refl })

some_on : (opening : Opening) (story : List Event) (number pipeline : ℕ) → IsOn (containers opening story) number pipeline
    → IsSome (get (containers opening story) number)
some_on opening story number pipeline on = subst IsSome (sym on.made) refl

pub members_same : (opening : Opening) (seen story : List Event) (number : ℕ) → BeginsWith story seen → IsSome (get (containers opening seen) number)
    → members opening story number ≡ members opening seen number
members_same opening seen story number begins some =
    let on = on_some opening seen number some in
    ap (λ (l : List Event). members opening l number) begins.1
    ∙ (members_on opening (seen ++ begins.0) number on.0 (stays_on opening begins.0 seen number on.0 on.1)
    ∙ sym (members_on opening seen number on.0 on.1))

pub made_longer : (opening : Opening) (seen story : List Event) (number : ℕ) → BeginsWith story seen → IsSome (get (containers opening seen) number)
    → IsSome (get (containers opening story) number)
made_longer opening seen story number begins some =
    let on = on_some opening seen number some in
    subst (λ (l : List Event). IsSome (get (containers opening l) number)) (sym begins.1)
    (some_on opening (seen ++ begins.0) number on.0 (stays_on opening begins.0 seen number on.0 on.1))

pub three_members : (opening : Opening) (story : List Event) (number : ℕ) → IsSome (get (containers opening story) number)
    → length (members opening story number) ≡ 3
three_members opening story number some =
    let on = on_some opening story number some in
    ap length (members_on opening story number on.0 on.1)

module _ (opening : Opening) (bytes : OpeningBytes) (coherent : BlocksAreCoherent opening bytes) (story : List Event) (legal : IsLegal opening story)
    (block : Block) where
  granted_made : (id : AskId) (seat index pipeline : ℕ) (batch : List ℕ)
      → Contains story (record { seat = seat; kind = Decide id index (replies.Granted block pipeline) batch })
      → IsSome (get (containers opening story) block.container)
  granted_made id seat index pipeline batch there =
      some_on opening story block.container pipeline
      (granted_on opening story legal block (record {
        id = id;
        grant = record { seat = seat; index = index; pipeline = pipeline; batch = batch; there = there };
      }))

  told_made : Contains (all_told granted_block story) block → IsSome (get (containers opening story) block.container)
  told_made among =
      let it = told_event granted_block story block among in
      by it.event.seat it.event.kind it.there it.told
    where
      by_reply : (seat : ℕ) (id : AskId) (index : ℕ) (reply : Reply) (batch : List ℕ)
          → Contains story (record { seat = seat; kind = Decide id index reply batch })
          → block_of_reply reply ≡ Some block → IsSome (get (containers opening story) block.container)
      by_reply seat id index (replies.Granted given pipeline) batch there is =
          granted_made id seat index pipeline batch
          (subst (λ (b : Block). Contains story (record { seat = seat; kind = Decide id index (replies.Granted b pipeline) batch }))
          (same_Some given block is) there)
      by_reply seat id index reply batch there is = absurd (none-some block is)

      by : (seat : ℕ) (kind : EventKind) → Contains story (record { seat = seat; kind = kind }) → granted_block kind ≡ Some block
          → IsSome (get (containers opening story) block.container)
      by seat (Decide id index reply batch) there is = by_reply seat id index reply batch there is
      by seat kind there is = absurd (none-some block is)

  pub reached_made : IsReached (namespace_of opening story) block → IsSome (get (containers opening story) block.container)
  reached_made reached = ⊎_elim
      (λ old. made_longer opening [] story block.container (story, refl) (coherent.made block (inl old)))
      (λ granted. told_made granted)
      (reached_named opening story block legal reached)

module _ (opening : Opening) (bytes : OpeningBytes) (coherent : BlocksAreCoherent opening bytes) (story : List Event) (legal : IsLegal opening story)
    (block : Block) where
  decided_made : (there : ℕ) (id : AskId) (seat index : ℕ) (reply : Reply) (batch : List ℕ)
      → Contains story (record { seat = seat; kind = Decide id index reply batch })
      → DecideIsEnabled opening (take there story) seat id index reply batch → Contains (named_by reply) block
      → IsSome (get (containers opening story) block.container)
  decided_made there id seat index (replies.Granted given pipeline) batch among enabled named =
      granted_made opening bytes coherent story legal block id seat index pipeline batch
      (subst (λ (b : Block). Contains story (record { seat = seat; kind = Decide id index (replies.Granted b pipeline) batch }))
      (in_one given block named) among)
  decided_made there id seat index (replies.Pieces pieces) batch among enabled named =
      made_longer opening (take there story) story block.container (drop there story, sym (take-append-drop there story))
      (reached_made opening bytes coherent (take there story) (front_legal opening story legal there) block
      (replied_reached (namespace_of opening (take there story)) enabled.request pieces block enabled.one_thread named))
  decided_made there id seat index reply batch among enabled named = absurd (in_none block named)

  pub named_made : (id : AskId) → IsNamed story id block → IsSome (get (containers opening story) block.container)
  named_made id named =
      let event : Event = record { seat = named.seat; kind = Decide id named.index named.reply named.batch } in
      decided_made named.there.0 id named.seat named.index named.reply named.batch named.there
      (enabled_at opening story legal named.there.0 event (found_at story event named.there)) named.named

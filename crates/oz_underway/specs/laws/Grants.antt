-- A Decide that grants a block.
use Rattle.std.proofs.Common.{
  ◌≡◌,
  ℕ,
  zero,
  suc,
  ◌≤◌,
  ◌<◌,
  Bool,
  true,
  false,
  ◌||◌,
  cond,
  List,
  [],
  ◌∷◌,
  ◌++◌,
  length,
  take,
  drop,
  None,
  Some,
  Contains,
  refl,
  sym,
  ap,
  ◌∙◌,
  subst,
  append_assoc,
  arith,
}
use Rattle.std.proofs.lemmas.List.Elements.{Contains-push}
use Rattle.std.proofs.lemmas.Option.{none-some, same_Some}
use Rattle.std.specs.List.{slice_get}
use Rattle.oz_fields.specs.declared.block.Block.{Block}
use Rattle.oz_script.specs.declared.lines.script.Script.{Script}
use Rattle.oz_nodes.specs.Pipelines.{members_of, pipelines_of}
use Rattle.oz_requests.specs.declared.reply.Reply.TheVariants as replies
use Rattle.oz_requests.specs.declared.request.AskId.{AskId}
use Rattle.oz_requests.specs.declared.request.Request.{Request}
use Rattle.oz_rows.specs.Rows.{IsBlock}
use Rattle.oz_core.specs.declared.event.Event.{Event}
use Rattle.oz_core.specs.declared.event.EventKind.{EventKind}
use Rattle.oz_core.specs.declared.event.EventKind.TheVariants.{Ask, Decide, Grant}
use Rattle.oz_core.specs.declared.opening.Opening.{Opening}
use Rattle.oz_core.specs.Asks.{asks, is_asked, is_id, is_script, pending, pending_after}
use Rattle.oz_core.specs.Contents.{OpeningBytes, WasGranted}
use Rattle.oz_core.specs.Law.{DecideIsEnabled, GrantIsEnabled, IsLegal}
use Rattle.oz_core.specs.Manager.{IsUsed, namespace_of}
use Rattle.oz_core.specs.Scm.{members}
use Rattle.oz_asker.specs.laws.Asks.{legal_of_follow}
use Rattle.oz_buffer.specs.Buffer.{AllFollow, Follows}
use Rattle.oz_buffer.specs.laws.Courses.{asked-push, pending-push}
use Rattle.oz_store.specs.granted.Granted.{AreNumbered}
use Rattle.oz_store.specs.granted.laws.Numbers.{block_fits}
use Rattle.oz_kept.specs.laws.Deleted.{enabled_at, found_at, front_legal, split_at}
use Rattle.oz_kept.specs.laws.Granted.{IsGrantedTo, granted_to_script, of_grant, one_ask_id}
use Rattle.oz_kept.specs.laws.Reached.{granted_anew}
use Rattle.oz_kept.specs.reopened.laws.Named.{granted_on}
use Rattle.oz_kept.specs.reopened.laws.Rising.{members_on}
use Rattle.oz_underway.specs.laws.Contents.{granted_still}
use Rattle.oz_underway.specs.laws.Going.{follow_behind, follow_first, follow_front, kept_always}
use Rattle.oz_underway.specs.laws.Order.{fits_from}

-- ---- what is pending was asked last

-- behind these events, and not again
pub record IsLastAsked (story : List Event) (id : AskId) (request : Request) : Type 0 where
  pub before : List Event
  pub behind : List Event
  pub asker : ℕ
  pub parts : story ≡ before ++ record { seat = asker; kind = Ask id request } ∷ behind
  pub last : is_asked id behind ≡ false

module _ (id : AskId) (request : Request) where
  still_last : (front : List Event) (event : Event) → asks id event.kind ≡ false → IsLastAsked front id request → IsLastAsked (front ++ event ∷ []) id request
  still_last front event none was = record {
    before = was.before;
    behind = was.behind ++ event ∷ [];
    asker = was.asker;
    parts = ap (λ (l : List Event). l ++ event ∷ []) was.parts
        ∙ append_assoc was.before (record { seat = was.asker; kind = Ask id request } ∷ was.behind) (event ∷ []);
    last = asked-push id was.behind event ∙ (ap (λ (t : Bool). t || asks id event.kind) was.last ∙ none);
  }

  last_step : (front : List Event) (seat : ℕ) (kind : EventKind) → (pending id front ≡ Some request → IsLastAsked front id request)
      → pending_after id (pending id front) kind ≡ Some request → IsLastAsked (front ++ record { seat = seat; kind = kind } ∷ []) id request
  last_step front seat (Ask other made) was is = by (is_id id other) refl is
    where
      by : (t : Bool) → is_id id other ≡ t → cond t (Some made) (pending id front) ≡ Some request
          → IsLastAsked (front ++ record { seat = seat; kind = Ask other made } ∷ []) id request
      by true same is =
          let one = one_ask_id id other same in
          let its = same_Some made request is in
          record {
            before = front;
            behind = [];
            asker = seat;
            parts = ap (λ (i : AskId). front ++ record { seat = seat; kind = Ask i made } ∷ []) (sym one)
                ∙ ap (λ (r : Request). front ++ record { seat = seat; kind = Ask id r } ∷ []) its;
            last = refl;
          }
      by false away is = still_last front (record { seat = seat; kind = Ask other made }) away (was is)
  last_step front seat (Decide other index reply batch) was is = by (is_id id other) is
    where
      by : (t : Bool) → cond t None (pending id front) ≡ Some request
          → IsLastAsked (front ++ record { seat = seat; kind = Decide other index reply batch } ∷ []) id request
      by true is = absurd (none-some request is)
      by false is = still_last front (record { seat = seat; kind = Decide other index reply batch }) refl (was is)
  last_step front seat kind was is = still_last front (record { seat = seat; kind = kind }) refl (was is)

there_at : {A : Type 0} (l : List A) (k : ℕ) (x : A) → slice_get l k ≡ Some x → Contains l x
there_at [] k x is = absurd cc
there_at (y ∷ l) zero x is = let same : y ≡ x = cc in (0, omega arith, same)
there_at (y ∷ l) (suc k) x is = let rest = there_at l k x is in (suc rest.0, omega (arith, rest.1), rest.2)

module _ (Coherent : Type 0) (opening : Opening) (bytes : OpeningBytes) (script : Script) where
  abbrev Follow : List Event → Event → Type 0
  Follow = Follows Coherent opening bytes script

  pub last_asked : (id : AskId) (request : Request) (story : List Event) → AllFollow Follow [] story → pending id story ≡ Some request
      → IsLastAsked story id request
  last_asked id request story all =
      kept_always Follow (λ front. pending id front ≡ Some request → IsLastAsked front id request) story all
      (λ front event begins follow follows was is. last_step id request front event.seat event.kind was (sym (pending-push id front event) ∙ is))
      (λ is. absurd (none-some request is))

  -- ---- behind a front that it may follow

  module _ (front : List Event) (seat index pipeline : ℕ) (id : AskId) (block : Block) (batch : List ℕ)
      (enabled : DecideIsEnabled opening front seat id index (replies.Granted block pipeline) batch) where
    abbrev pub granted_now : (last : IsLastAsked front id enabled.request)
        → WasGranted (front ++ record { seat = seat; kind = Decide id index (replies.Granted block pipeline) batch } ∷ []) id block last.before
    granted_now last =
        let event : Event = record { seat = seat; kind = Decide id index (replies.Granted block pipeline) batch } in
        record {
          behind = last.behind ++ event ∷ [];
          asker = last.asker;
          request = enabled.request;
          asked = ap (λ (l : List Event). l ++ event ∷ []) last.parts
              ∙ append_assoc last.before (record { seat = last.asker; kind = Ask id enabled.request } ∷ last.behind) (event ∷ []);
          last = asked-push id last.behind event ∙ ap (λ (t : Bool). t || false) last.last;
          stripe = seat;
          index = index;
          pipeline = pipeline;
          batch = batch;
          decided = Contains-push last.behind event;
        }

    pub unused_before : IsUsed opening front block → ⊥
    unused_before used =
        granted_anew opening front (namespace_of opening front) enabled.request
        (replies.Granted block pipeline) block enabled.one_thread enabled.granted used (0, omega arith, refl)

  -- ---- anywhere in a story

  module _ (story : List Event) (coherent : Coherent) (all : AllFollow Follow [] story) (place seat index pipeline : ℕ) (id : AskId) (block : Block)
      (batch : List ℕ)
      (is : slice_get story place ≡ Some (record { seat = seat; kind = Decide id index (replies.Granted block pipeline) batch })) where
    legal : IsLegal opening story
    legal = legal_of_follow Coherent opening bytes script story coherent all

    grant : IsGrantedTo opening story legal block id
    grant = record {
      seat = seat;
      index = index;
      pipeline = pipeline;
      batch = batch;
      there = there_at story place (record { seat = seat; kind = Decide id index (replies.Granted block pipeline) batch }) is;
    }

    pub its_members : members opening story block.container ≡ members_of (length opening.nodes) pipeline
    unfolding grant
    its_members = members_on opening story block.container pipeline (granted_on opening story legal block (record { id = id; grant = grant }))

    pub its_pipeline : pipeline < pipelines_of (length opening.nodes)
    unfolding grant
    its_pipeline =
        let front = take grant.there.0 story in
        let of = of_grant opening story legal block id grant in
        let event : Event = record { seat = of.1.seat; kind = Grant of.0 block.container pipeline of.1.first of.1.count } in
        let enabled : GrantIsEnabled opening (take of.1.there.0 front) of.1.seat of.0 block.container pipeline of.1.first of.1.count =
        enabled_at opening front (front_legal opening story legal grant.there.0) of.1.there.0 event (found_at front event of.1.there) in
        enabled.there

    pub its_numbers : 1 ≤ opening.next_id → AreNumbered opening.containers opening.next_id → IsBlock block
    unfolding grant
    its_numbers some numbered =
        let of = of_grant opening story legal block id grant in
        block_fits opening numbered (take grant.there.0 story) (front_legal opening story legal grant.there.0) some of.0 block pipeline of.1

    pub its_script : is_script id ≡ true
    its_script = granted_to_script opening bytes script story legal (fits_from Coherent opening bytes script [] story coherent all) block id grant

    pub its_ask : (before : List Event) × WasGranted story id block before
    its_ask =
        let event : Event = record { seat = seat; kind = Decide id index (replies.Granted block pipeline) batch } in
        let front = take place story in
        let rest = drop (suc place) story in
        let parts : story ≡ front ++ event ∷ rest = split_at story place event is in
        let follow = subst (λ (l : List Event). AllFollow Follow [] l) parts all in
        let before = follow_front Follow [] front (event ∷ rest) follow in
        let here = follow_first Follow front event rest (follow_behind Follow [] front (event ∷ rest) follow) in
        let enabled : DecideIsEnabled opening front seat id index (replies.Granted block pipeline) batch = here.enabled coherent in
        let last = last_asked id enabled.request front before enabled.undecided in (
          last.before,
          granted_still Coherent opening bytes script story (front ++ event ∷ []) id block last.before its_script coherent all
              (rest, parts ∙ sym (append_assoc front (event ∷ []) rest))
              (granted_now front seat index pipeline id block batch enabled last),
        )

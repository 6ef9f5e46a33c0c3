-- What a block has stays so, and what was read of a key.
use Rattle.std.proofs.Common.{
  ◌≡◌,
  ◌≢◌,
  inl,
  inr,
  ℕ,
  Bool,
  true,
  false,
  ◌||◌,
  not,
  List,
  [],
  ◌∷◌,
  ◌++◌,
  length,
  take,
  Some,
  refl,
  sym,
  ap,
  ◌∙◌,
  subst,
  append_assoc,
}
use Rattle.std.proofs.Math.Bool.{or-true}
use Rattle.std.proofs.lemmas.Bool.{false≢true, ne_eqb}
use Rattle.std.proofs.lemmas.List.Elements.{Contains-append_left}
use Rattle.std.specs.List.{slice_get}
use Rattle.oz_fields.specs.declared.block.Block.{Block}
use Rattle.oz_fields.specs.declared.block.Piece.{Piece}
use Rattle.oz_script.specs.declared.lines.script.Script.{Script}
use Rattle.oz_script.specs.lines.Numbered.{IsNumbered}
use Rattle.oz_requests.specs.declared.request.AskId.{AskId}
use Rattle.oz_core.specs.declared.event.Event.{Event}
use Rattle.oz_core.specs.declared.event.EventKind.{EventKind}
use Rattle.oz_core.specs.declared.event.EventKind.TheVariants.{Ask}
use Rattle.oz_core.specs.declared.limits.TheConstants.{SERVICE_CLIENT}
use Rattle.oz_core.specs.declared.opening.Opening.{Opening}
use Rattle.oz_core.specs.Asks.{asks, is_asked, is_id, is_script}
use Rattle.oz_core.specs.Contents.{HasContent, OpeningBytes, WasGranted}
use Rattle.oz_core.specs.Due.{AreContents}
use Rattle.oz_core.specs.Law.{KindIsEnabled}
use Rattle.oz_asker.specs.laws.Asks.{same_id}
use Rattle.oz_buffer.specs.Buffer.{AllFollow, Follows}
use Rattle.oz_buffer.specs.laws.Courses.{asked-push}
use Rattle.oz_kept.specs.laws.Granted.{one_ask_id}
use Rattle.oz_turn.specs.Told.{BeginsWith}
use Rattle.oz_underway.specs.laws.Going.{happened_still, kept_on}
use Rattle.oz_underway.specs.laws.Starting.{not_service}

-- ---- what was granted stays so

-- an id of a script that was asked isn't asked again
not_again : (opening : Opening) (front : List Event) (seat : ℕ) (id : AskId) (kind : EventKind) → is_script id ≡ true → KindIsEnabled opening front seat kind
    → is_asked id front ≡ true → asks id kind ≡ false
not_again opening front seat id (Ask other request) of_script enabled asked = by (is_id id other) refl
  where
    by : (t : Bool) → is_id id other ≡ t → t ≡ false
    by false apart = refl
    by true same =
        let one = one_ask_id id other same in
        let unasked = enabled.unasked (subst (λ (i : AskId). is_script i ≡ true) one of_script) in
        absurd (false≢true (sym unasked ∙ subst (λ (i : AskId). is_asked i front ≡ true) one asked))
not_again opening front seat id kind of_script enabled asked = refl

was_asked : (front : List Event) (id : AskId) (block : Block) (before : List Event) → WasGranted front id block before → is_asked id front ≡ true
was_asked front id block before was =
    let ask : Event = record { seat = was.asker; kind = Ask id was.request } in
    let now : is_asked id (before ++ ask ∷ []) ≡ true = asked-push id before ask
    ∙ (ap (λ (t : Bool). is_asked id before || t) (same_id id) ∙ or-true (is_asked id before)) in
    happened_still (asks id) front (before ++ ask ∷ []) (was.behind, was.asked ∙ sym (append_assoc before (ask ∷ []) was.behind)) now

module _ (Coherent : Type 0) (opening : Opening) (bytes : OpeningBytes) (script : Script) where
  abbrev Follow : List Event → Event → Type 0
  Follow = Follows Coherent opening bytes script

  pub granted_still : (story seen : List Event) (id : AskId) (block : Block) (before : List Event) → is_script id ≡ true → Coherent → AllFollow Follow [] story
      → BeginsWith story seen → WasGranted seen id block before → WasGranted story id block before
  granted_still story seen id block before of_script coherent all begins was =
      kept_on Follow (λ front. WasGranted front id block before) story seen begins all
      (λ front event goes follow follows so.
      let ask : Event = record { seat = so.asker; kind = Ask id so.request } in
      record {
        behind = so.behind ++ event ∷ [];
        asker = so.asker;
        request = so.request;
        asked = ap (λ (l : List Event). l ++ event ∷ []) so.asked ∙ append_assoc before (ask ∷ so.behind) (event ∷ []);
        last = asked-push id so.behind event
            ∙ (ap (λ (t : Bool). t || asks id event.kind) so.last
            ∙ not_again opening front event.seat id event.kind of_script (follows.enabled coherent) (was_asked front id block before so));
        stripe = so.stripe;
        index = so.index;
        pipeline = so.pipeline;
        batch = so.batch;
        decided = Contains-append_left so.behind (event ∷ []) _ so.decided;
      })
      was

  pub content_still : (numbered : IsNumbered script) (story seen : List Event) (block : Block) (content : List ℕ) → Coherent → AllFollow Follow [] story
      → BeginsWith story seen → HasContent opening bytes script seen block content → HasContent opening bytes script story block content
  content_still numbered story seen block content coherent all begins (inl had) = inl had
  content_still numbered story seen block content coherent all begins (inr has) =
      let other : has.id.client ≢ SERVICE_CLIENT = λ service. not_service script numbered has.line has.its.there (has.its.of_client ∙ service) in
      let of_script : is_script has.id ≡ true = ap not (ne_eqb has.id.client SERVICE_CLIENT other) in
      inr (record {
        new = has.new;
        id = has.id;
        before = has.before;
        granted = granted_still story seen has.id block has.before of_script coherent all begins has.granted;
        line = has.line;
        its = has.its;
        are = has.are;
      })

-- ---- a piece more

pub contents_more : (opening : Opening) (bytes : OpeningBytes) (script : Script) (story : List Event) (pieces : List Piece) (read : List (List ℕ))
    (piece : Piece) (content : List ℕ)
    → slice_get pieces (length read) ≡ Some piece → AreContents opening bytes script story (take (length read) pieces) read
    → HasContent opening bytes script story piece.block content
    → AreContents opening bytes script story (take (length (read ++ content ∷ [])) pieces) (read ++ content ∷ [])
contents_more opening bytes script story [] read piece content next are has = absurd cc
contents_more opening bytes script story (first ∷ pieces) [] piece content next are has =
    let same : piece ≡ first = cc in
    (subst (λ (p : Piece). HasContent opening bytes script story p.block content) same has, tt)
contents_more opening bytes script story (first ∷ pieces) (one ∷ read) piece content next are has =
    (are.0, contents_more opening bytes script story pieces read piece content next are.1 has)

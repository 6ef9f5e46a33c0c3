-- The piece that a block was granted for.
use Rattle.std.proofs.Common.{
  ◌≡◌,
  inr,
  ℕ,
  zero,
  suc,
  ◌*◌,
  ◌≤◌,
  Bool,
  true,
  false,
  ◌||◌,
  ◌&&◌,
  cond,
  List,
  [],
  ◌∷◌,
  ◌++◌,
  length,
  take,
  drop,
  None,
  Some,
  Contains,
  refl,
  sym,
  ap,
  ◌∙◌,
  subst,
  arith,
}
use Rattle.std.proofs.lemmas.Bool.{false≢true, ne_eqb}
use Rattle.std.proofs.lemmas.List.{take-append-drop}
use Rattle.std.proofs.lemmas.List.Elements.{Contains-append_left, Contains-append_right}
use Rattle.std.proofs.lemmas.Option.{none-some, same_Some}
use Rattle.std.specs.List.{cons_option, filter_map, flat_map, list_any, slice_get}
use Rattle.std.specs.Option.{option_map_or}
use Rattle.oz_command.specs.declared.command.Command.{Command}
use Rattle.oz_command.specs.Payload.{piece}
use Rattle.oz_fields.specs.declared.block.Block.{Block}
use Rattle.oz_fields.specs.declared.block.Piece.{Piece}
use Rattle.oz_script.specs.declared.lines.script.Line.{Line}
use Rattle.oz_script.specs.declared.lines.script.Script.{Script}
use Rattle.oz_script.specs.lines.Numbered.{IsNumbered}
use Rattle.oz_nodes.specs.Pipelines.{members_of}
use Rattle.oz_requests.specs.declared.reply.Reply.TheVariants as replies
use Rattle.oz_requests.specs.declared.request.AskId.{AskId}
use Rattle.oz_core.specs.declared.event.Event.{Event}
use Rattle.oz_core.specs.declared.event.EventKind.{EventKind}
use Rattle.oz_core.specs.declared.event.EventKind.TheVariants.{Ask, Decide, Put}
use Rattle.oz_core.specs.declared.opening.NodeOpening.{NodeOpening}
use Rattle.oz_core.specs.declared.opening.Opening.{Opening}
use Rattle.oz_core.specs.Coherent.{IsCoherent}
use Rattle.oz_core.specs.Contents.{HasContent, OpeningBytes, WasGranted, WasThere, piece_number}
use Rattle.oz_core.specs.Asks.{is_own}
use Rattle.oz_core.specs.Fits.{EventFits}
use Rattle.oz_core.specs.Nodes.{has_piece, is_block, length_in, length_of, put_length}
use Rattle.oz_core.specs.Scm.{members}
use Rattle.oz_core.specs.Stories.{all_told, first_in}
use Rattle.oz_steps.specs.declared.came.Granted.{Granted}
use Rattle.oz_steps.specs.Grants.{written_blocks}
use Rattle.oz_client.specs.declared.progress.Progress.{Progress}
use Rattle.oz_client.specs.Onward.{IsWriting}
use Rattle.oz_client.specs.Stories.{IsAt}
use Rattle.oz_asker.specs.laws.Asks.{legal_of_follow}
use Rattle.oz_buffer.specs.Buffer.{AllFollow, Follows}
use Rattle.oz_kept.specs.laws.Contents.{its_grant, one_block, one_content}
use Rattle.oz_kept.specs.laws.Deleted.{found_at}
use Rattle.oz_kept.specs.laws.Granted.{fits_at, was_nowhere}
use Rattle.oz_kept.specs.laws.Lines.{lines_apart}
use Rattle.oz_kept.specs.reopened.laws.Named.{told_event}
use Rattle.oz_turn.specs.Told.{BeginsWith}
use Rattle.oz_underway.specs.UnderWay.{IsPieceFor, IsToBeWritten, IsUnderWay, IsUnwritten, ask_of}
use Rattle.oz_underway.specs.laws.Asks.{scripted}
use Rattle.oz_underway.specs.laws.Contents.{content_still, granted_still}
use Rattle.oz_underway.specs.laws.Going.{begins_itself, begins_through, follow_before}
use Rattle.oz_underway.specs.laws.Grants.{its_members}
use Rattle.oz_underway.specs.laws.Order.{fits_from}

-- ---- a block that no disk had has no length there

pub none_in : (block : Block) (held : List Piece) → list_any (λ (piece : Piece). is_block block piece.block) held ≡ false
    → filter_map (λ (piece : Piece). cond (is_block block piece.block) (Some piece.length) None) held ≡ []
none_in block [] none = refl
none_in block (first ∷ held) none = by (is_block block first.block) refl (λ rest. none_in block held rest) none
  where
    by : (t : Bool) → is_block block first.block ≡ t
        → (list_any (λ (piece : Piece). is_block block piece.block) held ≡ false
        → filter_map (λ (piece : Piece). cond (is_block block piece.block) (Some piece.length) None) held ≡ [])
        → (t || list_any (λ (piece : Piece). is_block block piece.block) held) ≡ false
        → filter_map (λ (piece : Piece). cond (is_block block piece.block) (Some piece.length) None) (first ∷ held) ≡ []
    by true is later none = absurd (false≢true (sym none))
    by false away later none =
        ap (λ (t : Bool). cons_option (cond t (Some first.length) None)
        (filter_map (λ (piece : Piece). cond (is_block block piece.block) (Some piece.length) None) held)) away
        ∙ later none

none_had : (block : Block) (nodes : List NodeOpening) → ((dn : ℕ) → option_map_or (has_piece block) (slice_get nodes dn) false ≡ true → ⊥)
    → flat_map (length_in block) nodes ≡ []
none_had block [] none = refl
none_had block (node ∷ nodes) none =
    ap (λ (l : List ℕ). l ++ flat_map (length_in block) nodes) (none_in block node.held (by (has_piece block node) refl))
    ∙ none_had block nodes (λ dn is. none (suc dn) is)
  where
    by : (t : Bool) → has_piece block node ≡ t → t ≡ false
    by false is = refl
    by true is = absurd (none zero is)

pub is_first : {X : Type 0} (l : List X) (x : X) → first_in l ≡ Some x → Contains l x
is_first [] x is = absurd (none-some x is)
is_first (y ∷ l) x is = (0, omega arith, same_Some y x is)

-- the Decide that granted it stands in the story
pub granting : (story : List Event) (id : AskId) (block : Block) (before : List Event) (was : WasGranted story id block before)
    → Contains story (record { seat = was.stripe; kind = Decide id was.index (replies.Granted block was.pipeline) was.batch })
granting story id block before was =
    let ask : Event = record { seat = was.asker; kind = Ask id was.request } in
    let event : Event = record { seat = was.stripe; kind = Decide id was.index (replies.Granted block was.pipeline) was.batch } in
    subst (λ (l : List Event). Contains l event) (sym was.asked)
    (Contains-append_right before (ask ∷ was.behind) event (Contains-append_right (ask ∷ []) was.behind event was.decided))

module _ (Coherent : Type 0) (opening : Opening) (bytes : OpeningBytes) (script : Script) where
  abbrev Follow : List Event → Event → Type 0
  Follow = Follows Coherent opening bytes script

  -- who put a block put as many bytes as it has
  put_whole : (story : List Event) (block : Block) (content : List ℕ) → Coherent → IsCoherent opening bytes → IsNumbered script → AllFollow Follow [] story
      → HasContent opening bytes script story block content → (place : ℕ) (kind : EventKind) → EventFits opening bytes script (take place story) kind
      → (count : ℕ) → put_length block kind ≡ Some count → count ≡ length content
  put_whole story block content coherent whole numbered all has place (Put dn put id first size) fits count is = by (is_block block put) refl is
    where
      by : (t : Bool) → is_block block put ≡ t → cond t (Some size) None ≡ Some count → count ≡ length content
      by false away is = absurd (none-some count is)
      by true same is =
          let here = subst (λ (b : Block). HasContent opening bytes script (take place story) b fits.content) (sym (one_block block put same)) fits.its in
          let still = content_still Coherent opening bytes script numbered story (take place story) block fits.content coherent all
          (drop place story, sym (take-append-drop place story)) here in
          sym (same_Some size count is)
          ∙ (fits.whole ∙ ap length
          (one_content opening bytes script whole (lines_apart script numbered) story
          (legal_of_follow Coherent opening bytes script story coherent all) block fits.content content still has))
  put_whole story block content coherent whole numbered all has place kind fits count is = absurd (none-some count is)

  pub put_alike : (story : List Event) (block : Block) (content : List ℕ) → Coherent → IsCoherent opening bytes → IsNumbered script → AllFollow Follow [] story
      → (WasThere opening block → ⊥) → HasContent opening bytes script story block content
      → (count : ℕ) → length_of opening story block ≡ Some count → count ≡ length content
  put_alike story block content coherent whole numbered all new has count is =
      let none = none_had block opening.nodes (λ dn held. new (dn, held)) in
      let told : first_in (all_told (put_length block) story) ≡ Some count =
      sym (ap (λ (l : List ℕ). first_in (l ++ all_told (put_length block) story)) none) ∙ is in
      let it = told_event (put_length block) story count (is_first (all_told (put_length block) story) count told) in
      let fits = fits_at opening bytes script story (fits_from Coherent opening bytes script [] story coherent all) it.there.0 it.event
      (found_at story it.event it.there) in
      put_whole story block content coherent whole numbered all has it.there.0 it.event.kind fits count it.told

  module _ (seen : List Event) (line : Line) (asked said : ℕ) (command : Command) (progress : Progress) (granted : Granted) (coherent : Coherent)
      (way : IsUnderWay Coherent opening bytes script seen line asked said command progress) (writing : progress.came.writing ≡ Some granted)
      (story : List Event) (begins : BeginsWith story seen) (all : AllFollow Follow [] story) where
    pub new : IsToBeWritten way.since line asked granted
    new = subst (IsUnwritten way.since line asked) writing way.unwritten

    pub story_since : BeginsWith story way.since
    story_since = begins_through story seen way.since begins way.goes_on

    pub all_since : AllFollow Follow [] way.since
    all_since = follow_before Follow story way.since story_since all

    pub at_since : IsAt opening bytes script way.since line command progress
    at_since = way.has way.since (begins_itself way.since) all_since way.asked_so way.said_so

    pub granted_story : WasGranted story (ask_of line asked) granted.block new.before
    granted_story =
        granted_still Coherent opening bytes script story way.since (ask_of line asked) granted.block new.before
        (scripted line.client line.number asked way.of_client) coherent all story_since new.its

    -- it was asked with a step
    its_step : 1 ≤ asked
    its_step =
        let ask : Event = record { seat = granted_story.asker; kind = Ask (ask_of line asked) granted_story.request } in
        let there : Contains story ask = subst (λ (l : List Event). Contains l ask) (sym granted_story.asked)
        (Contains-append_right new.before (ask ∷ granted_story.behind) ask (0, omega arith, refl)) in
        let fits : EventFits opening bytes script (take there.0 story) (Ask (ask_of line asked) granted_story.request) =
        fits_at opening bytes script story (fits_from Coherent opening bytes script [] story coherent all) there.0 ask (found_at story ask there) in
        omega (arith, (fits.0 (scripted line.client line.number asked way.of_client)).in_turn)

    not_own : is_own (ask_of line asked) ≡ false
    not_own =
        let of_script = scripted line.client line.number asked way.of_client in
        let stepped = ne_eqb asked 0 (λ none. omega (arith, none, its_step)) in
        λ i. of_script i && stepped i

    turn : piece_number (ask_of line asked) new.before ≡ length (written_blocks progress.came.attempts)
    turn = sym new.in_turn ∙ ap length at_since.of_line.written

    pub members_story : progress.nodes ≡ length opening.nodes → members opening story granted.block.container ≡ members_of progress.nodes granted.pipeline
    members_story same =
        let event : Event = record {
          seat = new.its.stripe;
          kind = Decide (ask_of line asked) new.its.index (replies.Granted granted.block new.its.pipeline) new.its.batch;
        } in
        let there : Contains story event = subst (λ (l : List Event). Contains l event) (sym story_since.1)
        (Contains-append_left way.since story_since.0 event (granting way.since (ask_of line asked) granted.block new.before new.its)) in
        its_members Coherent opening bytes script story coherent all there.0 new.its.stripe new.its.index new.its.pipeline
        (ask_of line asked) granted.block new.its.batch (found_at story event there)
        ∙ (ap (members_of (length opening.nodes)) new.on ∙ ap (λ (n : ℕ). members_of n granted.pipeline) (sym same))

    module _ (whole : IsCoherent opening bytes) (numbered : IsNumbered script) where
      nowhere : WasThere opening granted.block → ⊥
      nowhere =
          let legal = legal_of_follow Coherent opening bytes script story coherent all in
          was_nowhere opening story legal granted.block (ask_of line asked)
          (its_grant opening story legal (ask_of line asked) granted.block new.before granted_story) whole.fresh

      content : HasContent opening bytes script story granted.block (piece (length (written_blocks progress.came.attempts)) command)
      content = inr (record {
        new = nowhere;
        id = ask_of line asked;
        before = new.before;
        granted = granted_story;
        line = line;
        its = record { there = way.there; of_client = refl; of_number = refl };
        are = ap (λ (n : ℕ). piece n command) (sym turn) ∙ ap (piece (piece_number (ask_of line asked) new.before)) (sym at_since.of_line.does);
      })

      pub its_piece : (block : Block) (members : List ℕ) (first count : ℕ) → IsWriting command progress block members first count
          → IsPieceFor opening bytes script story (ask_of line asked) block first (piece (length (written_blocks progress.came.attempts)) command)
      its_piece block members first count to_write =
          let same : granted ≡ to_write.granted = same_Some granted to_write.granted (sym writing ∙ to_write.its) in
          let block_is : granted.block ≡ block = ap (λ (g : Granted). g.block) same ∙ sym to_write.block_is in
          subst (λ (b : Block). IsPieceFor opening bytes script story (ask_of line asked) b first
          (piece (length (written_blocks progress.came.attempts)) command)) block_is
          (record {
            asked = not_own;
            named = record {
              seat = granted_story.stripe;
              index = granted_story.index;
              reply = replies.Granted granted.block granted_story.pipeline;
              batch = granted_story.batch;
              there = granting story (ask_of line asked) granted.block new.before granted_story;
              named = (0, omega arith, refl);
            };
            before = new.before;
            granted = granted_story;
            place = to_write.place ∙ ap (λ (n : ℕ). 65536 * n) (sym turn);
            has = content;
            alike = put_alike story granted.block (piece (length (written_blocks progress.came.attempts)) command) coherent whole numbered all nowhere content;
          })

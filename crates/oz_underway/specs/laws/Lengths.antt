-- A piece that is read is as long as its block.
use Rattle.std.proofs.Common.{
  ◌≡◌,
  ⊎_elim,
  inl,
  inr,
  ℕ,
  suc,
  Bool,
  true,
  false,
  cond,
  List,
  [],
  ◌∷◌,
  ◌++◌,
  length,
  take,
  drop,
  Option,
  None,
  Some,
  IsSome,
  Contains,
  refl,
  sym,
  ap,
  ◌∙◌,
  subst,
  arith,
}
use Rattle.std.proofs.lemmas.List.{take-append-drop}
use Rattle.std.proofs.lemmas.List.Elements.{Contains-append_cases, Contains-append_left, Contains-append_right}
use Rattle.std.proofs.lemmas.Option.{none-some, same_Some}
use Rattle.std.specs.List.{flat_map, slice_get}
use Rattle.std.specs.Option.{option_map_or}
use Rattle.oz_command.specs.declared.command.Command.{Command}
use Rattle.oz_command.specs.Payload.{piece}
use Rattle.oz_fields.specs.declared.block.Block.{Block}
use Rattle.oz_fields.specs.declared.block.Piece.{Piece}
use Rattle.oz_script.specs.declared.lines.script.Line.{Line}
use Rattle.oz_script.specs.declared.lines.script.Script.{Script}
use Rattle.oz_script.specs.lines.Numbered.{IsNumbered}
use Rattle.oz_namespace.specs.declared.namespace.Namespace.{Namespace}
use Rattle.oz_requests.specs.declared.reply.Reply.{Reply}
use Rattle.oz_requests.specs.declared.reply.Reply.TheVariants as replies
use Rattle.oz_requests.specs.declared.request.AskId.{AskId}
use Rattle.oz_model.specs.Gathered.{in_namespace}
use Rattle.oz_model.specs.Reach.{IsReached}
use Rattle.oz_model.specs.laws.Reached.{met, reached}
use Rattle.oz_core.specs.declared.event.Event.{Event}
use Rattle.oz_core.specs.declared.event.EventKind.{EventKind}
use Rattle.oz_core.specs.declared.event.EventKind.TheVariants.{Ask, Decide, Put}
use Rattle.oz_core.specs.declared.opening.NodeOpening.{NodeOpening}
use Rattle.oz_core.specs.declared.opening.Opening.{Opening}
use Rattle.oz_core.specs.Coherent.{IsCoherent}
use Rattle.oz_core.specs.Contents.{HasContent, IsLineOf, OpeningBytes, WasGranted, WasThere, piece_number}
use Rattle.oz_core.specs.Fits.{EventFits, FitsFrom}
use Rattle.oz_core.specs.Law.{IsLegal}
use Rattle.oz_core.specs.Manager.{block_of_reply, granted_block, kept_block, kept_up_to, last_index, namespace_from, namespace_of}
use Rattle.oz_core.specs.Nodes.{has_piece, is_block, length_in, length_of, put_length, was_held}
use Rattle.oz_core.specs.Pieces.{IsPieceIn}
use Rattle.oz_core.specs.Stories.{all_told, first_in}
use Rattle.oz_client.specs.declared.progress.Progress.{Progress}
use Rattle.oz_client.specs.Onward.{IsReading}
use Rattle.oz_asker.specs.laws.Asks.{legal_of_follow}
use Rattle.oz_buffer.specs.Buffer.{AllFollow, Follows}
use Rattle.oz_kept.specs.Held.{LinesAreApart}
use Rattle.oz_kept.specs.laws.Contents.{its_grant, one_block, one_content}
use Rattle.oz_kept.specs.laws.Deleted.{found_at}
use Rattle.oz_kept.specs.laws.Granted.{fits_at, no_lower, was_nowhere}
use Rattle.oz_kept.specs.laws.Kept.{all_count}
use Rattle.oz_kept.specs.laws.Lines.{lines_apart}
use Rattle.oz_kept.specs.laws.Reached.{in_none}
use Rattle.oz_kept.specs.reopened.Left.{IsLeftByManager, IsOfManager}
use Rattle.oz_kept.specs.reopened.laws.Named.{reached_named, told_event}
use Rattle.oz_kept.specs.reopened.laws.Whole.{left_whole}
use Rattle.oz_turn.specs.Told.{BeginsWith}
use Rattle.oz_underway.specs.Lengths.{LengthsAreOfBytes}
use Rattle.oz_underway.specs.UnderWay.{IsUnderWay, ask_of}
use Rattle.oz_underway.specs.laws.Contents.{content_still}
use Rattle.oz_underway.specs.laws.Going.{follow_before}
use Rattle.oz_underway.specs.laws.Grants.{its_ask, its_script}
use Rattle.oz_underway.specs.laws.Order.{fits_from}
use Rattle.oz_underway.specs.laws.Piece.{is_first, none_in}
use Rattle.oz_underway.specs.laws.Reading.{IsReadFor, its_reply}
use Rattle.oz_underway.specs.laws.Replied.{piece_reached, replied_in}

-- ---- a key's pieces are as long as their contents, where the key is

module _ (opening : Opening) (bytes : OpeningBytes) (script : Script) (story : List Event) (coherent : IsCoherent opening bytes) (apart : LinesAreApart script)
    (legal : IsLegal opening story) (fits : FitsFrom opening bytes script [] story) where
  -- what a stop would leave of the manager here, with every block that it ever had
  abbrev all_blocks : List Block
  all_blocks = in_namespace opening.namespace ++ (opening.left ++ all_told (kept_block (last_index opening story)) story)

  abbrev left_here : Opening
  left_here = record opening {
    namespace = kept_up_to opening (last_index opening story) story;
    last_index = last_index opening story;
    left = in_namespace opening.namespace ++ (opening.left ++ all_told (kept_block (last_index opening story)) story);
  }

  of_all : (block : Block) → Contains all_blocks block → IsOfManager opening (last_index opening story) story block
  of_all block among = ⊎_elim
      (λ it. inl (reached block opening.namespace it))
      (λ rest. ⊎_elim
      (λ it. inr (inl it))
      (λ it. inr (inr it))
      (Contains-append_cases opening.left (all_told (kept_block (last_index opening story)) story) block rest))
      (Contains-append_cases (in_namespace opening.namespace) (opening.left ++ all_told (kept_block (last_index opening story)) story) block among)

  in_all : (block : Block) → IsOfManager opening (last_index opening story) story block → Contains all_blocks block
  in_all block (inl it) =
      Contains-append_left (in_namespace opening.namespace) (opening.left ++ all_told (kept_block (last_index opening story)) story) block
      (met block opening.namespace it)
  in_all block (inr (inl it)) =
      Contains-append_right (in_namespace opening.namespace) (opening.left ++ all_told (kept_block (last_index opening story)) story) block
      (Contains-append_left opening.left (all_told (kept_block (last_index opening story)) story) block it)
  in_all block (inr (inr it)) =
      Contains-append_right (in_namespace opening.namespace) (opening.left ++ all_told (kept_block (last_index opening story)) story) block
      (Contains-append_right opening.left (all_told (kept_block (last_index opening story)) story) block it)

  by_manager : IsLeftByManager opening story (last_index opening story) left_here
  by_manager = record {
    namespace = refl;
    last_index = refl;
    deleted = λ block among. of_all block among;
    kept = λ block of. inr (inl (in_all block of));
  }

  pub key_whole : (it : Piece) (content : List ℕ) → IsPieceIn (namespace_of opening story) it → HasContent opening bytes script story it.block content
      → length content ≡ it.length
  unfolding namespace_from
  key_whole it content has its =
      let count = all_count opening (last_index opening story) story [] legal (omega arith) in
      left_whole opening bytes script story (last_index opening story) left_here coherent apart legal fits by_manager it content
      (subst (λ (n : Namespace). IsPieceIn n it) (sym count.namespace) has) its

-- ---- and later

held_there : (block : Block) (nodes : List NodeOpening) (count : ℕ) → Contains (flat_map (length_in block) nodes) count
    → (dn : ℕ) × (option_map_or (has_piece block) (slice_get nodes dn) false ≡ true)
held_there block [] count among = absurd (in_none count among)
held_there block (node ∷ nodes) count among = ⊎_elim
    (λ here. by (has_piece block node) refl here)
    (λ later. let rest = held_there block nodes count later in (suc rest.0, rest.1))
    (Contains-append_cases (length_in block node) (flat_map (length_in block) nodes) count among)
  where
    by : (t : Bool) → has_piece block node ≡ t → Contains (length_in block node) count → (dn : ℕ)
        × (option_map_or (has_piece block) (slice_get (node ∷ nodes) dn) false ≡ true)
    by true is here = (0, is)
    by false none here = absurd (in_none count (subst (λ (l : List ℕ). Contains l count) (none_in block node.held none) here))

some_bytes : (o : Option (List ℕ)) → IsSome o → (content : List ℕ) × (o ≡ Some content)
some_bytes None some = absurd cc
some_bytes (Some content) some = (content, refl)

module _ (Coherent : Type 0) (opening : Opening) (bytes : OpeningBytes) (script : Script) (coherent : Coherent) (whole : IsCoherent opening bytes)
    (numbered : IsNumbered script)
    (story front : List Event) (begins : BeginsWith story front) (all : AllFollow (Follows Coherent opening bytes script) [] story)
    (it : Piece) (has : IsPieceIn (namespace_of opening front) it) where
  abbrev Follow : List Event → Event → Type 0
  Follow = Follows Coherent opening bytes script

  all_front : AllFollow (Follows Coherent opening bytes script) [] front
  all_front = follow_before (Follows Coherent opening bytes script) story front begins all

  legal_front : IsLegal opening front
  legal_front = legal_of_follow Coherent opening bytes script front coherent all_front

  legal : IsLegal opening story
  legal = legal_of_follow Coherent opening bytes script story coherent all

  whole_front : (content : List ℕ) → HasContent opening bytes script front it.block content → length content ≡ it.length
  whole_front content its =
      key_whole opening bytes script front whole (lines_apart script numbered) legal_front
      (fits_from Coherent opening bytes script [] front coherent all_front) it content has its

  -- what was granted is for a line
  granted_content : (place seat : ℕ) (id : AskId) (index pipeline : ℕ) (batch : List ℕ)
      → slice_get front place ≡ Some (record { seat = seat; kind = Decide id index (replies.Granted it.block pipeline) batch })
      → (content : List ℕ) × HasContent opening bytes script front it.block content
  granted_content place seat id index pipeline batch is =
      let asked = its_ask Coherent opening bytes script front coherent all_front place seat index pipeline id it.block batch is in
      let of_script = its_script Coherent opening bytes script front coherent all_front place seat index pipeline id it.block batch is in
      let ask : Event = record { seat = asked.1.asker; kind = Ask id asked.1.request } in
      let there : Contains front ask =
      subst (λ (l : List Event). Contains l ask) (sym asked.1.asked)
      (Contains-append_right asked.0 (ask ∷ asked.1.behind) ask (0, omega arith, refl)) in
      let fits : EventFits opening bytes script (take there.0 front) (Ask id asked.1.request) =
      fits_at opening bytes script front (fits_from Coherent opening bytes script [] front coherent all_front) there.0 ask (found_at front ask there) in
      for_line id asked.0 asked.1 (fits.0 of_script).line (fits.0 of_script).its
    where
      for_line : (id : AskId) (before : List Event) → WasGranted front id it.block before → (line : Line) → IsLineOf script id.client id.line line
          → (content : List ℕ) × HasContent opening bytes script front it.block content
      for_line id before granted line its = (
        piece (piece_number id before) line.command,
        inr (record {
          new = was_nowhere opening front legal_front it.block id (its_grant opening front legal_front id it.block before granted) whole.fresh;
          id = id;
          before = before;
          granted = granted;
          line = line;
          its = its;
          are = refl;
        }),
      )

  told_content : Contains (all_told granted_block front) it.block → (content : List ℕ) × HasContent opening bytes script front it.block content
  told_content among =
      let told = told_event granted_block front it.block among in
      by told.there.0 told.event.seat told.event.kind (found_at front told.event told.there) told.told
    where
      by_reply : (place seat : ℕ) (id : AskId) (index : ℕ) (reply : Reply) (batch : List ℕ)
          → slice_get front place ≡ Some (record { seat = seat; kind = Decide id index reply batch })
          → block_of_reply reply ≡ Some it.block → (content : List ℕ) × HasContent opening bytes script front it.block content
      by_reply place seat id index (replies.Granted given pipeline) batch is tells =
          granted_content place seat id index pipeline batch
          (is ∙ ap (λ (b : Block). Some (record { seat = seat; kind = Decide id index (replies.Granted b pipeline) batch })) (same_Some given it.block tells))
      by_reply place seat id index reply batch is tells = absurd (none-some it.block tells)

      by : (place seat : ℕ) (kind : EventKind) → slice_get front place ≡ Some (record { seat = seat; kind = kind }) → granted_block kind ≡ Some it.block
          → (content : List ℕ) × HasContent opening bytes script front it.block content
      by place seat (Decide id index reply batch) is tells = by_reply place seat id index reply batch is tells
      by place seat kind is tells = absurd (none-some it.block tells)

  -- the content that its block has is as long
  pub content_whole : (content : List ℕ) → HasContent opening bytes script story it.block content → length content ≡ it.length
  content_whole content its = ⊎_elim
      (λ old. by_old old content its)
      (λ granted.
      let made = told_content granted in
      let still = content_still Coherent opening bytes script numbered story front it.block made.0 coherent all begins made.1 in
      ap length (one_content opening bytes script whole (lines_apart script numbered) story legal it.block content made.0 its still)
      ∙ whole_front made.0 made.1)
      (reached_named opening front it.block legal_front (piece_reached (namespace_of opening front) it has))
    where
      by_old : IsReached opening.namespace it.block → (content : List ℕ) → HasContent opening bytes script story it.block content → length content ≡ it.length
      by_old old content (inl had) = whole_front content (inl had)
      by_old old content (inr of) =
          let granted = no_lower opening story legal it.block of.id (its_grant opening story legal of.id it.block of.before of.granted) in
          absurd (omega (arith, granted, whole.fresh it.block (inl old)))

  put_whole : (place : ℕ) (kind : EventKind) → EventFits opening bytes script (take place story) kind → (count : ℕ) → put_length it.block kind ≡ Some count
      → count ≡ it.length
  put_whole place (Put dn put id first size) fits count is = by (is_block it.block put) refl is
    where
      by : (t : Bool) → is_block it.block put ≡ t → cond t (Some size) None ≡ Some count → count ≡ it.length
      by false away is = absurd (none-some count is)
      by true same is =
          let here = subst (λ (b : Block). HasContent opening bytes script (take place story) b fits.content) (sym (one_block it.block put same)) fits.its in
          let still = content_still Coherent opening bytes script numbered story (take place story) it.block fits.content coherent all
          (drop place story, sym (take-append-drop place story)) here in
          sym (same_Some size count is) ∙ (fits.whole ∙ content_whole fits.content still)
  put_whole place kind fits count is = absurd (none-some count is)

  -- so is the block, where what disks had of it is as long as they say
  pub block_whole : ((dn count : ℕ) (content : List ℕ) → was_held opening dn it.block ≡ true → bytes dn it.block ≡ Some content
      → length_of opening [] it.block ≡ Some count → count ≡ length content)
      → (count : ℕ) → length_of opening story it.block ≡ Some count → count ≡ it.length
  block_whole had count is = by (flat_map (length_in it.block) opening.nodes) refl is
    where
      by : (l : List ℕ) → flat_map (length_in it.block) opening.nodes ≡ l → first_in (l ++ all_told (put_length it.block) story) ≡ Some count
          → count ≡ it.length
      by [] none told =
          let put = told_event (put_length it.block) story count (is_first (all_told (put_length it.block) story) count told) in
          put_whole put.there.0 put.event.kind
          (fits_at opening bytes script story (fits_from Coherent opening bytes script [] story coherent all) put.there.0 put.event
          (found_at story put.event put.there)) count put.told
      by (first ∷ rest) some told =
          let dn = held_there it.block opening.nodes first (subst (λ (l : List ℕ). Contains l first) (sym some) (0, omega arith, refl)) in
          let content = some_bytes (bytes dn.0 it.block) (whole.blocks.digests_match it.block dn.0 dn.1) in
          had dn.0 count content.0 dn.1 content.1 (ap (λ (l : List ℕ). first_in (l ++ [])) some ∙ told)
          ∙ content_whole content.0 (inl (record { dn = dn.0; held = dn.1; are = content.1 }))

-- ---- of a line that reads it

module _ (Coherent : Type 0) (opening : Opening) (bytes : OpeningBytes) (script : Script) (seen : List Event) (line : Line) (asked said : ℕ)
    (command : Command) (progress : Progress) (it : Piece)
    (coherent : Coherent) (whole : IsCoherent opening bytes) (numbered : IsNumbered script)
    (way : IsUnderWay Coherent opening bytes script seen line asked said command progress) (reading : IsReading command progress it)
    (story : List Event) (begins : BeginsWith story seen) (all : AllFollow (Follows Coherent opening bytes script) [] story) where
  its : IsReadFor opening story (ask_of line asked) (length progress.read) it
  its = its_reply Coherent opening bytes script seen line asked said command progress it coherent way reading story begins all

  its_front : BeginsWith story its.decided.front
  its_front = (_, its.decided.parts)

  its_key : IsPieceIn (namespace_of opening its.decided.front) it
  its_key = replied_in it (namespace_of opening its.decided.front) its.decided.enabled.request its.pieces its.decided.enabled.one_thread its.among

  pub read_content : (content : List ℕ) → HasContent opening bytes script story it.block content → length content ≡ it.length
  read_content = content_whole Coherent opening bytes script coherent whole numbered story its.decided.front its_front all it its_key

  pub read_new : (WasThere opening it.block → ⊥) → (count : ℕ) → length_of opening story it.block ≡ Some count → count ≡ it.length
  read_new new =
      block_whole Coherent opening bytes script coherent whole numbered story its.decided.front its_front all it its_key
      (λ dn count content held. absurd (new (dn, held)))

  pub read_length : LengthsAreOfBytes opening bytes → (count : ℕ) → length_of opening story it.block ≡ Some count → count ≡ it.length
  read_length had =
      block_whole Coherent opening bytes script coherent whole numbered story its.decided.front its_front all it its_key
      (λ dn count content. had it.block dn count content)

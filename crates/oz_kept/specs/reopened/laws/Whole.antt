-- Each piece that a key or a snapshot has is as long as its block's content.
use Rattle.std.proofs.Common.{
  ◌≡◌,
  ⊎_elim,
  ◌⊎◌,
  ℕ,
  zero,
  suc,
  ◌+◌,
  ◌==◌,
  Bool,
  true,
  false,
  List,
  [],
  ◌∷◌,
  length,
  take,
  drop,
  Option,
  None,
  Some,
  Contains,
  inl,
  inr,
  refl,
  sym,
  ◌∙◌,
  ap,
  subst,
  arith,
}
use Rattle.std.proofs.lemmas.Bool.{eqb-true, and_parts}
use Rattle.std.proofs.lemmas.List.{take-append-drop}
use Rattle.std.specs.List.{slice_get}
use Rattle.oz_command.specs.Payload.{piece}
use Rattle.oz_fields.specs.declared.block.Piece.{Piece}
use Rattle.oz_script.specs.declared.lines.script.Line.{Line}
use Rattle.oz_script.specs.declared.lines.script.Script.{Script}
use Rattle.oz_namespace.specs.declared.namespace.Namespace.{Namespace}
use Rattle.oz_requests.specs.declared.request.AskId.{AskId}
use Rattle.oz_requests.specs.declared.request.Family.TheVariants.{Keys, Service}
use Rattle.oz_requests.specs.declared.request.Request.{Request}
use Rattle.oz_requests.specs.declared.request.Request.TheVariants as requests
use Rattle.oz_requests.specs.Families.{family_of}
use Rattle.oz_model.specs.Answers.{after}
use Rattle.oz_model.specs.Reach.{IsReached, blocks_of}
use Rattle.oz_core.specs.declared.event.Event.{Event}
use Rattle.oz_core.specs.declared.event.EventKind.{EventKind}
use Rattle.oz_core.specs.declared.event.EventKind.TheVariants.{Ask, Decide}
use Rattle.oz_core.specs.declared.opening.Opening.{Opening}
use Rattle.oz_core.specs.Asks.{is_script, pending}
use Rattle.oz_core.specs.Coherent.{IsCoherent}
use Rattle.oz_core.specs.Contents.{OpeningBytes, HasContent, WasGranted, IsLineOf, written_for, wrote, piece_number}
use Rattle.oz_core.specs.Fits.{EventFits, FitsFrom, WroteFits, AskFits, ServiceAskFits}
use Rattle.oz_core.specs.Law.{IsLegal, KindIsEnabled}
use Rattle.oz_core.specs.Manager.{namespace_step, namespace_after, namespace_from, namespace_of}
use Rattle.oz_core.specs.Pieces.{IsPieceIn}
use Rattle.oz_core.specs.Steps.{pieces_from}
use Rattle.oz_kept.specs.Held.{LinesAreApart}
use Rattle.oz_kept.specs.laws.Places.{namespace_next}
use Rattle.oz_kept.specs.laws.Reached.{in_none}
use Rattle.oz_kept.specs.laws.Kept.{front}
use Rattle.oz_kept.specs.laws.Deleted.{first_or_later, found_at, front_legal, enabled_at}
use Rattle.oz_kept.specs.laws.Granted.{WasAsked, pending_asked, was_nowhere, no_lower, fits_at}
use Rattle.oz_kept.specs.laws.Contents.{its_grant, one_grant, same_line, fits_to, front_ends, front_grows}
use Rattle.oz_kept.specs.reopened.Left.{IsLeftByManager}
use Rattle.oz_kept.specs.reopened.laws.Pieces.{pieces_of, pieces_grow}
use Rattle.oz_kept.specs.reopened.laws.Committed.{IsOfWritten, next_pieces, piece_at, told_at_place, written_id, granted_lasts}

pub fronts_fit : (opening : Opening) (bytes : OpeningBytes) (script : Script) (story : List Event) → FitsFrom opening bytes script [] story → (place : ℕ)
    → FitsFrom opening bytes script [] (take place story)
fronts_fit opening bytes script story fits place =
    fits_to opening bytes script [] (take place story) (drop place story) (subst (FitsFrom opening bytes script []) (sym (take-append-drop place story)) fits)

-- ---- a piece that was written for a line

pub record IsWrittenAs (story : List Event) (line : Line) (it : Piece) : Type 0 where
  pub id : AskId
  pub before : List Event
  pub granted : WasGranted story id it.block before
  pub of_client : id.client ≡ line.client
  pub of_number : id.line ≡ line.number
  pub long : it.length ≡ length (piece (piece_number id before) line.command)

written_as : (opening : Opening) (bytes : OpeningBytes) (script : Script) (story : List Event) → IsLegal opening story
    → FitsFrom opening bytes script [] story → (line : Line) (it : Piece)
    → Contains (pieces_from 0 line.command (written_for line.client line.number story)) it → IsWrittenAs story line it
written_as opening bytes script story legal fits line it among =
    let at = piece_at 0 line.command (written_for line.client line.number story) it among in
    let told = told_at_place (wrote line.client line.number) story at.place it.block at.there in
    let by = written_id line.client line.number it.block told.event.kind told.told in
    let fit : WroteFits (take told.at story) it.block by.0 =
    subst (λ (kind : EventKind). EventFits opening bytes script (take told.at story) kind) by.1
    (fits_at opening bytes script story fits told.at told.event told.there) in
    let both = and_parts (by.0.client == line.client) (by.0.line == line.number) by.2 in
    let client = eqb-true by.0.client line.client both.0 in
    let number = eqb-true by.0.line line.number both.1 in
    let place : at.place ≡ piece_number by.0 fit.before =
    sym told.before ∙ sym (ap (λ (c : ℕ). length (written_for c line.number (take told.at story))) client)
    ∙ sym (ap (λ (n : ℕ). length (written_for by.0.client n (take told.at story))) number) ∙ fit.in_turn in
    let same : 0 + at.place ≡ piece_number by.0 fit.before = omega (arith, place) in
    record {
      id = by.0;
      before = fit.before;
      granted = granted_lasts opening bytes script story legal fits (fronts_fit opening bytes script story fits) by.0 it.block fit.before told.at fit.granted;
      of_client = client;
      of_number = number;
      long = at.long ∙ ap (λ (n : ℕ). length (piece n line.command)) same;
    }

written_whole : (opening : Opening) (bytes : OpeningBytes) (script : Script) (story : List Event) → IsCoherent opening bytes → LinesAreApart script
    → (legal : IsLegal opening story) → (line : Line) (it : Piece) → Contains script.lines line
    → IsWrittenAs story line it → (content : List ℕ) → HasContent opening bytes script story it.block content → length content ≡ it.length
written_whole opening bytes script story coherent apart legal line it there its_own content (inl had) =
    absurd (was_nowhere opening story legal it.block its_own.id
    (its_grant opening story legal its_own.id it.block its_own.before its_own.granted) coherent.fresh (had.dn, had.held))
written_whole opening bytes script story coherent apart legal line it there its_own content (inr of) =
    let same = one_grant opening story legal it.block of.id its_own.id of.before its_own.before of.granted its_own.granted in
    let number : piece_number of.id of.before ≡ piece_number its_own.id its_own.before = ap (λ (i : AskId). piece_number i of.before) same.0
    ∙ ap (piece_number its_own.id) same.1 in
    let its : IsLineOf script line.client line.number of.line = record {
      there = of.its.there;
      of_client = of.its.of_client ∙ ap (λ (i : AskId). i.client) same.0 ∙ its_own.of_client;
      of_number = of.its.of_number ∙ ap (λ (i : AskId). i.line) same.0 ∙ its_own.of_number;
    } in
    let one = same_line script apart line.client line.number of.line line its (record { there = there; of_client = refl; of_number = refl }) in
    ap length (of.are ∙ ap (λ (n : ℕ). piece n of.line.command) number ∙ ap (λ (l : Line). piece (piece_number its_own.id its_own.before) l.command) one)
    ∙ sym its_own.long

-- ---- what keys have is of the opening, or was written

pub record IsWrittenIn (script : Script) (story : List Event) (it : Piece) : Type 0 where
  pub decided : ℕ
  pub asked : ℕ
  pub of : IsOfWritten script (take asked (take decided story)) it

service_commits_none : (request : Request) (it : Piece) → family_of request ≡ Service → Contains (pieces_of (Some request)) it → ⊥
service_commits_none (requests.CommitKey volume bucket key session pieces) it e among = let wrong : Keys ≡ Service = e in absurd cc
service_commits_none request it e among = in_none it among

module _ (opening : Opening) (bytes : OpeningBytes) (script : Script) (story : List Event) (legal : IsLegal opening story)
    (fits : FitsFrom opening bytes script [] story) (it : Piece) where
  asked_written : (n : ℕ) (id : AskId) (request : Request) → WasAsked id request (take n story) → Contains (pieces_of (Some request)) it
      → IsWrittenIn script story it
  asked_written n id request asked among =
      let before = take n story in
      let event : Event = record { seat = asked.seat; kind = Ask asked.other request } in
      let here = fits_at opening bytes script (take n story) (fronts_fit opening bytes script story fits n) asked.there.0 event
      (found_at (take n story) event asked.there) in
      by (is_script asked.other) refl here.0 here.1
    where
      by : (t : Bool) → is_script asked.other ≡ t
          → (is_script asked.other ≡ true → AskFits opening script (take asked.there.0 (take n story)) asked.other request)
          → (is_script asked.other ≡ false → ServiceAskFits asked.other request) → IsWrittenIn script story it
      by true is line service =
          let fit = line is in
          record {
            decided = n;
            asked = asked.there.0;
            of = next_pieces opening script (take asked.there.0 (take n story)) fit.line it fit.its.there
                (subst (λ (o : Option Request). Contains (pieces_of o) it) (sym fit.next) among);
          }
      by false is line service = absurd (service_commits_none request it (service is).of_service among)

  step_written : (n seat : ℕ) (kind : EventKind) → KindIsEnabled opening (take n story) seat kind
      → IsPieceIn (namespace_step (λ index. true) (take n story) (namespace_of opening (take n story)) kind) it
      → IsWrittenIn script story it ⊎ IsPieceIn (namespace_of opening (take n story)) it
  step_written n seat (Decide id index reply batch) enabled has =
      let asked : namespace_after (pending id (take n story)) (namespace_of opening (take n story)) reply
      ≡ after (namespace_of opening (take n story)) enabled.request reply =
      ap (λ (o : Option Request). namespace_after o (namespace_of opening (take n story)) reply) enabled.undecided in
      ⊎_elim
      (λ given. inl (asked_written n id enabled.request (pending_asked id enabled.request (take n story) enabled.undecided) given))
      (λ old. inr old)
      (pieces_grow it (namespace_of opening (take n story)) enabled.request reply (subst (λ (m : Namespace). IsPieceIn m it) asked has))
  step_written n seat kind enabled has = inr has

  pub piece_written : (n : ℕ) → IsPieceIn (namespace_of opening (take n story)) it → IsWrittenIn script story it ⊎ IsPieceIn opening.namespace it
  unfolding namespace_from
  piece_written zero has = inr has
  piece_written (suc n) has = by (slice_get story n) refl (piece_written n)
    where
      by : (o : Option Event) → slice_get story n ≡ o
          → (IsPieceIn (namespace_of opening (take n story)) it → IsWrittenIn script story it ⊎ IsPieceIn opening.namespace it)
          → IsWrittenIn script story it ⊎ IsPieceIn opening.namespace it
      by None e before = before (subst (λ (l : List Event). IsPieceIn (namespace_of opening l) it) (front_ends story n e) has)
      by (Some event) e before =
          let grown = subst (λ (l : List Event). IsPieceIn (namespace_of opening l) it) (front_grows story n event e) has in
          ⊎_elim (λ written. inl written) before
          (step_written n event.seat event.kind (enabled_at opening story legal n event e)
          (subst (λ (m : Namespace). IsPieceIn m it) (namespace_next opening (take n story) event) grown))

-- ---- so each is whole

block_among : (pieces : List Piece) (it : Piece) → Contains pieces it → Contains (blocks_of pieces) it.block
block_among [] it among = absurd (in_none it among)
block_among (first ∷ pieces) it among = ⊎_elim
    (λ same. (0, omega arith, ap (λ (p : Piece). p.block) same))
    (λ later. let behind = block_among pieces it later in (suc behind.0, omega (arith, behind.1), behind.2))
    (first_or_later first it pieces among)

piece_reached : (namespace : Namespace) (it : Piece) → IsPieceIn namespace it → IsReached namespace it.block
piece_reached namespace it has = record {
  volume = has.volume;
  name = has.name;
  bucket = has.bucket;
  is_there = has.is_there;
  has = ⊎_elim
      (λ in_key. inl (record { key = in_key.key; pieces = in_key.pieces; is_there = in_key.is_there; has = block_among in_key.pieces it in_key.has }))
      (λ of. inr (inr (record {
        snapshot = of.snapshot;
        is_there = of.is_there;
        in_keys = record { key = of.of_key.key; pieces = of.of_key.pieces; is_there = of.of_key.is_there; has = block_among of.of_key.pieces it of.of_key.has };
      })))
      has.has;
}

opening_whole : (opening : Opening) (bytes : OpeningBytes) (script : Script) (story : List Event) → IsCoherent opening bytes
    → (legal : IsLegal opening story) → (it : Piece) → IsPieceIn opening.namespace it → (content : List ℕ)
    → HasContent opening bytes script story it.block content → length content ≡ it.length
opening_whole opening bytes script story coherent legal it has content (inl had) = coherent.blocks.whole it had.dn content has had.held had.are
opening_whole opening bytes script story coherent legal it has content (inr of) =
    let granted = no_lower opening story legal it.block of.id (its_grant opening story legal of.id it.block of.before of.granted) in
    absurd (omega (arith, granted, coherent.fresh it.block (inl (piece_reached opening.namespace it has))))

pub left_whole : (opening : Opening) (bytes : OpeningBytes) (script : Script) (story : List Event) (most : ℕ) (left : Opening) → IsCoherent opening bytes
    → LinesAreApart script → IsLegal opening story → FitsFrom opening bytes script [] story
    → IsLeftByManager opening story most left → (it : Piece) (content : List ℕ) → IsPieceIn left.namespace it
    → HasContent opening bytes script story it.block content → length content ≡ it.length
unfolding namespace_from
left_whole opening bytes script story most left coherent apart legal fits manager it content has its =
    let kept = front opening most story [] legal in
    let there = subst (λ (n : Namespace). IsPieceIn n it) (manager.namespace ∙ kept.namespace) has in
    ⊎_elim
    (λ written.
    let decided = take written.decided story in
    let asked = take written.asked (take written.decided story) in
    let legal_decided = front_legal opening story legal written.decided in
    let fits_decided = fronts_fit opening bytes script story fits written.decided in
    let its_own = written_as opening bytes script asked (front_legal opening decided legal_decided written.asked)
    (fronts_fit opening bytes script decided fits_decided written.asked) written.of.line it written.of.among in
    let later = granted_lasts opening bytes script decided legal_decided fits_decided
    (fronts_fit opening bytes script decided fits_decided) its_own.id it.block its_own.before written.asked its_own.granted in
    let granted = granted_lasts opening bytes script story legal fits
    (fronts_fit opening bytes script story fits) its_own.id it.block its_own.before written.decided later in
    written_whole opening bytes script story coherent apart legal written.of.line it written.of.there
    (record {
      id = its_own.id;
      before = its_own.before;
      granted = granted;
      of_client = its_own.of_client;
      of_number = its_own.of_number;
      long = its_own.long;
    }) content its)
    (λ old. opening_whole opening bytes script story coherent legal it old content its)
    (piece_written opening bytes script story legal fits it kept.size there)

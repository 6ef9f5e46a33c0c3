-- A member that gave none of a piece isn't intact: it is doubted, or hasn't the block.
use Rattle.std.proofs.Common.{◌≡◌, ⊎_elim, ℕ, Bool, true, false, ◌&&◌, refl, cond, List, [], length, Option, None, Some, sym, ap, ◌∙◌, subst}
use Rattle.std.proofs.lemmas.Bool.{false≢true}
use Rattle.std.specs.Prelude.{not}
use Rattle.oz_core.specs.declared.event.Event.{Event}
use Rattle.oz_core.specs.declared.event.Node.{Node}
use Rattle.oz_core.specs.declared.event.PutRefusal.TheVariants as refusals
use Rattle.oz_core.specs.declared.opening.Opening.{Opening}
use Rattle.oz_core.specs.Contents.{HasContent, OpeningBytes}
use Rattle.oz_core.specs.Nodes.{doubts, holds}
use Rattle.oz_core.specs.Stories.{has_event}
use Rattle.oz_datanode.specs.Datanode.{State, count_of, is_halted}
use Rattle.oz_datanode.specs.Reading.{IsRead}
use Rattle.oz_entries.specs.Node.{Node as Held, is_held}
use Rattle.oz_fields.specs.declared.block.Piece.{Piece}
use Rattle.oz_script.specs.declared.lines.script.Script.{Script}
use Rattle.oz_node_events.specs.NodeSeat.{SeatView, StandsFor}
use Rattle.oz_replicas.specs.Notes.{Goes}
use Rattle.oz_replicas.specs.Outcomes.{HasOther, IsAbsent}
use Rattle.oz_replicas.specs.Stays.{Stays}
use Rattle.oz_replicas.specs.declared.note.Note.{Note}
use Rattle.oz_replicas.specs.declared.note.Note.TheVariants as notes
use Rattle.oz_requests.specs.declared.request.AskId.{AskId}
use Rattle.oz_world.specs.Disk.{Images}
use Rattle.oz_line_blocks.specs.reading.Lacks.{IsDoubted, has_notes, lack_of}
use Rattle.oz_line_blocks.specs.reading.Member.{IsGivenAt, LacksIt}
use Rattle.oz_line_blocks.specs.reading.Read.{subject_of}
use Rattle.oz_line_blocks.proofs.reading_lemmas.Doubts.{bad_doubts, first_told, second_told, stop_doubts}
use Rattle.oz_line_blocks.proofs.reading_lemmas.Standing.{absent_still}

not_halted : (h : Bool) (count : ℕ) (rest : Option ℕ) → cond h (Some count) rest ≡ None → h ≡ false
not_halted true count rest none = absurd cc
not_halted false count rest none = refl

module _ {D : Type 0} (told : D → Option (List ℕ)) (clock : D → ℕ) (image : D → Images) (faults : D → ℕ) (id : AskId) (piece : Piece) (dns : List ℕ) (dn : ℕ) (old new : State D)
    (seen later : List Event) (member : old.id ≡ dn) (given : IsGivenAt told clock image faults id piece dns old new None seen later) where
  -- it told why
  pub told_doubted : has_notes given.said ≡ true → IsDoubted later id piece.block dn
  told_doubted noted =
      ⊎_elim
      (λ silent. absurd (false≢true (sym (ap has_notes silent.0) ∙ noted)))
      (λ told_of. ⊎_elim
      (λ bad. first_told (doubts dn piece.block id) id (notes.Bad old.id piece.block) [] given.said seen later bad given.told_so (bad_doubts dn old.id piece.block id member))
      (λ stopped. ⊎_elim
      (λ was.
      first_told (doubts dn piece.block id) id (notes.Refused old.id piece.block (refusals.Stopped was.0)) [] given.said seen later was.1 given.told_so
      (stop_doubts dn old.id was.0 piece.block id member))
      (λ halts.
      second_told (doubts dn piece.block id) id (notes.Halt old.id halts.0) (notes.Refused old.id piece.block (refusals.Stopped halts.0)) given.said seen later halts.1 given.told_so
      (stop_doubts dn old.id halts.0 piece.block id member))
      stopped)
      told_of)
      given.given_so

module _ {D : Type 0} (told : D → Option (List ℕ)) (clock : D → ℕ) (image : D → Images) (faults : D → ℕ) (Coherent : Type 0) (opening : Opening) (bytes : OpeningBytes) (script : Script)
    (loaded : Node → ℕ) (id : AskId) (piece : Piece) (dns : List ℕ) (dn : ℕ) (old new : State D) (view : SeatView) (seen later : List Event) (member : old.id ≡ dn)
    (stands : StandsFor told clock image faults Coherent opening bytes script loaded view new) (shown : view.seen ≡ later) where
  -- it hasn't the block then
  absent : Coherent → Stays told clock image faults old new → IsAbsent faults piece.block old → holds opening later dn piece.block ≡ false
  absent coherent stays away =
      let number : view.dn ≡ dn = sym stands.number ∙ (stays.id ∙ member) in
      let runs : is_halted old ≡ false = not_halted (is_halted old) (count_of faults old) _ away.ran in
      ap (λ (l : List Event). holds opening l dn piece.block) (sym shown)
      ∙ (ap (λ (n : ℕ). holds opening view.seen n piece.block) (sym number)
      ∙ (stands.held coherent (stays.halted ∙ runs) piece.block
      ∙ (ap (λ (n : Held). is_held n piece.block) stays.node ∙ away.absent)))

  -- what was read of it is the content, which is as long as the piece
  never_other : Stays told clock image faults old new → HasOther told faults piece.block piece.length old new
      → ((given : List ℕ) → Stays told clock image faults old new → IsRead told faults piece.block given old new → HasContent opening bytes script view.seen piece.block given)
      → ((content : List ℕ) → HasContent opening bytes script later piece.block content → length content ≡ piece.length) → ⊥
  never_other stays other law whole =
      other.other (whole other.bytes (subst (λ (l : List Event). HasContent opening bytes script l piece.block other.bytes) shown (law other.bytes stays other.read)))

  -- it told nothing
  silent_absent : (given : IsGivenAt told clock image faults id piece dns old new None seen later) → Coherent
      → ((given : List ℕ) → Stays told clock image faults old new → IsRead told faults piece.block given old new → HasContent opening bytes script view.seen piece.block given)
      → ((content : List ℕ) → HasContent opening bytes script later piece.block content → length content ≡ piece.length)
      → has_notes given.said ≡ false → holds opening later dn piece.block ≡ false
  silent_absent given coherent content whole none =
      ⊎_elim
      (λ silent.
      let stays = subst (λ (l : List Note). Goes told clock image faults (subject_of piece dns) l old new) silent.0 given.goes in
      ⊎_elim (λ away. absent coherent stays away) (λ other. absurd (never_other stays other content whole)) silent.1)
      (λ told_of. absurd (⊎_elim
      (λ bad. false≢true (sym none ∙ ap has_notes bad))
      (λ stopped. ⊎_elim (λ was. false≢true (sym none ∙ ap has_notes was.1)) (λ halts. false≢true (sym none ∙ ap has_notes halts.1)) stopped)
      told_of))
      given.given_so

  pub lacks : (given : IsGivenAt told clock image faults id piece dns old new None seen later)
      → (Coherent → (given : List ℕ) → Stays told clock image faults old new → IsRead told faults piece.block given old new → HasContent opening bytes script view.seen piece.block given)
      → (Coherent → (content : List ℕ) → HasContent opening bytes script later piece.block content → length content ≡ piece.length)
      → LacksIt Coherent opening bytes script id piece dn later (lack_of dn piece.block (has_notes given.said) (length later))
  lacks given content whole = by (has_notes given.said) refl
    where
      by : (t : Bool) → has_notes given.said ≡ t → LacksIt Coherent opening bytes script id piece dn later (lack_of dn piece.block t (length later))
      by true noted = (refl, λ coherent. told_doubted told clock image faults id piece dns dn old new seen later member given noted)
      by false none = λ coherent story begins all still.
          ap (λ (t : Bool). t && not (has_event (doubts dn piece.block id) story))
          (absent_still opening story later dn piece.block begins (silent_absent given coherent (content coherent) (whole coherent) none) still)

-- Where the opening is coherent what is read of a block has the digests that are kept, so no datanode says that one is bad.
use Rattle.std.proofs.Common.{◌≡◌, ⊎_elim, ℕ, ◌-◌, Bool, false, ◌||◌, List, [], ◌∷◌, ◌++◌, Option, None, Some, refl, sym, ap, ◌∙◌}
use Rattle.std.proofs.lemmas.Bool.{false≢true}
use Rattle.std.proofs.lemmas.List.Folds.{list_any-append}
use Rattle.std.specs.Prelude.{IfSome, IsSome}
use Rattle.oz_chunk.specs.declared.table.TheConstants.{SLOT_SIZE}
use Rattle.oz_core.specs.declared.event.Event.{Event}
use Rattle.oz_core.specs.declared.event.Node.{Node}
use Rattle.oz_core.specs.declared.opening.Opening.{Opening}
use Rattle.oz_core.specs.Contents.{OpeningBytes}
use Rattle.oz_core.specs.Stories.{has_event}
use Rattle.oz_datanode.specs.Datanode.{State, count_of, is_halted, node_in, slots_of}
use Rattle.oz_datanode.specs.Pairs.{Has, HaveAll, HaveDigests}
use Rattle.oz_datanode.specs.Reading.{IsFirstBad}
use Rattle.oz_entries.specs.declared.row.Chunk.{Chunk}
use Rattle.oz_script.specs.declared.lines.script.Script.{Script}
use Rattle.oz_replicas.specs.Notes.{Subject, Leads}
use Rattle.oz_replicas.specs.Outcomes.{FindsBad}
use Rattle.oz_replicas.specs.declared.note.Note.{Note}
use Rattle.oz_replicas.specs.declared.note.Note.TheVariants as notes
use Rattle.oz_requests.specs.declared.request.AskId.{AskId}
use Rattle.oz_world.specs.Disk.{Images}
use Rattle.oz_node_events.specs.NodeSeat.{SeatView, StandsFor, is_bad}
use Rattle.oz_node_events.specs.Noting.{event_of}
use Rattle.oz_node_events.proofs.Following.{held_row, not_halted}

none_bad : (size : ℕ) (chunks : List Chunk) (slots kept found : List ℕ) → HaveDigests size chunks slots → IsFirstBad size chunks slots kept found → ⊥
unfolding HaveDigests IsFirstBad
none_bad size [] slots kept found have bad = bad
none_bad size (chunk ∷ chunks) slots kept found have bad =
    ⊎_elim
    (λ here. here.2 (here.1 ∙ (sym have.0 ∙ sym here.0)))
    (λ later. none_bad (size - SLOT_SIZE) chunks slots kept found have.1 later.1)
    bad

pub of_told : (told : Option (List ℕ)) (P Q : List ℕ → Type 0) → IsSome told → IfSome told P → IfSome told Q → (slots : List ℕ) × (P slots × Q slots)
of_told None P Q some p q = absurd (false≢true some)
of_told (Some slots) P Q some p q = (slots, (p, q))

module _ (Coherent : Type 0) (opening : Opening) (bytes : OpeningBytes) (script : Script) (loaded : Node → ℕ) {D : Type 0} (told : D → Option (List ℕ))
    (clock : D → ℕ) (image : D → Images) (faults : D → ℕ) (coherent : Coherent) (view : SeatView) (old : State D)
    (stood : StandsFor told clock image faults Coherent opening bytes script loaded view old) where
  finds_none : (subject : Subject) (new : State D) → FindsBad told clock image faults subject.block old new → ⊥
  finds_none subject new finds =
      let up = not_halted (is_halted old) (count_of faults old) _ finds.bad.ran in
      let has = stood.contents coherent up in
      let tells = stood.tells coherent in
      let both = of_told (told (slots_of old)) (HaveAll has.contents (node_in old)) (λ slots. IsFirstBad finds.bad.row.length finds.bad.row.chunks slots finds.kept finds.found)
      tells.1 (has.holds.read tells.0) finds.bad.first in
      let its : Has (has.contents subject.block) finds.bad.row both.0 = both.1.0 subject.block finds.bad.row finds.bad.held in
      none_bad finds.bad.row.length finds.bad.row.chunks both.0 finds.kept finds.found
      (its.digests (has.intact subject.block (held_row ((node_in old).rows subject.block) finds.bad.row finds.bad.held))) both.1.1

  pub none_noted : (id : AskId) (first : ℕ) (subject : Subject) (note : Note) (new : State D) → Leads told clock image faults subject note old new
      → is_bad (event_of id first note).kind ≡ false
  none_noted id first subject (notes.Put n block size) new leads = refl
  none_noted id first subject (notes.Refused n block refusal) new leads = refl
  none_noted id first subject (notes.Halt n count) new leads = refl
  none_noted id first subject (notes.Bad n block) new leads = absurd (finds_none subject new leads.2)

pub none_more : (mine : List Event) (event : Event) → has_event is_bad mine ≡ false → is_bad event.kind ≡ false → has_event is_bad (mine ++ event ∷ []) ≡ false
none_more mine event none not =
    list_any-append (λ (e : Event). is_bad e.kind) mine (event ∷ [])
    ∙ (ap (λ (t : Bool). t || (is_bad event.kind || false)) none ∙ ap (λ (t : Bool). t || false) not)

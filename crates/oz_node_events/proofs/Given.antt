-- What a member gave of a block is the block's content.
use Rattle.std.proofs.Common.{◌≡◌, ⊎_elim, ℕ, List, [], ◌∷◌, ◌++◌, Option, None, Some, is_some, sym, ap, ◌∙◌, subst}
use Rattle.std.proofs.lemmas.Bool.{false≢true}
use Rattle.std.proofs.lemmas.Option.{same_Some}
use Rattle.std.specs.Prelude.{IfSome, IsSome}
use Rattle.oz_buffer.specs.Buffer.{AllFollow, Follows}
use Rattle.oz_core.specs.declared.event.Event.{Event}
use Rattle.oz_core.specs.declared.event.Node.{Node}
use Rattle.oz_core.specs.declared.opening.Opening.{Opening}
use Rattle.oz_core.specs.Contents.{HasContent, OpeningBytes}
use Rattle.oz_datanode.specs.Datanode.{State, count_of, is_halted, node_in, slots_of}
use Rattle.oz_datanode.specs.Pairs.{Content, HaveAll, bytes_of}
use Rattle.oz_datanode.specs.Reading.{IsRead}
use Rattle.oz_entries.specs.Node.{Node as Held, is_held}
use Rattle.oz_entries.specs.declared.row.BlockRow.{BlockRow}
use Rattle.oz_fields.specs.declared.block.Block.{Block}
use Rattle.oz_script.specs.declared.lines.script.Script.{Script}
use Rattle.oz_replicas.specs.Notes.{Goes, Subject}
use Rattle.oz_replicas.specs.Reading.{Gave, IsFirstGiven}
use Rattle.oz_replicas.specs.Stays.{Stays}
use Rattle.oz_replicas.specs.declared.note.Note.{Note}
use Rattle.oz_turn.specs.Told.{BeginsWith}
use Rattle.oz_world.specs.Disk.{Images}
use Rattle.oz_node_events.specs.NodeSeat.{SeatView, StandsFor}
use Rattle.oz_node_events.specs.Noting.{HasSeen, IsNotedBy, NotingView}
use Rattle.oz_node_events.specs.laws.Contents.{content_more}
use Rattle.oz_node_events.proofs.Following.{not_halted}
use Rattle.oz_node_events.proofs.Moving.{follow_behind, follow_front}
use Rattle.oz_node_events.proofs.Noted.{begins_through}
use Rattle.oz_node_events.proofs.Sound.{of_told}

-- a disk of slots has one content of a row
one_has : (told : Option (List ℕ)) (a b : Block → Content) (node : Held) (block : Block) (row : BlockRow) → IsSome told → IfSome told (HaveAll a node) → IfSome told (HaveAll b node)
    → node.rows block ≡ Some row → (a block).bytes ≡ (b block).bytes
one_has None a b node block row some one other is = absurd (false≢true some)
one_has (Some slots) a b node block row some one other is = sym (one block row is).bytes ∙ (other block row is).bytes

no_bytes : (given : List ℕ) → Some given ≡ None → ⊥
no_bytes given is = cc

module _ (Coherent : Type 0) (opening : Opening) (bytes : OpeningBytes) (script : Script) (loaded : Node → ℕ) {D : Type 0} (told : D → Option (List ℕ))
    (clock : D → ℕ) (image : D → Images) (faults : D → ℕ) (coherent : Coherent) where
  pub read_content : (view after : SeatView) (old new : State D) (block : Block) (given : List ℕ) → StandsFor told clock image faults Coherent opening bytes script loaded view old
      → Stays told clock image faults old new → IsRead told faults block given old new → StandsFor told clock image faults Coherent opening bytes script loaded after new
      → HasContent opening bytes script after.seen block given
  read_content view after old new block given stood stays read stands =
      let row = read.row in
      let up_old = not_halted (is_halted old) (count_of faults old) _ read.ran in
      let had = stood.contents coherent up_old in
      let has = stands.contents coherent (stays.halted ∙ up_old) in
      let tells_old = stood.tells coherent in
      let tells = stands.tells coherent in
      let slots = of_told (told (slots_of old)) (HaveAll had.contents (node_in old)) (λ slots. given ≡ bytes_of row slots) tells_old.1 (had.holds.read tells_old.0) read.is in
      let still = stays.holds had.contents had.holds in
      let same = one_has (told (slots_of new)) had.contents has.contents (node_in new) block row tells.1 (still.read tells.0) (has.holds.read tells.0)
      (ap (λ (n : Held). n.rows block) stays.node ∙ read.held) in
      let are : given ≡ (has.contents block).bytes = slots.1.1 ∙ ((slots.1.0 block row read.held).bytes ∙ same) in
      subst (λ (l : List ℕ). HasContent opening bytes script after.seen block l) (sym are)
      (has.its block (ap (λ (n : Held). is_held n block) stays.node ∙ ap (λ (o : Option BlockRow). is_some o) read.held))

  pub gave_content : (subject : Subject) (size dn : ℕ) (given : List ℕ) (before after : NotingView) (story : List Event)
      → Gave told clock image faults (StandsFor told clock image faults Coherent opening bytes script loaded) IsNotedBy HasSeen subject size dn (Some given) before after
      → BeginsWith story after.seen → AllFollow (Follows Coherent opening bytes script) [] story → HasContent opening bytes script story subject.block given
  gave_content subject size dn given before after story gave begins all =
      let value = gave.left.0 in
      let goes = begins_through story after.seen value.seen begins gave.left.1.1 in
      let parts : AllFollow (Follows Coherent opening bytes script) [] (value.seen ++ goes.0) = subst (λ (l : List Event). AllFollow (Follows Coherent opening bytes script) [] l) goes.1 all in
      let stays = subst (λ (l : List Note). Goes told clock image faults subject l gave.old gave.new) gave.given_so.0 gave.goes in
      subst (λ (l : List Event). HasContent opening bytes script l subject.block given) (sym goes.1)
      (content_more Coherent opening bytes script coherent goes.0 value.seen
      (follow_front (Follows Coherent opening bytes script) [] value.seen goes.0 parts) (follow_behind (Follows Coherent opening bytes script) [] value.seen goes.0 parts)
      subject.block given (read_content gave.kept.0 value gave.old gave.new subject.block given gave.kept.1 stays gave.given_so.1.read gave.left.1.0))

  pub first_content : (subject : Subject) (size : ℕ) (members : List ℕ) (given : List ℕ) (before after : NotingView) (story : List Event)
      → IsFirstGiven told clock image faults (StandsFor told clock image faults Coherent opening bytes script loaded) IsNotedBy HasSeen subject size members (Some given) before after
      → BeginsWith story after.seen → AllFollow (Follows Coherent opening bytes script) [] story → HasContent opening bytes script story subject.block given
  first_content subject size [] given before after story first begins all = absurd (no_bytes given first.0)
  first_content subject size (dn ∷ members) given before after story first begins all =
      ⊎_elim
      (λ gave.
      subst (λ (l : List ℕ). HasContent opening bytes script story subject.block l) (sym (same_Some given gave.0 gave.1.0))
      (gave_content subject size dn gave.0 before after story gave.1.1 begins all))
      (λ none. first_content subject size members given none.0 after story none.1.1 begins all)
      first

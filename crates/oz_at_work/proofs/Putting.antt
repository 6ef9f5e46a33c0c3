-- What a line puts is its piece, and it is written by the script where two members put it.
use Rattle.std.proofs.Common.{◌≡◌, inl, ℕ, ◌+◌, ◌*◌, ◌<◌, ◌≤◌, Bool, true, false, cond, List, [], length, take, drop, Option, Contains, sym, ap, ◌∙◌, subst, arith}
use Rattle.std.proofs.lemmas.Bool.{false≢true}
use Rattle.std.proofs.lemmas.List.{length-take, take_min}
use Rattle.oz_buffer.specs.Buffer.{AllFollow, Follows}
use Rattle.oz_buffer.specs.Became.{times_said}
use Rattle.oz_command.specs.declared.command.Command.{Command}
use Rattle.oz_command.specs.declared.payload.TheConstants.{PIECE_BYTES}
use Rattle.oz_command.specs.Payload.{bytes_from, data_of, piece}
use Rattle.oz_core.specs.declared.event.Event.{Event}
use Rattle.oz_core.specs.declared.event.EventKind.TheVariants.{Wrote}
use Rattle.oz_core.specs.declared.event.PutRefusal.{PutRefusal}
use Rattle.oz_core.specs.declared.opening.Opening.{Opening}
use Rattle.oz_core.specs.Coherent.{IsCoherent}
use Rattle.oz_core.specs.Contents.{OpeningBytes}
use Rattle.oz_core.specs.Scm.{members as members_in}
use Rattle.oz_core.specs.Seats.{IsLineSeat}
use Rattle.oz_fields.specs.declared.block.Block.{Block}
use Rattle.oz_script.specs.declared.lines.script.Script.{Script}
use Rattle.oz_nodes.specs.declared.nodes.TheConstants.{FEWEST_NODES}
use Rattle.oz_node_events.specs.Noting.{MayNote}
use Rattle.oz_steps.specs.Grants.{written_blocks}
use Rattle.oz_turn.specs.Told.{BeginsWith}
use Rattle.oz_underway.specs.UnderWay.{HaveAnswered, IsPieceFor}
use Rattle.oz_underway.specs.laws.Piece.{its_piece, members_story}
use Rattle.oz_underway.specs.laws.Writing.{quorum_may_follow}
use Rattle.oz_line_blocks.specs.writing.Written.{is_quorum}
use Rattle.oz_at_work.specs.AtWork.{IsAtWork, IsNextFit, IsNextWrite, WorkView, id_of}
use Rattle.oz_at_work.specs.inner.Put.{IsPutNext}

-- as many bytes as the piece has are the piece
whole_piece : (command : Command) (number first count : ℕ) → first ≡ PIECE_BYTES * number → count ≡ length (piece number command)
    → bytes_from command first count ≡ piece number command
whole_piece command number first count place size =
    let rest : List ℕ = drop (PIECE_BYTES * number) (data_of command) in
    ap (λ (at : ℕ). take count (drop at (data_of command))) place
    ∙ (ap (λ (n : ℕ). take n rest) (size ∙ length-take PIECE_BYTES rest)
    ∙ take_min PIECE_BYTES rest)

-- something was said of the block
pub more_said : (two : Bool) (said now : ℕ) → now ≡ cond two (said + 4) (said + 3) → said < now
more_said true said now is = omega (arith, is)
more_said false said now is = omega (arith, is)

module _ (Coherent : Type 0) (opening : Opening) (bytes : OpeningBytes) (script : Script) (seen : List Event) (work : WorkView) (block : Block) (members : List ℕ) (first : ℕ) (content : List ℕ)
    (coherent : Coherent) (at_work : IsAtWork Coherent opening bytes script seen work) (nodes : work.nodes ≡ length opening.nodes)
    (puts : IsPutNext work block members first content) where
  next_write : IsNextWrite Coherent opening bytes script seen work.line work.asked work.said work.gave_up block members first puts.count work.state.progress
  next_write = subst (IsNextFit Coherent opening bytes script seen work) puts.next at_work.next

  nodes_are : work.state.progress.nodes ≡ length opening.nodes
  nodes_are = at_work.nodes ∙ nodes

  content_is : content ≡ piece (length (written_blocks work.state.progress.came.attempts)) work.line.command
  content_is =
      puts.content_is
      ∙ whole_piece work.line.command (length (written_blocks work.state.progress.came.attempts)) first puts.count next_write.writes.place next_write.writes.size

  module _ (story : List Event) (begins : BeginsWith story seen) (all : AllFollow (Follows Coherent opening bytes script) [] story) where
    piece_is : IsCoherent opening bytes → IsPieceFor opening bytes script story (id_of work.line work.asked) block first content
    piece_is whole =
        subst (IsPieceFor opening bytes script story (id_of work.line work.asked) block first) (sym content_is)
        (its_piece Coherent opening bytes script seen work.line work.asked work.said work.line.command work.state.progress next_write.writes.granted coherent
        next_write.followed.under_way next_write.writes.its story begins all whole at_work.begun.numbered block members first puts.count next_write.writes)

    members_are : members_in opening story block.container ≡ members
    members_are =
        ap (λ (b : Block). members_in opening story b.container) next_write.writes.block_is
        ∙ (members_story Coherent opening bytes script seen work.line work.asked work.said work.line.command work.state.progress next_write.writes.granted coherent
        next_write.followed.under_way next_write.writes.its story begins all nodes_are ∙ sym next_write.writes.of_pipeline)

    pub may_note : IsCoherent opening bytes → MayNote opening bytes script (id_of work.line work.asked) first (record { block = block; members = members; bytes = content }) story
    may_note whole =
        let its = piece_is whole in
        record {
          named = inl its.named;
          started = λ own. absurd (false≢true (sym its.asked ∙ own));
          piece = λ some. record {
            before = its.before;
            granted = its.granted;
            place = its.place;
            content = its.has;
            alike = its.alike;
            members = λ dn among. subst (λ (l : List ℕ). Contains l dn) (sym members_are) among;
          };
        }

    pub may_write : FEWEST_NODES ≤ length opening.nodes → (seat : ℕ) → IsLineSeat seat → (answers : List (Option PutRefusal)) → is_quorum answers ≡ true
        → times_said work.line.client work.line.number story ≡ work.said + 3 → HaveAnswered story (id_of work.line work.asked) block members answers
        → Follows Coherent opening bytes script story (record { seat = seat; kind = Wrote block (id_of work.line work.asked) })
    may_write least seat of_line answers two now answered =
        let to_write = next_write.writes in
        subst (λ (b : Block). Follows Coherent opening bytes script story (record { seat = seat; kind = Wrote b (id_of work.line work.asked) })) (sym to_write.block_is)
        (quorum_may_follow Coherent opening bytes script seen work.line work.asked work.said seat work.line.command work.state.progress to_write.granted answers
        next_write.followed.under_way to_write.its nodes_are least of_line two story begins all
        (subst (λ (l : List ℕ). HaveAnswered story (id_of work.line work.asked) to_write.granted.block l answers) to_write.of_pipeline
        (subst (λ (b : Block). HaveAnswered story (id_of work.line work.asked) b members answers) to_write.block_is answered)) now)

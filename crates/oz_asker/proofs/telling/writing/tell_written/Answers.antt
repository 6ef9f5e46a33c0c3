use Rattle.std.proofs.Common.{◌≡◌, ℕ, ◌+◌, ◌==◌, Bool, true, List, [], ◌∷◌, ◌++◌, cond, eq-eqb, refl, sym, ap, ◌∙◌}
use Rattle.std.proofs.lemmas.Bool.{and_from}
use Rattle.oz_buffer.specs.Became.{times_said}
use Rattle.oz_buffer.specs.laws.Courses.{said-push}
use Rattle.oz_core.specs.declared.event.Event.{Event}
use Rattle.oz_core.specs.Asks.{is_of_line}
use Rattle.oz_fields.specs.declared.block.Block.{Block}
use Rattle.oz_requests.specs.declared.request.AskId.{AskId}
use Rattle.oz_turn.specs.Seat.{seen_of}
use Rattle.oz_asker.specs.telling.Written.{wrote_event}
use Rattle.oz_asker.proofs.telling.writing.tell_written.Goals as goal

-- that a block was written is said once of its line's blocks
said_once : (story : List Event) (seat : ℕ) (block : Block) (id : AskId)
    → times_said id.client id.line (story ++ wrote_event seat block id ∷ []) ≡ times_said id.client id.line story + 1
said_once story seat block id =
    let its : is_of_line id.client id.line id ≡ true =
    and_from (id.client == id.client) (id.line == id.line) (eq-eqb id.client id.client refl) (eq-eqb id.line id.line refl) in
    said-push id.client id.line story (wrote_event seat block id)
    ∙ ap (λ (b : Bool). times_said id.client id.line story + cond b 1 0) its

pub returns-clause-written : goal.returns-clause-written
returns-clause-written g c =
    let took = c.take-ledger.ensures in
    let story = c.take-ledger.result.0.story in
    let event : Event = wrote_event c.args.by c.args.block c.args.id in
    let told : c.note.new.self.story ≡ story ++ event ∷ [] = c.note.ensures.story ∙ ap (λ (l : List Event). l ++ event ∷ []) c.reserve_notes.ensures.story in
    let whole : seen_of c.give.new.seat ≡ story ++ event ∷ [] = c.give.ensures.seen ∙ told in
    let so : times_said c.args.id.client c.args.id.line story ≡ c.args.said = sym c.times_said.ensures ∙ c.if-times_said-said.false in
    record {
      before = story;
      begins = took.begins;
      as_said = so;
      story = whole;
      given = c.give.ensures.mine event (told ∙ ap (λ (l : List Event). l ++ event ∷ []) (sym took.seen)) ∙ ap (λ (l : List Event). l ++ event ∷ []) took.mine;
      now_said = ap (times_said c.args.id.client c.args.id.line) whole
          ∙ (said_once story c.args.by c.args.block c.args.id ∙ ap (λ (n : ℕ). n + 1) so);
    }

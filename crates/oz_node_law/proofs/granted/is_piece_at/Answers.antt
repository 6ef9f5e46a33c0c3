use Rattle.std.proofs.Common.{ℕ, ◌*◌, List, take, sym, ◌∙◌, ap}
use Rattle.oz_fields.specs.declared.block.TheConstants.{LONGEST_PIECE}
use Rattle.oz_core.specs.declared.event.Event.{Event}
use Rattle.oz_core.specs.Contents.{piece_number}
use Rattle.oz_node_law.proofs.Found.{false-true}
use Rattle.oz_node_law.proofs.Gave.{one_place}
use Rattle.oz_node_law.proofs.granted.is_piece_at.Goals as goal

pub returns-in-None : goal.returns-in-None
returns-in-None c = (λ h. false-true h, λ is. absurd (c.in-None.ensures is.before is.granted))

pub returns-in-Some : goal.returns-in-Some
returns-in-Some c =
    let before : List Event = take c.in-Some.place c.args.story.now in
    let granted = c.in-Some.ensures.1 in (
      λ h. record { before = before; granted = granted; place = c.is_first.ensures.0 h ∙ ap (λ (n : ℕ). LONGEST_PIECE * n) c.written.ensures },
      λ is. c.is_first.ensures.1 (is.place ∙ (ap (λ (b : List Event). LONGEST_PIECE * piece_number c.args.id b) (one_place c.args.id c.args.block c.args.story.now is.before before is.granted granted) ∙ ap (λ (n : ℕ). LONGEST_PIECE * n) (sym c.written.ensures))),
    )

use Rattle.std.proofs.Common.{ℕ, ◌<◌, List, length, take, get_or, Option, Some, None, if◌then◌else◌, sym, ◌∙◌, ap, subst}
use Rattle.std.specs.List.{filter_map}
use Rattle.std.specs.Option.{option_or}
use Rattle.oz_fields.specs.declared.block.Piece.{Piece}
use Rattle.oz_core.specs.Nodes.{is_block}
use Rattle.oz_core.specs.Stories.{first_in}
use Rattle.oz_node_law.proofs.Firsts.{first-told}
use Rattle.oz_node_law.proofs.lengths.length_in.Goals as goal

pub loop-piece-preserved : goal.loop-piece-preserved
loop-piece-preserved c =
    let h : Piece → Option ℕ = λ (piece : Piece). if is_block c.args.block piece.block then Some piece.length else None in
    let held : List Piece = c.args.node.now.held in
    let i = c.loop-piece.piece-index in
    let none : Piece = record { block = record { container = 0; local = 0 }; length = 0 } in
    let so_far : Option ℕ = first_in (filter_map h (take i held)) in
    c.or-length.ensures
    ∙ (ap (λ (o : Option ℕ). option_or o c.piece_length.result) c.loop-piece.invariant
    ∙ (ap (option_or so_far) (c.piece_length.ensures ∙ ap (λ (ps : List Piece). h (get_or ps i none)) c.items-piece-items.ensures)
    ∙ sym (first-told h held i none (subst (λ (ps : List Piece). i < length ps) c.items-piece-items.ensures c.loop-piece-test.true))))

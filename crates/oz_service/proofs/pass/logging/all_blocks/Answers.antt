use Rattle.std.proofs.Common.{◌≡◌, ◌+◌, ◌<◌, ℕ, List, [], ◌∷◌, ◌++◌, length, take, get_or, append-nil, sym, ◌∙◌, ap}
use Rattle.std.proofs.lemmas.Grind.{flat_map-append}
use Rattle.std.proofs.lemmas.List.{take_all, take_more}
use Rattle.oz_fields.specs.declared.block.Block.{Block}
use Rattle.oz_om.specs.Purging.{DeletedRow, blocks_in, blocks_of_all}
use Rattle.oz_service.proofs.pass.logging.all_blocks.Goals as goal

-- the blocks of one row more
blocks_more : (rows : List DeletedRow) (i : ℕ) (d : DeletedRow) → i < length rows
    → blocks_of_all (take (i + 1) rows) ≡ blocks_of_all (take i rows) ++ blocks_in (get_or rows i d)
blocks_more rows i d within =
    let row : DeletedRow = get_or rows i d in
    ap blocks_of_all (take_more rows i d within)
    ∙ (flat_map-append blocks_in (take i rows) (row ∷ []) ∙ ap (λ (l : List Block). blocks_of_all (take i rows) ++ l) (append-nil (blocks_in row)))

pub loop-row-preserved : goal.loop-row-preserved
loop-row-preserved c =
    let before : List Block = blocks_of_all (take c.loop-row.row-index c.args.rows.now) in
    c.in_ok-extend_from_slice.ensures.items
    ∙ (ap (λ (l : List Block). l ++ c.items.result.now) c.loop-row.invariant
    ∙ (ap (λ (l : List Block). before ++ l) (c.items.ensures ∙ ap blocks_in c.row-item.is)
    ∙ sym (blocks_more c.args.rows.now c.loop-row.row-index c.row-item.result c.loop-row-test.true)))

pub returns : goal.returns
returns c = c.loop-row.invariant ∙ ap blocks_of_all (take_all c.loop-row.row-index c.args.rows.now c.loop-row-test.false)

use Rattle.std.proofs.Common.{Bool, List, [], ◌++◌, cond, sym, ◌∙◌, ap}
use Rattle.std.specs.List.{flat_map}
use Rattle.oz_rows.specs.declared.operation.Change.{Change}
use Rattle.oz_rows.specs.declared.entry.RowEntry.{RowEntry}
use Rattle.oz_effects.specs.Effects.{moved}
use Rattle.oz_effects.specs.changes.Steps.{moved_but, has}
use Rattle.oz_effects.specs.changes.laws.PartEffects.{moved_parts, moved_told, renamed_told}
use Rattle.oz_effects.proofs.changes.moves.moves.Goals as goal

pub returns : goal.returns
returns c = λ all is is_later.
    let volume = c.args.volume.now in
    let bucket = c.args.bucket.now in
    let from = c.args.from in
    let to = c.args.to in
    let deleted : List RowEntry = c.args.deleted.now in
    let renamed : List RowEntry = c.args.renamed.now in
    let test = has c.in_ok-others.others in
    let give = λ (rows : List RowEntry). flat_map (λ (entry : RowEntry). moved_but test volume bucket from to entry.key entry.row) rows in
    let whole = λ (rows : List RowEntry). flat_map (λ (entry : RowEntry). moved all volume bucket from to entry.key entry.row) rows in
    let same = λ (rows : List RowEntry). moved_told all volume bucket test from to rows (λ local. c.in_ok-others.ensures local ∙ renamed_told all volume bucket renamed to local is_later) in
    c.in_ok-add_moves-2.ensures
    ∙ ap (λ (l : List Change). l ++ give renamed) (c.in_ok-add_moves.ensures ∙ ap (λ (l : List Change). l ++ give deleted) c.new-changes.ensures.items)
    ∙ ap (λ (l : List Change). l ++ give renamed) (same deleted)
    ∙ ap (λ (l : List Change). whole deleted ++ l) (same renamed)
    ∙ sym (moved_parts all volume bucket from to deleted renamed is is_later)
    ∙ sym (ap (λ (t : Bool). cond t [] (whole all)) c.requires)

use Rattle.std.proofs.Common.{◌≡◌, List, ◌++◌, take, sym, ◌∙◌, ap, arith}
use Rattle.std.specs.List.{flat_map}
use Rattle.std.proofs.lemmas.List.{take_all}
use Rattle.oz_rows.specs.declared.operation.Change.{Change}
use Rattle.oz_rows.specs.declared.entry.RowEntry.{RowEntry}
use Rattle.oz_effects.specs.Effects.{closed}
use Rattle.oz_effects.specs.changes.Steps.{freed_if, holds}
use Rattle.oz_effects.specs.changes.laws.PartEffects.{closed_part, freed_part, freed_told}
use Rattle.oz_effects.proofs.changes.closings.closings.Goals as goal

pub returns : goal.returns
returns c = λ all is told.
    let volume = c.args.volume.now in
    let bucket = c.args.bucket.now in
    let sessions : List RowEntry = c.args.sessions.now in
    let free = c.args.free.now in
    let gone_of = λ (rows : List RowEntry). flat_map (λ (entry : RowEntry). closed volume bucket entry.key) rows in
    let done : take c.loop-entry.entry-index sessions ≡ sessions = take_all c.loop-entry.entry-index sessions (omega arith) in
    c.in_ok-add_freed.ensures
    ∙ ap (λ (l : List Change). l ++ flat_map (λ (entry : RowEntry). freed_if (holds free) volume bucket entry.key entry.row) sessions) (c.loop-entry.invariant ∙ ap gone_of done ∙ sym (closed_part all sessions volume bucket is))
    ∙ ap (λ (l : List Change). gone_of all ++ l) (freed_told (holds free) all sessions volume bucket told ∙ sym (freed_part all sessions volume bucket is))

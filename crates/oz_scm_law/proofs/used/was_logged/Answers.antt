use Rattle.std.proofs.Common.{sym, ◌∙◌, ap, map, append-nil}
use Rattle.std.specs.List.{list_any}
use Rattle.oz_core.specs.declared.opening.Unretired.{Unretired}
use Rattle.oz_core.specs.Scm.{names_block}
use Rattle.oz_replay.specs.laws.Found.{any-map}
use Rattle.oz_scm_law.specs.Words.{block_at}
use Rattle.oz_scm_law.proofs.used.was_logged.Goals as goal

pub returns : goal.returns
returns c =
    let unretired = c.args.opening.now.unretired in
    let names = names_block (block_at c.args.container c.args.local) in
    c.any_unretired.ensures ∙ sym (any-map names (λ (it : Unretired). it.txn) unretired)
    ∙ ap (list_any names) (sym (append-nil (map (λ (it : Unretired). it.txn) unretired)))

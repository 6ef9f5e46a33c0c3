use Rattle.std.proofs.Common.{map, sym, ◌∙◌, subst}
use Rattle.std.specs.String.{string_bytes}
use Rattle.oz_host.specs.files.Words.{IsTransferWith}
use Rattle.oz_files.proofs.main.Goals as goal

pub serve-status-requires-clause-nodes : goal.serve-status-requires-clause-nodes
serve-status-requires-clause-nodes g c κs way path nodes workers it =
    c.in-Ok-disks_for.ensures.count way path nodes workers
    (subst (λ words. IsTransferWith (map string_bytes words) way path nodes workers) (c.deref-3.ensures.value ∙ sym c.deref-2.ensures.value) it)

use Rattle.std.proofs.Common.{map, sym, ◌∙◌, subst}
use Rattle.std.specs.String.{string_bytes}
use Rattle.oz_command.specs.command_line.Words.{IsRunWith}
use Rattle.oz_main.proofs.main.Goals as goal

pub serve-status-requires-clause-nodes : goal.serve-status-requires-clause-nodes
serve-status-requires-clause-nodes g c κs nodes workers run =
    c.in-Ok-disks_for.ensures.count nodes workers
    (subst (λ words. IsRunWith (map string_bytes words) nodes workers) (c.deref-3.ensures.value ∙ sym c.deref-2.ensures.value) run)

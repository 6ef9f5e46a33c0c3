use Rattle.std.proofs.Common.{rules, ℕ}
use Rattle.std.proofs.lemmas.Fn.{filter_same}
use Rattle.oz_datanode.specs.Datanode.{node_in}
use Rattle.oz_entries.specs.Node.{is_held}
use Rattle.oz_node_events.proofs.deleting.keep_held.Goals as goal

pub returns : goal.returns
returns g c =
    filter_same _ (λ (local : ℕ). is_held (node_in c.args.node.now) (record { container = c.args.container; local = local })) _ (λ x b f' k. search rules) _ _ c.retain.ensures.filtered

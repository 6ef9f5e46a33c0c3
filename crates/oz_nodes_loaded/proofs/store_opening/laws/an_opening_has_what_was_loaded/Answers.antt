use Rattle.std.proofs.Common.{Option, ◌∙◌, ap, false}
use Rattle.std.specs.Option.{option_map_or}
use Rattle.oz_core.specs.declared.opening.NodeOpening.{NodeOpening}
use Rattle.oz_core.specs.Nodes.{closes_at_opening, has_piece}
use Rattle.oz_datanode.specs.Datanode.{State as Datanode}
use Rattle.oz_kept.specs.reopened.Left.{greatest_in}
use Rattle.oz_nodes_loaded.specs.store_opening.Openings.{opened_node}
use Rattle.oz_nodes_loaded.specs.store_opening.laws.Containers.{containers_are}
use Rattle.oz_nodes_loaded.specs.store_opening.laws.Greatest.{greatest_as}
use Rattle.oz_nodes_loaded.specs.store_opening.laws.Held.{holds_as}
use Rattle.oz_nodes_loaded.specs.store_opening.laws.Named.{at_place, applied_listed, closed_as, length_is, replica_said}
use Rattle.oz_nodes_loaded.proofs.store_opening.laws.an_opening_has_what_was_loaded.Goals as goal

pub returns-clause-held : goal.returns-clause-held
returns-clause-held g c = λ unseated namespace made nodes dn node block at.
    ap (λ (o : Option NodeOpening). option_map_or (has_piece block) o false) (at_place (λ (n : Datanode g.row.D.Denot). opened_node n.blocks.held) nodes dn node at)
    ∙ holds_as node.blocks.held block

pub returns-clause-lengths : goal.returns-clause-lengths
returns-clause-lengths g c = λ node block. length_is node.blocks.held block

pub returns-clause-closed : goal.returns-clause-closed
returns-clause-closed g c = λ unseated namespace made nodes dn node container at.
    ap (λ (o : Option NodeOpening). option_map_or (closes_at_opening container) o false) (at_place (λ (n : Datanode g.row.D.Denot). opened_node n.blocks.held) nodes dn node at)
    ∙ closed_as node.blocks.held container

pub returns-clause-greatest : goal.returns-clause-greatest
returns-clause-greatest g c = λ unseated namespace made nodes dn node container at.
    ap (λ (o : Option NodeOpening). option_map_or (greatest_in container) o 0) (at_place (λ (n : Datanode g.row.D.Denot). opened_node n.blocks.held) nodes dn node at)
    ∙ greatest_as node.blocks.held container

pub returns-clause-containers : goal.returns-clause-containers
returns-clause-containers g c = λ unseated namespace made nodes number. containers_are made.containers number

pub returns-clause-replicas : goal.returns-clause-replicas
returns-clause-replicas g c = λ node replica among. replica_said node.blocks.held replica among

pub returns-clause-applied : goal.returns-clause-applied
returns-clause-applied g c = λ node container some. applied_listed node.blocks.held container some

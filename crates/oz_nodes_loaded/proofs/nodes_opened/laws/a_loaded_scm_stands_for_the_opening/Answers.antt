use Rattle.std.proofs.Common.{ℕ, refl, ◌∙◌, ap, true, replicate}
use Rattle.oz_world.specs.Disk.{seen}
use Rattle.oz_nodes_loaded.specs.store_opening.laws.Logs.{loaded_log_is_ordered}
use Rattle.oz_nodes_loaded.proofs.nodes_opened_lemmas.Deletions.{loaded_log_is}
use Rattle.oz_nodes_loaded.proofs.nodes_opened_lemmas.Nodes.{so_many}
use Rattle.oz_nodes_loaded.proofs.nodes_opened.laws.a_loaded_scm_stands_for_the_opening.Goals as goal

pub returns-clause-running : goal.returns-clause-running
returns-clause-running g c = λ given disk scm from. from.running

pub returns-clause-nodes : goal.returns-clause-nodes
returns-clause-nodes g c = λ disk scm disks nodes unseated namespace from are.
    from.nodes ∙ so_many (λ (d : g.row.D.Denot). seen (g.D.Disk.told d) (g.D.Disk.clock d) (g.D.Disk.image d) (g.D.Disk.faults d)) 0 disks nodes are

pub returns-clause-next : goal.returns-clause-next
returns-clause-next g c = λ scm nodes unseated namespace. refl

pub returns-clause-containers : goal.returns-clause-containers
returns-clause-containers g c = λ scm nodes unseated namespace. c.an_opening_has_what_was_loaded.ensures.containers unseated namespace scm.made nodes

pub returns-clause-up : goal.returns-clause-up
returns-clause-up g c = λ disk scm disks nodes unseated namespace from are.
    from.up ∙ ap (λ (n : ℕ). replicate n true) (so_many (λ (d : g.row.D.Denot). seen (g.D.Disk.told d) (g.D.Disk.clock d) (g.D.Disk.image d) (g.D.Disk.faults d)) 0 disks nodes are)

pub returns-clause-last : goal.returns-clause-last
returns-clause-last g c = λ scm nodes unseated namespace. refl

pub returns-clause-log : goal.returns-clause-log
returns-clause-log g c = λ scm nodes unseated namespace. refl

pub returns-clause-ordered : goal.returns-clause-ordered
returns-clause-ordered g c = λ disk scm disks nodes unseated namespace from are.
    loaded_log_is_ordered unseated namespace scm.made nodes
    (from.nodes ∙ so_many (λ (d : g.row.D.Denot). seen (g.D.Disk.told d) (g.D.Disk.clock d) (g.D.Disk.image d) (g.D.Disk.faults d)) 0 disks nodes are) from.ordered

pub returns-clause-deletions : goal.returns-clause-deletions
returns-clause-deletions g c = λ given disk scm nodes unseated namespace from. loaded_log_is unseated namespace scm.made nodes from.ordered

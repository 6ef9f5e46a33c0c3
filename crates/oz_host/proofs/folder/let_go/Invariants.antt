use Rattle.oz_host.proofs.folder.let_go.Given as goal

abbrev pub decreases-loop-nodes : goal.decreases-loop-nodes
decreases-loop-nodes g l = l.nodes.len

use Rattle.std.proofs.Common.{sym, ◌∙◌, subst}
use Rattle.oz_node_events.specs.declared.command.NodeCommand.{NodeCommand}
use Rattle.oz_node_events.specs.Led.{HasItDone}
use Rattle.oz_turn.specs.Seat.{seen_of}
use Rattle.oz_node_admin.proofs.Changed.{last_so, left_so, own_so, ran_so, wanted_as}
use Rattle.oz_node_admin.proofs.changing.change.Goals as goal

pub do_for-requires-clause-wanted : goal.do_for-requires-clause-wanted
do_for-requires-clause-wanted g c = wanted_as c.run_done.result c.args.runs c.run_done.ensures c.args.node.now.stopped c.requires.other

pub do_for-requires-clause-line : goal.do_for-requires-clause-line
do_for-requires-clause-line g c =
    λ coherent. subst (λ (d : NodeCommand). HasItDone g.O.Opened.script (seen_of c.args.seat.now) c.args.kept.now.dn d c.args.line.now) (sym c.run_done.ensures) (c.requires.line coherent)

pub returns-in-Ok-clause-node : goal.returns-in-Ok-clause-node
returns-in-Ok-clause-node g c =
    let D = g.D.Disk in
    ran_so c.run_done.result c.args.runs c.run_done.ensures D.told D.clock D.image D.faults g.O.Opened.coherent c.args.node.now c.do_for.new.node c.in-Ok.ensures.node

pub returns-in-Ok-clause-its : goal.returns-in-Ok-clause-its
returns-in-Ok-clause-its g c =
    let view = c.args.kept.now in
    c.in-Ok.ensures.mine ∙ own_so c.run_done.result c.args.runs c.run_done.ensures view.dn c.args.node.now.stopped view.mine c.requires.other

pub returns-in-Ok-clause-last : goal.returns-in-Ok-clause-last
returns-in-Ok-clause-last g c =
    c.in-Ok.ensures.last ∙ last_so c.run_done.result c.args.runs c.run_done.ensures c.args.node.now.stopped c.args.line.now c.args.kept.now.last c.requires.other

pub returns-in-Err-clause-left : goal.returns-in-Err-clause-left
returns-in-Err-clause-left g c =
    let D = g.D.Disk in
    let err = c.in-Err.ensures in
    left_so c.run_done.result c.args.runs c.run_done.ensures D.told D.clock D.image D.faults g.O.Opened.coherent c.args.node.now c.do_for.new.node c.args.line.now
    c.args.kept.now c.do_for.new.self c.in-Err._refusal err.node err.mine err.last

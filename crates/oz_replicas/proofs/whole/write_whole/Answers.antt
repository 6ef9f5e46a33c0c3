use Rattle.std.proofs.Common.{◌≡◌, Bool, not, ◌&&◌, Err, ◌∙◌, sym, ap, subst}
use Rattle.oz_datanode.specs.Datanode.{is_halted}
use Rattle.oz_replicas.specs.Nodes.{WriteGoes, unput_of}
use Rattle.oz_replicas.specs.declared.unput.Unput.{Unput}
use Rattle.oz_replicas.proofs.Giving.{gave_up}
use Rattle.oz_replicas.proofs.Staying.{idle_abandoned, stays_abandoned}
use Rattle.oz_replicas.proofs.whole.write_whole.Goals as goal

pub returns-clause-idle : goal.returns-clause-idle
returns-clause-idle g c = idle_abandoned c.args.block c.fill_and_put.new.node c.abandon.new.self c.fill_and_put.ensures.own c.abandon.ensures.abandons

pub returns-clause-goes : goal.returns-clause-goes
returns-clause-goes g c =
    let stays = stays_abandoned g.D.Disk.told g.D.Disk.clock g.D.Disk.image g.D.Disk.faults c.args.block c.fill_and_put.new.node c.abandon.new.self c.abandon.ensures.abandons c.abandon.ensures.pairs in
    let goes = gave_up g.D.Disk.told g.D.Disk.clock g.D.Disk.image g.D.Disk.faults c.args.block c.args.bytes.now (Unit {0}) (Unit {0}) c.in-Err.refusal c.args.node.now c.fill_and_put.new.node c.abandon.new.self c.in-Err.ensures.goes stays (ap g.D.Disk.told c.abandon.ensures.abandons.slots) (λ whole. c.halted-halted.ensures.pairs (c.halted-halted.ensures.halted ∙ whole)) in
    let before : c.halted-was_halted.result ≡ is_halted c.args.node.now = c.halted-was_halted.ensures.halted in
    let after : c.halted-halted.result ≡ is_halted c.abandon.new.self = c.halted-halted.ensures.halted in
    let same = c.unput.ensures ∙ (ap (λ (b : Bool). unput_of (not b && c.halted-halted.result) c.in-Err.refusal) before ∙ ap (λ (b : Bool). unput_of (not (is_halted c.args.node.now) && b) c.in-Err.refusal) after) in
    subst (λ (u : Unput). WriteGoes {T = Unit {0}} g.D.Disk.told g.D.Disk.clock g.D.Disk.image g.D.Disk.faults c.args.block c.args.bytes.now c.args.node.now c.abandon.new.self (Err u)) (sym same) goes

use Rattle.std.proofs.Common.{◌≡◌, true, false, Bor, Option, None, Some, option_copied, is_some, refl, sym, ap, ◌∙◌}
use Rattle.oz_block.specs.Blocks.{node_in as node_in_blocks}
use Rattle.oz_entries.specs.Node.{is_held}
use Rattle.oz_datanode.specs.Datanode.{is_halted}
use Rattle.oz_datanode.proofs.Calls.{IsInOrder, refused_holds}
use Rattle.oz_datanode.proofs.Joining.{let_go_holds}
use Rattle.oz_datanode.proofs.datanode.Datanode.put.Goals as goal

pub returns-in_err-check_running-clause-pairs : goal.returns-in_err-check_running-clause-pairs
returns-in_err-check_running-clause-pairs g c =
    let order : is_halted c.args.self.now ≡ false → IsInOrder g.D.Disk.told g.D.Disk.clock g.D.Disk.image g.D.Disk.faults c.args.self.now = rw (← c.self.view_is) c.self.invariant in
    λ contents content whole this holds. refused_holds g.D.Disk.told g.D.Disk.clock g.D.Disk.image g.D.Disk.faults contents c.args.block content c.args.self.now c.a_disk_stands_for_one_node.ensures.one_node (c.check_running.ensures.at_rest whole) (order whole) holds

pub returns-then-not-makes-clause-pairs : goal.returns-then-not-makes-clause-pairs
returns-then-not-makes-clause-pairs g c =
    let order : is_halted c.args.self.now ≡ false → IsInOrder g.D.Disk.told g.D.Disk.clock g.D.Disk.image g.D.Disk.faults c.args.self.now = rw (← c.self.view_is) c.self.invariant in
    λ contents content whole this holds. refused_holds g.D.Disk.told g.D.Disk.clock g.D.Disk.image g.D.Disk.faults contents c.args.block content c.args.self.now c.a_disk_stands_for_one_node.ensures.one_node (c.check_running.ensures.at_rest whole) (order whole) holds

pub returns-in_err-check_open-clause-pairs : goal.returns-in_err-check_open-clause-pairs
returns-in_err-check_open-clause-pairs g c =
    let order : is_halted c.args.self.now ≡ false → IsInOrder g.D.Disk.told g.D.Disk.clock g.D.Disk.image g.D.Disk.faults c.args.self.now = rw (← c.self.view_is) c.self.invariant in
    λ contents content whole this holds. refused_holds g.D.Disk.told g.D.Disk.clock g.D.Disk.image g.D.Disk.faults contents c.args.block content c.args.self.now c.a_disk_stands_for_one_node.ensures.one_node (c.check_running.ensures.at_rest whole) (order whole) holds

copied : {A : Type 0} (row : Option (Bor A)) → is_some (option_copied row) ≡ is_some row
copied None = refl
copied (Some row) = refl

pub returns-then-is_some-clause-pairs : goal.returns-then-is_some-clause-pairs
returns-then-is_some-clause-pairs g c =
    let held : is_held (node_in_blocks c.self.inside.blocks) c.args.block ≡ true = ap is_some (sym c.get.ensures) ∙ (copied c.get.result ∙ (sym c.is_some.ensures ∙ c.if-is_some.true)) in
    rw (← c.self.view_is) (λ contents content whole this holds. let_go_holds g.D.Disk.told g.D.Disk.clock g.D.Disk.image g.D.Disk.faults contents c.args.block content (record { id = c.self.inside.id; blocks = c.self.inside.blocks; shelf = c.self.inside.shelf; stopped = c.self.inside.stopped }) c.let_go.new.self held c.let_go.ensures.disk holds)

use Rattle.std.proofs.Common.{◌≡◌, false, ◌||◌, refl, sym, ap, ◌∙◌}
use Rattle.oz_datanode.specs.Datanode.{is_halted}
use Rattle.oz_datanode.specs.Pairs.{with_content}
use Rattle.oz_datanode.specs.Writing.{intact}
use Rattle.oz_datanode.proofs.Calls.{IsInOrder, still_holds}
use Rattle.oz_block.specs.Blocks.{node_in as node_in_blocks}
use Rattle.oz_block.specs.shelf.Written.{written_of, written_besides}
use Rattle.oz_block.specs.shelf.laws.Written.{none_left, besides_again}
use Rattle.oz_datanode.proofs.Joining.{cleared_holds, content_there}
use Rattle.oz_datanode.proofs.Refusing.{refused_ends, refused_node, on_err, on_ok, freed_again}
use Rattle.oz_datanode.proofs.datanode.Datanode.copy.Goals as goal

pub returns-in_err-check_running-clause-pairs : goal.returns-in_err-check_running-clause-pairs
returns-in_err-check_running-clause-pairs g c =
    let order : is_halted c.args.self.now ≡ false → IsInOrder g.D.Disk.told g.D.Disk.clock g.D.Disk.image g.D.Disk.faults c.args.self.now = rw (← c.self.view_is) c.self.invariant in
    λ contents whole holds. still_holds g.D.Disk.told g.D.Disk.clock g.D.Disk.image g.D.Disk.faults contents c.args.block (intact c.args.bytes.now) c.args.self.now c.args.self.now c.a_disk_stands_for_one_node.ensures.one_node (c.check_running.ensures.at_rest whole) (order whole) refl refl refl c.requires.absent holds

pub returns-in_err-check_there-clause-pairs : goal.returns-in_err-check_there-clause-pairs
returns-in_err-check_there-clause-pairs g c =
    let order : is_halted c.args.self.now ≡ false → IsInOrder g.D.Disk.told g.D.Disk.clock g.D.Disk.image g.D.Disk.faults c.args.self.now = rw (← c.self.view_is) c.self.invariant in
    λ contents whole holds. still_holds g.D.Disk.told g.D.Disk.clock g.D.Disk.image g.D.Disk.faults contents c.args.block (intact c.args.bytes.now) c.args.self.now c.args.self.now c.a_disk_stands_for_one_node.ensures.one_node (c.check_running.ensures.at_rest whole) (order whole) refl refl refl c.requires.absent holds

pub returns-then-is_err-clause-pairs : goal.returns-then-is_err-clause-pairs
returns-then-is_err-clause-pairs g c =
    let rest = rw (← c.self.view_is) at c.check_running.ensures.at_rest in
    let absent = rw (← c.self.view_is) at c.requires.absent in
    let pairs = rw (← c.self-2.view_is) at c.fill_and_keep-copied.ensures.pairs in
    rw (← c.self.view_is) (λ contents whole holds.
    let first = still_holds g.D.Disk.told g.D.Disk.clock g.D.Disk.image g.D.Disk.faults contents c.args.block (intact c.args.bytes.now) (record { id = c.self.inside.id; blocks = c.self.inside.blocks; shelf = c.self.inside.shelf; stopped = c.self.inside.stopped }) (record { id = c.self.inside.id; blocks = c.self.inside.blocks; shelf = c.self.inside.shelf; stopped = c.self.inside.stopped }) c.a_disk_stands_for_one_node.ensures.one_node (rest whole) (c.self.invariant whole) refl refl refl absent holds in
    let begun = cleared_holds g.D.Disk.told g.D.Disk.clock g.D.Disk.image g.D.Disk.faults (with_content c.args.block (intact c.args.bytes.now) contents) (record { id = c.self.inside.id; blocks = c.self.inside.blocks; shelf = c.self.inside.shelf; stopped = c.self.inside.stopped }) c.let_go.new.self c.let_go.ensures.disk first in
    cleared_holds g.D.Disk.told g.D.Disk.clock g.D.Disk.image g.D.Disk.faults (with_content c.args.block (intact c.args.bytes.now) contents) (record { id = c.self-2.inside.id; blocks = c.self-2.inside.blocks; shelf = c.self-2.inside.shelf; stopped = c.self-2.inside.stopped }) c.let_go-then-is_err.new.self c.let_go-then-is_err.ensures.disk (pairs (with_content c.args.block (intact c.args.bytes.now) contents) (content_there c.args.block contents (intact c.args.bytes.now)) begun))

pub returns-else-is_err-clause-pairs : goal.returns-else-is_err-clause-pairs
returns-else-is_err-clause-pairs g c =
    let rest = rw (← c.self.view_is) at c.check_running.ensures.at_rest in
    let absent = rw (← c.self.view_is) at c.requires.absent in
    rw (← c.self.view_is) (λ contents whole holds.
    let first = still_holds g.D.Disk.told g.D.Disk.clock g.D.Disk.image g.D.Disk.faults contents c.args.block (intact c.args.bytes.now) (record { id = c.self.inside.id; blocks = c.self.inside.blocks; shelf = c.self.inside.shelf; stopped = c.self.inside.stopped }) (record { id = c.self.inside.id; blocks = c.self.inside.blocks; shelf = c.self.inside.shelf; stopped = c.self.inside.stopped }) c.a_disk_stands_for_one_node.ensures.one_node (rest whole) (c.self.invariant whole) refl refl refl absent holds in
    let begun = cleared_holds g.D.Disk.told g.D.Disk.clock g.D.Disk.image g.D.Disk.faults (with_content c.args.block (intact c.args.bytes.now) contents) (record { id = c.self.inside.id; blocks = c.self.inside.blocks; shelf = c.self.inside.shelf; stopped = c.self.inside.stopped }) c.let_go.new.self c.let_go.ensures.disk first in
    c.fill_and_keep-copied.ensures.pairs (with_content c.args.block (intact c.args.bytes.now) contents) (content_there c.args.block contents (intact c.args.bytes.now)) begun)

pub fill_and_keep-copied-requires-clause-empty : goal.fill_and_keep-copied-requires-clause-empty
fill_and_keep-copied-requires-clause-empty g c = ap (written_of c.args.block) c.let_go.ensures.written ∙ none_left c.args.block c.self.inside.shelf.written

pub returns-then-is_err-clause-cleared : goal.returns-then-is_err-clause-cleared
returns-then-is_err-clause-cleared g c =
    let others = rw (← c.self-2.view_is) at c.fill_and_keep-copied.ensures.others in
    rw (← c.self.view_is) (λ runs there. c.let_go-then-is_err.ensures.written ∙ (others ∙ (ap (written_besides c.args.block) c.let_go.ensures.written ∙ besides_again c.args.block c.self.inside.shelf.written)))

pub returns-else-is_err-clause-cleared : goal.returns-else-is_err-clause-cleared
returns-else-is_err-clause-cleared g c =
    rw (← c.self.view_is) (λ runs there. on_ok c.fill_and_keep-copied.result (sym c.is_err.ensures.value ∙ c.if-is_err.false) c.fill_and_keep-copied.ensures.cleared ∙ (ap (written_besides c.args.block) c.let_go.ensures.written ∙ besides_again c.args.block c.self.inside.shelf.written))

pub returns-then-is_err-clause-goes : goal.returns-then-is_err-clause-goes
returns-then-is_err-clause-goes g c =
    let goes = rw (← c.self-2.view_is) at c.fill_and_keep-copied.ensures.goes in
    rw (← c.self.view_is) (λ runs there. refused_ends g.D.Disk.told g.D.Disk.clock g.D.Disk.image g.D.Disk.faults c.args.block c.args.bytes.now (record { id = c.self.inside.id; blocks = c.self.inside.blocks; shelf = c.self.inside.shelf; stopped = c.self.inside.stopped }) c.let_go.new.self (record { id = c.self-2.inside.id; blocks = c.self-2.inside.blocks; shelf = c.self-2.inside.shelf; stopped = c.self-2.inside.stopped }) c.let_go-then-is_err.new.self c.let_go.ensures.disk c.let_go.ensures.written c.let_go-then-is_err.ensures.disk c.let_go-then-is_err.ensures.failed c.fill_and_keep-copied.result (sym c.is_err.ensures.value ∙ c.if-is_err.true) goes)

pub returns-then-is_err-clause-freed : goal.returns-then-is_err-clause-freed
returns-then-is_err-clause-freed g c =
    let goes = rw (← c.self-2.view_is) at c.fill_and_keep-copied.ensures.goes in
    let others = rw (← c.self-2.view_is) at c.fill_and_keep-copied.ensures.others in
    let left = c.let_go-then-is_err.ensures.written ∙ (others ∙ (ap (written_besides c.args.block) c.let_go.ensures.written ∙ besides_again c.args.block c.self.inside.shelf.written)) in
    let same = refused_node g.D.Disk.told g.D.Disk.clock g.D.Disk.image g.D.Disk.faults c.args.block c.args.bytes.now (record { id = c.self.inside.id; blocks = c.self.inside.blocks; shelf = c.let_go.new.self; stopped = c.self.inside.stopped }) (record { id = c.self-2.inside.id; blocks = c.self-2.inside.blocks; shelf = c.self-2.inside.shelf; stopped = c.self-2.inside.stopped }) c.fill_and_keep-copied.result (sym c.is_err.ensures.value ∙ c.if-is_err.true) goes in
    rw (← c.self.view_is) (λ runs there whole. on_err c.fill_and_keep-copied.result (freed_again (node_in_blocks c.self.inside.blocks) (node_in_blocks c.self-2.inside.blocks) c.let_go-then-is_err.new.self _ (written_besides c.args.block c.self.inside.shelf.written) same left (c.let_go-then-is_err.ensures.rests _ (c.self-2.invariant (ap (λ b. c.self-2.inside.blocks.stopped || b) (sym c.let_go-then-is_err.ensures.failed) ∙ whole)))))

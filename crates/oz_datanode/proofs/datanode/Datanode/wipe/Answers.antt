use Rattle.std.proofs.Common.{◌≡◌, Bool, true, false, ◌||◌, refl}
use Rattle.oz_block.specs.Blocks.{node_in as node_in_blocks}
use Rattle.oz_datanode.proofs.Emptied.{rests_empty, pairs_wiped, stands_wiped}
use Rattle.oz_datanode.proofs.datanode.Datanode.wipe.Goals as goal

neither : (a b : Bool) → a ≡ false → b ≡ false → (a || b) ≡ false
neither true b one other = absurd cc
neither false true one other = absurd cc
neither false false one other = refl

pub invariant_of-self-2 : goal.invariant_of-self-2
invariant_of-self-2 g c = λ going. rests_empty (node_in_blocks c.wipe.new.self) c.wipe-2.new.self _ c.in-Ok.ensures.made c.in-Ok-wipe.ensures.free c.in-Ok-wipe.ensures.written

pub returns-clause-pairs : goal.returns-clause-pairs
returns-clause-pairs g c = λ contents.
    let at_rest = rw (← c.self.view_is) at c.halted.ensures.at_rest in
    pairs_wiped contents c.self.inside.blocks c.wipe.new.self _ _ _ _ c.in-Ok.ensures c.a_disk_stands_for_one_node.ensures.one_node (λ bytes is. (at_rest c.if-halted.false bytes is).0)

pub returns-clause-wipes : goal.returns-clause-wipes
returns-clause-wipes g c =
    let at_rest = rw (← c.self.view_is) at c.halted.ensures.at_rest in
    rw (← c.self.view_is) (λ going. record {
      ends = record {
        blocks = c.in-Ok.ensures;
        stands = stands_wiped c.self.inside.blocks c.wipe.new.self _ _ _ c.in-Ok.ensures (λ bytes is. (at_rest c.if-halted.false bytes is).0);
        shelf = c.in-Ok-wipe.ensures.empty;
        free = c.in-Ok-wipe.ensures.free;
        written = c.in-Ok-wipe.ensures.written;
        runs = neither c.wipe.new.self.stopped c.wipe-2.new.self.failed c.in-Ok.ensures.stops c.in-Ok-wipe.ensures.failed;
      };
      id = refl;
      line = refl;
    })

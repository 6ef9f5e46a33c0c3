use Rattle.std.proofs.Common.{sym, ◌∙◌}
use Rattle.oz_block.specs.Blocks.{node_in as node_in_blocks}
use Rattle.oz_datanode.specs.Steps.{is_in_use}
use Rattle.oz_datanode.proofs.Loaded.{moments_of, loadable_of}
use Rattle.oz_datanode.proofs.Lowest.{listed, past_only, past_in}
use Rattle.oz_datanode.proofs.Ranges.{in_use_parts}
use Rattle.oz_datanode.proofs.datanode.Datanode.load.Goals as goal

pub invariant_of-result : goal.invariant_of-result
invariant_of-result g c = λ running. c.in-Ok-load.ensures.rests (is_in_use (node_in_blocks c.in-Ok.blocks)) (listed (node_in_blocks c.in-Ok.blocks) _ _ c.deref.ensures.value c.in-Ok-used_slots.ensures.listed) (λ slot used. (in_use_parts (node_in_blocks c.in-Ok.blocks) slot used).1)

pub returns-clause-past : goal.returns-clause-past
returns-clause-past g c offset is = past_in (node_in_blocks c.in-Ok.blocks) _ _ c.deref.ensures.value c.in-Ok-used_slots.ensures.listed c.in-Ok-used_slots.ensures.only offset (g.D.Disk.told c.args.disks.meta) (g.D.Disk.told c.args.disks.slots) c.in-Ok.ensures.stands (c.in-Err-load.ensures.past offset (past_only _ offset (sym c.slot_fault.ensures ∙ is)))

pub returns-in_default-clause-meta_moments : goal.returns-in_default-clause-meta_moments
returns-in_default-clause-meta_moments g c = moments_of g.D.Disk.told g.D.Disk.clock g.D.Disk.image c.args.disks.meta c.in-Ok.blocks.disk c.into_disk-meta.result c.into_disk-meta.ensures c.in-Ok.ensures.moments

pub returns-clause-meta_moments : goal.returns-clause-meta_moments
returns-clause-meta_moments g c = moments_of g.D.Disk.told g.D.Disk.clock g.D.Disk.image c.args.disks.meta c.in-Ok.blocks.disk c.into_disk-meta-in-Err-load.result c.into_disk-meta-in-Err-load.ensures c.in-Ok.ensures.moments

pub returns-clause-loadable : goal.returns-clause-loadable
returns-clause-loadable g c = loadable_of g.D.Disk.told g.D.Disk.clock g.D.Disk.image c.args.disks.meta c.in-Ok.blocks.disk c.into_disk-meta-in-Err-load.result c.into_disk-meta-in-Err-load.ensures c.in-Ok.ensures.loadable

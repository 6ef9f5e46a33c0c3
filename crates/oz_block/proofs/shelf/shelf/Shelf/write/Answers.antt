use Rattle.std.proofs.Common.{◌≡◌, ℕ, List, length, filter, not, ap, ◌∙◌}
use Rattle.sha2.proofs.Facts256.{length-sha256}
use Rattle.oz_block.specs.declared.shelf.written.Written.{Written}
use Rattle.oz_block.specs.shelf.Written.{is_at, inserted, with_written}
use Rattle.oz_block.proofs.shelf_lemmas.Writing.{is_taken_now, write_kept, write_settled, write_rests, write_within}
use Rattle.oz_block.proofs.shelf.shelf.Shelf.write.Goals as goal

pub returns-in_default-write_bytes-clause-kept : goal.returns-in_default-write_bytes-clause-kept
returns-in_default-write_bytes-clause-kept g c = rw (← c.self.view_is, c.free.ensures.disk) (write_kept g.D.Disk.told g.D.Disk.clock g.D.Disk.image g.D.Disk.faults c.self.inside.slots.taken c.in-Ok-take.slot _ c.self.inside.slots.disk c.take.new.self.disk c.write_bytes.new.self.disk _ c.in-Ok-take.ensures.free.1 c.in-Ok-take.ensures.disk c.write_bytes.ensures.writes)

pub returns-in_default-write_bytes-clause-settled : goal.returns-in_default-write_bytes-clause-settled
returns-in_default-write_bytes-clause-settled g c = rw (← c.self.view_is, c.free.ensures.disk) (λ used rests. write_settled g.D.Disk.told g.D.Disk.clock g.D.Disk.image g.D.Disk.faults used _ c.in-Ok-take.slot _ c.self.inside.slots.disk c.take.new.self.disk c.write_bytes.new.self.disk _ rests c.in-Ok-take.ensures.free.1 c.in-Ok-take.ensures.disk c.write_bytes.ensures.writes c.write_bytes.ensures.others)

pub returns-clause-kept : goal.returns-clause-kept
returns-clause-kept g c = rw (← c.self.view_is, c.let_go.ensures.disk) (write_kept g.D.Disk.told g.D.Disk.clock g.D.Disk.image g.D.Disk.faults c.self.inside.slots.taken c.in-Ok-take.slot _ c.self.inside.slots.disk c.take.new.self.disk c.write_bytes.new.self.disk _ c.in-Ok-take.ensures.free.1 c.in-Ok-take.ensures.disk c.write_bytes.ensures.writes)

pub returns-clause-settled : goal.returns-clause-settled
returns-clause-settled g c = rw (← c.self.view_is, c.let_go.ensures.disk) (λ used rests. write_settled g.D.Disk.told g.D.Disk.clock g.D.Disk.image g.D.Disk.faults used _ c.in-Ok-take.slot _ c.self.inside.slots.disk c.take.new.self.disk c.write_bytes.new.self.disk _ rests c.in-Ok-take.ensures.free.1 c.in-Ok-take.ensures.disk c.write_bytes.ensures.writes c.write_bytes.ensures.others)

pub returns-clause-rests : goal.returns-clause-rests
returns-clause-rests g c =
    let one : Written = record { block = c.args.block; place = c.args.place; size = length c.args.bytes.now; chunk = record { slot = c.in-Ok-take.slot; digest = c.args.digest } } in
    let free = rw (c.reserve.ensures.items, c.write_bytes.ensures.taken) at c.let_go.ensures.free in
    let listed : c.add.new.written.items ≡ inserted (filter (λ other. not (is_at c.args.block c.args.place other)) c.self.inside.written.items) one = c.add.ensures.added ∙ ap (λ (l : List Written). inserted l one) (c.let_go.ensures.written ∙ ap (filter (λ other. not (is_at c.args.block c.args.place other))) c.reserve.ensures.items) in
    rw (← c.self.view_is) (λ used rests. write_rests g.D.Disk.told g.D.Disk.clock g.D.Disk.image g.D.Disk.faults used (is_at c.args.block c.args.place) one c.args.bytes.now (record { slots = c.self.inside.slots; written = c.self.inside.written.items; failed = c.self.inside.failed }) (record { slots = c.let_go.new.slots; written = c.add.new.written.items; failed = c.self.inside.failed }) c.self.inside.slots.disk c.take.new.self.disk c.write_bytes.new.self.disk c.let_go.new.slots.disk _
    rests c.in-Ok-take.ensures.free.0 c.in-Ok-take.ensures.free.1 (ap length c.requires.digest ∙ length-sha256 c.args.bytes.now) c.requires.most c.in-Ok-take.ensures.lowest (is_taken_now (is_at c.args.block c.args.place) c.self.inside.written.items c.in-Ok-take.slot c.self.inside.slots.taken c.take.new.self.taken c.let_go.new.slots.taken c.in-Ok-take.ensures.taken free) listed c.in-Ok-take.ensures.disk c.let_go.ensures.disk c.in-Ok-write_bytes.ensures.writes c.in-Ok-write_bytes.ensures.others)

pub returns-clause-written : goal.returns-clause-written
returns-clause-written g c =
    let one : List ℕ → Written = λ digest. record { block = c.args.block; place = c.args.place; size = length c.args.bytes.now; chunk = record { slot = c.in-Ok-take.slot; digest = digest } } in
    let free = rw (c.reserve.ensures.items, c.write_bytes.ensures.taken) at c.let_go.ensures.free in
    let within = rw (← c.self.view_is) at c.requires.within in
    let both = write_within g.D.Disk.told g.D.Disk.clock g.D.Disk.image g.D.Disk.faults (record { slots = c.self.inside.slots; written = c.self.inside.written.items; failed = c.self.inside.failed }) c.in-Ok-take.slot c.args.bytes.now c.self.inside.slots.disk c.take.new.self.disk c.write_bytes.new.self.disk c.let_go.new.slots.disk _ within c.requires.most c.in-Ok-take.ensures.lowest c.in-Ok-take.ensures.disk c.let_go.ensures.disk c.in-Ok-write_bytes.ensures.writes in
    rw (← c.self.view_is) (record {
      slot = c.in-Ok-take.slot;
      there = c.in-Ok-take.ensures.free.0;
      free = c.in-Ok-take.ensures.free.1;
      lowest = c.in-Ok-take.ensures.lowest;
      listed =
          c.add.ensures.added
          ∙ (ap (λ (l : List Written). inserted l (one c.args.digest)) (c.let_go.ensures.written ∙ ap (filter (λ other. not (is_at c.args.block c.args.place other))) c.reserve.ensures.items)
          ∙ ap (λ (d : List ℕ). with_written c.self.inside.written.items (one d)) c.requires.digest);
      taken = is_taken_now (is_at c.args.block c.args.place) c.self.inside.written.items c.in-Ok-take.slot c.self.inside.slots.taken c.take.new.self.taken c.let_go.new.slots.taken c.in-Ok-take.ensures.taken free;
      within = both.0;
      stands = both.1;
    })

use Rattle.std.proofs.Common.{refl}
use Rattle.oz_block.specs.shelf.Written.{is_of}
use Rattle.oz_block.proofs.shelf_lemmas.Editing.{forgot_is}
use Rattle.oz_block.proofs.shelf.shelf.Shelf.forget.Goals as goal

pub returns-clause-rests : goal.returns-clause-rests
returns-clause-rests g c =
    rw (← c.self.view_is) (λ used later more rests settled. forgot_is g.D.Disk.told g.D.Disk.clock g.D.Disk.image g.D.Disk.faults used later (is_of c.args.block) (record { slots = c.self.inside.slots; written = c.self.inside.written.items; failed = c.self.inside.failed }) (record { slots = c.self.inside.slots; written = c.take_out.new.written.items; failed = c.self.inside.failed }) more rests settled refl c.take_out.ensures.written)

use Rattle.oz_block.specs.shelf.Written.{is_of}
use Rattle.oz_block.proofs.shelf_lemmas.Editing.{let_go_is}
use Rattle.oz_block.proofs.shelf.shelf.Shelf.let_go.Goals as goal

pub returns-clause-rests : goal.returns-clause-rests
returns-clause-rests g c =
    rw (← c.self.view_is) (λ used rests. let_go_is g.D.Disk.told g.D.Disk.clock g.D.Disk.image g.D.Disk.faults used (is_of c.args.block) (record { slots = c.self.inside.slots; written = c.self.inside.written.items; failed = c.self.inside.failed }) (record { slots = c.let_go.new.slots; written = c.let_go.new.written.items; failed = c.self.inside.failed }) rests c.let_go.ensures.free c.let_go.ensures.written c.let_go.ensures.disk)

pub returns-clause-free : goal.returns-clause-free
returns-clause-free g c = rw (← c.self.view_is) c.let_go.ensures.free

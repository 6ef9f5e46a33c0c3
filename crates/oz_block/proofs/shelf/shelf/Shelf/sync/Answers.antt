use Rattle.std.proofs.Common.{refl}
use Rattle.oz_block.proofs.shelf_lemmas.Resting.{sync_rests}
use Rattle.oz_block.proofs.shelf.shelf.Shelf.sync.Goals as goal

pub returns-in_default-clause-rests : goal.returns-in_default-clause-rests
returns-in_default-clause-rests g c = rw (← c.self.view_is) (λ used rests. sync_rests used (record { slots = c.self.inside.slots; written = c.self.inside.written.items; failed = c.self.inside.failed }) _ _ _ _ rests c.sync.ensures.synced c.sync.ensures.taken refl)

pub returns-clause-rests : goal.returns-clause-rests
returns-clause-rests g c = rw (← c.self.view_is) (λ used rests. sync_rests used (record { slots = c.self.inside.slots; written = c.self.inside.written.items; failed = c.self.inside.failed }) _ _ _ _ rests c.sync.ensures.synced c.sync.ensures.taken refl)

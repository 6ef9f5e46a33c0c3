use Rattle.oz_block.proofs.shelf_lemmas.Resting.{load_rests}
use Rattle.oz_block.proofs.shelf.shelf.Shelf.load.Goals as goal

pub returns-in-Ok-clause-rests : goal.returns-in-Ok-clause-rests
returns-in-Ok-clause-rests g c used is_held below = load_rests used _ _ (g.D.Disk.told c.args.disk) c.args.held.now c.new.ensures.items c.in-Ok.ensures.taken is_held below c.in-Ok.ensures.within c.in-Ok.ensures.contents c.in-Ok.ensures.stable

-- That the nodes on which a drain's answer rests gave nothing more.
use Rattle.std.specs.Prelude.{◌≡◌, List}
use Rattle.oz_core.specs.declared.event.Event.{Event}
use Rattle.oz_core.specs.declared.opening.Opening.{Opening}
use Rattle.oz_core.specs.Seats.{flusher_seat}
use Rattle.oz_core.specs.Stories.{mine}
use Rattle.oz_repl.specs.views.Still.{GaveNothing}

-- neither the flusher, nor the storage container manager, nor a datanode gave an event behind the place
pub record AllGaveNothing (opening : Opening) (place story : List Event) : Type 0 where
  pub flusher : mine flusher_seat story ≡ mine flusher_seat place
  pub others : GaveNothing opening place story

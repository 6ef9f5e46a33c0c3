-- Who gave nothing behind a place of a story.
use Rattle.std.specs.Prelude.{◌≡◌, ℕ, ◌<◌, List, length}
use Rattle.oz_core.specs.declared.event.Event.{Event}
use Rattle.oz_core.specs.declared.opening.Opening.{Opening}
use Rattle.oz_core.specs.Seats.{datanode_seat, scm_seat}
use Rattle.oz_core.specs.Stories.{mine}

-- the storage container manager and the datanodes gave no event behind the place
pub record GaveNothing (opening : Opening) (place story : List Event) : Type 0 where
  pub scm : mine scm_seat story ≡ mine scm_seat place
  pub nodes : (dn : ℕ) → dn < length opening.nodes → mine (datanode_seat dn) story ≡ mine (datanode_seat dn) place

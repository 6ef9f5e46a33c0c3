-- Datanodes that have halted, and how the storage container manager takes them for down.
use Rattle.std.specs.Prelude.{◌≢◌, ℕ, ◌<◌, Bool, false, ◌&&◌, List, None, is_some}
use Rattle.oz_core.specs.declared.event.Event.{Event}
use Rattle.oz_core.specs.declared.event.Node.TheVariants.{Datanode}
use Rattle.oz_core.specs.Manager.{halt_of}
use Rattle.oz_core.specs.Scm.{is_up}
use Rattle.oz_node_admin.specs.Commands.{HasBeen}

-- a datanode has halted, and is still taken for up
abbrev pub is_left_up : ℕ → List Event → Bool
is_left_up dn story = is_some (halt_of (Datanode dn) story) && is_up dn story

-- Each of the first datanodes that had halted before neither ran nor was up at a place since, in the story.
abbrev pub AreDown : Type 0 → ℕ → List Event → List Event → Type 0
AreDown Coherent count before story =
    (dn : ℕ) → dn < count → halt_of (Datanode dn) before ≢ None → HasBeen Coherent dn false before story

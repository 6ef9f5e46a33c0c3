-- What a view of a container has to do with a story: it is what the story has of the container at one place.
use Rattle.std.specs.Prelude.{◌≡◌, ◌↔◌, ℕ, true, List, Some, Contains, map}
use Rattle.std.specs.List.{AllZip}
use Rattle.std.specs.FinMap.{get}
use Rattle.oz_fields.specs.declared.block.Block.{Block}
use Rattle.oz_core.specs.declared.event.Event.{Event}
use Rattle.oz_core.specs.declared.opening.Container.{Container}
use Rattle.oz_core.specs.declared.opening.Opening.{Opening}
use Rattle.oz_core.specs.Nodes.{holds, is_closed}
use Rattle.oz_core.specs.Scm.{containers, is_logged, is_up, members}
use Rattle.oz_repl.specs.declared.repl.view.View.{View}

-- a block of a container by its local id
abbrev pub block_in : ℕ → ℕ → Block
block_in number local = record { container = number; local = local }

-- these are the blocks of the container that a datanode holds, if it is up
abbrev pub AreHeldIfUp : Opening → List Event → ℕ → ℕ → List ℕ → Type 0
AreHeldIfUp opening story number dn locals =
    is_up dn story ≡ true → (local : ℕ) → Contains locals local ↔ (holds opening story dn (block_in number local) ≡ true)

-- The view is of the container with this number. Of members that are down it may show any blocks, and as logged no more
-- than what is, and all of that which a member that is up holds.
pub record IsViewOf (opening : Opening) (story : List Event) (number : ℕ) (view : View) : Type 0 where
  pub container : Container
  pub made : get (containers opening story) number ≡ Some container
  pub state : view.state ≡ container.state
  pub members : view.members ≡ members opening story number
  pub up : view.up ≡ map (λ dn. is_up dn story) view.members
  pub closed : view.closed ≡ map (λ dn. is_closed opening story dn number) view.members
  pub held : AllZip (AreHeldIfUp opening story number) view.members view.held
  pub logged : (local : ℕ) → Contains view.logged local → is_logged opening story (block_in number local) ≡ true
  pub all_logged : (dn local : ℕ) → Contains view.members dn → is_up dn story ≡ true
      → holds opening story dn (block_in number local) ≡ true
      → is_logged opening story (block_in number local) ≡ true → Contains view.logged local

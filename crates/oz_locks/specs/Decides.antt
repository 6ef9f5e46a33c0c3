-- How a stripe's seat adds a Decide or a PurgeAsk to the story.
use Rattle.std.specs.Prelude.{◌≡◌, ℕ, List, [], ◌∷◌, ◌++◌, Option}
use Rattle.oz_core.specs.declared.event.Event.{Event}
use Rattle.oz_core.specs.declared.event.EventKind.TheVariants.{Decide, PurgeAsk}
use Rattle.oz_core.specs.Manager.{block_of_reply}
use Rattle.oz_core.specs.Seats.{stripe_seat}
use Rattle.oz_fields.specs.declared.block.Block.{Block}
use Rattle.oz_requests.specs.declared.request.AskId.{AskId}
use Rattle.oz_requests.specs.declared.reply.Reply.{Reply}
use Rattle.oz_locks.specs.declared.pins.Pin.{Pin}
use Rattle.oz_locks.specs.Pins.{pins_for}
use Rattle.oz_locks.specs.Stripe.{StripeView}

-- The story goes on from what the stripe's seat has seen by a Decide of the stripe with this index and batch, whose reply grants
-- this block and names the blocks of these pins to its line.
pub record AddsDecide {T : Type 0} (s : StripeView T) (story : List Event) (index : ℕ) (batch : List ℕ)
    (granted : Option Block) (named : List Pin) : Type 0 where
  pub id : AskId
  pub reply : Reply
  pub adds : story ≡ s.seen ++ record { seat = stripe_seat s.number; kind = Decide id index reply batch } ∷ []
  pub grants : granted ≡ block_of_reply reply
  pub names : named ≡ pins_for id reply

-- The story goes on by a PurgeAsk of the stripe for these blocks.
abbrev pub AddsPurgeAsk : {T : Type 0} → StripeView T → List Event → List Block → Type 0
AddsPurgeAsk s story blocks = story ≡ s.seen ++ record { seat = stripe_seat s.number; kind = PurgeAsk blocks } ∷ []

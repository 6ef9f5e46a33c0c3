-- The blocks that a stripe's Decides named to lines, for as long as these work with them.
use Rattle.std.specs.Prelude.{◌≡◌, false, not, List, [], filter, map, Contains}
use Rattle.std.specs.List.{flat_map}
use Rattle.oz_core.specs.declared.event.Event.{Event}
use Rattle.oz_core.specs.declared.event.EventKind.{EventKind}
use Rattle.oz_core.specs.declared.event.EventKind.TheVariants.{Decide}
use Rattle.oz_core.specs.Asks.{is_told}
use Rattle.oz_core.specs.Manager.{named_by}
use Rattle.oz_fields.specs.declared.block.Block.{Block}
use Rattle.oz_requests.specs.declared.request.AskId.{AskId}
use Rattle.oz_requests.specs.declared.reply.Reply.{Reply}
use Rattle.oz_locks.specs.declared.pins.Pin.{Pin}

-- a pin for each block that a reply names to a line
abbrev pub pins_for : AskId → Reply → List Pin
pins_for id reply = map (λ block. record { block = block; client = id.client; line = id.line }) (named_by reply)

abbrev pub pins_in : EventKind → List Pin
pins_in (Decide id index reply batch) = pins_for id reply
pins_in _ = []

abbrev pub pins_of : List Event → List Pin
pins_of events = flat_map (λ (event : Event). pins_in event.kind) events

-- Each block that its own Decides named is pinned, unless its line's Told was seen.
abbrev pub ArePinned : List Event → List Event → List Pin → Type 0
ArePinned seen mine pins =
    (pin : Pin) → Contains (pins_of mine) pin → is_told pin.client pin.line seen ≡ false → Contains pins pin

-- Each pin is of a block that its own Decides named.
abbrev pub AreNamed : List Event → List Pin → Type 0
AreNamed mine pins = (pin : Pin) → Contains pins pin → Contains (pins_of mine) pin

-- the pins of lines that aren't told
abbrev pub untold : List Event → List Pin → List Pin
untold seen pins = filter (λ (pin : Pin). not (is_told pin.client pin.line seen)) pins

-- the blocks that are pinned
abbrev pub pinned_blocks : List Pin → List Block
pinned_blocks pins = map (λ (pin : Pin). pin.block) pins

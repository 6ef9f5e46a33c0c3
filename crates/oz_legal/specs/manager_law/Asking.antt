-- Words for private calls: what one event tells of a line's asks, and of a row that is to go.
use Rattle.std.specs.Prelude.{◌≡◌, ℕ, Bool, true, false, ◌&&◌, ◌==◌, List}
use Rattle.std.specs.Prelude.{None, is_none, if◌then◌else◌}
use Rattle.std.specs.List.{list_all, list_any}
use Rattle.oz_fields.specs.declared.block.Block.{Block}
use Rattle.oz_requests.specs.declared.request.AskId.{AskId}
use Rattle.oz_core.specs.declared.event.Event.{Event}
use Rattle.oz_core.specs.declared.event.EventKind.{EventKind}
use Rattle.oz_core.specs.declared.event.EventKind.TheVariants.{Ask, PurgeAsk}
use Rattle.oz_core.specs.Asks.{asks, is_of_line, pending}
use Rattle.oz_core.specs.Scm.{is_in_logs, logged}
use Rattle.oz_core.specs.Seats.{stripe_seat}
use Rattle.oz_core.specs.Stories.{all_told}

-- what the line asked here isn't pending
abbrev pub is_decided : ℕ → ℕ → List Event → EventKind → Bool
is_decided client line story (Ask id request) = if is_of_line client line id then is_none (pending id story) else true
is_decided client line story _ = true

-- nothing that the line asked is
abbrev pub AreDecided : ℕ → ℕ → List Event → Type 0
AreDecided client line story = (earlier : AskId) → is_of_line client line earlier ≡ true → pending earlier story ≡ None

-- a PurgeAsk of a block with this local id, all blocks of which are logged; and one that a stripe gave
abbrev pub purges_local : List Event → ℕ → EventKind → Bool
purges_local story local (PurgeAsk blocks) =
    list_any (λ (block : Block). block.local == local) blocks
    && list_all (λ (block : Block). is_in_logs (all_told logged story) block) blocks
purges_local story local _ = false

abbrev pub lets_go : List Event → ℕ → ℕ → Event → Bool
lets_go story stripe local event = event.seat == stripe_seat stripe && purges_local story local event.kind

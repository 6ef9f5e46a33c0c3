-- Why members give no bytes of a block for an ask.
use Rattle.std.specs.Prelude.{◌≡◌, ℕ, Bool, true, false, List, [], ◌∷◌, Option, None, Some, Contains, if◌then◌else◌}
use Rattle.std.specs.List.{filter_map}
use Rattle.oz_core.specs.declared.event.Event.{Event}
use Rattle.oz_core.specs.Nodes.{doubts}
use Rattle.oz_core.specs.Stories.{has_event}
use Rattle.oz_fields.specs.declared.block.Block.{Block}
use Rattle.oz_replicas.specs.declared.note.Note.{Note}
use Rattle.oz_requests.specs.declared.request.AskId.{AskId}
use Rattle.oz_asker.specs.declared.telling.still.Still.{Still}
use Rattle.oz_asker.specs.declared.telling.still.Still.TheVariants as rests
use Rattle.oz_line_blocks.specs.declared.reading.lack.Doubted.{Doubted}
use Rattle.oz_line_blocks.specs.declared.reading.lack.Lack.{Lack}
use Rattle.oz_line_blocks.specs.declared.reading.lack.Lack.TheVariants as lacking

-- A datanode has refused the block for the ask, or told for it that it is bad: since its event stands in the story that
-- stays so, and the datanode isn't intact for the ask whatever comes.
abbrev pub IsDoubted : List Event → AskId → Block → ℕ → Type 0
IsDoubted story id block dn = has_event (doubts dn block id) story ≡ true

-- so have these
abbrev pub AreDoubted : List Event → AskId → Block → Doubted → Type 0
AreDoubted story id block doubted = (dn : ℕ) → Contains doubted.dns (Some dn) → IsDoubted story id block dn

-- a member is asked unless it was doubted before
abbrev pub IsAsked : Doubted → ℕ → Type 0
IsAsked doubted dn = Contains doubted.dns (Some dn) → ⊥

abbrev pub none_doubted : Doubted
none_doubted = record { dns = None ∷ None ∷ None ∷ [] }

-- the member that was doubted; what is to stay as it is so that it gives none
abbrev pub doubted_in : Lack → Option ℕ
doubted_in (lacking.Doubted dn) = Some dn
doubted_in (lacking.Absent still) = None

abbrev pub still_in : Lack → Option Still
still_in (lacking.Doubted dn) = None
still_in (lacking.Absent still) = Some still

abbrev pub stills_in : List Lack → List Still
stills_in all = filter_map still_in all

-- something was noted
abbrev pub has_notes : List Note → Bool
has_notes [] = false
has_notes (note ∷ notes) = true

-- A member that told why it gave none is doubted. One that told nothing hasn't the block, unless it comes to have it
-- behind this place.
abbrev pub lack_of : ℕ → Block → Bool → ℕ → Lack
lack_of dn block told place = if told then lacking.Doubted dn else lacking.Absent (rests.Without dn block place)

-- What all stripes' rows are together: the rows of the store, at each place of a story.
use Rattle.std.specs.Prelude.{◌≡◌, ◌≢◌, ℕ, ◌<◌, nat_lt, List, [], ◌∷◌, ◌++◌, None, if◌then◌else◌}
use Rattle.oz_core.specs.declared.event.Event.{Event}
use Rattle.oz_core.specs.declared.event.EventKind.{EventKind}
use Rattle.oz_core.specs.declared.event.EventKind.TheVariants.{Decide}
use Rattle.oz_core.specs.declared.opening.Opening.{Opening}
use Rattle.oz_core.specs.Manager.{namespace_of}
use Rattle.oz_decision.specs.Meets.{Stand}
use Rattle.oz_effects.specs.Batches.{IsBatchOf}
use Rattle.oz_names.specs.declared.limits.TheConstants.{STRIPES}
use Rattle.oz_owned.specs.Stood.{StandAt}
use Rattle.oz_rows.specs.declared.operation.Change.{Change}
use Rattle.oz_rows.specs.declared.operation.TheConstants.{END_OF_INDEXES}
use Rattle.oz_rows.specs.RowMaps.{Rows, after_changes}
use Rattle.oz_sound.specs.Sound.{IsSound}
use Rattle.oz_sound.specs.stripes.Stripes.{only, stripe_of_key}

-- the rows of the sixteen stripes: each is that of its own stripe
abbrev pub together : (ℕ → Rows) → Rows
together rows key = if nat_lt (stripe_of_key key) STRIPES then rows (stripe_of_key key) key else None

-- All rows are sound and stand for the namespace of the story up to a place, and of each stripe those among them stand
-- there.
pub record StandTogether (opening : Opening) (loaded : Rows) (seen : List Event) (all : Rows) : Type 0 where
  pub whole : Stand IsSound all (namespace_of opening seen)
  pub parts : (stripe : ℕ) → stripe < STRIPES → StandAt opening loaded stripe seen (only stripe all)

-- a batch leads from rows to rows
pub record LeadsOn (rows : Rows) (batch : List ℕ) (next : Rows) : Type 0 where
  pub changes : List Change
  pub batch_of : IsBatchOf rows batch changes
  pub leads : next ≡ after_changes changes rows

-- What an event makes of all rows: a Decide what its batch makes, at an index that a body may have; any other event
-- nothing.
abbrev pub Makes : Rows → EventKind → Rows → Type 0
Makes rows (Decide id index reply batch) next = LeadsOn rows batch next × (batch ≢ [] → index < END_OF_INDEXES)
Makes rows kind next = next ≡ rows

-- From these rows on, behind these events, all rows stood at each place of the rest of the story, up to these.
unfoldable pub AllStoodFrom : Opening → Rows → List Event → Rows → List Event → Rows → Type 0
AllStoodFrom opening loaded before rows [] last = StandTogether opening loaded before rows × (last ≡ rows)
AllStoodFrom opening loaded before rows (event ∷ story) last =
    StandTogether opening loaded before rows
    × ((next : Rows) × Makes rows event.kind next
    × AllStoodFrom opening loaded (before ++ event ∷ []) next story last)

-- so did those that were loaded
abbrev pub AllStood : Opening → Rows → List Event → Rows → Type 0
AllStood opening loaded story last = AllStoodFrom opening loaded [] loaded story last

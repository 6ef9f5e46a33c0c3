-- What the bodies that a story took stand for, and what is decided behind them.
use Rattle.std.specs.Prelude.{◌≡◌, ℕ, ◌≤◌, List, [], ◌++◌, None, Contains}
use Rattle.std.specs.List.{AllByRecursion}
use Rattle.oz_buffer.specs.Buffer.{buffer_of}
use Rattle.oz_core.specs.declared.event.Event.{Event}
use Rattle.oz_core.specs.declared.event.EventKind.TheVariants.{Flushed}
use Rattle.oz_core.specs.declared.opening.Opening.{Opening}
use Rattle.oz_core.specs.Manager.{kept_up_to, last_index, taken_index}
use Rattle.oz_decision.specs.Meets.{Stand}
use Rattle.oz_effects.specs.Build.{Builds}
use Rattle.oz_journal.specs.Grammar.{IsJournal}
use Rattle.oz_rows.specs.declared.entry.RowEntry.{RowEntry}
use Rattle.oz_rows.specs.RowMaps.{Rows, row_of}
use Rattle.oz_sound.specs.Sound.{IsSound}
use Rattle.oz_headline.specs.restored.Together.{AllStood, LeadsOn}

-- none of these events is a Swap
abbrev pub NoneTakes : List Event → Type 0
NoneTakes story = AllByRecursion (λ (event : Event). taken_index event.kind ≡ None) story

-- The story up to its last Swap, or none of it, and all rows there: what was decided since leads on to these rows.
pub record IsSinceSwap (opening : Opening) (loaded : Rows) (story : List Event) (now : Rows) : Type 0 where
  pub front : List Event
  pub more : List Event
  pub parts : story ≡ front ++ more
  pub all_taken : buffer_of front ≡ []
  pub none_takes : NoneTakes more
  pub taken : Rows
  pub stood : AllStood opening loaded front taken
  pub leads : LeadsOn taken (buffer_of story) now

-- Bodies make rows that stand for the namespace after the Decides up to an index, which is the last of the bodies.
pub record StandUpTo (opening : Opening) (story : List Event) (bodies : List (List ℕ)) (most : ℕ) : Type 0 where
  pub all : List RowEntry
  pub builds : Builds bodies all most
  pub stand : Stand IsSound (row_of all) (kept_up_to opening most story)

-- Bytes that a stop at a moment leaves are such a journal. Its index isn't below that of the opening, nor below any
-- that was stable by then; and it isn't above the last that was decided.
pub record OpensUpTo (opening : Opening) (story : List Event) (moment : ℕ) (left : List ℕ) : Type 0 where
  pub bodies : List (List ℕ)
  pub journal : IsJournal left bodies
  pub most : ℕ
  pub stand : StandUpTo opening story bodies most
  pub opened : opening.last_index ≤ most
  pub stable : (seat index at : ℕ) → Contains story (record { seat = seat; kind = Flushed index at })
      → at ≤ moment → index ≤ most
  pub decided : most ≤ last_index opening story

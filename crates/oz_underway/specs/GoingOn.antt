-- Stories that go on from what was seen.
use Rattle.std.specs.Prelude.{List, []}
use Rattle.oz_script.specs.declared.lines.script.Script.{Script}
use Rattle.oz_core.specs.declared.event.Event.{Event}
use Rattle.oz_core.specs.declared.opening.Opening.{Opening}
use Rattle.oz_core.specs.Contents.{OpeningBytes}
use Rattle.oz_buffer.specs.Buffer.{AllFollow, Follows}
use Rattle.oz_turn.specs.Told.{BeginsWith}

module _ (Coherent : Type 0) (opening : Opening) (bytes : OpeningBytes) (script : Script) where
  -- so it is in each story that goes on from what was seen, and in which each event follows
  abbrev pub FromHereOn : List Event → (List Event → Type 0) → Type 0
  FromHereOn seen Holds =
      (story : List Event) → BeginsWith story seen → AllFollow (Follows Coherent opening bytes script) [] story
      → Holds story

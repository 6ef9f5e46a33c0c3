-- What the answer of a transfer's line means, where the store that it began with is coherent.
use Rattle.std.specs.Prelude.{◌≡◌, ℕ, List, ◌∷◌, ◌++◌, length, slice_get, Some}
use Rattle.oz_cluster.specs.declared.files.words.Way.{Way}
use Rattle.oz_cluster.specs.declared.files.words.Way.TheVariants.{Put, Get}
use Rattle.oz_cluster.specs.files.Asked.{line_for, script_for}
use Rattle.oz_command.specs.declared.paths.KeyPath.{KeyPath}
use Rattle.oz_command.specs.Payload.{piece}
use Rattle.oz_core.specs.declared.event.Event.{Event}
use Rattle.oz_core.specs.declared.event.EventKind.TheVariants.{Told}
use Rattle.oz_core.specs.declared.opening.Opening.{Opening}
use Rattle.oz_core.specs.Contents.{HasContent, OpeningBytes, written_for}
use Rattle.oz_core.specs.Due.{IsDone, IsDue}
use Rattle.oz_fields.specs.declared.block.Block.{Block}
use Rattle.oz_core.specs.Steps.{target}
use Rattle.oz_running.specs.Puts.{HasNamed}
use Rattle.oz_running.specs.Reads.{HasRead}
use Rattle.oz_requests.specs.declared.answer.Answer.{Answer}
use Rattle.oz_requests.specs.declared.answer.Answer.TheVariants as told
use Rattle.oz_requests.specs.declared.answer.Values.{Values}
use Rattle.oz_requests.specs.declared.answer.Values.TheVariants as values

module _ (opening : Opening) (bytes : OpeningBytes) (path : KeyPath) (given : List ℕ) where
  -- The block has these bytes, once these events have happened, which the story begins with.
  pub record HasFrom (way : Way) (story : List Event) (block : Block) (content : List ℕ) : Type 0 where
    pub front : List Event
    pub rest : List Event
    pub parts : story ≡ front ++ rest
    pub has : HasContent opening bytes (script_for way path given) front block content

  -- A put is done: all its steps are decided without a code, as many blocks as its bytes have pieces are written, each of
  -- them has its piece, and its commit gave the key these blocks as its pieces.
  pub record IsKept (before : List Event) (it : Values) : Type 0 where
    pub all : it ≡ values.Length (length given)
    pub done : IsDone opening bytes (script_for Put path given) before (line_for Put path given) it
    pub contents : (j : ℕ) (block : Block) → slice_get (written_for 1 1 before) j ≡ Some block
        → HasFrom Put before block (piece j (line_for Put path given).command)
    pub named : HasNamed opening before (line_for Put path given) (target path.volume path.bucket path.key)

  -- What was read are the contents of the pieces that the line's last reply names.
  abbrev pub IsContent : List Event → Values → Type 0
  IsContent before it = (read : List ℕ) × (it ≡ values.Bytes read)
      × HasRead opening bytes (script_for Get path given) before (line_for Get path given) read

  -- what is so where a transfer this way was told this behind these events; any other answer is due
  abbrev pub Means : Way → List Event → Answer → Type 0
  Means Put before (told.Ok it) = IsKept before it
  Means Get before (told.Ok it) = IsContent before it
  Means way before answer =
      IsDue opening bytes (script_for way path given) before (line_for way path given) answer

  -- the story tells this at some place, and that is so behind the events before it
  pub record IsToldAt (way : Way) (story : List Event) (answer : Answer) : Type 0 where
    pub before : List Event
    pub behind : List Event
    pub seat : ℕ
    pub place : story ≡ before ++ record { seat = seat; kind = Told 1 1 answer } ∷ behind
    pub so : Means way before answer

-- What comes of a request that was asked.
use Rattle.std.specs.Prelude.{◌≡◌, ℕ, ◌+◌, ◌<◌, ◌≤◌, List, length, Some, slice_get, take}
use Rattle.oz_journal.specs.declared.batches.batches.TheConstants.{LARGEST_BUFFER}
use Rattle.oz_buffer.specs.Buffer.{buffer_of}
use Rattle.oz_buffer.specs.Became.{times_said}
use Rattle.oz_core.specs.declared.event.Event.{Event}
use Rattle.oz_core.specs.declared.event.EventKind.TheVariants.{Decide}
use Rattle.oz_core.specs.declared.opening.Opening.{Opening}
use Rattle.oz_core.specs.Asks.{pending}
use Rattle.oz_core.specs.Law.{DecideIsEnabled}
use Rattle.oz_core.specs.Manager.{namespace_at}
use Rattle.oz_core.specs.Seats.{stripe_seat}
use Rattle.oz_model.specs.Answers.{Answers}
use Rattle.oz_names.specs.Names.{stripe_of}
use Rattle.oz_requests.specs.declared.reply.Reply.{Reply}
use Rattle.oz_requests.specs.declared.request.AskId.{AskId}
use Rattle.oz_requests.specs.declared.request.Request.{Request}
use Rattle.oz_requests.specs.Names.{volume_in}
use Rattle.oz_turn.specs.Told.{BeginsWith}

-- At one place of the story, behind all that was seen before, the stripe of the request's volume decided the id with this
-- reply, which is that of one thread to the request there.
pub record IsDecided (opening : Opening) (seen story : List Event) (id : AskId) (request : Request) (reply : Reply)
    : Type 0 where
  pub place : ℕ
  pub behind : length seen ≤ place
  pub index : ℕ
  pub batch : List ℕ
  pub there : slice_get story place ≡ Some (record {
    seat = stripe_seat (stripe_of (volume_in request));
    kind = Decide id index reply batch;
  })
  pub asked : pending id (take place story) ≡ Some request
  pub one_thread : Answers (namespace_at opening story place) request reply

-- At a place of the story, behind all that was seen before, so often something was said of the blocks of the id's line.
pub record WasAsSaid (seen story : List Event) (id : AskId) (said : ℕ) : Type 0 where
  pub place : List Event
  pub behind : BeginsWith place seen
  pub begins : BeginsWith story place
  pub so_often : times_said id.client id.line place ≡ said

-- The id may be decided at the end of a story, with a batch of so many bytes.
pub record IsBatchDue (opening : Opening) (story : List Event) (id : AskId) (asked : ℕ) : Type 0 where
  pub seat : ℕ
  pub index : ℕ
  pub reply : Reply
  pub batch : List ℕ
  pub enabled : DecideIsEnabled opening story seat id index reply batch
  pub asked_is : asked ≡ length batch

-- What was decided since the last Swap of a story, and the bytes of the batch that is due, are too many for the buffer.
pub record IsTooMuch (Coherent : Type 0) (opening : Opening) (story : List Event) (id : AskId) (held asked : ℕ)
    : Type 0 where
  pub held_is : held ≡ length (buffer_of story)
  pub too_much : LARGEST_BUFFER < held + asked
  pub due : Coherent → IsBatchDue opening story id asked

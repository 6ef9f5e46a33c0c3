-- Where the buffer has no room for a batch.
use Rattle.std.proofs.Common.{◌≡◌, ℕ, ◌+◌, ◌<◌, false, List, length, refl, ◌∙◌}
use Rattle.oz_journal.specs.declared.batches.batches.TheConstants.{LARGEST_BUFFER}
use Rattle.oz_buffer.specs.Buffer.{buffer_of}
use Rattle.oz_core.specs.declared.event.Event.{Event}
use Rattle.oz_core.specs.declared.opening.Opening.{Opening}
use Rattle.oz_core.specs.Law.{DecideIsEnabled}
use Rattle.oz_core.specs.Manager.{asked_late}
use Rattle.oz_requests.specs.declared.reply.Reply.{Reply}
use Rattle.oz_requests.specs.declared.request.AskId.{AskId}
use Rattle.oz_om.specs.declared.refusal.Refusal.{Refusal}
use Rattle.oz_om.specs.declared.refusal.Refusal.TheVariants as refusals
use Rattle.oz_om.specs.Refusals.{IsOfRoom, RefusalHolds}

-- a refusal for want of room, where the id may be decided with this batch
pub full_refused : (Coherent : Type 0) (opening : Opening) (story : List Event) (id : AskId) (seat index : ℕ) (reply : Reply) (batch : List ℕ)
    → asked_late id story ≡ false → (Coherent → DecideIsEnabled opening story seat id index reply batch) → (size : ℕ) → size ≡ length batch
    → (refusal : Refusal) → IsOfRoom refusal
    → ((held asked : ℕ) → refusal ≡ refusals.Later held asked → (held ≡ length (buffer_of story)) × (asked ≡ size) × (LARGEST_BUFFER < held + asked))
    → RefusalHolds Coherent opening story id refusal
full_refused Coherent opening story id seat index reply batch in_time enabled size is refusals.OtherBlocks of later = of
full_refused Coherent opening story id seat index reply batch in_time enabled size is refusals.Early of later = of
full_refused Coherent opening story id seat index reply batch in_time enabled size is (refusals.Stopped count) of later = of
full_refused Coherent opening story id seat index reply batch in_time enabled size is (refusals.PoolEmpty stripe) of later = absurd of
full_refused Coherent opening story id seat index reply batch in_time enabled size is (refusals.Later held asked) of later =
    let so = later held asked refl in (
      in_time,
      record {
        held_is = so.0;
        too_much = so.2;
        due = λ coherent. record { seat = seat; index = index; reply = reply; batch = batch; enabled = enabled coherent; asked_is = so.1 ∙ is };
      },
    )
full_refused Coherent opening story id seat index reply batch in_time enabled size is refusals.OutOfMemory of later = tt

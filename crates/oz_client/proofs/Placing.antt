-- Where a piece stands in the data, and how long it is.
use Rattle.std.proofs.Common.{◌≡◌, ℕ, ◌+◌, ◌-◌, ◌*◌, ◌/◌, ◌<◌, List, length, drop, min, Some, refl, ◌∙◌, ap, arith}
use Rattle.std.proofs.lemmas.List.{length-drop, length-take}
use Rattle.oz_command.specs.declared.command.Command.{Command}
use Rattle.oz_command.specs.Payload.{data_length, data_of, piece}
use Rattle.oz_core.specs.Steps.{pieces_needed}
use Rattle.oz_nodes.specs.Pipelines.{members_of}
use Rattle.oz_steps.specs.declared.came.Granted.{Granted}
use Rattle.oz_steps.specs.Grants.{written_blocks}
use Rattle.oz_client.specs.declared.progress.Progress.{Progress}
use Rattle.oz_client.specs.declared.step.Step.TheVariants as steps
use Rattle.oz_client.specs.Onward.{IsOnward}

within : (bytes written : ℕ) → written < (bytes + 65535) / 65536 → 65536 * written < bytes
within bytes written below = omega arith

pub place-within : (command : Command) (written : ℕ) → written < pieces_needed command
    → 65536 * written < data_length command
place-within command written below = within (data_length command) written below

pub piece-long : (j : ℕ) (command : Command)
    → length (piece j command) ≡ min 65536 (data_length command - 65536 * j)
piece-long j command =
    length-take 65536 (drop (65536 * j) (data_of command))
    ∙ ap (min 65536) (length-drop (65536 * j) (data_of command))

pub writes : (command : Command) (progress : Progress) (granted : Granted) (members : List ℕ) (first count : ℕ)
    → progress.came.writing ≡ Some granted → members ≡ members_of progress.nodes granted.pipeline
    → first ≡ 65536 * length (written_blocks progress.came.attempts)
    → count ≡ min (data_length command - first) 65536
    → IsOnward command progress (steps.Write granted.block members first count)
writes command progress granted members first count its of_pipeline place size =
    let written : ℕ = length (written_blocks progress.came.attempts) in
    let long : length (piece written command) ≡ min 65536 (data_length command - 65536 * written) = piece-long written command in
    record {
      granted = granted;
      its = its;
      block_is = refl;
      of_pipeline = of_pipeline;
      place = place;
      size = same count first written (length (piece written command)) (data_length command) place size long;
    }
  where
    same : (count first written long bytes : ℕ) → first ≡ 65536 * written → count ≡ min (bytes - first) 65536
        → long ≡ min 65536 (bytes - 65536 * written) → count ≡ long
    same count first written long bytes place size is = omega arith

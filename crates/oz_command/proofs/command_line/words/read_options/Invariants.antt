use Rattle.std.proofs.Common.{length, ◌-◌, ◌≤◌, map, take}
use Rattle.std.specs.String.{string_bytes}
use Rattle.oz_command.specs.command_line.Words.{IsRunSaying}
use Rattle.oz_command.proofs.command_line.words.read_options.Given as goal

abbrev pub invariant-loop-place : goal.invariant-loop-place
invariant-loop-place l = record {
  within : l.place ≤ length l.words;
  said : IsRunSaying (take l.place (map string_bytes l.words)) l.said.nodes l.said.workers;
}

abbrev pub decreases-loop-place : goal.decreases-loop-place
decreases-loop-place l = length l.words - l.place

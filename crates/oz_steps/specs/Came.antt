-- What came back to a line, with what comes next.
use Rattle.std.specs.Prelude.{List, [], ◌∷◌, ◌++◌, Option, None, Some}
use Rattle.oz_core.specs.declared.event.PutRefusal.{PutRefusal}
use Rattle.oz_requests.specs.declared.reply.Reply.{Reply}
use Rattle.oz_requests.specs.declared.reply.Reply.TheVariants as replies
use Rattle.oz_steps.specs.declared.came.Came.{Came}
use Rattle.oz_steps.specs.declared.came.Granted.{Granted}
use Rattle.oz_steps.specs.Grants.{fate_of}

-- the block that a reply grants
abbrev pub granted_by : Reply → Option Granted
granted_by (replies.Granted block pipeline) = Some (record { block = block; pipeline = pipeline })
granted_by _ = None

-- with a reply more, whose block is being written from then on
abbrev pub with_reply : Came → Reply → Came
with_reply came reply = record came { replies = came.replies ++ reply ∷ []; writing = granted_by reply }

-- with what the three members of that block answered
abbrev pub with_answers : Came → Granted → List (Option PutRefusal) → Came
with_answers came granted answers = record came {
  attempts = came.attempts ++ record { granted = granted; fate = fate_of answers } ∷ [];
  writing = None;
}

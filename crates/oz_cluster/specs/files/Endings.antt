-- What a transfer does whose work is done, by how it ends.
use Rattle.std.specs.Prelude.{◌≡◌, ◌⊎◌, ℕ, Bool, true, false, List, None, Some}
use Rattle.oz_cluster.specs.declared.files.outcome.Outcome.{Outcome}
use Rattle.oz_cluster.specs.declared.files.outcome.Outcome.TheVariants.{Done, Unwritten, Disk, OutOfMemory, Refused}
use Rattle.oz_cluster.specs.declared.files.words.Way.{Way}
use Rattle.oz_cluster.specs.declared.files.words.Way.TheVariants.{Put, Get}
use Rattle.oz_cluster.specs.files.Asked.{IsWanted, told_in}
use Rattle.oz_cluster.specs.files.Streams.{IsAsBefore, Stream}
use Rattle.oz_cluster.specs.files.Telling.{refusal_text}
use Rattle.oz_core.specs.declared.event.Event.{Event}
use Rattle.oz_running.specs.Printed.{HoldsAll, HoldsPrefix, Says, memory_fault}
use Rattle.oz_requests.specs.declared.answer.Answer.{Answer}
use Rattle.oz_requests.specs.declared.answer.Answer.TheVariants as told
use Rattle.oz_requests.specs.declared.answer.Values.TheVariants as values

-- a sink got this text, or a prefix of it where it failed
abbrev pub IsSaid : List ℕ → Stream → Type 0
IsSaid text errors = Says text errors.before errors.after errors.rose

-- how many bytes were given, the word for the key, the story, whether a node halted in it, and the sinks
module _ (size : ℕ) (key : List ℕ) (story : List Event) (any_halted : Bool) (out errors : Stream) where
  -- A put was told that all bytes are written. A get wrote the bytes that were read, and nothing else.
  abbrev pub IsServed : Way → Type 0
  IsServed Put = (told_in story ≡ Some (told.Ok (values.Length size))) × IsAsBefore out
  IsServed Get = (read : List ℕ) × (told_in story ≡ Some (told.Ok (values.Bytes read)))
      × HoldsAll read out.before out.after

  -- a get wrote a prefix of the bytes that were read, and the sink failed
  abbrev pub IsCutOff : Way → Type 0
  IsCutOff Put = ⊥
  IsCutOff Get = (read : List ℕ) × (told_in story ≡ Some (told.Ok (values.Bytes read)))
      × HoldsPrefix read out.before out.after × out.rose

  -- the line was told something else
  abbrev pub IsToldOther : Way → Answer → Type 0
  IsToldOther way answer = (told_in story ≡ Some answer) × ¬ IsWanted way size answer

  -- The other statuses come before the work.
  abbrev pub EndsSo : Way → Outcome → Type 0
  EndsSo way Done = (any_halted ≡ false) × IsServed way × IsAsBefore errors
  EndsSo way Disk = (any_halted ≡ true) × IsServed way × IsAsBefore errors
  EndsSo way Unwritten = IsCutOff way × IsAsBefore errors
  EndsSo way Refused = (answer : Answer) × IsToldOther way answer × IsAsBefore out × IsSaid (refusal_text key answer) errors
  EndsSo way OutOfMemory = ((told_in story ≡ None) ⊎ ((answer : Answer) × IsToldOther way answer))
      × IsAsBefore out × IsSaid memory_fault errors
  EndsSo way _ = ⊥

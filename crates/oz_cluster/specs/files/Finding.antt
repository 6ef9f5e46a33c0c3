-- What an answer is to a transfer.
use Rattle.std.specs.Prelude.{◌≡◌, ℕ}
use Rattle.oz_cluster.specs.declared.files.ending.Found.{Found}
use Rattle.oz_cluster.specs.declared.files.ending.Found.TheVariants.{Kept, Read, Other}
use Rattle.oz_cluster.specs.declared.files.words.Way.{Way}
use Rattle.oz_cluster.specs.declared.files.words.Way.TheVariants.{Put, Get}
use Rattle.oz_cluster.specs.files.Asked.{IsWanted}
use Rattle.oz_requests.specs.declared.answer.Answer.{Answer}
use Rattle.oz_requests.specs.declared.answer.Answer.TheVariants as told
use Rattle.oz_requests.specs.declared.answer.Values.TheVariants as values

abbrev pub IsFound : Way → ℕ → Answer → Found → Type 0
IsFound way size answer Kept = (way ≡ Put) × (answer ≡ told.Ok (values.Length size))
IsFound way size answer (Read read) = (way ≡ Get) × (answer ≡ told.Ok (values.Bytes read.now))
IsFound way size answer Other = ¬ IsWanted way size answer

-- What stops a transfer before its work: how it ends, its text, and what is then so.
use Rattle.std.specs.Prelude.{◌≡◌, ℕ, ◌<◌, List, [], length, Option, IfSome}
use Rattle.oz_cluster.specs.declared.files.outcome.Outcome.{Outcome}
use Rattle.oz_cluster.specs.declared.files.outcome.Outcome.TheVariants as ends
use Rattle.oz_cluster.specs.declared.files.stops.TheConstants.{LONGEST_FILE}
use Rattle.oz_cluster.specs.declared.files.stops.TransferStop.{TransferStop}
use Rattle.oz_cluster.specs.declared.files.stops.TransferStop.TheVariants.{Words, Read, TooLong, Store, OutOfMemory}
use Rattle.oz_cluster.specs.declared.files.words.Way.{Way}
use Rattle.oz_cluster.specs.declared.files.words.Way.TheVariants.{Put, Get}
use Rattle.oz_cluster.specs.files.Given.{IsGiven, file_limit}
use Rattle.oz_cluster.specs.files.Words.{IsFirstFault, IsTransferOf, IsTransferWith}
use Rattle.oz_cluster.specs.Streams.{IsReadUpTo, TakesUpTo}
use Rattle.oz_cluster.specs.Texts.{read_fault, store_text, too_long, words_fault}
use Rattle.oz_command.specs.declared.paths.KeyPath.{KeyPath}
use Rattle.oz_running.specs.Printed.{memory_fault}
use Rattle.oz_running.specs.fault.StoreFault.{StoreFault}
use Rattle.oz_running.specs.fault.StoreFault.TheVariants as store

-- how the transfer ends
abbrev pub outcome_of_store : StoreFault → Outcome
outcome_of_store (store.Disk name) = ends.Disk
outcome_of_store (store.Damaged name offset) = ends.Damaged
outcome_of_store (store.Nodes recorded given) = ends.Damaged
outcome_of_store (store.Ids next seen) = ends.Damaged
outcome_of_store store.OutOfMemory = ends.OutOfMemory

abbrev pub outcome_of : TransferStop → Outcome
outcome_of (Words place) = ends.Words
outcome_of Read = ends.Read
outcome_of TooLong = ends.TooLong
outcome_of (Store fault) = outcome_of_store fault
outcome_of OutOfMemory = ends.OutOfMemory

-- the text that is said
abbrev pub text_of : TransferStop → List ℕ
text_of (Words place) = words_fault place
text_of Read = read_fault
text_of TooLong = too_long
text_of (Store fault) = store_text fault
text_of OutOfMemory = memory_fault

-- The words are a transfer, whose line has its bytes: by what the source had left before and has after.
pub record HasGiven (words : List (List ℕ)) (left left_after : Option (List ℕ)) : Type 0 where
  pub way : Way
  pub words_are : IsTransferOf way words
  pub given : List ℕ
  pub took : IsGiven way left left_after given

-- what the words and the source were where this stopped the transfer; whether the source's count of faults rose; and why
-- the disks weren't loaded
abbrev pub IsSo : List (List ℕ) → Option (List ℕ) → Option (List ℕ) → Type 0 → (StoreFault → Type 0) → TransferStop → Type 0
IsSo words left left_after rose Refused (Words place) = IsFirstFault words place × (left_after ≡ left)
IsSo words left left_after rose Refused Read = IsTransferOf Put words × rose × TakesUpTo file_limit left left_after
IsSo words left left_after rose Refused TooLong =
    IsTransferOf Put words × IfSome left (λ text. LONGEST_FILE < length text) × IsReadUpTo file_limit left left_after
IsSo words left left_after rose Refused (Store fault) = HasGiven words left left_after × Refused fault
IsSo words left left_after rose Refused OutOfMemory = TakesUpTo file_limit left left_after

-- what the source of a transfer this way was where its bytes weren't had
abbrev pub IsUngiven : Way → Option (List ℕ) → Option (List ℕ) → Type 0 → TransferStop → Type 0
IsUngiven way left left_after rose Read = (way ≡ Put) × rose × TakesUpTo file_limit left left_after
IsUngiven way left left_after rose TooLong =
    (way ≡ Put) × IfSome left (λ text. LONGEST_FILE < length text) × IsReadUpTo file_limit left left_after
IsUngiven way left left_after rose OutOfMemory = TakesUpTo file_limit left left_after
IsUngiven way left left_after rose _ = ⊥

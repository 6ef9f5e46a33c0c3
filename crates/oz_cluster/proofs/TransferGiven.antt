-- What a transfer gives to its line, by what was read.
use Rattle.std.proofs.Common.{◌≡◌, ℕ, ◌<◌, ◌≤◌, List, length, length-take, take, Option, None, Some, IfSome, sym, ◌∙◌, ap, subst, arith}
use Rattle.std.proofs.lemmas.List.{take_all}
use Rattle.oz_cluster.specs.declared.files.stops.TransferStop.{TransferStop}
use Rattle.oz_cluster.specs.declared.files.stops.TransferStop.TheVariants.{Words, Read, TooLong, Store, OutOfMemory}
use Rattle.oz_cluster.specs.declared.files.words.Way.{Way}
use Rattle.oz_cluster.specs.files.Stopped.{IsSo, IsUngiven}
use Rattle.oz_cluster.specs.files.Words.{IsTransferOf}

-- what is shorter than the limit is the whole text
pub whole_text : (left : Option (List ℕ)) (text : List ℕ) (limit : ℕ) → IfSome left (λ rest. text ≡ take limit rest) → length text < limit → IfSome left (λ rest. text ≡ rest)
whole_text None text limit is short = tt
whole_text (Some rest) text limit is short = is ∙ take_all limit rest (omega (arith, ap length is, length-take limit rest, short))

-- and where more was read, there is more
pub more_text : (left : Option (List ℕ)) (text : List ℕ) (limit most : ℕ) → IfSome left (λ rest. text ≡ take limit rest) → most < length text → IfSome left (λ rest. most < length rest)
more_text None text limit most is long = tt
more_text (Some rest) text limit most is long = omega (arith, ap length is, length-take limit rest, long)

-- what stopped the reading of a transfer's bytes stops the transfer
pub ungiven_so : (words : List (List ℕ)) (way : Way) → IsTransferOf way words → (left left_after : Option (List ℕ)) (rose : Type 0) (stop : TransferStop) → IsUngiven way left left_after rose stop
    → IsSo words left left_after rose (λ fault. ⊥) stop
ungiven_so words way its left left_after rose (Words place) so = absurd so
ungiven_so words way its left left_after rose Read so = (subst (λ (w : Way). IsTransferOf w words) so.0 its, so.1, so.2)
ungiven_so words way its left left_after rose TooLong so = (subst (λ (w : Way). IsTransferOf w words) so.0 its, so.1, so.2)
ungiven_so words way its left left_after rose (Store fault) so = absurd so
ungiven_so words way its left left_after rose OutOfMemory so = so

-- For calls inside this crate alone.

-- What rows have to be where a request is done, whether or not they stand for a namespace.
use Rattle.std.specs.Prelude.{◌≡◌, ℕ, ◌+◌, ◌≤◌, List, IsSome}
use Rattle.oz_names.specs.Names.{stripe_of}
use Rattle.oz_names.specs.declared.limits.TheConstants.{MOST_NUMBERS}
use Rattle.oz_requests.specs.declared.reply.Reply.{Reply}
use Rattle.oz_requests.specs.declared.reply.Reply.TheVariants as replies
use Rattle.oz_requests.specs.declared.request.Request.{Request}
use Rattle.oz_requests.specs.declared.request.Request.TheVariants.{CreateKey, ExpireOpen}
use Rattle.oz_rows.specs.declared.key.RowKey.TheVariants as keys
use Rattle.oz_rows.specs.RowMaps.{Rows}
use Rattle.oz_sound.specs.StandsFor.{drawn_in}

-- the bucket is there, and the number is the next one of its volume's stripe
pub record MayCreate (all : Rows) (volume bucket : List ℕ) (number : ℕ) : Type 0 where
  pub bucket_there : IsSome (all (keys.Bucket volume bucket))
  pub next : number ≡ drawn_in (all (keys.Stripe (stripe_of volume))) + 1
  pub few : number ≤ MOST_NUMBERS

-- a request is refused, or this is so
abbrev pub MayRecord : Rows → Request → Reply → Type 0
MayRecord all (CreateKey volume bucket key) (replies.Session number) = MayCreate all volume bucket number
MayRecord all (ExpireOpen volume bucket) (replies.Count count) = IsSome (all (keys.Bucket volume bucket))
MayRecord all request reply = Unit {0}

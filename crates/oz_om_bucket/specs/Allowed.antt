-- For calls inside this crate alone.

-- What rows have to be where a request is done, whether or not they stand for a namespace.
use Rattle.std.specs.Prelude.{◌≡◌, ℕ, List, None, IsSome}
use Rattle.oz_decision.specs.Meets.{AreInGrammar}
use Rattle.oz_requests.specs.declared.reply.Reply.{Reply}
use Rattle.oz_requests.specs.declared.reply.Reply.TheVariants as replies
use Rattle.oz_requests.specs.declared.request.Request.{Request}
use Rattle.oz_requests.specs.declared.request.Request.TheVariants.{DeleteVolume, CreateBucket, DeleteBucket}
use Rattle.oz_rows.specs.declared.key.RowKey.TheVariants as keys
use Rattle.oz_rows.specs.RowMaps.{Rows}
use Rattle.oz_sound.specs.StandsFor.{IsLive}

-- the volume has no bucket
abbrev pub HasNoBucket : Rows → List ℕ → Type 0
HasNoBucket rows volume = (bucket : List ℕ) → rows (keys.Bucket volume bucket) ≡ None

-- the bucket has neither keys nor sessions
pub record HasNoUse (rows : Rows) (volume bucket : List ℕ) : Type 0 where
  pub no_key : (key : List ℕ) → rows (keys.Key volume bucket key) ≡ None
  pub no_session : (key : List ℕ) (number : ℕ) → rows (keys.Open volume bucket key number) ≡ None

-- it has no live snapshot
abbrev pub HasNoSnapshot : Rows → List ℕ → List ℕ → Type 0
HasNoSnapshot rows volume bucket = AreInGrammar rows → (number : ℕ) → IsLive rows volume bucket number → ⊥

-- what goes is there, and nothing needs it; and what is made has what it needs
abbrev pub IsAllowed : Rows → Request → Type 0
IsAllowed rows (DeleteVolume volume) = IsSome (rows (keys.Volume volume)) × HasNoBucket rows volume
IsAllowed rows (CreateBucket volume bucket) = IsSome (rows (keys.Volume volume))
IsAllowed rows (DeleteBucket volume bucket) =
    IsSome (rows (keys.Bucket volume bucket)) × HasNoUse rows volume bucket × HasNoSnapshot rows volume bucket
IsAllowed rows request = Unit {0}

-- a request is refused, or this is so
abbrev pub MayRecord : Rows → Request → Reply → Type 0
MayRecord rows request (replies.Code code) = Unit {0}
MayRecord rows request reply = IsAllowed rows request

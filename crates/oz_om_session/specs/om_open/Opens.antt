-- Which requests open a session, or end those of a bucket that were open too long.
use Rattle.oz_requests.specs.declared.request.Request.{Request}
use Rattle.oz_requests.specs.declared.request.Request.TheVariants.{CreateKey, ExpireOpen}

abbrev pub IsOpening : Request → Type 0
IsOpening (CreateKey volume bucket key) = Unit {0}
IsOpening (ExpireOpen volume bucket) = Unit {0}
IsOpening request = ⊥

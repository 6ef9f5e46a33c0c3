-- Which requests commit.
use Rattle.oz_requests.specs.declared.request.Request.{Request}
use Rattle.oz_requests.specs.declared.request.Request.TheVariants.{CommitKey}

abbrev pub IsCommit : Request → Type 0
IsCommit (CommitKey volume bucket key session pieces) = Unit {0}
IsCommit request = ⊥

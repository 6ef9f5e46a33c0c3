-- Which requests are decided.
use Rattle.std.specs.Prelude.{Bool, true, false}
use Rattle.oz_om.specs.declared.decider.decider.Decider.{Decider}
use Rattle.oz_om.specs.declared.decider.decider.Decider.TheVariants.{Buckets, Reading, Changing, Opening, Granting}
use Rattle.oz_om.specs.declared.decider.decider.Decider.TheVariants.{Committing, Snapshots, Reclaiming, Nobody}
use Rattle.oz_om.specs.decider.Deciders.{decider_of}
use Rattle.oz_requests.specs.declared.request.Request.{Request}

-- all that a crate decides
abbrev pub decides : Decider → Bool
decides Buckets = true
decides Reading = true
decides Changing = true
decides Opening = true
decides Granting = true
decides Committing = true
decides Snapshots = true
decides Reclaiming = true
decides Nobody = false

abbrev pub is_decided : Request → Bool
is_decided request = decides (decider_of request)

-- Which requests are decided here.
use Rattle.std.specs.Prelude.{Bool, true, false}
use Rattle.oz_requests.specs.declared.request.Request.{Request}
use Rattle.oz_requests.specs.declared.request.Request.TheVariants.{LookupKey, ListKeys}

-- a key is looked up, or keys are listed
abbrev pub is_on_keys : Request → Bool
is_on_keys (LookupKey volume bucket snapshot key) = true
is_on_keys (ListKeys volume bucket snapshot prefix start count) = true
is_on_keys request = false

use Rattle.std.proofs.Common.{◌≡◌, ℕ, length, Some, slice_get}
use Rattle.oz_cache.specs.Cache.{CacheView}
use Rattle.oz_loaded.specs.Parts.{IsPart}
use Rattle.oz_loaded.proofs.parting.parts_of.Given as goal

abbrev pub invariant-loop-stripe : goal.invariant-loop-stripe
invariant-loop-stripe l = (length l.parts.items ≡ l.stripe)
    × ((stripe : ℕ) (part : CacheView) → slice_get l.parts.items stripe ≡ Some part → IsPart l.rows l.last_index stripe part)

-- What a namespace has of one stripe.
use Rattle.std.specs.Prelude.{◌≡◌, ℕ, ◌==◌, List, length, None, if◌then◌else◌, map, slice_index}
use Rattle.std.specs.FinMap.{retain_keys}
use Rattle.oz_names.specs.Names.{stripe_of}
use Rattle.oz_names.specs.declared.limits.TheConstants.{STRIPES}
use Rattle.oz_namespace.specs.declared.namespace.Namespace.{Namespace}
use Rattle.oz_namespace.specs.Namespace.{buckets_of, sixteen}

-- the volumes of the stripe alone, with their buckets, and the numbers that were drawn in it
pub record IsOfStripe (stripe : ℕ) (namespace part : Namespace) : Type 0 where
  pub volumes : (volume : List ℕ)
      → buckets_of part volume ≡ (if stripe_of volume == stripe then buckets_of namespace volume else None)
  pub stripes : part.stripes
      ≡ map (λ number. if number == stripe then slice_index namespace.stripes number else 0) sixteen

-- the one namespace that is so
abbrev pub share_of : ℕ → Namespace → Namespace
share_of stripe namespace = record {
  volumes = retain_keys namespace.volumes (λ volume. stripe_of volume == stripe);
  stripes = map (λ number. if number == stripe then slice_index namespace.stripes number else 0) sixteen;
}

-- it says of each stripe how many numbers were drawn there
abbrev pub HasAllStripes : Namespace → Type 0
HasAllStripes namespace = length namespace.stripes ≡ STRIPES

-- What was loaded, as it shows itself: its rows out of the parts, its bodies out of bytes, and the store of all disks.
use Rattle.std.specs.Prelude.{ℕ, zero, suc, ◌==◌, List, [], ◌∷◌, length, map, take, drop, slice_get, Option, None, Some}
use Rattle.std.specs.Prelude.{if◌then◌else◌}
use Rattle.oz_cache.specs.Cache.{CacheView, newest}
use Rattle.oz_core.specs.declared.opening.Opening.{Opening}
use Rattle.oz_datanode.specs.Datanode.{State as Datanode}
use Rattle.oz_running.specs.disk_run.Coherent.{IsCoherentStore}
use Rattle.oz_fields.specs.Number.{u32_at}
use Rattle.oz_scm.specs.grants.Made.{Made}
use Rattle.oz_loaded.specs.Unseated.{UnseatedView}
use Rattle.oz_headline.specs.Loads.{disks_in}
use Rattle.oz_rows.specs.declared.key.RowKey.{RowKey}
use Rattle.oz_rows.specs.declared.row.Row.{Row}
use Rattle.oz_rows.specs.RowMaps.{Rows}
use Rattle.oz_loaded.specs.standing.Shown.{namespace_shown}
use Rattle.oz_headline.specs.store_opening.Openings.{opening_bytes, opening_of}
use Rattle.oz_sound.specs.stripes.Stripes.{stripe_of_key}
use Rattle.oz_world.specs.Disk.{Seen}

-- ---- rows

abbrev pub row_in : Option CacheView → RowKey → Option Row
row_in None key = None
row_in (Some part) key = newest part key

-- each row is that of the part of its stripe
abbrev pub rows_shown : List CacheView → Rows
rows_shown parts key = row_in (slice_get parts (stripe_of_key key)) key

-- ---- the store

-- the opening over the namespace that the parts show
abbrev pub opening_shown : {D : Type 0} → UnseatedView → Made → List (Datanode D) → Opening
opening_shown unseated made nodes = opening_of unseated (namespace_shown unseated.parts) made nodes

module _ {D : Type 0} (see : D → Seen) where
  -- what was loaded is a coherent store with that opening
  abbrev pub ShowStore : UnseatedView → Made → List (Datanode D) → Type 0
  ShowStore unseated made nodes =
      IsCoherentStore see (map disks_in nodes) (rows_shown unseated.parts) (opening_shown unseated made nodes)
      (opening_bytes see nodes)

-- ---- bodies

-- a body behind its length, and what follows it
abbrev pub body_in : Option (ℕ × List ℕ) → Option (List ℕ × List ℕ)
body_in None = None
body_in (Some (size, rest)) = Some (take size rest, drop size rest)

-- the same behind an open gate
abbrev pub record_at : List ℕ → Option (List ℕ × List ℕ)
record_at [] = None
record_at (gate ∷ rest) = if gate == 1 then body_in (u32_at rest) else None

abbrev pub and_further : Option (List ℕ × List ℕ) → (List ℕ → List (List ℕ)) → List (List ℕ)
and_further None further = []
and_further (Some (body, rest)) further = body ∷ further rest

-- the bodies of the records that bytes begin with, as long as there are at most so many
unfoldable pub bodies_at : ℕ → List ℕ → List (List ℕ)
bodies_at zero bytes = []
bodies_at (suc most) bytes = and_further (record_at bytes) (λ rest. bodies_at most rest)

-- those of bytes that a disk tells
abbrev pub bodies_shown : Option (List ℕ) → List (List ℕ)
bodies_shown None = []
bodies_shown (Some bytes) = bodies_at (length bytes) bytes

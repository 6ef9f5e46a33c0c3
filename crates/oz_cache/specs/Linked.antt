-- For private calls: cached rows whose keys stand in a list of epochs, each row knowing the place of its entry.
use Rattle.std.specs.Prelude.{◌≡◌, ℕ, ◌≤◌, List, [], ◌∷◌, Option, Some, None, if◌then◌else◌}
use Rattle.std.specs.List.{AllByRecursion}
use Rattle.oz_epochs.specs.declared.list.Place.{Place}
use Rattle.oz_epochs.specs.Epochs.{EpochEntry, without, AreInOrder}
use Rattle.oz_rows.specs.declared.key.RowKey.{RowKey}
use Rattle.oz_rows.specs.RowMaps.{is_same}
use Rattle.oz_cache.specs.declared.cached_rows.CachedRow.{CachedRow}
use Rattle.oz_cache.specs.Places.{Entries, found}

-- the cached rows, the list of their epochs, and for how many more there is room
pub record NewerView : Type 0 where
  pub rows : Entries
  pub epochs : List (EpochEntry RowKey)
  pub spare : ℕ

-- where the entries of a key stand, and their epochs
abbrev pub entries_under : RowKey → List (EpochEntry RowKey) → List (ℕ × ℕ)
entries_under key [] = []
entries_under key (e ∷ es) =
    if is_same e.key key then (e.slot, e.epoch) ∷ entries_under key es else entries_under key es

-- where the entry of a cached row stands, and its epoch
abbrev pub entry_said : Option CachedRow → List (ℕ × ℕ)
entry_said None = []
entry_said (Some row) = (row.place.slot, row.epoch) ∷ []

-- each key has one entry where it has a cached row, at the place that the row knows and of its epoch, and else none
abbrev pub AreLinked : (RowKey → Option CachedRow) → List (EpochEntry RowKey) → Type 0
AreLinked rows entries = (key : RowKey) → entries_under key entries ≡ entry_said (rows key)

-- what holds of cached rows and the list of their epochs at every moment
pub record AreListed (rows : Entries) (entries : List (EpochEntry RowKey)) : Type 0 where
  pub linked : AreLinked (found rows) entries
  pub order : AreInOrder entries

-- no entry has a later epoch
abbrev pub AllBy : ℕ → List (EpochEntry RowKey) → Type 0
AllBy epoch entries = AllByRecursion (λ e. e.epoch ≤ epoch) entries

-- the entries of all other places
abbrev pub without_place : Option Place → List (EpochEntry RowKey) → List (EpochEntry RowKey)
without_place None entries = entries
without_place (Some place) entries = without place.slot entries

abbrev pub place_of : Option CachedRow → Option Place
place_of None = None
place_of (Some row) = Some row.place

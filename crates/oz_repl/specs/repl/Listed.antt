-- Words for private calls: tests of a view, and the due copies one after another.
use Rattle.std.specs.Prelude.{ℕ, Bool, false, not, ◌&&◌, ◌==◌, List, [], ◌∷◌, ◌++◌, filter}
use Rattle.std.specs.Prelude.{if◌then◌else◌}
use Rattle.std.specs.List.{slice_index, slice_index_or, list_any, flat_map, range_with_len}
use Rattle.oz_repl.specs.declared.repl.view.View.{View}
use Rattle.oz_repl.specs.declared.repl.view.CopyOrder.{CopyOrder}
use Rattle.oz_repl.specs.repl.View.{held_at}

abbrev pub is_among : List ℕ → ℕ → Bool
is_among locals local = list_any (λ it. it == local) locals

abbrev pub is_up_at : View → ℕ → Bool
is_up_at view place = slice_index_or view.up place false

abbrev pub is_holder_at : View → ℕ → ℕ → Bool
is_holder_at view local place = is_up_at view place && is_among (held_at view place) local

abbrev pub is_lacking_at : View → ℕ → ℕ → Bool
is_lacking_at view local place = is_up_at view place && not (is_among (held_at view place) local)

-- the member at a place is the first holder of a block that isn't being deleted
abbrev pub is_source_at : View → ℕ → ℕ → Bool
is_source_at view local place =
    not (is_among view.logged local) && not (list_any (is_holder_at view local) (range_with_len 0 place))
    && is_holder_at view local place

abbrev pub order_of : View → ℕ → ℕ → ℕ → CopyOrder
order_of view from local to =
    record { source = slice_index view.members from; target = slice_index view.members to; local = local }

-- the copy of a block from one place to another, where that lacks it; the copies of it; and all of a source
abbrev pub copy_to : View → ℕ → ℕ → ℕ → List CopyOrder
copy_to view from local to = if is_lacking_at view local to then order_of view from local to ∷ [] else []

abbrev pub copies_of : View → ℕ → ℕ → List CopyOrder
copies_of view from local = copy_to view from local 0 ++ copy_to view from local 1 ++ copy_to view from local 2

abbrev pub copies_of_sources : View → ℕ → List ℕ → List CopyOrder
copies_of_sources view from locals =
    flat_map (copies_of view from) (filter (λ local. is_source_at view local from) locals)

unfoldable pub copies_from : View → ℕ → List CopyOrder
copies_from view from = copies_of_sources view from (held_at view from)

abbrev pub copies : View → List CopyOrder
copies view = copies_from view 0 ++ copies_from view 1 ++ copies_from view 2

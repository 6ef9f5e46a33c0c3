-- What a stripe asked to be deleted, once it asked for more or its rows changed.
use Rattle.std.proofs.Common.{◌≡◌, ⊎_elim, List, [], ◌∷◌, ◌++◌, Option, None, Some, Contains, sym, ◌∙◌, ap, subst, append-nil}
use Rattle.std.proofs.lemmas.List.Elements.{filter_map-append, Contains-append_cases}
use Rattle.std.specs.List.{cons_option}
use Rattle.oz_core.specs.declared.event.Event.{Event}
use Rattle.oz_fields.specs.declared.block.Block.{Block}
use Rattle.oz_rows.specs.declared.key.RowKey.{RowKey}
use Rattle.oz_rows.specs.declared.key.RowKey.TheVariants as keys
use Rattle.oz_rows.specs.RowMaps.{Rows}
use Rattle.oz_locks.specs.Purges.{AreAskedWhole, HaveWholeRows, asked_by, asked_in}
use Rattle.oz_locks.proofs.Pools.{in_none, first_or_later}

none_asked : (all : Rows) → AreAskedWhole all []
none_asked all blocks there = absurd (in_none blocks there)

pub asked_none : (all : Rows) (mine : List Event) → mine ≡ [] → AreAskedWhole all mine
asked_none all mine none = subst (AreAskedWhole all) (sym none) (none_asked all)

asked_more : (mine : List Event) (event : Event) (asked : Option (List Block)) → asked_in event.kind ≡ asked → asked_by (mine ++ event ∷ []) ≡ asked_by mine ++ cons_option asked []
asked_more mine event asked is =
    filter_map-append (λ (event : Event). asked_in event.kind) mine (event ∷ []) ∙ ap (λ o. asked_by mine ++ cons_option o []) is

-- an event that asks for nothing
pub asked_kept : (all : Rows) (mine : List Event) (event : Event) → asked_in event.kind ≡ None → AreAskedWhole all mine → AreAskedWhole all (mine ++ event ∷ [])
asked_kept all mine event is are blocks there =
    are blocks (subst (λ (l : List (List Block)). Contains l blocks) (asked_more mine event None is ∙ append-nil (asked_by mine)) there)

-- one that asks for these blocks
pub asked_anew : (all : Rows) (mine : List Event) (event : Event) (asked : List Block) → asked_in event.kind ≡ Some asked → HaveWholeRows all asked
    → AreAskedWhole all mine → AreAskedWhole all (mine ++ event ∷ [])
asked_anew all mine event asked is whole are blocks there = ⊎_elim
    (λ before. are blocks before)
    (λ now. ⊎_elim (λ same. subst (HaveWholeRows all) same whole) (λ none. absurd (in_none blocks none)) (first_or_later asked blocks [] now))
    (Contains-append_cases (asked_by mine) (asked ∷ []) blocks (subst (λ (l : List (List Block)). Contains l blocks) (asked_more mine event (Some asked) is) there))

-- the same rows
pub asked_alike : (all other : Rows) (mine : List Event) → ((key : RowKey) → other key ≡ all key) → AreAskedWhole all mine → AreAskedWhole other mine
asked_alike all other mine same are blocks there volume bucket key owner local of_row block another row has among has_too =
    are blocks there volume bucket key owner local of_row block another (sym (same (keys.Deleted volume bucket owner key local)) ∙ row) has among has_too

-- Once a sweep found no block of a stripe that is neither reached nor pinned nor let go, each block of the stripe that was garbage at
-- the front of the look was let go.
use Rattle.std.proofs.Common.{◌≡◌, ⊎_elim, ℕ, true, List, [], ◌++◌, map, append_assoc, sym, ap, ◌∙◌}
use Rattle.std.proofs.lemmas.Bool.{or_left}
use Rattle.std.proofs.lemmas.List.Elements.{filter_map-append}
use Rattle.std.proofs.lemmas.List.Folds.{list_any-append}
use Rattle.std.specs.List.{list_any}
use Rattle.oz_dellog.specs.declared.txn.Txn.{Txn}
use Rattle.oz_fields.specs.declared.block.Block.{Block}
use Rattle.oz_rows.specs.RowMaps.{Rows}
use Rattle.oz_core.specs.declared.event.Event.{Event}
use Rattle.oz_core.specs.declared.opening.Opening.{Opening}
use Rattle.oz_core.specs.declared.opening.Unretired.{Unretired}
use Rattle.oz_core.specs.Law.{IsLegal}
use Rattle.oz_core.specs.Manager.{IsGarbage, namespace_of, pinned}
use Rattle.oz_core.specs.Scm.{is_logged, logged, logs, names_block}
use Rattle.oz_core.specs.Stories.{all_told}
use Rattle.oz_kept.specs.laws.Deleted.{legal_to}
use Rattle.oz_store.specs.striped.Shares.{share_of}
use Rattle.oz_owned.specs.Own.{IsOwn}
use Rattle.oz_owned.specs.Swept.{HomesAreKept, NoneIsLeft}
use Rattle.oz_owned.specs.laws.Owned.{share_reached}
use Rattle.oz_owned.specs.laws.Staying.{garbage_still}

-- The look had the rows at a front and the pins of a story that goes on from there. What was logged at the front is let go too.
pub what_is_swept_is_let_go : (opening : Opening) (loaded rows : Rows) (stripe : ℕ) (front more : List Event) (IsLet : Block → Type 0)
    → IsLegal opening (front ++ more) → HomesAreKept opening loaded stripe front rows
    → ((block : Block) → is_logged opening front block ≡ true → IsLet block)
    → NoneIsLeft rows (share_of stripe (namespace_of opening front)) (pinned (front ++ more)) IsLet
    → (block : Block) → IsOwn loaded stripe front block → IsGarbage opening front block → IsLet block
what_is_swept_is_let_go opening loaded rows stripe front more IsLet legal kept logged none block own garbage = ⊎_elim
    (λ home. ⊎_elim
    (λ reached. absurd (garbage.unreached (share_reached stripe (namespace_of opening front) block reached).0))
    (λ others. ⊎_elim
    (λ pinned. absurd ((garbage_still opening front more block legal garbage).unpinned pinned))
    (λ let_go. let_go) others)
    (none block home))
    (λ is. logged block is)
    (kept block own)

-- what is logged stays so
pub logged_still : (opening : Opening) (before more : List Event) (block : Block) → is_logged opening before block ≡ true
    → is_logged opening (before ++ more) block ≡ true
logged_still opening before more block is =
    ap (λ (l : List Txn). list_any (names_block block) (map (λ (unretired : Unretired). unretired.txn) opening.unretired ++ l))
    (filter_map-append (λ (event : Event). logged event.kind) before more)
    ∙ (ap (list_any (names_block block)) (sym (append_assoc (map (λ (unretired : Unretired). unretired.txn) opening.unretired)
    (all_told logged before) (all_told logged more)))
    ∙ (list_any-append (names_block block) (logs opening before) (all_told logged more)
    ∙ or_left (list_any (names_block block) (logs opening before)) (list_any (names_block block) (all_told logged more)) is))

-- so, once all that it found is logged, each such block is logged
pub what_is_swept_is_logged : (opening : Opening) (loaded rows : Rows) (stripe : ℕ) (front more later : List Event)
    → IsLegal opening ((front ++ more) ++ later) → HomesAreKept opening loaded stripe front rows
    → NoneIsLeft rows (share_of stripe (namespace_of opening front)) (pinned (front ++ more))
    (λ block. is_logged opening ((front ++ more) ++ later) block ≡ true)
    → (block : Block) → IsOwn loaded stripe front block → IsGarbage opening front block → is_logged opening ((front ++ more) ++ later) block ≡ true
what_is_swept_is_logged opening loaded rows stripe front more later legal kept none block own garbage =
    what_is_swept_is_let_go opening loaded rows stripe front more (λ block. is_logged opening ((front ++ more) ++ later) block ≡ true)
    (legal_to opening [] (front ++ more) later legal) kept
    (λ block is. logged_still opening (front ++ more) later block (logged_still opening front more block is)) none block own garbage

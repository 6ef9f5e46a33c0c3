-- The log of deleted blocks, looked through part by part.
use Rattle.std.proofs.Common.{◌≡◌, Bool, false, ◌||◌, List, [], ◌∷◌, map, Option, Some, None, refl, sym, ◌∙◌, ap}
use Rattle.std.proofs.lemmas.List.Folds.{list_any-append}
use Rattle.std.specs.List.{list_any, filter_map, cons_option}
use Rattle.std.specs.Option.{option_map_or}
use Rattle.oz_dellog.specs.declared.txn.Txn.{Txn}
use Rattle.oz_core.specs.declared.event.Event.{Event}
use Rattle.oz_core.specs.declared.opening.Opening.{Opening}
use Rattle.oz_core.specs.declared.opening.Unretired.{Unretired}
use Rattle.oz_core.specs.Scm.{logged, logs}
use Rattle.oz_core.specs.Stories.{all_told}

pub any-map : {X Y : Type 0} (p : Y → Bool) (f : X → Y) (xs : List X) → list_any p (map f xs) ≡ list_any (λ x. p (f x)) xs
any-map p f [] = refl
any-map p f (x ∷ xs) = ap (λ (b : Bool). p (f x) || b) (any-map p f xs)

any-cons : {Y : Type 0} (p : Y → Bool) (o : Option Y) (ys : List Y) → list_any p (cons_option o ys) ≡ (option_map_or p o false || list_any p ys)
any-cons p None ys = refl
any-cons p (Some y) ys = refl

any-filter_map : {X Y : Type 0} (p : Y → Bool) (h : X → Option Y) (xs : List X) → list_any p (filter_map h xs) ≡ list_any (λ x. option_map_or p (h x) false) xs
any-filter_map p h [] = refl
any-filter_map p h (x ∷ xs) = any-cons p (h x) (filter_map h xs) ∙ ap (λ (b : Bool). option_map_or p (h x) false || b) (any-filter_map p h xs)

-- a transaction of the log is so: one of the opening, or one of the story
any_log : (p : Txn → Bool) (opening : Opening) (story : List Event) → list_any p (logs opening story) ≡ (list_any (λ (unretired : Unretired). p unretired.txn) opening.unretired || list_any (λ (event : Event). option_map_or p (logged event.kind) false) story)
any_log p opening story =
    list_any-append p (map (λ (unretired : Unretired). unretired.txn) opening.unretired) (all_told logged story)
    ∙ (ap (λ (b : Bool). b || list_any p (all_told logged story)) (any-map p (λ (unretired : Unretired). unretired.txn) opening.unretired)
    ∙ ap (λ (b : Bool). list_any (λ (unretired : Unretired). p unretired.txn) opening.unretired || b) (any-filter_map p (λ (event : Event). logged event.kind) story))

-- the same, each part by its test
pub has_log : (p : Txn → Bool) (opening : Opening) (story : List Event) (was came : Bool) → was ≡ list_any (λ (unretired : Unretired). p unretired.txn) opening.unretired → came ≡ list_any (λ (event : Event). option_map_or p (logged event.kind) false) story → (was || came) ≡ list_any p (logs opening story)
has_log p opening story was came is_was is_came =
    ap (λ (b : Bool). b || came) is_was ∙ (ap (λ (b : Bool). list_any (λ (unretired : Unretired). p unretired.txn) opening.unretired || b) is_came ∙ sym (any_log p opening story))

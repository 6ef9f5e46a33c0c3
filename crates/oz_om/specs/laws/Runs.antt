-- A stripe's rows that stood in a beginning of a story stood in all of it, where its seat gave nothing behind that.
use Rattle.std.proofs.Common.{◌≡◌, ◌==◌, ℕ, List, [], ◌∷◌, ◌++◌, length, length-append, arith, refl, sym, ap, ◌∙◌, subst}
use Rattle.std.proofs.lemmas.List.Elements.{filter-append}
use Rattle.oz_core.specs.declared.event.Event.{Event}
use Rattle.oz_core.specs.declared.opening.Opening.{Opening}
use Rattle.oz_core.specs.Law.{IsLegal}
use Rattle.oz_core.specs.Seats.{stripe_seat}
use Rattle.oz_core.specs.Stories.{mine}
use Rattle.oz_owned.specs.Stood.{HasStood}
use Rattle.oz_owned.specs.laws.Standing.{has_stood_without}
use Rattle.oz_rows.specs.RowMaps.{Rows}
use Rattle.oz_om.specs.Keeps.{HasRun}

-- a list that grows by nothing
none_more : {E : Type 0} (l more : List E) → l ≡ l ++ more → more ≡ []
none_more l [] same = refl
none_more l (x ∷ more) same = absurd (omega (arith, ap length same, length-append l (x ∷ more)))

pub none_given : (stripe : ℕ) (given seen more : List Event) → mine (stripe_seat stripe) (seen ++ more) ≡ given → mine (stripe_seat stripe) seen ≡ given
    → mine (stripe_seat stripe) more ≡ []
none_given stripe given seen more own was = none_more (mine (stripe_seat stripe) seen) (mine (stripe_seat stripe) more)
    (was ∙ sym own ∙ filter-append (λ (event : Event). event.seat == stripe_seat stripe) seen more)

pub run_stood : (opening : Opening) (loaded : Rows) (story : List Event) (stripe : ℕ) (rows : Rows) → IsLegal opening story
    → HasRun opening loaded story stripe rows → HasStood opening loaded stripe story rows
run_stood opening loaded story stripe rows legal run =
    let more = run.begins.0 in
    let parts = run.begins.1 in
    let none = none_given stripe (mine (stripe_seat stripe) run.seen) run.seen more (ap (mine (stripe_seat stripe)) (sym parts) ∙ run.given) refl in
    subst (λ (l : List Event). HasStood opening loaded stripe l rows) (sym parts)
    (has_stood_without opening loaded stripe run.seen more rows (subst (IsLegal opening) parts legal) none run.stood)

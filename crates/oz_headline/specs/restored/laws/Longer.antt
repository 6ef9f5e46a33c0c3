-- A stripe's rows that stood in a beginning of a story stood in all of it, where its seat gave nothing behind that.
use Rattle.std.proofs.Common.{◌≡◌, ◌==◌, ℕ, List, [], ◌∷◌, ◌++◌, length, length-append, arith, refl, sym, ap, ◌∙◌, subst}
use Rattle.std.proofs.lemmas.List.Elements.{filter-append}
use Rattle.oz_core.specs.declared.event.Event.{Event}
use Rattle.oz_core.specs.declared.opening.Opening.{Opening}
use Rattle.oz_core.specs.Law.{IsLegal}
use Rattle.oz_core.specs.Seats.{stripe_seat}
use Rattle.oz_core.specs.Stories.{mine}
use Rattle.oz_om.specs.Keeps.{HasRun}
use Rattle.oz_owned.specs.Stood.{HasStood}
use Rattle.oz_owned.specs.laws.Standing.{has_stood_without}
use Rattle.oz_rows.specs.RowMaps.{Rows}

none_more : {E : Type 0} (l more : List E) → l ++ more ≡ l → more ≡ []
none_more l [] same = refl
none_more l (x ∷ more) same = absurd (omega (arith, ap length same, length-append l (x ∷ more)))

pub stood_all : (opening : Opening) (loaded : Rows) (stripe : ℕ) (story : List Event) (rows : Rows) → IsLegal opening story
    → HasRun opening loaded story stripe rows → HasStood opening loaded stripe story rows
stood_all opening loaded stripe story rows legal run =
    let more = run.begins.0 in
    let parts = run.begins.1 in
    let none = none_more (mine (stripe_seat stripe) run.seen) (mine (stripe_seat stripe) more)
    (sym (filter-append (λ (e : Event). e.seat == stripe_seat stripe) run.seen more) ∙ ap (mine (stripe_seat stripe)) (sym parts) ∙ run.given) in
    subst (λ (l : List Event). HasStood opening loaded stripe l rows) (sym parts)
    (has_stood_without opening loaded stripe run.seen more rows (subst (IsLegal opening) parts legal) none run.stood)

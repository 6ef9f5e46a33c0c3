use Rattle.std.proofs.Common.{◌≡◌, ℕ, List, [], length, refl, sym, ◌∙◌, ap, subst}
use Rattle.std.specs.Option.{IfSome}
use Rattle.oz_journal.specs.Body.{bodies_in, places_in}
use Rattle.oz_journal.specs.Grammar.{records, places}
use Rattle.oz_journal.specs.declared.body.Body.{Body}
use Rattle.oz_journal.proofs.Opens.{loadable_still, closed_rests}
use Rattle.oz_journal.proofs.Scans.{scanned_none}
use Rattle.oz_journal.proofs.open.open.Goals as goal

pub returns-in_default-clause-loadable : goal.returns-in_default-clause-loadable
returns-in_default-clause-loadable g c = loadable_still _ _ _ _ _ _ c.len.ensures.contents c.len.ensures.time

pub returns-then-size-le1-clause-places : goal.returns-then-size-le1-clause-places
returns-then-size-le1-clause-places g c = subst (λ (l : List Body). places_in l ≡ places 0 (bodies_in l)) (sym c.new.ensures.items) (scanned_none []).placed

pub returns-then-size-le1-clause-at_rest : goal.returns-then-size-le1-clause-at_rest
returns-then-size-le1-clause-at_rest g c = closed_rests _ _ c.in-Ok.size _ _ c.if-size-le1.true (subst (λ o. IfSome o (λ (bytes : List ℕ). c.in-Ok.size ≡ length bytes)) (sym c.len.ensures.contents) c.in-Ok.ensures.length) c.in-Ok-store.ensures.written c.in-Ok-store.ensures.stable

no_records : length (records []) ≡ 0
unfolding records
no_records = refl

pub returns-then-size-le1-clause-gate : goal.returns-then-size-le1-clause-gate
returns-then-size-le1-clause-gate g c = sym no_records ∙ ap (λ (bodies : List Body). length (records (bodies_in bodies))) (sym c.new.ensures.items)

use Rattle.std.proofs.Common.{◌≡◌, ℕ, List, None, All, sym, ◌∙◌, ap, subst}
use Rattle.oz_core.specs.declared.event.Event.{Event}
use Rattle.oz_core.specs.declared.event.Node.TheVariants.{Scm}
use Rattle.oz_core.specs.Manager.{halt_of}
use Rattle.oz_core.specs.Scm.{acknowledgers, containers, is_retired, is_up, logs}
use Rattle.oz_turn.specs.Seat.{seen_of}
use Rattle.oz_service.specs.Sending.{MayBeSent}
use Rattle.oz_service.proofs.Due.{each_may_be_sent, nothing_is_due}
use Rattle.oz_service.proofs.Viewed.{log_kept}
use Rattle.oz_service.proofs.deleting.sending.dues_locked.Goals as goal

pub returns-clause-may : goal.returns-clause-may
returns-clause-may g c = λ coherent.
    let O = g.O.Opened in
    let scm = c.be_shown-halt.new.scm in
    let story = seen_of c.be_shown-halt.new.seat in
    let shown = c.be_shown-halt.ensures.shown in
    let follow = c.be_shown-halt.ensures.follow in
    let tells = c.the_scm_alone_tells.ensures in
    let unhalted : halt_of Scm scm.mine ≡ None = sym (tells.halt story follow ∙ ap (halt_of Scm) shown) ∙ sym c.in_default.ensures.halt in
    subst (All (MayBeSent O.opening story)) (sym c.in-Ok.ensures.dues)
    (each_may_be_sent O.opening scm.mine story scm.scm.made (log_kept O.opening _ scm.scm _ scm.seen scm.mine c.is_kept.ensures unhalted)
    (tells.logs story coherent follow ∙ ap (logs O.opening) shown)
    (tells.containers story coherent follow ∙ ap (containers O.opening) shown)
    (λ (number : ℕ). tells.acknowledgers story number coherent follow ∙ ap (λ (l : List Event). acknowledgers O.opening l number) shown)
    (λ (number : ℕ). tells.retired story number coherent follow ∙ ap (is_retired number) shown)
    (λ (dn : ℕ). tells.up story dn coherent follow ∙ ap (is_up dn) shown))

pub returns-clause-none : goal.returns-clause-none
returns-clause-none g c = λ coherent none.
    let O = g.O.Opened in
    let scm = c.be_shown-halt.new.scm in
    let story = seen_of c.be_shown-halt.new.seat in
    let shown = c.be_shown-halt.ensures.shown in
    let follow = c.be_shown-halt.ensures.follow in
    let tells = c.the_scm_alone_tells.ensures in
    let unhalted : halt_of Scm scm.mine ≡ None = sym (tells.halt story follow ∙ ap (halt_of Scm) shown) ∙ sym c.in_default.ensures.halt in
    nothing_is_due O.opening scm.mine story scm.scm.made (log_kept O.opening _ scm.scm _ scm.seen scm.mine c.is_kept.ensures unhalted)
    (tells.logs story coherent follow ∙ ap (logs O.opening) shown)
    (tells.containers story coherent follow ∙ ap (containers O.opening) shown)
    (λ (number : ℕ). tells.acknowledgers story number coherent follow ∙ ap (λ (l : List Event). acknowledgers O.opening l number) shown)
    (λ (number : ℕ). tells.retired story number coherent follow ∙ ap (is_retired number) shown)
    (λ (dn : ℕ). tells.up story dn coherent follow ∙ ap (is_up dn) shown) (sym c.in-Ok.ensures.dues ∙ none)

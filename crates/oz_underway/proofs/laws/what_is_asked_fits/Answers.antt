use Rattle.std.proofs.Common.{◌≡◌, Some, sym, subst}
use Rattle.oz_requests.specs.declared.request.AskId.{AskId}
use Rattle.oz_core.specs.declared.event.EventKind.TheVariants.{Ask}
use Rattle.oz_core.specs.Asks.{pending}
use Rattle.oz_core.specs.Fits.{EventFits}
use Rattle.oz_core.specs.Law.{AskIsEnabled}
use Rattle.oz_underway.specs.laws.UnderWay.{ask_fits, pending_is_request}
use Rattle.oz_underway.proofs.laws.what_is_asked_fits.Goals as goal

pub returns-clause-fits : goal.returns-clause-fits
returns-clause-fits g c coherent seen line asked said seat command progress got request id way step has_it is story begins all as_said enabled =
    let O = g.O.Opened in
    subst (λ (i : AskId). EventFits O.opening O.bytes O.script story (Ask i request)) (sym is)
    (ask_fits O.coherent O.opening O.bytes O.script seen line asked said command progress got request coherent way step has_it story seat begins all as_said
    (subst (λ (i : AskId). AskIsEnabled O.opening story seat i request) is enabled))

pub returns-clause-same : goal.returns-clause-same
returns-clause-same g c coherent numbered seen line asked said command progress got request id way step has_it is story begins all as_said other so =
    let O = g.O.Opened in
    pending_is_request O.coherent O.opening O.bytes O.script seen line asked said command progress got request coherent way step has_it numbered story begins all as_said other
    (subst (λ (i : AskId). pending i story ≡ Some other) is so)

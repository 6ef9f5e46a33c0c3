use Rattle.std.proofs.Common.{List, [], sym, ap, subst}
use Rattle.oz_buffer.specs.Buffer.{AllFollow, Follows}
use Rattle.oz_core.specs.declared.event.Event.{Event}
use Rattle.oz_core.specs.declared.opening.Opening.{Opening}
use Rattle.oz_core.specs.Asks.{pending}
use Rattle.oz_core.specs.Contents.{OpeningBytes}
use Rattle.oz_om.specs.Served.{service_id}
use Rattle.oz_script.specs.declared.lines.script.Script.{Script}
use Rattle.oz_service.proofs.pass.service.Service+Ledger+O+O+R.make.Goals as goal

-- in a story of no events each may follow
none_follow : (Coherent : Type 0) (opening : Opening) (bytes : OpeningBytes) (script : Script) → AllFollow (Follows Coherent opening bytes script) [] []
unfolding AllFollow
none_follow Coherent opening bytes script = tt

pub invariant_of-result : goal.invariant_of-result
invariant_of-result g c =
    let O = g.O.Opened in (
      c.requires.ready,
      subst (λ (l : List Event). AllFollow (Follows O.coherent O.opening O.bytes O.script) [] l) (sym c.requires.seen)
          (none_follow O.coherent O.opening O.bytes O.script),
      tt,
      λ coherent. ap (pending service_id) c.requires.seen,
    )

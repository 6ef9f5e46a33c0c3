use Rattle.std.proofs.Common.{◌≡◌, ℕ, List, Some, IfSome, IsSomeAnd, subst}
use Rattle.oz_journal.specs.declared.body.Body.{Body}
use Rattle.oz_journal.specs.Body.{bodies_in}
use Rattle.oz_journal.specs.Load.{IsLeftAlone, IsLoadable}
use Rattle.oz_loaded.specs.Loads.{IsFaultIn, IsLoaded, Loads}
use Rattle.oz_loaded.proofs.Places.{damaged_journal, damaged_body, moved, tells_journal}
use Rattle.oz_world.specs.Disk.{IsStable}
use Rattle.oz_world.specs.Moments.{Spans}
use Rattle.oz_loaded.proofs.loading.load.Goals as goal

pub returns-in-Err-clause-damaged : goal.returns-in-Err-clause-damaged
returns-in-Err-clause-damaged g c offset is = damaged_journal (g.D.Disk.told c.args.disk) offset (c.in-Err.ensures.damaged offset is)

pub returns-clause-damaged : goal.returns-clause-damaged
returns-clause-damaged g c offset is = damaged_body (g.D.Disk.told c.args.disk) _ offset c.in-Ok.ensures.bodies (subst (λ (l : List Body). IsFaultIn (bodies_in l) offset) c.deref.ensures.value (c.in-Err-unseated_of.ensures.damaged offset is))

pub returns-in-Ok-unseated_of-clause-loads : goal.returns-in-Ok-unseated_of-clause-loads
returns-in-Ok-unseated_of-clause-loads g c =
    let it = g.D.Disk in
    let first = it.told c.args.disk in
    let bodies = bodies_in c.in-Ok.loaded.1.items in
    moved c.new-in-Ok-unseated_of.ensures (λ disk. Loads first (it.told disk) c.in-Ok-unseated_of.unseated)
    (bodies, subst (λ (l : List Body). IsLoaded (bodies_in l) c.in-Ok-unseated_of.unseated) c.deref.ensures.value c.in-Ok-unseated_of.ensures.loaded, tells_journal first (it.told c.in-Ok.loaded.0.disk) bodies c.in-Ok.ensures.bodies c.in-Ok.ensures.stands)

pub returns-in-Ok-unseated_of-clause-stable : goal.returns-in-Ok-unseated_of-clause-stable
returns-in-Ok-unseated_of-clause-stable g c =
    let it = g.D.Disk in
    moved c.new-in-Ok-unseated_of.ensures (λ disk. (bytes : List ℕ) → it.told disk ≡ Some bytes → IsStable (it.image disk) (it.clock disk) bytes) c.in-Ok.ensures.stable

pub returns-in-Ok-unseated_of-clause-moments : goal.returns-in-Ok-unseated_of-clause-moments
returns-in-Ok-unseated_of-clause-moments g c =
    let it = g.D.Disk in
    let first = c.args.disk in
    moved c.new-in-Ok-unseated_of.ensures (λ disk. IfSome (it.told first) (λ bytes. IsLoadable bytes (it.image first (it.clock first)) → Spans IsLeftAlone (it.clock first) (it.clock disk) (it.image first) (it.image disk))) c.in-Ok.ensures.moments

pub returns-in-Ok-unseated_of-clause-loadable : goal.returns-in-Ok-unseated_of-clause-loadable
returns-in-Ok-unseated_of-clause-loadable g c =
    let it = g.D.Disk in
    let first = c.args.disk in
    moved c.new-in-Ok-unseated_of.ensures (λ disk. IfSome (it.told first) (λ bytes. IsLoadable bytes (it.image first (it.clock first)) → IsSomeAnd (it.told disk) (λ after. IsLoadable after (it.image disk (it.clock disk))))) c.in-Ok.ensures.loadable

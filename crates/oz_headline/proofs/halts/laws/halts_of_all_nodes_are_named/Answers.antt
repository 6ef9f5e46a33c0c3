use Rattle.std.proofs.Common.{refl}
use Rattle.oz_world.specs.Disk.{seen}
use Rattle.oz_headline.proofs.halts_lemmas.Halts.{halts_named, of_their_seats, status_of_all}
use Rattle.oz_headline.proofs.halts.laws.halts_of_all_nodes_are_named.Goals as goal

pub returns-clause-named : goal.returns-clause-named
returns-clause-named g c begun disk stopped before loaded after mine story all kept scm_is nodes_are known many =
    let O = g.O.Opened in
    let D = g.D.Disk in
    halts_named D.told D.clock D.image D.faults O.coherent O.opening O.bytes O.script O.faults story mine (λ d. seen (D.told d) (D.clock d) (D.image d) (D.faults d)) (λ d. refl)
    g.M.Mounted.disk.faults g.M.Mounted.disk.clock stopped _ _ before loaded after
    (of_their_seats O.coherent O.opening O.bytes O.script story all) kept.own kept.halt kept.rose scm_is nodes_are known many

pub returns-clause-status : goal.returns-clause-status
returns-clause-status g c begun disk stopped before loaded after story many halts =
    let D = g.D.Disk in
    status_of_all (λ d. seen (D.told d) (D.clock d) (D.image d) (D.faults d)) story
    g.M.Mounted.disk.faults g.M.Mounted.disk.clock stopped _ _ before loaded after many halts

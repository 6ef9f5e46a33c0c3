use Rattle.oz_headline.specs.Disks.{manager_disk}
use Rattle.oz_world.specs.Disk.{seen}
use Rattle.oz_headline.proofs.halts_lemmas.Bad.{none_is_bad}
use Rattle.oz_headline.proofs.halts_lemmas.Keeping.{keeps}
use Rattle.oz_headline.proofs.halts.laws.the_story_keeps_the_headline_of_all_disks.Goals as goal

pub returns : goal.returns
returns g c coherent log numbered begun disk stopped before loaded after mine story all kept nodes_are =
    let O = g.O.Opened in
    let D = g.D.Disk in
    let M = g.M.Mounted in
    keeps (λ d. seen (D.told d) (D.clock d) (D.image d) (D.faults d)) story O.opening O.bytes O.script
    (manager_disk M.disk.faults M.disk.clock stopped (seen (D.told begun) (D.clock begun) (D.image begun) (D.faults begun)) (seen (D.told disk) (D.clock disk) (D.image disk) (D.faults disk)))
    before loaded after
    (c.the_story_keeps_the_headline.ensures coherent log numbered begun disk stopped mine story all kept
    (none_is_bad D.told D.clock D.image D.faults O.coherent O.opening O.bytes O.script O.faults story coherent all after.datanodes nodes_are))

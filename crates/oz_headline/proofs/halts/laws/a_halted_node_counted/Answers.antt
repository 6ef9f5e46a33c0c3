use Rattle.std.proofs.Common.{refl}
use Rattle.oz_world.specs.Disk.{seen}
use Rattle.oz_headline.proofs.halts_lemmas.Counting.{counted}
use Rattle.oz_headline.proofs.halts.laws.a_halted_node_counted.Goals as goal

pub returns : goal.returns
returns g c begun disk faults first stopped before loaded after story node many halts halted =
    let D = g.D.Disk in
    counted D.faults (λ d. seen (D.told d) (D.clock d) (D.image d) (D.faults d)) (λ d. refl) faults first stopped
    (seen (D.told begun) (D.clock begun) (D.image begun) (D.faults begun)) (seen (D.told disk) (D.clock disk) (D.image disk) (D.faults disk))
    before loaded after story many halts node halted

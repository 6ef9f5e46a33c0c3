use Rattle.std.proofs.Common.{◌≡◌, ◌+◌, ◌-◌, ◌<◌, ◌≤◌, ◌^◌, length, ap, ◌∙◌, arith}
use Rattle.oz_epochs.specs.Epochs.{Epochs}
use Rattle.oz_epochs.specs.Nodes.{entries_of}
use Rattle.oz_epochs.proofs.Changes.{entries_are, linked_here, grown_to}
use Rattle.oz_epochs.proofs.list.EpochList.reserve.Goals as goal

pub invariant_of-self-2 : goal.invariant_of-self-2
invariant_of-self-2 g c =
    let i = c.self.inside in let fill = c.fill_spare-self-inside in let es = entries_of i.nodes.items i.front i.spare in
    let capacity = c.grow.new.self.capacity in let items = c.grow.new.self.items in let total = i.spare + (c.capacity.result - c.len.result) in
    let small : capacity < 2 ^ 64 = omega (arith, c.capacity.type_inv, c.capacity.ensures) in
    let within : length items ≤ capacity = omega (arith, c.len.ensures.len, c.len.ensures.within) in
    let count : total ≡ i.spare + (capacity - length items) = omega (arith, c.len.ensures.len, c.capacity.ensures) in
    linked_here fill.new.nodes.items i.front i.back fill.result total es
    (grown_to i.nodes.items i.front i.back i.spare_front i.spare es c.self.invariant items fill.new.nodes.items fill.result capacity total c.grow.ensures.items small within fill.ensures.full fill.ensures.kept fill.ensures.spare count)

pub returns-clause-entries : goal.returns-clause-entries
returns-clause-entries g c =
    let i = c.self.inside in let fill = c.fill_spare-self-inside in let es = entries_of i.nodes.items i.front i.spare in
    let capacity = c.grow.new.self.capacity in let items = c.grow.new.self.items in let total = i.spare + (c.capacity.result - c.len.result) in
    let small : capacity < 2 ^ 64 = omega (arith, c.capacity.type_inv, c.capacity.ensures) in
    let within : length items ≤ capacity = omega (arith, c.len.ensures.len, c.len.ensures.within) in
    let count : total ≡ i.spare + (capacity - length items) = omega (arith, c.len.ensures.len, c.capacity.ensures) in
    entries_are fill.new.nodes.items i.front i.back fill.result total es
    (grown_to i.nodes.items i.front i.back i.spare_front i.spare es c.self.invariant items fill.new.nodes.items fill.result capacity total c.grow.ensures.items small within fill.ensures.full fill.ensures.kept fill.ensures.spare count)
    ∙ ap (λ (v : Epochs g.row.K.Denot). v.entries) c.self.view_is

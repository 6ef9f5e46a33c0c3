use Rattle.std.proofs.Common.{◌≡◌, ◌∙◌, rules}
use Rattle.oz_world.specs.laws.Present.{present}
use Rattle.oz_world.proofs.memory_disk.MemoryDisk.image.Goals as goal

pub returns-in_ok-to_vec-in-1-clause-image : goal.returns-in_ok-to_vec-in-1-clause-image
returns-in_ok-to_vec-in-1-clause-image c =
    let same : c.in_ok-to_vec-in-1.field-0.items ≡ c.args.self.now.bytes.items = search rules in
    present c.args.self.now.history.first.items c.args.self.now.history.entries.items c.args.self.now.history.clock _ c.args.self.now.history.past (same ∙ c.args.self.now.recorded)

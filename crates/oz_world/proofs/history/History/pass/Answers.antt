use Rattle.oz_world.proofs.Records.{by_later, ticks_pass, still_left}
use Rattle.std.proofs.Common.{◌+◌, arith}
use Rattle.oz_world.proofs.history.History.pass.Goals as goal

pub invariant_of-self-clause-past : goal.invariant_of-self-clause-past
invariant_of-self-clause-past c = by_later c.args.self.now.clock (c.args.self.now.clock + 1) c.args.self.now.entries.items (omega arith) c.args.self.now.past

pub returns-clause-time : goal.returns-clause-time
returns-clause-time c = ticks_pass c.args.self.now.first.items c.args.self.now.entries.items c.args.self.now.clock c.args.self.now.past

pub returns-clause-still_left : goal.returns-clause-still_left
returns-clause-still_left c = still_left c.args.self.now.first.items c.args.self.now.entries.items c.args.self.now.clock c.args.self.now.past

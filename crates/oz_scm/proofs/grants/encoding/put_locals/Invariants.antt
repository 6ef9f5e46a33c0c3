use Rattle.std.proofs.Common.{◌≡◌, ◌++◌, length, take}
use Rattle.std.specs.List.{flat_map}
use Rattle.oz_fields.specs.Number.{u16_bytes, u64_bytes}
use Rattle.oz_scm.proofs.grants.encoding.put_locals.Given as goal

abbrev pub invariant-loop-local : goal.invariant-loop-local
invariant-loop-local l = l.out.items ≡ l.fn.out.items ++ (u16_bytes (length l.locals) ++ flat_map u64_bytes (take l.local-index l.locals))

use Rattle.std.proofs.Common.{◌≡◌, ◌==◌, map, filter, take}
use Rattle.oz_script.specs.declared.lines.script.Line.{Line}
use Rattle.oz_worker.proofs.client.client_lines.Given as goal

abbrev pub invariant-loop-line : goal.invariant-loop-line
invariant-loop-line l =
    map (λ line. line.now) l.lines.items ≡ filter (λ (line : Line). line.client == l.client) (take l.line-index l.script.lines)

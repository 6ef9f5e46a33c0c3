use Rattle.std.proofs.Common.{◌≡◌, ◌≤◌, take}
use Rattle.oz_script.specs.lines.Numbered.{lines_of}
use Rattle.oz_running.proofs.counting.line_count.Given as goal

-- those so far
abbrev pub invariant-loop-line : goal.invariant-loop-line
invariant-loop-line l = record {
  counted : l.count ≡ lines_of (take l.line-index l.lines) l.client;
  few : l.count ≤ l.line-index;
}

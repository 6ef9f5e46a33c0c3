use Rattle.std.proofs.Common.{◌≡◌, ◌*◌, ◌≤◌}
use Rattle.oz_freon.specs.Drawing.{words_at}
use Rattle.oz_freon.specs.Script.{lines_of}
use Rattle.oz_freon.proofs.snapshots.lines_of.Given as goal

abbrev pub invariant-loop-key : goal.invariant-loop-key
invariant-loop-key l =
    (l.lines ≡ lines_of l.number l.client l.key) × (l.lines ≤ 2 * l.key) × (l.words ≡ words_at l.number l.key)

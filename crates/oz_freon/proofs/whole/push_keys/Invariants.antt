use Rattle.std.proofs.Common.{◌≡◌, ◌++◌}
use Rattle.oz_freon.specs.Drawing.{words_at}
use Rattle.oz_freon.specs.Script.{key_lines, texts_below}
use Rattle.oz_freon.proofs.whole.push_keys.Given as goal

abbrev pub invariant-loop-key : goal.invariant-loop-key
invariant-loop-key l =
    (l.out.items ≡ l.fn.out.items ++ texts_below (key_lines l.number) l.key) × (l.words ≡ words_at l.number l.key)

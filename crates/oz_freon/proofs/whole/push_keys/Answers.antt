use Rattle.std.proofs.Common.{ℕ, List, ◌++◌, ◌∙◌, ap}
use Rattle.oz_freon.specs.Script.{key_lines, key_text, texts_below}
use Rattle.oz_freon.proofs.Loops.{key_is, text_grows, words_go_on}
use Rattle.oz_freon.proofs.whole.push_keys.Goals as goal

pub loop-key-preserved : goal.loop-key-preserved
loop-key-preserved c =
    let number = c.args.number in
    let key = c.loop-key.key in
    let drawn = c.draw-drawn.result in
    let are = c.loop-key.invariant.1 in (
      c.in_ok-push_key.ensures
          ∙ (ap (λ (l : List ℕ). l ++ key_text key drawn.length drawn.deed) c.loop-key.invariant.0
          ∙ (ap (λ (l : List ℕ). (c.args.out.now.items ++ texts_below (key_lines number) key) ++ l) (key_is number key c.loop-key.words drawn.length drawn.deed are c.draw-drawn.ensures.length c.draw-drawn.ensures.deed)
          ∙ text_grows (key_lines number) c.args.out.now.items key)),
      words_go_on number key c.loop-key.words c.draw-drawn.new.words are c.draw-drawn.ensures.words,
    )

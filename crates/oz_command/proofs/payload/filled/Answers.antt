use Rattle.std.proofs.Common.{◌+◌, ◌-◌, ◌≡◌, ◌∷◌, [], ◌++◌, ◌∙◌, sym, ap, List, map, arith, ℕ}
use Rattle.std.specs.List.{range_with_len}
use Rattle.std.proofs.lemmas.List.FromFn.{map-range_with_len_more}
use Rattle.oz_command.specs.Payload.{fill_byte}
use Rattle.oz_command.proofs.payload.filled.Goals as goal

pub loop-i-preserved : goal.loop-i-preserved
loop-i-preserved c =
    let f = fill_byte c.args.number in
    let more : c.loop-i.i + 1 - c.args.first ≡ (c.loop-i.i - c.args.first) + 1 = omega arith in
    c.in_ok-push.ensures.items
    ∙ rw c.fill_byte.ensures (ap (λ (bytes : List ℕ). bytes ++ f c.loop-i.i ∷ []) c.loop-i.invariant)
    ∙ sym (map-range_with_len_more f c.args.first (c.loop-i.i - c.args.first) c.loop-i.i (omega arith))
    ∙ ap (λ (n : ℕ). map f (range_with_len c.args.first n)) (sym more)

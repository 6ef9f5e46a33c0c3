use Rattle.std.proofs.Common.{◌≡◌, ◌≤◌, ◌<◌, ℕ, ◌+◌, ⊎_elim, ap, length, subst, arith}
use Rattle.std.proofs.lemmas.Bool.{cases_lt, false≢true}
use Rattle.oz_core.specs.Fits.{line_numbers, told_lines}
use Rattle.oz_running.proofs.Counts.{as_many, same_count}
use Rattle.oz_running.proofs.counting.each_is_told_as_many.Goals as goal

pub loop-client-preserved : goal.loop-client-preserved
loop-client-preserved g c other some within = ⊎_elim
    (λ (above : c.loop-client.client < other).
    let its : c.loop-client.client + 1 ≡ other = omega (arith, above, within) in
    subst (λ (n : ℕ). length (told_lines n c.args.ledger.now.story) ≡ length (line_numbers c.args.script.now n)) its
    (as_many c.args.script.now c.args.ledger.now.story (c.loop-client.client + 1) _ _ _ c.lines_told.ensures c.line_count.ensures c.items-in-loop-client.ensures
    c.if-lines_told-line_count.false))
    (λ (before : other ≤ c.loop-client.client). c.loop-client.invariant other some before)
    (cases_lt c.loop-client.client other)

pub returns-then-lines_told-line_count : goal.returns-then-lines_told-line_count
returns-then-lines_told-line_count g c = (
  λ wrong. absurd (false≢true wrong),
  λ all. absurd (c.if-lines_told-line_count.true
      (same_count c.args.script.now c.args.ledger.now.story (c.loop-client.client + 1) _ _ _ c.lines_told.ensures c.line_count.ensures c.items-in-loop-client.ensures
      (all (c.loop-client.client + 1) (record { some = omega arith; within = omega (arith, c.loop-client-test.true, ap length c.items.ensures, c.requires) })))),
)

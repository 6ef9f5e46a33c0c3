use Rattle.std.proofs.Common.{List, ℕ, take, drop, length, ◌<◌, inr, arith, ◌∙◌, ap}
use Rattle.oz_journal.proofs.Frames.{read_size, found_body}
use Rattle.oz_journal.proofs.frame.body_behind.Goals as goal

pub returns-then-rest-size : goal.returns-then-rest-size
returns-then-rest-size c =
    let read = read_size c.args.behind.now c.split_at.result.0.now c.read_u32-size.result c.if-behind-lt4.false c.split_at.ensures.front c.read_u32-size.ensures in
    let less : length (drop 4 c.args.behind.now) < c.read_u32-size.result = omega (arith, c.if-rest-size.true, ap length c.split_at.ensures.back) in
    inr (c.read_u32-size.result, drop 4 c.args.behind.now, read, less)

pub returns : goal.returns
returns c =
    let read = read_size c.args.behind.now c.split_at.result.0.now c.read_u32-size.result c.if-behind-lt4.false c.split_at.ensures.front c.read_u32-size.ensures in
    found_body c.args.behind.now (drop 4 c.args.behind.now) c.split_at-2.result.0.now c.split_at-2.result.1.now c.read_u32-size.result (λ k. omega (arith, c.type_inv.behind k)) read (omega (arith, c.if-rest-size.false, ap length c.split_at.ensures.back))
    (c.split_at-2.ensures.front ∙ ap (λ (l : List ℕ). take c.read_u32-size.result l) c.split_at.ensures.back)
    (c.split_at-2.ensures.back ∙ ap (λ (l : List ℕ). drop c.read_u32-size.result l) c.split_at.ensures.back)

use Rattle.std.proofs.Common.{◌+◌, ◌∙◌, ◌≡◌, ap, sym, subst, arith, length, length-take, drop, take, IfSome, ℕ}
use Rattle.std.specs.Option.{option_map}
use Rattle.oz_cluster.proofs.Reading.{read_left, read_prefix, read_end, read_to_end}
use Rattle.oz_cluster.proofs.streams.read_through.Goals as goal

pub returns-in-Err-clause-taken : goal.returns-in-Err-clause-taken
returns-in-Err-clause-taken g c =
    let more = c.in-Err.ensures.taken in
    let within = more.within in
    record {
      count = length c.loop-text.text.items + more.count;
      within = omega (arith, within, length-take c.min-size.result c.loop-text.room, c.min-size.ensures, c.len-in-loop-text.ensures, c.loop-text.text.ok.0);
      rest = read_left _ _ _ (length c.loop-text.text.items) more.count c.loop-text.invariant.left more.rest;
    }

pub loop-text-preserved : goal.loop-text-preserved
loop-text-preserved g c =
    let size = c.in-Ok.ensures.size in
    record {
      left = read_left _ _ _ (length c.loop-text.text.items) c.in-Ok.count c.loop-text.invariant.left c.in-Ok.ensures.left ∙ ap (λ (n : ℕ). option_map (drop n) (g.S.Source.left c.args.source.now)) (sym size);
      bytes = subst (λ (n : ℕ). IfSome (g.S.Source.left c.args.source.now) (λ rest. c.read_more.new.text.items ≡ take n rest)) (sym size) (read_prefix _ _ c.loop-text.text.items c.read_more.new.text.items (length c.loop-text.text.items) c.in-Ok.count c.loop-text.invariant.left c.loop-text.invariant.bytes c.in-Ok.ensures.bytes);
      size = omega (arith, size, c.in-Ok.ensures.fits, length-take c.min-size.result c.loop-text.room, c.min-size.ensures, c.len-in-loop-text.ensures, c.loop-text.text.ok.0);
      faults = omega (arith, c.in-Ok.ensures.never_falls);
    }

pub returns-then-count-eq0-clause-bytes : goal.returns-then-count-eq0-clause-bytes
returns-then-count-eq0-clause-bytes g c =
    read_end _ _ c.loop-text.text.items c.read_more.new.text.items c.in-Ok.count c.args.limit c.loop-text.invariant.left c.loop-text.invariant.bytes c.in-Ok.ensures.bytes c.in-Ok.ensures.end c.if-count-eq0.true c.loop-text.invariant.size

pub returns-clause-bytes : goal.returns-clause-bytes
returns-clause-bytes g c =
    let full : length c.loop-text.text.items ≡ c.args.limit = omega (arith, c.loop-text-test.false, c.len.ensures, c.loop-text.text.ok.0, c.loop-text.invariant.size) in
    subst (λ (n : ℕ). IfSome (g.S.Source.left c.args.source.now) (λ rest. c.loop-text.text.items ≡ take n rest)) full c.loop-text.invariant.bytes

pub returns-then-count-eq0-clause-through : goal.returns-then-count-eq0-clause-through
returns-then-count-eq0-clause-through g c =
    read_to_end _ _ _ (length c.loop-text.text.items) c.in-Ok.count c.args.limit c.loop-text.invariant.left c.in-Ok.ensures.end c.if-count-eq0.true c.in-Ok.ensures.left c.loop-text.invariant.size

pub returns-clause-through : goal.returns-clause-through
returns-clause-through g c =
    let full : length c.loop-text.text.items ≡ c.args.limit = omega (arith, c.loop-text-test.false, c.len.ensures, c.loop-text.text.ok.0, c.loop-text.invariant.size) in
    c.loop-text.invariant.left ∙ ap (λ (n : ℕ). option_map (drop n) (g.S.Source.left c.args.source.now)) full

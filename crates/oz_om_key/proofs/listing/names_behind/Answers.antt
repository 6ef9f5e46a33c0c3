use Rattle.std.proofs.Common.{◌≡◌, ◌≤◌, [], ◌∷◌, ◌++◌, length, sym, ◌∙◌, arith, rules, subst}
use Rattle.oz_om_key.specs.Walking.{AreFirst}
use Rattle.oz_om_key.proofs.Listed.{steps, taken_all, taken_full}
use Rattle.oz_om_key.proofs.listing.names_behind.Goals as goal

pub loop-preserved : goal.loop-preserved
loop-preserved g c =
    let place = c.args.place.now in
    let pushed : c.push.new.self.items ≡ c.loop.names.items ++ c.in-Some.name.now ∷ [] = search rules in
    record {
      size = search (rules, pushed);
      first = λ keys start have first.
          subst (AreFirst keys place.volume.now place.bucket.now place.source c.args.prefix.now start c.in-Some.key.now) (sym pushed)
          (steps (g.M.RowMap.rows c.args.rows.now) place.volume.now place.bucket.now place.source keys have c.args.prefix.now start c.loop.last.now c.loop.names.items (c.loop.invariant.first keys start have first) c.in-Some.key.now c.in-Some.name.now c.in-Some.ensures.some);
    }

pub returns-in_default : goal.returns-in_default
returns-in_default g c = λ keys start have first.
    let place = c.args.place.now in
    let now = c.loop.invariant.first keys start have first in
    let few : length c.loop.names.items ≤ c.args.count = omega (arith, c.loop.invariant.size, c.loop-test.true, c.from-end.ensures) in
    c.of.ensures ∙ sym (taken_all (g.M.RowMap.rows c.args.rows.now) place.volume.now place.bucket.now place.source keys have c.args.prefix.now start c.loop.last.now c.loop.names.items now c.args.count c.in_default.ensures.none few)

pub returns : goal.returns
returns g c = λ keys start have first.
    let place = c.args.place.now in
    let now = c.loop.invariant.first keys start have first in
    let full : length c.loop.names.items ≡ c.args.count = omega (arith, c.loop.invariant.size, c.loop-test.false, c.from-end.ensures, c.loop.auto.counter-end, c.len-counter.ensures, c.requires) in
    c.of-2.ensures ∙ sym (taken_full (g.M.RowMap.rows c.args.rows.now) place.volume.now place.bucket.now place.source keys have c.args.prefix.now start c.loop.last.now c.loop.names.items now c.args.count full)

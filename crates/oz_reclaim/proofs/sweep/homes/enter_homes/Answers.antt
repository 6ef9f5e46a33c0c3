use Rattle.std.proofs.Common.{rules, arith, sym, ◌∙◌}
use Rattle.std.proofs.lemmas.Grind.{common_steps}
use Rattle.oz_reclaim.specs.sweep.Homes.{home_of, is_others}
use Rattle.oz_reclaim.proofs.sweep_lemmas.Homes.{one_more, or_none}
use Rattle.oz_reclaim.proofs.sweep.homes.enter_homes.Goals as goal

pub loop-home-preserved : goal.loop-home-preserved
loop-home-preserved c = record {
  goes = tt;
  ends = tt;
  entered = λ own.
      let now = c.loop-home.homes.keys.entries in
      let home = c.in-Some.home in
      let alone = or_none c.loop-home.homes.is_shared (is_others (home_of now home.block) home.key) (sym c.enter_home.ensures.shared ∙ own) in
      let before = c.loop-home.invariant.entered alone.0 in
      (before.0, one_more c.args.homes.now.keys.entries now c.enter_home.new.homes.keys.entries home c.enter_home.ensures.keys alone.1 c.loop-home.yielded before.1);
  room = first_of (search rules, grind (arith, common_steps));
}

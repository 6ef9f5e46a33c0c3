use Rattle.std.proofs.Common.{[], sym, ◌∙◌, ap}
use Rattle.oz_rows.specs.declared.operation.Head.{Head}
use Rattle.oz_effects.specs.Build.{no_head}
use Rattle.oz_tables.proofs.built_lemmas.FaultPlaces.{fails_within}
use Rattle.oz_tables.proofs.built_lemmas.EachBody.{each_builds, told}
use Rattle.oz_effects.specs.laws.Steps.{some_apart}
use Rattle.oz_tables.proofs.built_lemmas.OneThing.{builds_one, not_both, fails_one}
use Rattle.oz_tables.proofs.built.laws.bodies_make_one_thing.Goals as goal

pub returns : goal.returns
returns c = record {
  each = λ bodies fit. told bodies (each_builds [] no_head bodies tt (λ key base orphan. some_apart (sym orphan.stands)) fit);
  one_table = λ bodies all other index last a b.
      let same = builds_one [] no_head bodies all other a.0 b.0 a.1 b.1 in
      (same.0, sym a.2 ∙ ap (λ (h : Head). h.index) same.1 ∙ b.2);
  not_both = λ bodies all index count place builds fails. not_both [] no_head bodies all builds.0 count place builds.1 fails;
  one_fault = λ bodies count place other at a b. fails_one [] no_head bodies count place other at a b;
  within = λ bodies count place fails. fails_within [] no_head bodies count place fails;
}

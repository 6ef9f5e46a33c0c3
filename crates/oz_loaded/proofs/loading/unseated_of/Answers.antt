use Rattle.std.proofs.Common.{ℕ, sym, subst}
use Rattle.oz_effects.specs.Build.{Builds}
use Rattle.oz_journal.specs.Body.{bodies_in}
use Rattle.oz_loaded.specs.Parts.{AreParts}
use Rattle.oz_loaded.proofs.loading.unseated_of.Goals as goal

pub returns-in-Ok-over-clause-loaded : goal.returns-in-Ok-over-clause-loaded
returns-in-Ok-over-clause-loaded c =
    let all = c.in-Ok.tables.rows in
    let same = sym c.in-Ok-over.ensures.last_index in
    record {
      all = all;
      builds = subst (Builds (bodies_in c.args.bodies.now) all) same c.in-Ok.ensures.built;
      in_order = c.in-Ok.ensures.in_order;
      parts = subst (λ (index : ℕ). AreParts all index c.in-Ok-over.unseated.parts) same c.in-Ok-over.ensures.parts;
      greatest_id = c.in-Ok-over.ensures.greatest_id;
      left = c.in-Ok-over.ensures.left;
    }

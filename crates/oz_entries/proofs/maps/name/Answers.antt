use Rattle.std.proofs.Common.{refl, sym}
use Rattle.oz_container.specs.declared.state.State.TheVariants as states
use Rattle.oz_entries.specs.declared.replica.Replica.{Replica}
use Rattle.oz_entries.proofs.MapEdits.{named_same}
use Rattle.oz_entries.proofs.maps.name.Goals as goal

pub returns-in_ok-insert-in-None-clause-states : goal.returns-in_ok-insert-in-None-clause-states
returns-in_ok-insert-in-None-clause-states c = named_same (λ (r : Replica). r.state) states.Open _ _ c.args.container _ refl (sym c.in-None.ensures.value) c.in_ok-insert-in-None.ensures.updates.0

pub returns-in_ok-insert-in-None-clause-greatest : goal.returns-in_ok-insert-in-None-clause-greatest
returns-in_ok-insert-in-None-clause-greatest c = named_same (λ (r : Replica). r.greatest) 0 _ _ c.args.container _ refl (sym c.in-None.ensures.value) c.in_ok-insert-in-None.ensures.updates.0

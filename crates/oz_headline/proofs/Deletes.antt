-- Nothing reaches what datanodes delete.
use Rattle.std.proofs.Common.{ℕ, List, inl, inr, refl, arith}
use Rattle.oz_fields.specs.declared.block.Block.{Block}
use Rattle.oz_core.specs.declared.event.Event.{Event}
use Rattle.oz_core.specs.declared.opening.Opening.{Opening}
use Rattle.oz_core.specs.Coherent.{LogIsCoherent}
use Rattle.oz_core.specs.Law.{IsLegal}
use Rattle.oz_kept.specs.Purges.{WasLetGo}
use Rattle.oz_kept.specs.laws.Deleted.{deleted_let_go, opening_away, purged_away}
use Rattle.oz_headline.specs.Deletes.{DeletesAreOutOfReach}

pub deletes : (opening : Opening) (story : List Event) → LogIsCoherent opening → IsLegal opening story → DeletesAreOutOfReach opening story
deletes opening story log legal place seat dn number local locals is among =
    let was : WasLetGo opening story place number local = deleted_let_go opening story place seat dn number local locals legal is among in
    let block : Block = record { container = was.txn.container; local = local } in
    elim was.let_go [
      | inl opened ↦ record {
        txn = was.txn;
        there = was.there;
        of_number = was.of_number;
        from = 0;
        by_then = omega arith;
        given_up = inl (refl, opened);
        unreached = λ later le reached. opening_away opening story block later log legal opened reached;
      }
      | inr asked ↦ record {
        txn = was.txn;
        there = was.there;
        of_number = was.of_number;
        from = asked.0;
        by_then = omega (arith, asked.1);
        given_up = inr asked.2;
        unreached = λ later le reached. purged_away opening story block asked.0 later legal asked.2 le reached;
      }
    ]

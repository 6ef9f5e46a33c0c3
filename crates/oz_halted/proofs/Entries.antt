-- The datanode of the example that halted has an entry more.
use Rattle.std.proofs.Common.{◌≡◌, ◌⊎◌, ℕ, ◌==◌, max, Bool, true, false, not, ◌&&◌, ◌||◌, List, [], ◌∷◌, None, Some}
use Rattle.std.proofs.Common.{is_some, Contains, cond, inl, inr, refl, sym, ◌∙◌, ap, subst, arith}
use mathlib.Core.Bool.{false≢true}
use Rattle.oz_fields.specs.declared.block.Block.{Block}
use Rattle.oz_fields.specs.declared.block.Piece.{Piece}
use Rattle.oz_container.specs.declared.state.State.TheVariants as states
use Rattle.oz_entries.specs.declared.entry.Entry.TheVariants.{Apply}
use Rattle.oz_entries.specs.declared.row.BlockRow.{BlockRow}
use Rattle.oz_entries.specs.Node.{Node, is_held, is_same_block, names}
use Rattle.oz_core.specs.declared.event.Event.{Event}
use Rattle.oz_core.specs.declared.event.EventKind.TheVariants.{Halt, Delete}
use Rattle.oz_core.specs.declared.event.Node.TheVariants.{Scm, Datanode}
use Rattle.oz_core.specs.declared.opening.Unretired.{Unretired}
use Rattle.oz_core.specs.Nodes.{is_open, was_held}
use Rattle.oz_core.specs.Seats.{datanode_seat, scm_seat}
use Rattle.oz_kept.specs.laws.Places.{legal_first}
use Rattle.oz_kept.specs.laws.Deleted.{legal_to}
use Rattle.oz_kept.specs.laws.Reached.{in_one}
use Rattle.oz_halted.specs.Example.{block, txn, opening, bytes, script, story, holding}
use Rattle.oz_halted.specs.Missing.{LogIsNumbered}
use Rattle.oz_halted.specs.halting.Example.{row, was, deleted, given, remains}
use Rattle.oz_halted.specs.halting.Leaves.{GivenBytes, IsOpenedOf, Leaves, NodeHalted}
use Rattle.oz_halted.specs.halting.Story.{IsOfStory, WasToApply}
use Rattle.oz_halted.specs.halting.laws.Going.{of_no_event}
use Rattle.oz_halted.specs.halting.laws.Making.{of_unchanged}
use Rattle.oz_halted.proofs.Shown.{legal, members_are}

pub numbered : LogIsNumbered opening
numbered = record {
  apart = λ one other there also same. sym (in_one _ one there) ∙ in_one _ other also;
  below = λ unretired there. let same = ap (λ (u : Unretired). u.txn.number) (in_one _ unretired there) in omega (arith, same);
}

-- ---- as it was opened

held_by : (t : Bool) → (t || false) ≡ is_some (cond t (Some row) None)
held_by true = refl
held_by false = refl

one_row : (a b : BlockRow) → Some a ≡ Some b → a ≡ b
one_row a b e = cc

abbrev its_piece : Piece
its_piece = record { block = block; length = 3 }

opened : IsOpenedOf opening bytes 0 was given
opened = record {
  opened = holding;
  there = refl;
  held = λ of. held_by (is_same_block block of);
  lengths = λ piece found among there.
      let same = in_one its_piece piece among in
      let its : Some row ≡ Some found = subst (λ (p : Piece). was.rows p.block ≡ Some found) (sym same) there in
      ap (λ (p : Piece). p.length) (sym same) ∙ ap (λ (r : BlockRow). r.length) (one_row row found its);
  closed = λ container. closed_by (1 == container);
  greatest = λ container. none_applied (1 == container);
  gives = λ of held. refl;
}
  where
    closed_by : (t : Bool) → ((t && true) || false) ≡ not (is_open (cond t states.Closed states.Open))
    closed_by true = refl
    closed_by false = refl

    none_applied : (t : Bool) → cond t (max 0 0) 0 ≡ 0
    none_applied true = refl
    none_applied false = refl

-- ---- as it halted

abbrev other_deletes : Event
other_deletes = record { seat = datanode_seat 1; kind = Delete 1 1 (5 ∷ []) }

abbrev its_halt : Event
its_halt = record { seat = datanode_seat 0; kind = Halt (Datanode 0) 1 }

abbrev scm_halt : Event
scm_halt = record { seat = scm_seat; kind = Halt Scm 1 }

abbrev before : List Event
before = other_deletes ∷ []

stands : IsOfStory opening before 0 was
stands =
    of_unchanged opening numbered [] (legal_to opening [] [] story legal) 0 (datanode_seat 1) (Delete 1 1 (5 ∷ []))
    (legal_first opening [] other_deletes (its_halt ∷ scm_halt ∷ []) legal) refl was
    (of_no_event opening bytes 0 was given opened)

to_apply : WasToApply opening before 0 txn
to_apply = record {
  locals = 5 ∷ [];
  enabled = record {
    of_datanode = record { there = omega arith; its = refl };
    runs = refl;
    txn = txn;
    logged = (0, omega arith, refl);
    of_number = refl;
    member = subst (λ (l : List ℕ). Contains l 0) (sym members_are) (0, omega arith, refl);
    held = refl;
  };
  its = refl;
}

-- what is held by either the datanode held at the opening
held_before : (node : Node) → (node ≡ was) ⊎ (node ≡ deleted) → (of : Block) → is_held node of ≡ true → was_held opening 0 of ≡ true
held_before node (inl same) of held = held_by (is_same_block block of) ∙ ap (λ (n : Node). is_held n of) (sym same) ∙ held
held_before node (inr same) of held = held_by (is_same_block block of) ∙ by (names txn of) (ap (λ (n : Node). is_held n of) (sym same) ∙ held)
  where
    by : (t : Bool) → is_some (cond t None (was.rows of)) ≡ true → is_some (was.rows of) ≡ true
    by true e = absurd (false≢true e)
    by false e = e

leaves : Leaves opening bytes script before 0 remains
leaves = record {
  was = was;
  stands = stands;
  entry = Some (Apply txn);
  to_make = to_apply;
  kept = λ node bytes remain. remain.0;
  contents = λ node of_slots remain of held. record {
    content = 7 ∷ 8 ∷ 9 ∷ [];
    its = inl (record { dn = 0; held = held_before node remain.0 of held; are = refl });
    gives = ap (λ (g : GivenBytes). g of) remain.1;
  };
}

pub halted : NodeHalted opening bytes script story 0 remains
halted = record {
  before = before;
  behind = scm_halt ∷ [];
  count = 1;
  parts = refl;
  left = inl leaves;
}

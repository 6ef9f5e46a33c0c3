use Rattle.std.proofs.Common.{◌≡◌, IsTrue, [], length, inl, sym, ◌∙◌, rules}
use Rattle.std.proofs.lemmas.Bool.{eqb-true}
use Rattle.std.proofs.lemmas.List.{nil_from_length}
use Rattle.oz_reclaim.proofs.moving.move_deleted.Goals as goal

pub returns-then-is_empty-clause-moved : goal.returns-then-is_empty-clause-moved
returns-then-is_empty-clause-moved g c =
    let may : IsTrue c.in_ok-may.may = search rules in
    let none : length c.as_slice.result.now ≡ 0 = eqb-true (length c.as_slice.result.now) 0 (sym c.is_empty.ensures ∙ c.if-is_empty.true) in
    let empty : c.in_ok-changes.changes.items ≡ [] = sym c.as_slice.ensures.value ∙ nil_from_length c.as_slice.result.now none in
    inl (c.in_ok-may.ensures.0 may, λ entries are. c.unchanged-then-is_empty.ensures.changes ∙ sym empty ∙ c.in_ok-changes.ensures entries are)

use Rattle.std.proofs.Common.{ℕ, ◌<◌, List, length, take, get_or, sym, subst, arith}
use Rattle.oz_scm.specs.grants.Due.{MayTake}
use Rattle.oz_scm.specs.grants.Steps.{IsLowestOf}
use Rattle.std.proofs.lemmas.List.{take_more}
use Rattle.oz_scm.proofs.grants_lemmas.Rooms.{lowest_more}
use Rattle.oz_scm.proofs.grants.containers.Containers.lowest_of.Goals as goal

pub loop-place-preserved : goal.loop-place-preserved
loop-place-preserved c =
    let Rule = MayTake c.args.self.now.made.containers c.args.pipeline c.args.excluded.now in
    let numbers = c.args.numbers.now in
    let k = c.loop-place.place in
    let lt : k < length numbers = omega arith in
    subst (λ (l : List ℕ). IsLowestOf Rule l c.lower-lowest.result) (sym (take_more numbers k 0 lt))
    (lowest_more Rule (take k numbers) (get_or numbers k 0) c.loop-place.lowest c.lower-lowest.result c.loop-place.invariant c.lower-lowest.ensures)

use Rattle.std.proofs.Common.{nat_eq, sym, Contains}
use Rattle.std.proofs.lemmas.Bool.Decides.{Decides-eqb}
use Rattle.std.proofs.lemmas.List.Elements.{contains_decides, Decides-contains}
use Rattle.oz_scm.specs.grants.Due.{MayTake, HasRoom}
use Rattle.oz_scm.proofs.grants_lemmas.Rooms.{may_be}
use Rattle.oz_scm.proofs.grants.containers.Containers.may_take.Goals as goal

pub returns : goal.returns
returns c =
    let l = c.args.self.now.made.containers in
    let excluded = c.args.excluded.now in
    let number = c.args.number in
    let decides = Decides-contains excluded number c.contains.result (contains_decides nat_eq Decides-eqb excluded number c.contains.result c.contains.ensures.cases) in
    let room = c.has_room.ensures.0 c.if-not-has_room.false in
    let has : HasRoom l number = record { container = c.in-Some.container; there = sym c.in-Some.ensures.found; opened = room.0; few = room.1 } in
    may_be c.contains.result (Contains excluded number) (MayTake l c.args.pipeline excluded number) decides
    (λ allowed. record { room = has; on = c.if-container-pipeline.false; allowed = allowed }) (λ take. take.allowed)

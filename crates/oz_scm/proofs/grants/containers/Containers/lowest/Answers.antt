use Rattle.std.proofs.Common.{ℕ, ◌<◌, List, Option, Some, None, IfSome, IfNone, subst}
use Rattle.oz_scm.specs.declared.grants.container.Container.{Container}
use Rattle.oz_scm.specs.grants.Due.{MayTake}
use Rattle.oz_scm.specs.grants.Steps.{IsLowestOf, IsListed}
use Rattle.oz_scm.proofs.grants_lemmas.Rooms.{found_lowest, found_none}
use Rattle.oz_scm.proofs.grants.containers.Containers.lowest.Goals as goal

some_is : (l : List Container) (roomy : List ℕ) (pipeline : ℕ) (excluded : List ℕ) (o : Option ℕ) → IsListed l roomy → IsLowestOf (MayTake l pipeline excluded) roomy o
    → IfSome o (λ n. MayTake l pipeline excluded n × ((lower : ℕ) → lower < n → ¬ MayTake l pipeline excluded lower))
some_is l roomy pipeline excluded None listed lowest = tt
some_is l roomy pipeline excluded (Some n) listed lowest = found_lowest l roomy pipeline excluded n listed lowest

none_is : (l : List Container) (roomy : List ℕ) (pipeline : ℕ) (excluded : List ℕ) (o : Option ℕ) → IsListed l roomy → IsLowestOf (MayTake l pipeline excluded) roomy o
    → IfNone o ((any : ℕ) → ¬ MayTake l pipeline excluded any)
none_is l roomy pipeline excluded None listed lowest = found_none l roomy pipeline excluded listed lowest
none_is l roomy pipeline excluded (Some n) listed lowest = tt

pub returns-clause-found : goal.returns-clause-found
returns-clause-found c = rw (← c.self.view_is) (some_is c.self.inside.list.items c.self.inside.roomy.items c.args.pipeline c.args.excluded.now c.lowest_of.result c.self.invariant.1
    (rw (← c.self.view_is) at (subst (λ (n : List ℕ). IsLowestOf (MayTake c.args.self.now.made.containers c.args.pipeline c.args.excluded.now) n c.lowest_of.result) c.deref.ensures.value c.lowest_of.ensures)))

pub returns-clause-none : goal.returns-clause-none
returns-clause-none c = rw (← c.self.view_is) (none_is c.self.inside.list.items c.self.inside.roomy.items c.args.pipeline c.args.excluded.now c.lowest_of.result c.self.invariant.1
    (rw (← c.self.view_is) at (subst (λ (n : List ℕ). IsLowestOf (MayTake c.args.self.now.made.containers c.args.pipeline c.args.excluded.now) n c.lowest_of.result) c.deref.ensures.value c.lowest_of.ensures)))

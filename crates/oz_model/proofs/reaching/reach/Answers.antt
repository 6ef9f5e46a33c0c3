use Rattle.std.proofs.Common.{◌≡◌, ◌↔◌, List, Result, Ok, Err, IfOk, subst, sym}
use Rattle.std.specs.List.{Contains}
use Rattle.oz_fields.specs.declared.block.Block.{Block}
use Rattle.oz_namespace.specs.declared.namespace.Namespace.{Namespace}
use Rattle.oz_model.specs.Gathered.{in_namespace}
use Rattle.oz_model.specs.Reach.{IsReached}
use Rattle.oz_model.specs.laws.Reached.{met, reached}
use Rattle.oz_model.proofs.reaching.reach.Goals as goal

where_ok : {A E : Type 0} (P Q : A → Type 0) → ((x : A) → P x → Q x) → (result : Result A E) → IfOk result P → IfOk result Q
where_ok P Q goes (Ok x) holds = goes x holds
where_ok P Q goes (Err e) holds = tt

-- a list with the members of the walk
both_ways : (namespace : Namespace) (walk risen : List Block) → walk ≡ in_namespace namespace → ((block : Block) → Contains risen block ↔ Contains walk block) → (block : Block) → Contains risen block ↔ IsReached namespace block
both_ways namespace walk risen is same block = (
  (λ has. reached block namespace (subst (λ l. Contains l block) is ((same block).0 has))),
  (λ it. (same block).1 (subst (λ l. Contains l block) (sym is) (met block namespace it))),
)

pub returns-clause-reached : goal.returns-clause-reached
returns-clause-reached c = where_ok _ _ (λ blocks same. both_ways c.args.namespace.now c.in_ok-gathered.field-0.items blocks.items c.in_ok-gathered.ensures same) c.risen.result c.risen.ensures.same

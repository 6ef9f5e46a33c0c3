use Rattle.std.proofs.Common.{◌≡◌, ◌∙◌, List, subst, sym, slice_index_or}
use Rattle.std.specs.List.{Contains}
use Rattle.oz_fields.specs.declared.block.Block.{Block}
use Rattle.oz_namespace.specs.declared.namespace.Namespace.{Namespace}
use Rattle.oz_model.specs.Reach.{IsReached}
use Rattle.oz_core.specs.Manager.{kept_namespace, kept_up_to}
use Rattle.oz_legal.proofs.manager_law.purging.are_unreached.Goals as goal

pub returns : goal.returns
returns c =
    let blocks = c.args.blocks.now in
    let is : c.in_ok-kept.kept ≡ kept_namespace c.args.opening.now c.args.story.now = c.in_ok-kept.ensures ∙ (λ i. kept_up_to c.args.opening.now (c.durable_index.ensures i) c.args.story.now) in
    let away = λ (block : Block) (there : IsReached (kept_namespace c.args.opening.now c.args.story.now) block).
    subst (λ (l : List Block). Contains l block) (sym c.deref.ensures.value)
    ((c.in_ok-reached.ensures.reached block).1 (subst (λ (n : Namespace). IsReached n block) (sym is) there)) in
    let near = λ (block : Block) (there : Contains c.deref.result.now block).
    subst (λ (n : Namespace). IsReached n block) is
    ((c.in_ok-reached.ensures.reached block).0 (subst (λ (l : List Block). Contains l block) c.deref.ensures.value there)) in (
      λ h k d below there. (c.are_none_of.ensures.0 h k d below).away (away (slice_index_or blocks k d) there),
      λ all. c.are_none_of.ensures.1 (λ k d below. record { away = λ there. all k d below (near (slice_index_or blocks k d) there) }),
    )

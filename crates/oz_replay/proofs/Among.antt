-- Blocks that were used are those among what is reached and the rest.
use Rattle.std.proofs.Common.{◌≡◌, ◌↔◌, ⊎_elim, inl, inr, List, sym, subst}
use Rattle.std.specs.List.{Contains}
use Rattle.oz_fields.specs.declared.block.Block.{Block}
use Rattle.oz_model.specs.Reach.{IsReached}
use Rattle.oz_core.specs.declared.opening.Opening.{Opening}
use Rattle.oz_core.specs.Manager.{WasUsed}
use Rattle.oz_replay.specs.Words.{IsAmong}

pub among_used : (had reached : List Block) (opening : Opening) (granted : List Block) (block : Block) → had ≡ reached
    → ((it : Block) → Contains reached it ↔ IsReached opening.namespace it) → IsAmong had opening granted block ↔ WasUsed opening granted block
among_used had reached opening granted block same are = (
  λ is. ⊎_elim (λ it. inl ((are block).0 (subst (λ (l : List Block). Contains l block) same it))) (λ rest. inr rest) is,
  λ is. ⊎_elim (λ it. inl (subst (λ (l : List Block). Contains l block) (sym same) ((are block).1 it))) (λ rest. inr rest) is,
)

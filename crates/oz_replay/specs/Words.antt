-- Words for private calls: which Decides count, and the blocks that those granted.
use Rattle.std.specs.Prelude.{◌≡◌, ◌⊎◌, ℕ, Bool, true, nat_le, List, Option, None, Some, Contains}
use Rattle.oz_fields.specs.declared.block.Block.{Block}
use Rattle.oz_core.specs.declared.event.EventKind.{EventKind}
use Rattle.oz_core.specs.declared.opening.Opening.{Opening}
use Rattle.oz_core.specs.Manager.{granted_block, kept_block}
use Rattle.oz_core.specs.Scm.{is_logged_at_opening}

-- those up to an index, or all
abbrev pub is_counted : Option ℕ → ℕ → Bool
is_counted None index = true
is_counted (Some most) index = nat_le index most

abbrev pub granted_in : Option ℕ → EventKind → Option Block
granted_in None kind = granted_block kind
granted_in (Some most) kind = kept_block most kind

-- a block is one of these, or one that the opening is to delete, or was granted
abbrev pub IsAmong : List Block → Opening → List Block → Block → Type 0
IsAmong had opening granted block =
    Contains had block ⊎ (Contains opening.left block ⊎ ((is_logged_at_opening opening block ≡ true) ⊎ Contains granted block))

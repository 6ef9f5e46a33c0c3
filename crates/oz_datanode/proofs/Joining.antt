-- What a copy leaves of blocks: its chunks are written, and then it is put.
use Rattle.std.proofs.Common.{◌≡◌, ℕ, cond, Bool, true, false, List, Option, refl, sym, ap, ◌∙◌, subst}
use Rattle.oz_entries.specs.Node.{is_held, is_same_block}
use Rattle.oz_entries.specs.laws.Blocks.{same_block, itself}
use Rattle.oz_fields.specs.declared.block.Block.{Block}
use Rattle.oz_block.specs.shelf.Shelf.{ShelfView}
use Rattle.oz_world.specs.Disk.{Images, seen}
use Rattle.oz_datanode.specs.Datanode.{State, node_in, slots_of}
use Rattle.oz_datanode.specs.Pairs.{Content, PairHolds, NodeHolds, journal_seen, with_content}
use Rattle.oz_datanode.specs.Writing.{contents_with}
use Rattle.oz_datanode.proofs.Parts.{with_shelf}

-- the contents with a block's own
own_content : (block : Block) (contents : Block → Content) (content : Content) → contents block ≡ content → with_content block content contents ≡ contents
own_content block contents content own = λ i other. each other (is_same_block block other) refl i
  where
    each : (other : Block) (b : Bool) → b ≡ is_same_block block other → with_content block content contents other ≡ contents other
    each other false apart = ap (λ (b : Bool). cond b content (contents other)) (sym apart)
    each other true same = ap (λ (b : Bool). cond b content (contents other)) (sym same) ∙ (sym own ∙ ap contents (same_block block other (sym same)))

pub content_there : (block : Block) (contents : Block → Content) (content : Content) → with_content block content contents block ≡ content
content_there block contents content = ap (λ (b : Bool). cond b content (contents block)) (itself block)

module _ {D : Type 0} (told : D → Option (List ℕ)) (clock : D → ℕ) (image : D → Images) (faults : D → ℕ) where
  -- the block has its own content
  pub own_holds : (block : Block) (contents : Block → Content) (content : Content) (new : State D) → contents block ≡ content → NodeHolds told clock image faults (with_content block content contents) new → NodeHolds told clock image faults contents new
  own_holds block contents content new own holds = subst (λ (f : Block → Content). NodeHolds told clock image faults f new) (own_content block contents content own) holds

  -- what was written is gone
  pub cleared_holds : (contents : Block → Content) (old : State D) (shelf : ShelfView D) → shelf.slots.disk ≡ slots_of old → NodeHolds told clock image faults contents old → NodeHolds told clock image faults contents (with_shelf old shelf)
  cleared_holds contents old shelf disk holds = subst (λ (d : D). PairHolds contents (node_in old) (journal_seen told clock image faults old) (seen (told d) (clock d) (image d) (faults d))) (sym disk) holds

  -- the block was held before
  pub let_go_holds : (contents : Block → Content) (block : Block) (content : Content) (old : State D) (shelf : ShelfView D) → is_held (node_in old) block ≡ true → shelf.slots.disk ≡ slots_of old → NodeHolds told clock image faults contents old → NodeHolds told clock image faults (contents_with block content contents old) (with_shelf old shelf)
  let_go_holds contents block content old shelf held disk holds = subst (λ (b : Bool). NodeHolds told clock image faults (cond b contents (with_content block content contents)) (with_shelf old shelf)) (sym held) (cleared_holds contents old shelf disk holds)

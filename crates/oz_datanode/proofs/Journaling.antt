-- What a change in the journal leaves of the bytes of blocks.
use Rattle.std.proofs.Common.{◌≡◌, inl, inr, ◌⊎◌, ℕ, ◌≤◌, Bool, true, false, cond, List, Option, None, Some, IsSome, is_some, IfSome, Result, Ok, Err, refl, sym, ap, subst, ◌∙◌, arith}
use Rattle.std.proofs.lemmas.Bool.{false≢true}
use Rattle.oz_block.specs.Blocks.{State as Blocks, node_in as node_in_blocks, StandsFor}
use Rattle.oz_block.specs.Changes.{Changes}
use Rattle.oz_block.specs.declared.fault.BlockFault.{BlockFault}
use Rattle.oz_entries.specs.declared.entry.Entry.{Entry}
use Rattle.oz_entries.specs.declared.row.BlockRow.{BlockRow}
use Rattle.oz_entries.specs.Node.{Node, after_entry}
use Rattle.oz_fields.specs.declared.block.Block.{Block}
use Rattle.oz_world.specs.Disk.{Seen}
use Rattle.oz_datanode.specs.Pairs.{Content, HaveAll, PairHolds}

-- each row of the later node is one of the earlier
abbrev pub HasRowsOf : Node → Node → Type 0
HasRowsOf later earlier = (block : Block) (row : BlockRow) → later.rows block ≡ Some row → earlier.rows block ≡ Some row

pub fewer_rows : (is_gone : Bool) (kept : Option BlockRow) (row : BlockRow) → cond is_gone None kept ≡ Some row → kept ≡ Some row
fewer_rows true kept row is = absurd cc
fewer_rows false kept row is = is

have_fewer : (contents : Block → Content) (earlier later : Node) (slots : List ℕ) → HasRowsOf later earlier → HaveAll contents earlier slots → HaveAll contents later slots
have_fewer contents earlier later slots fewer all block row is = all block row (fewer block row is)

-- the change was made, or nothing was
pub made_or_not : {D T : Type 0} (entry : Entry) (old new : Blocks D) (before after : Seen) (answer : Result T BlockFault) → Changes entry old new before after answer → (node_in_blocks new ≡ after_entry entry (node_in_blocks old)) ⊎ (node_in_blocks new ≡ node_in_blocks old)
made_or_not entry old new before after (Ok x) changes = inl changes.made
made_or_not entry old new before after (Err fault) changes = inr changes.same

-- what holds of a node and of what the change makes of it holds after the call
pub after_change : {D T : Type 0} (P : Node → Type 0) (entry : Entry) (old new : Blocks D) (before after : Seen) (answer : Result T BlockFault) → Changes entry old new before after answer → P (node_in_blocks old) → P (after_entry entry (node_in_blocks old)) → P (node_in_blocks new)
after_change P entry old new before after answer changes first second = elim (made_or_not entry old new before after answer changes) [
  | inl made ↦ subst P (sym made) second
  | inr same ↦ subst P (sym same) first
]

abbrev pub OneNode : Type 0
OneNode = (bytes : List ℕ) (node other : Node) → StandsFor bytes node → StandsFor bytes other → node ≡ other

-- what a stop in the call leaves stands for the blocks that were held, or for fewer
left_by : (contents : Block → Content) (entry : Entry) (node : Node) (bytes other : List ℕ) → HasRowsOf (after_entry entry node) node → OneNode → StandsFor bytes node ⊎ StandsFor bytes (after_entry entry node) → HaveAll contents node other → (kept : Node) → StandsFor bytes kept → HaveAll contents kept other
left_by contents entry node bytes other fewer one (inl stands) all kept is = subst (λ (n : Node). HaveAll contents n other) (one bytes node kept stands is) all
left_by contents entry node bytes other fewer one (inr stands) all kept is =
    subst (λ (n : Node). HaveAll contents n other) (one bytes (after_entry entry node) kept stands is) (have_fewer contents node (after_entry entry node) other fewer all)

pub journal_holds : {D T : Type 0} (contents : Block → Content) (entry : Entry) (old new : Blocks D) (before after slots : Seen) (answer : Result T BlockFault)
    → Changes entry old new before after answer → old.stopped ≡ false → HasRowsOf (after_entry entry (node_in_blocks old)) (node_in_blocks old) → OneNode
    → ((bytes : List ℕ) → before.told ≡ Some bytes → StandsFor bytes (node_in_blocks old)) → ((bytes : List ℕ) → before.told ≡ Some bytes → before.image before.clock bytes)
    → PairHolds contents (node_in_blocks old) before slots → PairHolds contents (node_in_blocks new) after slots
journal_holds contents entry old new before after slots answer changes runs fewer one keeps present holds = record {
  read = λ tells. read slots.told (holds.read (tells_before tells));
  left = left before.told refl;
} where
  tells_before : IsSome after.told → IsSome before.told
  tells_before tells = by before.told refl
    where
      by : (told : Option (List ℕ)) → told ≡ before.told → IsSome before.told
      by None is = absurd (silent after.told (changes.telling.0 (sym is)) tells)
        where
          silent : (told : Option (List ℕ)) → told ≡ None → IsSome told → ⊥
          silent None none some = absurd cc
          silent (Some bytes) none some = absurd cc
      by (Some bytes) is = ap is_some (sym is)

  read : (told : Option (List ℕ)) → IfSome told (HaveAll contents (node_in_blocks old)) → IfSome told (HaveAll contents (node_in_blocks new))
  read None all = tt
  read (Some bytes) all = after_change (λ (n : Node). HaveAll contents n bytes) entry old new before after answer changes all (have_fewer contents (node_in_blocks old) (after_entry entry (node_in_blocks old)) bytes fewer all)

  left : (told : Option (List ℕ)) → told ≡ before.told → IsSome after.told → IsSome slots.told → (bytes other : List ℕ) → after.image after.clock bytes → slots.image slots.clock other → (kept : Node) → StandsFor bytes kept → HaveAll contents kept other
  left None is = λ tells. absurd (false≢true (ap is_some is ∙ tells_before tells))
  left (Some first) is = λ tells slots_tell bytes other there beside kept stands.
      let all : HaveAll contents (node_in_blocks old) other = holds.left (tells_before tells) slots_tell first other (present first (sym is)) beside (node_in_blocks old) (keeps first (sym is)) in
      let leaves = subst (λ (o : Option (List ℕ)). IfSome o (λ b. (t : ℕ) (l : List ℕ) → before.clock ≤ t → t ≤ after.clock → after.image t l → StandsFor l (node_in_blocks old) ⊎ StandsFor l (after_entry entry (node_in_blocks old)))) (sym is) (changes.stands runs) in
      left_by contents entry (node_in_blocks old) bytes other fewer one (leaves after.clock bytes changes.time.later (omega arith) there) all kept stands

-- The journal stands for what a datanode holds, whatever changes there.
use Rattle.std.proofs.Common.{
  ◌≡◌,
  ⊎_elim,
  ◌⊎◌,
  ℕ,
  Bool,
  true,
  false,
  cond,
  List,
  [],
  ◌∷◌,
  ◌++◌,
  ◌||◌,
  Option,
  None,
  Some,
  is_some,
  refl,
  sym,
  ◌∙◌,
  ap,
  subst,
  arith,
}
use Rattle.std.specs.Prelude.{IfSome, IsSomeAnd, Ok}
use Rattle.std.proofs.lemmas.Bool.{false≢true}
use Rattle.oz_block.specs.Blocks.{StandsFor}
use Rattle.oz_block.specs.Changes.{Changes, Wipes}
use Rattle.oz_datanode.specs.Copying.{Copies}
use Rattle.oz_datanode.specs.Datanode.{State, Runs, meta_of, node_in}
use Rattle.oz_datanode.specs.Pairs.{journal_seen}
use Rattle.oz_entries.specs.Build.{IsNext, Makes, MakesFrom}
use Rattle.oz_entries.specs.Entries.{entry_bytes}
use Rattle.oz_entries.specs.Node.{Node, MayFollow, after_entry, empty_node, is_held}
use Rattle.oz_entries.specs.declared.entry.Entry.{Entry}
use Rattle.oz_entries.specs.declared.entry.Entry.TheVariants.{Put, SetState, Apply, Drop}
use Rattle.oz_entries.specs.declared.row.BlockRow.{BlockRow}
use Rattle.oz_entries.specs.laws.Blocks.{itself}
use Rattle.oz_entries.specs.laws.Journals.{none_made}
use Rattle.oz_fields.specs.declared.block.Block.{Block}
use Rattle.oz_node_events.specs.filled.Filled.{BlocksHaveSlots}
use Rattle.oz_node_events.specs.full.Full.{JournalStands}
use Rattle.oz_journal.specs.Grammar.{IsJournal, TellsBodies}
use Rattle.oz_world.specs.Disk.{Images}
use Rattle.oz_world.specs.Moments.{LeavesOnly}

-- the journal runs where the datanode does
on_disk : (stopped failed line : Bool) (count : ℕ) → cond (stopped || failed) (Some count) (cond line (Some 0) None) ≡ None → stopped ≡ false
on_disk true failed line count is = absurd (never is)
  where
    never : ◌≡◌ {A = Option ℕ} (Some count) None → ⊥
    never e = cc
on_disk false failed line count is = refl

abbrev first_of : List ℕ → ℕ
first_of [] = 0
first_of (byte ∷ bytes) = byte

-- what the last body made
record IsLast (before : Node) (bodies : List (List ℕ)) (bytes : List ℕ) (after : Node) : Type 0 where
  between : Node
  made : MakesFrom before bodies between
  entry : Entry
  next : IsNext between bytes entry
  is : after ≡ after_entry entry between

last_made : (before : Node) (bodies : List (List ℕ)) (bytes : List ℕ) (after : Node) → MakesFrom before (bodies ++ bytes ∷ []) after
    → IsLast before bodies bytes after
unfolding MakesFrom
last_made before [] bytes after (one, next, makes) = record { between = before; made = refl; entry = one; next = next; is = makes }
last_made before (first ∷ bodies) bytes after (one, next, makes) =
    let last = last_made (after_entry one before) bodies bytes after makes in
    record { between = last.between; made = (one, next, last.made); entry = last.entry; next = last.next; is = last.is }

-- no put leaves a datanode as it was
put_changes : (node : Node) (block : Block) (row : BlockRow) (entry : Entry) → IsNext node (entry_bytes (Put block row)) entry
    → node ≡ after_entry entry node → ⊥
put_changes node block row (Put other its) next same =
    false≢true (sym next.follows.2 ∙ (ap (λ (n : Node). is_held n other) same
    ∙ ap (λ (t : Bool). is_some (cond t (Some its) (node.rows other))) (itself other)))
put_changes node block row (SetState container state) next same = let e : 1 ≡ 2 = ap first_of next.spelled in absurd (omega (arith, e))
put_changes node block row (Apply txn) next same = let e : 1 ≡ 3 = ap first_of next.spelled in absurd (omega (arith, e))
put_changes node block row (Drop container) next same = let e : 1 ≡ 4 = ap first_of next.spelled in absurd (omega (arith, e))

abbrev OneReading : Type 0
OneReading = (bytes : List ℕ) (bodies others : List (List ℕ)) → IsJournal bytes bodies → IsJournal bytes others → bodies ≡ others

abbrev OneNode : Type 0
OneNode = (bodies : List (List ℕ)) (node other : Node) → Makes bodies node → Makes bodies other → node ≡ other

abbrev OneMore : Type 0
OneMore = (bodies : List (List ℕ)) (node : Node) (entry : Entry) → Makes bodies node → MayFollow node entry
    → Makes (bodies ++ entry_bytes entry ∷ []) (after_entry entry node)

-- bytes that have the body of a put don't stand for what was before it
not_before : OneReading → OneNode → (bytes : List ℕ) (bodies : List (List ℕ)) (node : Node) (block : Block) (row : BlockRow) → Makes bodies node
    → IsJournal bytes (bodies ++ entry_bytes (Put block row) ∷ []) → StandsFor bytes node → ⊥
not_before one_reading one_node bytes bodies node block row makes journal (others, other_journal, other_makes) =
    let body = entry_bytes (Put block row) in
    let same = one_reading bytes others (bodies ++ body ∷ []) other_journal journal in
    let last = last_made empty_node bodies body node (subst (λ (texts : List (List ℕ)). Makes texts node) same other_makes) in
    let between : last.between ≡ node = one_node bodies last.between node last.made makes in
    put_changes node block row last.entry (subst (λ (n : Node). IsNext n body last.entry) between last.next)
    (last.is ∙ ap (λ (n : Node). after_entry last.entry n) between)

module _ {D : Type 0} (told : D → Option (List ℕ)) (clock : D → ℕ) (image : D → Images) (faults : D → ℕ) where
  pub stands_apart : ((bodies : List (List ℕ)) (node : Node) → Makes bodies node → BlocksHaveSlots node) → (node : State D) → JournalStands told node
      → BlocksHaveSlots (node_in node)
  stands_apart made node stands = by (told (meta_of node)) stands
    where
      by : (o : Option (List ℕ)) → IsSomeAnd o (λ bytes. StandsFor bytes (node_in node)) → BlocksHaveSlots (node_in node)
      by None is = absurd is
      by (Some bytes) is = made is.0 (node_in node) is.2

  pub put_stands : OneReading → OneNode → (block : Block) (bytes : List ℕ) (old new : State D)
      → ((left : List ℕ) → told (meta_of new) ≡ Some left → image (meta_of new) (clock (meta_of new)) left)
      → Runs faults old → JournalStands told old → Copies told clock image faults block bytes old new → JournalStands told new
  put_stands one_reading one_node block bytes old new read runs stood copied = by (told (meta_of old)) refl stood
    where
      running : old.blocks.stopped ≡ false
      running = on_disk old.blocks.stopped old.shelf.failed old.stopped _ runs

      after : (bodies : List (List ℕ)) → Makes bodies (node_in old)
          → LeavesOnly (λ left. StandsFor left (node_in old) ⊎ StandsFor left (after_entry (Put block copied.row) (node_in old))) (clock (meta_of old))
          (clock (meta_of new)) (image (meta_of new))
          → (o : Option (List ℕ)) → told (meta_of new) ≡ o → TellsBodies o (bodies ++ entry_bytes (Put block copied.row) ∷ [])
          → IsSomeAnd o (λ left. StandsFor left (node_in new))
      after bodies makes leaves None is tells = absurd tells
      after bodies makes leaves (Some left) is journal =
          let later = copied.changed.moments in
          ⊎_elim (λ before. absurd (not_before one_reading one_node left bodies (node_in old) block copied.row makes journal before))
          (λ stands. subst (λ (n : Node). StandsFor left n) (sym copied.changed.made) stands)
          (leaves (clock (meta_of new)) left (omega (arith, later)) (omega arith) (read left is))

      by : (o : Option (List ℕ)) → told (meta_of old) ≡ o → IsSomeAnd o (λ left. StandsFor left (node_in old))
          → IsSomeAnd (told (meta_of new)) (λ left. StandsFor left (node_in new))
      by None is stands = absurd stands
      by (Some left) is (bodies, journal, makes) =
          let leaves = subst (λ (o : Option (List ℕ)). IfSome o
          (λ bytes. LeavesOnly (λ left. StandsFor left (node_in old) ⊎ StandsFor left (after_entry (Put block copied.row) (node_in old)))
          (clock (meta_of old)) (clock (meta_of new)) (image (meta_of new)))) is (copied.changed.stands running) in
          after bodies makes leaves (told (meta_of new)) refl
          (copied.changed.tells bodies (subst (λ (o : Option (List ℕ)). TellsBodies o bodies) (sym is) journal))

  -- a change that may follow is one body more
  pub change_stands : OneMore → (entry : Entry) (old new : State D) → MayFollow (node_in old) entry → JournalStands told old
      → Changes {T = Unit {0}} entry old.blocks new.blocks (journal_seen told clock image faults old) (journal_seen told clock image faults new) (Ok tt)
      → JournalStands told new
  change_stands more entry old new follows stood changed = by (told (meta_of old)) refl stood
    where
      after : (bodies : List (List ℕ)) → Makes bodies (node_in old) → (o : Option (List ℕ)) → TellsBodies o (bodies ++ entry_bytes entry ∷ [])
          → IsSomeAnd o (λ left. StandsFor left (node_in new))
      after bodies makes None tells = absurd tells
      after bodies makes (Some left) journal = (
        bodies ++ entry_bytes entry ∷ [],
        journal,
        subst (λ (n : Node). Makes (bodies ++ entry_bytes entry ∷ []) n) (sym changed.made) (more bodies (node_in old) entry makes follows),
      )

      by : (o : Option (List ℕ)) → told (meta_of old) ≡ o → IsSomeAnd o (λ left. StandsFor left (node_in old))
          → IsSomeAnd (told (meta_of new)) (λ left. StandsFor left (node_in new))
      by None is stands = absurd stands
      by (Some left) is (bodies, journal, makes) =
          after bodies makes (told (meta_of new)) (changed.tells bodies (subst (λ (o : Option (List ℕ)). TellsBodies o bodies) (sym is) journal))

  -- no bodies are left, and nothing is held
  pub wipe_stands : (old new : State D) → JournalStands told old
      → Wipes {T = Unit {0}} old.blocks new.blocks (journal_seen told clock image faults old) (journal_seen told clock image faults new) (Ok tt)
      → JournalStands told new
  wipe_stands old new stood wiped = by (told (meta_of old)) refl stood
    where
      after : (o : Option (List ℕ)) → TellsBodies o [] → IsSomeAnd o (λ left. StandsFor left (node_in new))
      after None tells = absurd tells
      after (Some left) journal = ([], journal, none_made (node_in new) wiped.made)

      by : (o : Option (List ℕ)) → told (meta_of old) ≡ o → IsSomeAnd o (λ left. StandsFor left (node_in old))
          → IsSomeAnd (told (meta_of new)) (λ left. StandsFor left (node_in new))
      by None is stands = absurd stands
      by (Some left) is (bodies, journal, makes) =
          after (told (meta_of new)) (wiped.tells bodies (subst (λ (o : Option (List ℕ)). TellsBodies o bodies) (sym is) journal))

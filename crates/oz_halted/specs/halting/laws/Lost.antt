-- What is missing on the disks of a datanode that halted was being deleted.
use Rattle.std.proofs.Common.{◌≡◌, ◌⊎◌, ℕ, Bool, true, false, List, [], ◌∷◌, ◌++◌, Option, None, Some, is_some, cond, inl, inr, refl, sym, ◌∙◌, ap, subst}
use mathlib.Core.Bool.{false≢true}
use Rattle.std.proofs.lemmas.Bool.{eqb-true}
use Rattle.std.specs.Prelude.{IfSome}
use Rattle.oz_command.specs.declared.command.AdminCommand.TheVariants as admin
use Rattle.oz_dellog.specs.declared.txn.Txn.{Txn}
use Rattle.oz_fields.specs.declared.block.Block.{Block}
use Rattle.oz_script.specs.declared.lines.script.Script.{Script}
use Rattle.oz_model.specs.laws.Members.{passing}
use Rattle.oz_entries.specs.declared.entry.Entry.{Entry}
use Rattle.oz_entries.specs.declared.entry.Entry.TheVariants.{Put, SetState, Apply, Drop}
use Rattle.oz_entries.specs.Node.{Node, is_held, is_same_block, is_in, names, after_entry}
use Rattle.oz_core.specs.declared.event.Event.{Event}
use Rattle.oz_core.specs.declared.event.EventKind.TheVariants.{Halt}
use Rattle.oz_core.specs.declared.event.Node.TheVariants.{Datanode}
use Rattle.oz_core.specs.declared.opening.Opening.{Opening}
use Rattle.oz_core.specs.Contents.{OpeningBytes}
use Rattle.oz_core.specs.Fits.{IsAtWork}
use Rattle.oz_core.specs.Law.{IsLegal}
use Rattle.oz_core.specs.Nodes.{holds}
use Rattle.oz_core.specs.Scm.{logs, is_logged, names_block}
use Rattle.oz_core.specs.Seats.{datanode_seat}
use Rattle.oz_kept.specs.laws.Places.{legal_behind, legal_rest}
use Rattle.oz_kept.specs.laws.Deleted.{legal_to, one_passes}
use Rattle.oz_halted.specs.Missing.{LogIsNumbered}
use Rattle.oz_halted.specs.halting.Leaves.{GivenBytes, Leaves, MayHaveEntry, NodeHalted, Remains}
use Rattle.oz_halted.specs.halting.Story.{IsOfStory, WasToMake}
use Rattle.oz_halted.specs.halting.laws.OneLog.{log_grows, of_story_still}
use Rattle.oz_halted.specs.halting.laws.Unchanged.{nothing_behind_a_halt}
use Rattle.oz_halted.specs.laws.Numbered.{are_numbered}
use Rattle.oz_halted.specs.laws.Resting.{halted_by}

module _ (opening : Opening) (bytes : OpeningBytes) (script : Script) (before : List Event) (dn : ℕ) (was : Node) (block : Block)
    (held : is_held was block ≡ true) where
  -- a transaction that was applied named it
  named_by : (txn : Txn) → is_held (after_entry (Apply txn) was) block ≡ false → names txn block ≡ true
  named_by txn gone = by (names txn block) refl gone
    where
      by : (t : Bool) → names txn block ≡ t → is_some (cond t None (was.rows block)) ≡ false → names txn block ≡ true
      by true e gone = e
      by false e gone = absurd (false≢true (sym gone ∙ held))

  -- no other entry takes it
  pub taken : (entry : Entry) → WasToMake opening bytes script before dn was entry → is_held (after_entry entry was) block ≡ false
      → is_logged opening before block ≡ true
  taken (Put other row) made gone = absurd (by (is_same_block other block) gone)
    where
      by : (t : Bool) → is_some (cond t (Some row) (was.rows block)) ≡ false → ⊥
      by true gone = false≢true (sym gone)
      by false gone = false≢true (sym gone ∙ held)
  taken (SetState container state) made gone = absurd (false≢true (sym gone ∙ held))
  taken (Apply txn) made gone =
      one_passes (names_block block) (logs opening before) made.enabled.txn made.enabled.logged
      (ap (names_block block) made.its ∙ named_by txn gone)
  taken (Drop container) none gone = absurd (by (is_in container block) refl gone)
    where
      by : (t : Bool) → is_in container block ≡ t → is_some (cond t None (was.rows block)) ≡ false → ⊥
      by true e gone =
          let same : record { container = container; local = block.local } ≡ block =
          λ i. record { container = eqb-true container block.container e i; local = block.local } in
          false≢true (sym (subst (λ (b : Block). is_held was b ≡ false) same (none block.local)) ∙ held)
      by false e gone = false≢true (sym gone ∙ held)

  pub taken_if : (entry : Option Entry) → IfSome entry (WasToMake opening bytes script before dn was) → (node : Node)
      → MayHaveEntry entry was node → is_held node block ≡ false → is_logged opening before block ≡ true
  taken_if None made node same gone = absurd (false≢true (sym gone ∙ ap (λ (n : Node). is_held n block) same ∙ held))
  taken_if (Some entry) made node (inl same) gone = absurd (false≢true (sym gone ∙ ap (λ (n : Node). is_held n block) same ∙ held))
  taken_if (Some entry) made node (inr same) gone = taken entry made (ap (λ (n : Node). is_held n block) (sym same) ∙ gone)

-- a block that it holds by the story is missing only where its deletion is logged
pub missing_is_logged : (opening : Opening) (bytes : OpeningBytes) (script : Script) → LogIsNumbered opening
    → (dn : ℕ) (before behind : List Event) (count : ℕ)
    → IsLegal opening (before ++ record { seat = datanode_seat dn; kind = Halt (Datanode dn) count } ∷ behind)
    → (was : Node) → IsOfStory opening before dn was → (entry : Option Entry) → IfSome entry (WasToMake opening bytes script before dn was)
    → (node : Node) → MayHaveEntry entry was node
    → (block : Block) → holds opening (before ++ record { seat = datanode_seat dn; kind = Halt (Datanode dn) count } ∷ behind) dn block ≡ true
    → is_held node block ≡ false
    → is_logged opening (before ++ record { seat = datanode_seat dn; kind = Halt (Datanode dn) count } ∷ behind) block ≡ true
missing_is_logged opening bytes script numbered dn before behind count legal was stands entry made node kept block held gone =
    logged_on (taken_if opening bytes script before dn was block was_there entry made node kept gone)
  where
    halt : Event
    halt = record { seat = datanode_seat dn; kind = Halt (Datanode dn) count }

    story : List Event
    story = before ++ halt ∷ behind

    still : IsOfStory opening story dn was
    still =
        of_story_still opening before (halt ∷ behind) (legal_to opening [] before (halt ∷ behind) legal) (are_numbered opening story numbered legal).apart dn
        (nothing_behind_a_halt dn opening behind (before ++ halt ∷ [])
        (legal_rest opening before halt behind (legal_behind opening [] before (halt ∷ behind) legal))
        (halted_by (Datanode dn) before (datanode_seat dn) count)) was stands

    was_there : is_held was block ≡ true
    was_there = still.held block ∙ held

    logged_on : is_logged opening before block ≡ true → is_logged opening story block ≡ true
    logged_on logged =
        let found = passing (names_block block) (logs opening before) logged in
        one_passes (names_block block) (logs opening story) found.item (log_grows opening before (halt ∷ behind) found.item found.there) found.so

pub missing_where_it_halted : (opening : Opening) (bytes : OpeningBytes) (script : Script) (story : List Event) (dn : ℕ) (remains : Remains)
    → (halted : NodeHalted opening bytes script story dn remains) → (node : Node) (given : GivenBytes) (block : Block)
    → LogIsNumbered opening → IsLegal opening story → remains node given → holds opening story dn block ≡ true → is_held node block ≡ false
    → (is_logged opening story block ≡ true) ⊎ IsAtWork script halted.before (admin.Wipe dn)
missing_where_it_halted opening bytes script story dn remains halted node given block numbered legal remain held gone = by halted.left
  where
    by : Leaves opening bytes script halted.before dn remains ⊎ IsAtWork script halted.before (admin.Wipe dn)
        → (is_logged opening story block ≡ true) ⊎ IsAtWork script halted.before (admin.Wipe dn)
    by (inr wiped) = inr wiped
    by (inl leaves) = inl (subst (λ (l : List Event). is_logged opening l block ≡ true) (sym halted.parts)
        (missing_is_logged opening bytes script numbered dn halted.before halted.behind halted.count
        (subst (IsLegal opening) halted.parts legal) leaves.was leaves.stands leaves.entry leaves.to_make node (leaves.kept node given remain) block
        (subst (λ (l : List Event). holds opening l dn block ≡ true) halted.parts held) gone))

-- What the steps of a change come to, and what a disk stands for after it.
use Rattle.std.proofs.Common.{◌≡◌, inl, inr, ◌⊎◌, IfSome, IsErrAnd, ℕ, Bool, true, false, List, [], ◌∷◌, ◌++◌, Option, None, Some, Result, Ok, Err, refl, sym, ap, subst, ◌∙◌, arith}
use Rattle.std.proofs.lemmas.Bool.{false≢true}
use Rattle.oz_block.specs.Blocks.{State, StandsFor, Keeps}
use Rattle.oz_block.specs.Changes.{Changes}
use Rattle.oz_block.specs.declared.fault.BlockFault.{BlockFault}
use Rattle.oz_block.specs.declared.fault.BlockFault.TheVariants.{Stopped, OutOfMemory}
use Rattle.oz_container.specs.declared.state.State.TheVariants as states
use Rattle.oz_dellog.specs.declared.txn.Txn.{Txn}
use Rattle.oz_entries.specs.declared.entry.Entry.{Entry}
use Rattle.oz_entries.specs.declared.entry.Entry.TheVariants.{Apply, Drop}
use Rattle.oz_entries.specs.Build.{IsNext, Makes}
use Rattle.oz_entries.specs.Entries.{entry_bytes}
use Rattle.oz_entries.specs.Held.{HeldView, node_of, AreSame}
use Rattle.oz_entries.specs.Node.{Node, empty_node, MayFollow, after_entry, without, with_number, with_state, names_some, is_in}
use Rattle.oz_entries.specs.laws.Journals.{makes_push, none_made}
use Rattle.oz_entries.specs.laws.Nodes.{same_node}
use Rattle.oz_journal.specs.Appends.{Appends, Clears}
use Rattle.oz_journal.specs.Grammar.{IsJournal, TellsBodies}
use Rattle.oz_journal.specs.Journal.{IsBeforeOrAfter}
use Rattle.oz_world.specs.Disk.{Images, Seen, seen, TellsAsBefore, IsStable}
use Rattle.oz_world.specs.Moments.{LeavesOnly}

-- what is stable stands for the bodies that are told
rests : (told : Option (List ℕ)) (now : ℕ) (image : Images) → ((bytes : List ℕ) → told ≡ Some bytes → IsStable image now bytes) → (bodies : List (List ℕ)) → TellsBodies told bodies → (left : List ℕ) → image now left → IsJournal left bodies
rests None now image stable bodies tells left there = absurd tells
rests (Some bytes) now image stable bodies tells left there = subst (λ (b : List ℕ). IsJournal b bodies) (sym (stable bytes refl left there)) tells

next : (node : Node) (entry : Entry) → MayFollow node entry → IsNext node (entry_bytes entry) entry
next node entry follows = record { spelled = refl; follows = follows }

more : (node : Node) (entry : Entry) (bodies : List (List ℕ)) → MayFollow node entry → Makes bodies node → Makes (bodies ++ entry_bytes entry ∷ []) (after_entry entry node)
more node entry bodies follows makes = makes_push empty_node bodies node (entry_bytes entry) entry makes (next node entry follows)

-- what a stop leaves, told by bodies, is told by what they make
stands_by : (told : Option (List ℕ)) (node : Node) (entry : Entry) (first last : ℕ) (image : Images) → Keeps told node → MayFollow node entry
    → ((bodies : List (List ℕ)) → TellsBodies told bodies → LeavesOnly (IsBeforeOrAfter bodies (entry_bytes entry)) first last image)
    → IfSome told (λ bytes. LeavesOnly (λ left. StandsFor left node ⊎ StandsFor left (after_entry entry node)) first last image)
stands_by None node entry first last image keeps follows leaves = tt
stands_by (Some bytes) node entry first last image keeps follows leaves =
    let there : StandsFor bytes node = keeps bytes refl in
    λ t left from to has. elim (leaves there.0 there.1 t left from to has) [
      | inl same ↦ inl (there.0, same, there.2)
      | inr one ↦ inr (there.0 ++ entry_bytes entry ∷ [], one, more node entry there.0 follows there.2)
    ]

-- a disk that tells told before
told_before : (before after : Option (List ℕ)) (bytes : List ℕ) → TellsAsBefore before after → after ≡ Some bytes → (old : List ℕ) × (before ≡ Some old)
told_before None after bytes as_before is = absurd (cc (sym (as_before.0 refl) ∙ is))
told_before (Some old) after bytes as_before is = (old, refl)

tells_of : (told : Option (List ℕ)) (bytes : List ℕ) (bodies : List (List ℕ)) → told ≡ Some bytes → IsJournal bytes bodies → TellsBodies told bodies
tells_of told bytes bodies is journal = subst (λ (o : Option (List ℕ)). TellsBodies o bodies) (sym is) journal

journal_of : (told : Option (List ℕ)) (bytes : List ℕ) (bodies : List (List ℕ)) → told ≡ Some bytes → TellsBodies told bodies → IsJournal bytes bodies
journal_of told bytes bodies is tells = subst (λ (o : Option (List ℕ)). TellsBodies o bodies) is tells

-- a body more keeps what it makes
pub kept_after : {T E : Type 0} (entry : Entry) (body : List ℕ) (before after : Seen) (node later : Node) (x : T) → body ≡ entry_bytes entry → Keeps before.told node → MayFollow node entry → Appends {T = T} {E = E} body before after (Ok x) → later ≡ after_entry entry node
    → Keeps after.told later
kept_after {T} {E} entry body before after node later x spelled keeps follows adds made bytes is =
    let old = told_before before.told after.told bytes adds.settled.telling is in
    let there : StandsFor old.0 node = keeps old.0 old.1 in
    let tells : TellsBodies after.told (there.0 ++ body ∷ []) = adds.tells there.0 (tells_of before.told old.0 there.0 old.1 there.1) in (
      there.0 ++ entry_bytes entry ∷ [],
      journal_of after.told bytes (there.0 ++ entry_bytes entry ∷ []) is (subst (λ (b : List ℕ). TellsBodies after.told (there.0 ++ b ∷ [])) spelled tells),
      subst (λ (n : Node). Makes (there.0 ++ entry_bytes entry ∷ []) n) (sym made) (more node entry there.0 follows there.2),
    )

-- no body keeps that nothing is held
pub kept_empty : {T E : Type 0} (before after : Seen) (node later : Node) (x : T) → Keeps before.told node → Clears {T = T} {E = E} before after (Ok x) → later ≡ empty_node → Keeps after.told later
kept_empty {T} {E} before after node later x keeps clears made bytes is =
    let old = told_before before.told after.told bytes clears.settled.telling is in
    let there : StandsFor old.0 node = keeps old.0 old.1 in
    let tells : TellsBodies after.told [] = clears.tells there.0 (tells_of before.told old.0 there.0 old.1 there.1) in
    ([], journal_of after.told bytes [] is tells, none_made later made)

-- loaded bodies keep what they make
pub kept_loaded : (before after : Option (List ℕ)) (bodies : List (List ℕ)) (node : Node) → TellsAsBefore before after → IfSome before (λ _. TellsBodies after bodies) → Makes bodies node → Keeps after node
kept_loaded before after bodies node as_before stands makes bytes is =
    let old = told_before before after bytes as_before is in
    let tells : TellsBodies after bodies = subst (λ (o : Option (List ℕ)). IfSome o (λ _. TellsBodies after bodies)) old.1 stands in
    (bodies, journal_of after bytes bodies is tells, makes)

-- the steps of a transaction, and of a drop
pub applied : (txn : Txn) (locals : List ℕ) (node before between after : Node) → before ≡ node → locals ≡ txn.locals → AreSame (without (names_some txn.container locals) before) between → AreSame (with_number txn.container txn.number between) after
    → after ≡ after_entry (Apply txn) node
applied txn locals node before between after is named gone numbered =
    same_node (with_number txn.container txn.number between) after numbered
    ∙ (ap (with_number txn.container txn.number) (same_node (without (names_some txn.container locals) before) between gone ∙ ap (λ (l : List ℕ). without (names_some txn.container l) before) named)
    ∙ ap (after_entry (Apply txn)) is)

pub dropped : (container : ℕ) (node before between after : Node) → before ≡ node → AreSame (without (is_in container) before) between → AreSame (with_state container states.Deleted between) after → after ≡ after_entry (Drop container) node
dropped container node before between after is gone deleted =
    same_node (with_state container states.Deleted between) after deleted
    ∙ (ap (with_state container states.Deleted) (same_node (without (is_in container) before) between gone) ∙ ap (after_entry (Drop container)) is)

abbrev now : {D : Type 0} → D → Bool → HeldView → State D
now disk stopped held = record { disk = disk; stopped = stopped; held = held }

module _ {D : Type 0} (told : D → Option (List ℕ)) (clock : D → ℕ) (image : D → Images) (faults : D → ℕ) where
  abbrev at : D → Seen
  at disk = seen (told disk) (clock disk) (image disk) (faults disk)

  module _ {T : Type 0} (entry : Entry) (held later : HeldView) where
    -- there was no memory for it
    pub unplanned : (disk : D) (stopped : Bool) (result : Result T BlockFault) → stopped ≡ false → IsErrAnd result (λ fault. fault ≡ OutOfMemory) → ((bytes : List ℕ) → told disk ≡ Some bytes → IsStable (image disk) (clock disk) bytes)
        → Keeps (told disk) (node_of held) → MayFollow (node_of held) entry → node_of later ≡ node_of held → Changes {D = D} {T = T} entry (now disk stopped held) (now disk stopped later) (at disk) (at disk) result
    unplanned disk stopped (Ok x) running is stable keeps follows same = absurd is
    unplanned disk stopped (Err fault) running is stable keeps follows same = subst (λ (f : BlockFault). Changes {D = D} {T = T} entry (now disk stopped held) (now disk stopped later) (at disk) (at disk) (Err f)) (sym is) (record {
      made = tt;
      tells = λ bodies tells. tt;
      acknowledged = λ bodies tells. tt;
      moments = tt;
      same = same;
      untouched = λ none. refl;
      leaves = λ runs. leaves;
      stands = λ runs. stands_by (told disk) (node_of held) entry (clock disk) (clock disk) (image disk) keeps follows leaves;
      telling = (λ e. e, λ e. e);
      time = record { later = omega arith; kept = λ t left le. (λ e. e, λ e. e) };
      stops = running;
      still = λ was. absurd (false≢true (sym running ∙ was));
      count = λ count none. absurd (cc none);
      cause = λ runs was. absurd (false≢true (sym running ∙ was));
      never_falls = omega arith;
    })
      where
        leaves : (bodies : List (List ℕ)) → TellsBodies (told disk) bodies → LeavesOnly (IsBeforeOrAfter bodies (entry_bytes entry)) (clock disk) (clock disk) (image disk)
        leaves bodies tells t left from to has =
            let only : t ≡ clock disk = omega (arith, from, to) in
            inl (rests (told disk) (clock disk) (image disk) stable bodies tells left (subst (λ (n : ℕ). image disk n left) only has))

    -- the disk failed
    pub halted : {U : Type 0} (body : List ℕ) (before after : D) (stopped stops : Bool) (x : BlockFault) (result : Result T BlockFault) → stopped ≡ false → stops ≡ true → x ≡ Stopped (faults after) → IsErrAnd result (λ fault. fault ≡ x) → body ≡ entry_bytes entry
        → Keeps (told before) (node_of held) → MayFollow (node_of held) entry → node_of later ≡ node_of held → Appends {T = U} {E = BlockFault} body (at before) (at after) (Err x)
        → Changes {D = D} {T = T} entry (now before stopped held) (now after stops later) (at before) (at after) result
    halted {U} body before after stopped stops x (Ok y) running stopping is told_so spelled keeps follows same adds = absurd told_so
    halted {U} body before after stopped stops x (Err fault) running stopping is told_so spelled keeps follows same adds = subst (λ (f : BlockFault). Changes {D = D} {T = T} entry (now before stopped held) (now after stops later) (at before) (at after) (Err f)) (sym (told_so ∙ is)) (record {
      made = tt;
      tells = λ bodies tells. tt;
      acknowledged = λ bodies tells. tt;
      moments = tt;
      same = same;
      untouched = λ none. absurd (cc none);
      leaves = λ runs. leaves;
      stands = λ runs. stands_by (told before) (node_of held) entry (clock before) (clock after) (image after) keeps follows leaves;
      telling = adds.settled.telling;
      time = adds.settled.time;
      stops = stopping;
      still = λ was. absurd (false≢true (sym running ∙ was));
      count = λ count one. cc (sym one);
      cause = λ runs was. adds.settled.cause.failed;
      never_falls = adds.settled.cause.never_falls;
    })
      where
        leaves : (bodies : List (List ℕ)) → TellsBodies (told before) bodies → LeavesOnly (IsBeforeOrAfter bodies (entry_bytes entry)) (clock before) (clock after) (image after)
        leaves bodies tells = subst (λ (b : List ℕ). LeavesOnly (IsBeforeOrAfter bodies b) (clock before) (clock after) (image after)) spelled (adds.leaves bodies tells)

    -- it is made
    pub is_made : {U E : Type 0} (body : List ℕ) (before after : D) (stopped stops : Bool) (x : U) (y : T) → stopped ≡ false → stops ≡ false → body ≡ entry_bytes entry
        → Keeps (told before) (node_of held) → MayFollow (node_of held) entry → node_of later ≡ after_entry entry (node_of held) → Appends {T = U} {E = E} body (at before) (at after) (Ok x)
        → Changes {D = D} {T = T} entry (now before stopped held) (now after stops later) (at before) (at after) (Ok y)
    is_made {U} {E} body before after stopped stops x y running going spelled keeps follows made adds = record {
      made = made;
      tells = λ bodies tells. subst (λ (b : List ℕ). TellsBodies (told after) (bodies ++ b ∷ [])) spelled (adds.tells bodies tells);
      acknowledged = λ bodies tells left has. subst (λ (b : List ℕ). IsJournal left (bodies ++ b ∷ [])) spelled (adds.acknowledged bodies tells left has);
      moments = adds.settled.moments;
      same = tt;
      untouched = λ none. absurd (cc none);
      leaves = λ runs. leaves;
      stands = λ runs. stands_by (told before) (node_of held) entry (clock before) (clock after) (image after) keeps follows leaves;
      telling = adds.settled.telling;
      time = adds.settled.time;
      stops = going;
      still = λ was. absurd (false≢true (sym running ∙ was));
      count = λ count none. absurd (cc none);
      cause = λ runs was. absurd (false≢true (sym going ∙ was));
      never_falls = adds.settled.cause.never_falls;
    }
      where
        leaves : (bodies : List (List ℕ)) → TellsBodies (told before) bodies → LeavesOnly (IsBeforeOrAfter bodies (entry_bytes entry)) (clock before) (clock after) (image after)
        leaves bodies tells = subst (λ (b : List ℕ). LeavesOnly (IsBeforeOrAfter bodies b) (clock before) (clock after) (image after)) spelled (adds.leaves bodies tells)

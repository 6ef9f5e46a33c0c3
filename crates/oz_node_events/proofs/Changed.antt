-- What a change in a datanode's journal comes to for the datanode, and for its seat.
use Rattle.std.proofs.Common.{◌≡◌, ℕ, Bool, true, false, ◌||◌, ◌==◌, max, cond, List, [], ◌∷◌, Option, None, Some, Result, Ok, Err, inl, eqb-true, refl, sym, ap, ◌∙◌, subst, arith}
use Rattle.std.proofs.lemmas.Bool.{and_parts, false≢true, ltb-false, or_parts}
use Rattle.std.proofs.Math.Nat.{max-eq_left}
use Rattle.std.specs.Prelude.{IfSome, IfErr, is_some, nat_lt}
use Rattle.std.specs.List.{list_any}
use Rattle.oz_block.specs.Blocks.{StandsFor as StandsForNode}
use Rattle.oz_block.specs.Changes.{Changes}
use Rattle.oz_block.specs.declared.fault.BlockFault.{BlockFault}
use Rattle.oz_block.specs.declared.fault.BlockFault.TheVariants as blocks
use Rattle.oz_buffer.specs.Buffer.{AllFollow, Follows}
use Rattle.oz_core.specs.declared.event.Event.{Event}
use Rattle.oz_core.specs.declared.event.EventKind.{EventKind}
use Rattle.oz_core.specs.declared.event.EventKind.TheVariants.{Halt}
use Rattle.oz_core.specs.declared.event.Node.{Node}
use Rattle.oz_core.specs.declared.event.Node.TheVariants.{Datanode}
use Rattle.oz_core.specs.declared.opening.Opening.{Opening}
use Rattle.oz_core.specs.Contents.{OpeningBytes}
use Rattle.oz_datanode.specs.Changing.{Frees, IsJournaled, answer_of}
use Rattle.oz_datanode.specs.Datanode.{State, DisksGoOn, Runs, count_of, is_halted, meta_of, node_in}
use Rattle.oz_datanode.specs.Pairs.{Content, NodeHolds, journal_seen}
use Rattle.oz_datanode.specs.declared.refusal.NodeRefusal.{NodeRefusal}
use Rattle.oz_datanode.specs.declared.refusal.NodeRefusal.TheVariants as refusals
use Rattle.oz_dellog.specs.declared.txn.Txn.{Txn}
use Rattle.oz_entries.specs.declared.entry.Entry.{Entry}
use Rattle.oz_entries.specs.declared.entry.Entry.TheVariants as entries
use Rattle.oz_entries.specs.declared.row.BlockRow.{BlockRow}
use Rattle.oz_entries.specs.Node.{Node as Held, is_held, names, names_held}
use Rattle.oz_entries.specs.Reading.{is_due}
use Rattle.oz_fields.specs.declared.block.Block.{Block}
use Rattle.oz_replicas.specs.Stays.{Stays}
use Rattle.oz_script.specs.declared.lines.script.Script.{Script}
use Rattle.oz_turn.specs.Told.{BeginsWith}
use Rattle.oz_world.specs.Disk.{Images}
use Rattle.oz_node_events.specs.declared.refusal.ChangeRefusal.{ChangeRefusal}
use Rattle.oz_node_events.specs.declared.refusal.ChangeRefusal.TheVariants.{Stopped, Halted, Failed, OutOfMemory}
use Rattle.oz_node_events.specs.Changing.{ComesOf, IsGiven, IsNoteOfChange, IsRefusedFor, change_kind, refused_as, with_given}
use Rattle.oz_node_events.specs.Commands.{by_node}
use Rattle.oz_node_events.specs.Deleting.{HasApplied}
use Rattle.oz_node_events.specs.NodeSeat.{IsKept, SeatView, StandsFor, events_of}
use Rattle.oz_node_events.specs.laws.Standing.{stands_still}
use Rattle.oz_node_events.specs.laws.Wiped.{counted_once}
use Rattle.oz_node_events.proofs.Away.{halt_untold}
use Rattle.oz_node_events.proofs.Following.{not_halted, not_stopped}
use Rattle.oz_node_events.proofs.Noted.{begins_through, ready_stands}
use Rattle.oz_node_events.proofs.Wiping.{halt_follows, halt_stands}

none_stops : (b f s : Bool) (count : ℕ) → b ≡ false → f ≡ false → s ≡ false → cond (b || f) (Some count) (cond s (Some 0) None) ≡ None
none_stops b f s count x y z = rw x (rw y (rw z refl))

-- ---- the journal's answer

answer_ok : {T : Type 0} (count : ℕ) (answer : Result T BlockFault) (x : T) → Ok x ≡ answer_of count answer → (y : T) × (answer ≡ Ok y)
answer_ok count (Ok y) x is = (y, refl)
answer_ok count (Err fault) x is = absurd cc

some_refusal : (T : Type 0) (a b : NodeRefusal) → ◌≡◌ {A = Result T NodeRefusal} (Err a) (Err b) → a ≡ b
some_refusal T a b is = cc

-- ---- the datanode

module _ {D : Type 0} (told : D → Option (List ℕ)) (clock : D → ℕ) (image : D → Images) (faults : D → ℕ) (old new : State D) (ran : Runs faults old)
    (pairs : (contents : Block → Content) → NodeHolds told clock image faults contents old → NodeHolds told clock image faults contents new)
    (goes_on : DisksGoOn told faults old new) where
  abbrev pub Journaled : {T : Type 0} → Entry → Result T NodeRefusal → Type 0
  Journaled entry result = IsJournaled faults entry old new (journal_seen told clock image faults old) (journal_seen told clock image faults new) result

  whole_parts : (old.blocks.stopped ≡ false) × (old.shelf.failed ≡ false)
  whole_parts = or_parts old.blocks.stopped old.shelf.failed (not_halted (is_halted old) (count_of faults old) _ ran)

  unstopped : old.stopped ≡ false
  unstopped = not_stopped (is_halted old) old.stopped (count_of faults old) ran

  runs_then : new.blocks.stopped ≡ false → new.shelf.failed ≡ old.shelf.failed → new.stopped ≡ old.stopped → Runs faults new
  runs_then journal shelf line =
      none_stops new.blocks.stopped new.shelf.failed new.stopped (count_of faults new) journal (shelf ∙ whole_parts.1) (line ∙ unstopped)

  -- the change was made
  pub changed_ok : {T : Type 0} (entry : Entry) (x : T) → (is : Journaled entry (Ok x)) → (y : T)
      × Changes {T = T} entry old.blocks new.blocks (journal_seen told clock image faults old) (journal_seen told clock image faults new) (Ok y)
  changed_ok {T} entry x is =
      let ok = answer_ok (count_of faults new) is.answer x is.answers in
      (ok.0, subst (λ (r : Result T BlockFault). Changes {T = T} entry old.blocks new.blocks (journal_seen told clock image faults old) (journal_seen told clock image faults new) r) ok.1 is.changes)

  pub still_runs : {T : Type 0} (entry : Entry) (x : T) → Journaled entry (Ok x) → new.shelf.failed ≡ old.shelf.failed → Runs faults new
  still_runs entry x is shelf = runs_then (changed_ok entry x is).1.stops shelf is.line

  -- it wasn't, and why
  refused_by_fault : {T : Type 0} (entry : Entry) (fault : BlockFault)
      → Changes {T = T} entry old.blocks new.blocks (journal_seen told clock image faults old) (journal_seen told clock image faults new) (Err fault)
      → new.id ≡ old.id → new.stopped ≡ old.stopped → new.shelf ≡ old.shelf
      → (refusal : NodeRefusal) → ◌≡◌ {A = Result T NodeRefusal} (Err refusal) (answer_of (count_of faults new) (Err fault))
      → IsRefusedFor told clock image faults old new (refused_as (count_of faults new) refusal)
  refused_by_fault {T} entry (blocks.Stopped own) changes id line shelf refusal is =
      subst (λ (r : NodeRefusal). IsRefusedFor told clock image faults old new (refused_as (count_of faults new) r))
      (sym (some_refusal T refusal (refusals.Stopped (count_of faults new)) is)) (
        ran,
        record {
          halted = ap (λ (t : Bool). t || new.shelf.failed) changes.stops;
          counted = refl;
          cause = inl (changes.cause whole_parts.0 changes.stops);
          id = id;
          line = line;
          goes_on = goes_on;
        },
      )
  refused_by_fault {T} entry blocks.OutOfMemory changes id line shelf refusal is =
      subst (λ (r : NodeRefusal). IsRefusedFor told clock image faults old new (refused_as (count_of faults new) r))
      (sym (some_refusal T refusal refusals.OutOfMemory is))
      (record {
        id = id;
        node = changes.same;
        journal = changes.untouched refl;
        halted = ap (λ (t : Bool). t || new.shelf.failed) changes.stops
            ∙ (ap (λ s. s.failed) shelf ∙ sym (ap (λ (t : Bool). t || old.shelf.failed) whole_parts.0));
        line = line;
        stop = runs_then changes.stops (ap (λ s. s.failed) shelf) line ∙ sym ran;
        holds = pairs;
        goes_on = goes_on;
      })

  answer_err : {T : Type 0} (count : ℕ) (answer : Result T BlockFault) (refusal : NodeRefusal) → Err refusal ≡ answer_of count answer
      → (fault : BlockFault) × (answer ≡ Err fault)
  answer_err count (Ok y) refusal is = absurd cc
  answer_err count (Err fault) refusal is = (fault, refl)

  pub journaled_refused : {T : Type 0} (entry : Entry) (refusal : NodeRefusal) → Journaled {T = T} entry (Err refusal) → new.shelf ≡ old.shelf
      → IsRefusedFor told clock image faults old new (refused_as (count_of faults new) refusal)
  journaled_refused {T} entry refusal is shelf =
      let err = answer_err (count_of faults new) is.answer refusal is.answers in
      refused_by_fault entry err.0
      (subst (λ (r : Result T BlockFault). Changes {T = T} entry old.blocks new.blocks (journal_seen told clock image faults old) (journal_seen told clock image faults new) r) err.1 is.changes)
      is.id is.line shelf refusal (is.answers ∙ ap (answer_of (count_of faults new)) err.1)

-- ---- a transaction

unheld : (p : ℕ → Bool) (l : List ℕ) (n : ℕ) → list_any p l ≡ false → list_any (λ x. x == n) l ≡ true → p n ≡ false
unheld p [] n none some = absurd (false≢true some)
unheld p (x ∷ l) n none some = by (x == n) refl (or_parts (p x) (list_any p l) none) (unheld p l n)
  where
    by : (t : Bool) → (x == n) ≡ t → (p x ≡ false) × (list_any p l ≡ false)
        → (list_any p l ≡ false → list_any (λ x. x == n) l ≡ true → p n ≡ false) → p n ≡ false
    by true same both rest = ap p (sym (eqb-true x n same)) ∙ both.0
    by false other both rest = rest both.1 (sym (ap (λ (t : Bool). t || list_any (λ x. x == n) l) other) ∙ some)

no_row : (o : Option BlockRow) → is_some o ≡ false → o ≡ None
no_row None is = refl
no_row (Some row) is = absurd (false≢true (sym is))

as_it_was : (node : Held) (txn : Txn) (block : Block) → names_held node txn ≡ false → node.rows block ≡ cond (names txn block) None (node.rows block)
as_it_was node txn block none = by (names txn block) refl
  where
    by : (t : Bool) → names txn block ≡ t → node.rows block ≡ cond t None (node.rows block)
    by false is = refl
    by true is =
        let both = and_parts (txn.container == block.container) (list_any (λ local. local == block.local) txn.locals) is in
        no_row (node.rows block)
        (sym (ap (λ (n : ℕ). is_held node (record { container = n; local = block.local })) (eqb-true txn.container block.container both.0))
        ∙ unheld (λ local. is_held node (record { container = txn.container; local = local })) txn.locals block.local none both.1)

no_greater : (node : Held) (txn : Txn) (container : ℕ) → nat_lt (node.greatest txn.container) txn.number ≡ false
    → node.greatest container ≡ cond (txn.container == container) (max (node.greatest container) txn.number) (node.greatest container)
no_greater node txn container not = by (txn.container == container) refl
  where
    by : (t : Bool) → (txn.container == container) ≡ t → node.greatest container ≡ cond t (max (node.greatest container) txn.number) (node.greatest container)
    by false is = refl
    by true is =
        subst (λ (n : ℕ). node.greatest n ≡ max (node.greatest n) txn.number) (eqb-true txn.container container is)
        (sym (max-eq_left (ltb-false (node.greatest txn.container) txn.number not)))

module _ {D : Type 0} (told : D → Option (List ℕ)) (clock : D → ℕ) (image : D → Images) (faults : D → ℕ) (txn : Txn) (old new : State D) (ran : Runs faults old)
    (pairs : (contents : Block → Content) → NodeHolds told clock image faults contents old → NodeHolds told clock image faults contents new)
    (goes_on : DisksGoOn told faults old new) where
  abbrev Applies : Result ℕ NodeRefusal → Type 0
  Applies result =
      IsJournaled faults (entries.Apply txn) old new (journal_seen told clock image faults old) (journal_seen told clock image faults new) result

  applied_ok : (count : ℕ) (due : Bool) → is_due (node_in old) txn ≡ due → (due ≡ false → new ≡ old) → (due ≡ true → Applies (Ok count))
      → (due ≡ true → Frees (names txn) (node_in old) old.shelf new.shelf)
      → (is_halted new ≡ false → (bytes : List ℕ) → told (meta_of new) ≡ Some bytes → StandsForNode bytes (node_in new))
      → HasApplied told clock image faults txn old new
  applied_ok count false is still journaled frees stands =
      let same = still refl in
      let runs : Runs faults new = subst (Runs faults) (sym same) ran in
      let none = or_parts (nat_lt ((node_in old).greatest txn.container) txn.number) (names_held (node_in old) txn) is in
      record {
        ran = ran;
        runs = runs;
        id = ap (λ (s : State D). s.id) same;
        line = ap (λ (s : State D). s.stopped) same;
        rows = λ block. ap (λ (s : State D). (node_in s).rows block) same ∙ as_it_was (node_in old) txn block none.1;
        states = λ container. ap (λ (s : State D). (node_in s).states container) same;
        greatest = λ container. ap (λ (s : State D). (node_in s).greatest container) same ∙ no_greater (node_in old) txn container none.0;
        stands = stands (not_halted (is_halted new) (count_of faults new) _ runs);
        pairs = pairs;
        goes_on = goes_on;
      }
  applied_ok count true is still journaled frees stands =
      let so = journaled refl in
      let made = (changed_ok told clock image faults old new ran pairs goes_on (entries.Apply txn) count so).1.made in
      let runs = still_runs told clock image faults old new ran pairs goes_on (entries.Apply txn) count so (frees refl).failed in
      record {
        ran = ran;
        runs = runs;
        id = so.id;
        line = so.line;
        rows = λ block. ap (λ (n : Held). n.rows block) made;
        states = λ container. ap (λ (n : Held). n.states container) made;
        greatest = λ container. ap (λ (n : Held). n.greatest container) made;
        stands = stands (not_halted (is_halted new) (count_of faults new) _ runs);
        pairs = pairs;
        goes_on = goes_on;
      }

  pub applied : (count : ℕ) → (is_due (node_in old) txn ≡ false → new ≡ old) → (is_due (node_in old) txn ≡ true → Applies (Ok count))
      → (is_due (node_in old) txn ≡ true → Frees (names txn) (node_in old) old.shelf new.shelf)
      → (is_halted new ≡ false → (bytes : List ℕ) → told (meta_of new) ≡ Some bytes → StandsForNode bytes (node_in new))
      → HasApplied told clock image faults txn old new
  applied count = applied_ok count (is_due (node_in old) txn) refl

  unwritten : (due : Bool) → (due ≡ false → new ≡ old) → (due ≡ true → Frees (names txn) (node_in old) old.shelf new.shelf) → new.shelf.written ≡ old.shelf.written
  unwritten false still frees = ap (λ (s : State D). s.shelf.written) (still refl)
  unwritten true still frees = (frees refl).written

  pub none_written : (is_due (node_in old) txn ≡ false → new ≡ old) → (is_due (node_in old) txn ≡ true → Frees (names txn) (node_in old) old.shelf new.shelf)
      → new.shelf.written ≡ old.shelf.written
  none_written = unwritten (is_due (node_in old) txn)

  refused_due : (refusal : NodeRefusal) (due : Bool) → (due ≡ false → ◌≡◌ {A = Result ℕ NodeRefusal} (Err refusal) (Ok 0)) → (due ≡ true → Applies (Err refusal))
      → new.shelf ≡ old.shelf → IsRefusedFor told clock image faults old new (refused_as (count_of faults new) refusal)
  refused_due refusal false still journaled shelf = absurd (let wrong = still refl in cc)
  refused_due refusal true still journaled shelf =
      journaled_refused told clock image faults old new ran pairs goes_on (entries.Apply txn) refusal (journaled refl) shelf

  pub apply_refused : (refusal : NodeRefusal) → (is_due (node_in old) txn ≡ false → ◌≡◌ {A = Result ℕ NodeRefusal} (Err refusal) (Ok 0))
      → (is_due (node_in old) txn ≡ true → Applies (Err refusal)) → new.shelf ≡ old.shelf
      → IsRefusedFor told clock image faults old new (refused_as (count_of faults new) refusal)
  apply_refused refusal = refused_due refusal (is_due (node_in old) txn)

-- without memory a datanode stays as it is
pub stays_same : {D : Type 0} (told : D → Option (List ℕ)) (clock : D → ℕ) (image : D → Images) (faults : D → ℕ) (node : State D)
    → Stays told clock image faults node node
stays_same told clock image faults node = record {
  id = refl;
  node = refl;
  journal = refl;
  halted = refl;
  line = refl;
  stop = refl;
  holds = λ contents holds. holds;
  goes_on = record {
    meta_tells = (λ none. none, λ none. none);
    slots_tell = (λ none. none, λ none. none);
    meta_never_falls = omega arith;
    slots_never_fall = omega arith;
  };
}

-- ---- what is told

pub each_told : (May : EventKind → Type 0) (dn : ℕ) (kind : Option EventKind) (came : Result (Unit {0}) ChangeRefusal) → (came ≡ Ok tt → IfSome kind May)
    → ((count : ℕ) → came ≡ Err (Failed count) → May (Halt (Datanode dn) count)) → IfSome (change_kind dn kind came) May
each_told May dn kind (Ok it) done fails = done refl
each_told May dn kind (Err Stopped) done fails = tt
each_told May dn kind (Err (Halted count)) done fails = tt
each_told May dn kind (Err (Failed count)) done fails = fails count refl
each_told May dn kind (Err OutOfMemory) done fails = tt

-- a Halt is a note of a change
pub notes_of : (dn : ℕ) (kind : Option EventKind) → IfSome kind IsNoteOfChange → (came : Result (Unit {0}) ChangeRefusal) → IfSome (change_kind dn kind came) IsNoteOfChange
notes_of dn kind is came = each_told IsNoteOfChange dn kind came (λ done. is) (λ count fails. record { note = tt; no_bad = refl; uncommanded = tt; unput = halt_untold dn count })

pub given_before : (dn : ℕ) (kind : Option EventKind) (seen first other second after : List Event) → BeginsWith first seen → BeginsWith second other
    → IsGiven dn kind first second after → IsGiven dn kind seen other after
given_before dn None seen first other second after begins others given = begins_through after first seen given begins
given_before dn (Some kind) seen first other second after begins others given = record {
  before = given.before;
  begins = begins_through given.before first seen given.begins begins;
  begins_other = begins_through given.before second other given.begins_other others;
  goes_on = given.goes_on;
}

-- ---- a refusal

module _ (Coherent : Type 0) (opening : Opening) (bytes : OpeningBytes) (script : Script) (loaded : Node → ℕ) {D : Type 0} (told : D → Option (List ℕ)) (clock : D → ℕ)
    (image : D → Images) (faults : D → ℕ) where
  abbrev Stands : SeatView → State D → Type 0
  Stands view node = StandsFor told clock image faults Coherent opening bytes script loaded view node

  pub failed_follows : (view : SeatView) (old new : State D) (count : ℕ) → IsKept Coherent opening bytes script view → Stands view old
      → IsRefusedFor told clock image faults old new (Failed count) → (story : List Event) → AllFollow (Follows Coherent opening bytes script) [] story
      → events_of view.dn story ≡ view.mine → Follows Coherent opening bytes script story (by_node view.dn (Halt (Datanode view.dn) count))
  failed_follows view old new count kept stood (ran, halts) story all own =
      halt_follows Coherent opening bytes script loaded told clock image faults view old count kept stood
      (not_halted (is_halted old) (count_of faults old) _ ran) (counted_once told clock image faults old new count halts) story all own

  -- what was made may be told by its event, and so may a Halt
  pub may_tell : (view : SeatView) (old new : State D) (other : List Event) (kind : Option EventKind) → IsKept Coherent opening bytes script view → Stands view old
      → (came : Result (Unit {0}) ChangeRefusal) → IfErr came (IsRefusedFor told clock image faults old new)
      → (came ≡ Ok tt → IfSome kind (λ kind. (story : List Event) → BeginsWith story view.seen → BeginsWith story other
      → AllFollow (Follows Coherent opening bytes script) [] story → events_of view.dn story ≡ view.mine → Follows Coherent opening bytes script story (by_node view.dn kind)))
      → IfSome (change_kind view.dn kind came) (λ kind. (story : List Event) → BeginsWith story view.seen → BeginsWith story other
      → AllFollow (Follows Coherent opening bytes script) [] story → events_of view.dn story ≡ view.mine → Follows Coherent opening bytes script story (by_node view.dn kind))
  may_tell view old new other kind kept stood (Ok it) refused done = done refl
  may_tell view old new other kind kept stood (Err Stopped) refused done = tt
  may_tell view old new other kind kept stood (Err (Halted count)) refused done = tt
  may_tell view old new other kind kept stood (Err (Failed count)) refused done =
      λ story begins others all own. failed_follows view old new count kept stood refused story all own
  may_tell view old new other kind kept stood (Err OutOfMemory) refused done = tt

  module _ (view later : SeatView) (old new : State D) (other : List Event) (kept : IsKept Coherent opening bytes script view) (kept_later : IsKept Coherent opening bytes script later)
      (stood : Stands view old) (number : later.dn ≡ view.dn) (kind : Option EventKind) where
    pub refused_stands : (refusal : ChangeRefusal) → IsRefusedFor told clock image faults old new refusal
        → later.mine ≡ with_given view.dn (change_kind view.dn kind (Err refusal)) view.mine
        → IsGiven view.dn (change_kind view.dn kind (Err refusal)) view.seen other later.seen → Stands later new
    refused_stands Stopped refused mine goes =
        subst (Stands later) (sym refused.2) (ready_stands Coherent opening bytes script loaded told clock image faults old view later kept kept_later number mine goes stood)
    refused_stands (Halted count) refused mine goes =
        subst (Stands later) (sym refused.2) (ready_stands Coherent opening bytes script loaded told clock image faults old view later kept kept_later number mine goes stood)
    refused_stands (Failed count) refused mine told_so =
        halt_stands Coherent opening bytes script loaded told clock image faults view later old new count other kept kept_later stood refused.1 number mine told_so
    refused_stands OutOfMemory refused mine goes =
        stands_still told clock image faults Coherent opening bytes script loaded later old new refused
        (ready_stands Coherent opening bytes script loaded told clock image faults old view later kept kept_later number mine goes stood)

-- ---- a change that may be refused

module _ (Coherent : Type 0) (opening : Opening) (bytes : OpeningBytes) (script : Script) (loaded : Node → ℕ) {D : Type 0} (told : D → Option (List ℕ)) (clock : D → ℕ)
    (image : D → Images) (faults : D → ℕ) (kind : Option EventKind) (first second later : SeatView) (other others : List Event) (old new : State D) where
  -- room was made first, and then the change came to this
  pub comes_of : IsKept Coherent opening bytes script first → IsKept Coherent opening bytes script second → IsKept Coherent opening bytes script later
      → StandsFor told clock image faults Coherent opening bytes script loaded first old
      → second.dn ≡ first.dn → second.mine ≡ first.mine → second.last ≡ first.last → BeginsWith second.seen first.seen → BeginsWith others other
      → later.dn ≡ second.dn → later.last ≡ second.last
      → (came : Result (Unit {0}) ChangeRefusal) → IsGiven second.dn (change_kind second.dn kind came) second.seen others later.seen
      → later.mine ≡ with_given second.dn (change_kind second.dn kind came) second.mine
      → IfErr came (IsRefusedFor told clock image faults old new) → new.shelf.written ≡ old.shelf.written
      → (came ≡ Ok tt → StandsFor told clock image faults Coherent opening bytes script loaded later new)
      → ComesOf told clock image faults Coherent opening bytes script loaded kind other first later old new came
  comes_of kept kept_second kept_later stood dn mine last begins began number last_then came given more refused written done = record {
    number = number ∙ dn;
    last = last_then ∙ last;
    given = subst (λ (n : ℕ). IsGiven n (change_kind n kind came) first.seen other later.seen) dn
        (given_before second.dn (change_kind second.dn kind came) first.seen second.seen other others later.seen begins began given);
    mine = more ∙ (ap (λ (n : ℕ). with_given n (change_kind n kind came) second.mine) dn ∙ ap (λ (l : List Event). with_given first.dn (change_kind first.dn kind came) l) mine);
    kept = kept_later;
    refused = refused;
    written = written;
    stands = by came given more refused done;
  } where
    by : (came : Result (Unit {0}) ChangeRefusal) → IsGiven second.dn (change_kind second.dn kind came) second.seen others later.seen
        → later.mine ≡ with_given second.dn (change_kind second.dn kind came) second.mine → IfErr came (IsRefusedFor told clock image faults old new)
        → (came ≡ Ok tt → StandsFor told clock image faults Coherent opening bytes script loaded later new)
        → StandsFor told clock image faults Coherent opening bytes script loaded later new
    by (Ok it) given more refused done = done refl
    by (Err refusal) given more refused done =
        refused_stands Coherent opening bytes script loaded told clock image faults second later old new others kept_second kept_later
        (ready_stands Coherent opening bytes script loaded told clock image faults old first second kept kept_second dn mine begins stood) number kind refusal refused more given

  -- there was no memory for it
  pub comes_of_none : IsKept Coherent opening bytes script first → IsKept Coherent opening bytes script later
      → StandsFor told clock image faults Coherent opening bytes script loaded first old → later.dn ≡ first.dn → later.mine ≡ first.mine → later.last ≡ first.last
      → BeginsWith later.seen first.seen
      → ComesOf told clock image faults Coherent opening bytes script loaded kind other first later old old (Err OutOfMemory)
  comes_of_none kept kept_later stood dn mine last begins = record {
    number = dn;
    last = last;
    given = begins;
    mine = mine;
    kept = kept_later;
    refused = stays_same told clock image faults old;
    written = refl;
    stands = ready_stands Coherent opening bytes script loaded told clock image faults old first later kept kept_later dn mine begins stood;
  }

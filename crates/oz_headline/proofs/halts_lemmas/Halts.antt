-- Which nodes halted, by the events of their seats.
use Rattle.std.proofs.Common.{◌≡◌, ◌≢◌, ⊎_elim, ℕ, zero, suc, ◌+◌, ◌≤◌, ◌<◌, Bool, true, false, ◌==◌, ◌||◌, ◌&&◌, cond, List, [], ◌∷◌, length, slice_get, Option, None, Some, eq-eqb, refl, sym, ap, ◌∙◌, subst, arith}
use Rattle.std.proofs.Math.Bool.{or-false}
use Rattle.std.proofs.lemmas.Bool.{cases_lt, eqb-true, false≢true}
use Rattle.std.specs.List.{AllByRecursion, list_any}
use Rattle.std.specs.Prelude.{if◌then◌else◌}
use Rattle.oz_buffer.specs.Buffer.{AllFollow, Follows, IsOfItsSeat}
use Rattle.oz_buffer.specs.laws.Following.{follow-all}
use Rattle.oz_core.specs.declared.event.Event.{Event}
use Rattle.oz_core.specs.declared.event.EventKind.{EventKind}
use Rattle.oz_core.specs.declared.event.EventKind.TheVariants.{Halt}
use Rattle.oz_core.specs.declared.event.Node.{Node}
use Rattle.oz_core.specs.declared.event.Node.TheVariants.{Manager, Scm, Datanode}
use Rattle.oz_core.specs.declared.opening.Opening.{Opening}
use Rattle.oz_core.specs.Contents.{OpeningBytes}
use Rattle.oz_core.specs.Manager.{halt_count, halt_of, is_node}
use Rattle.oz_core.specs.Seats.{IsNodeSeat, datanode_seat, flusher_seat, scm_seat}
use Rattle.oz_core.specs.Stories.{last_told, newer}
use Rattle.oz_datanode.specs.Datanode.{State as NodeState, count_of, is_halted, meta_of, slots_of}
use Rattle.oz_datanode.specs.declared.disks.NodeDisks.{NodeDisks}
use Rattle.oz_script.specs.declared.lines.script.Script.{Script}
use Rattle.oz_nodes_loaded.specs.declared.disk_name.DiskName.TheVariants as names
use Rattle.oz_nodes_loaded.specs.declared.disk_name.DiskName.{DiskName}
use Rattle.oz_scm.specs.Scm.{State as ScmState}
use Rattle.oz_turn.specs.Told.{own_entries}
use Rattle.oz_world.specs.Disk.{Images, Seen}
use Rattle.oz_world.specs.Faults.{Rose}
use Rattle.oz_headline.specs.Disks.{RunDisk, faults_after, faults_loaded, has_stopped, is_of, manager_disk, of_node, together}
use Rattle.oz_headline.specs.halts.Disks.{AreAsMany, OtherDisks, OtherNodes, all_disks, datanode_disks, some_halted}
use Rattle.oz_headline.specs.declared.status.Status.TheVariants.{Done, Disk}
use Rattle.oz_headline.specs.NamedHalts.{HaltIsNamed, HaltsAreNamed, StatusNamesHalts}
use Rattle.oz_headline.specs.halts.Nodes.{AreAsTold, AreCounted, ScmIsAsTold}

abbrev own : ℕ → List Event → List Event
own seat story = own_entries (λ (event : Event). event.seat) seat story

-- whether a call on any of the disks has failed
abbrev any_stopped : List RunDisk → Bool
any_stopped [] = false
any_stopped (disk ∷ disks) = disk.stopped || any_stopped disks

-- each node's Halt is of its seat
abbrev pub AreOfTheirSeats : Opening → List Event → Type 0
AreOfTheirSeats opening story = AllByRecursion (λ (event : Event). IsOfItsSeat opening event.seat event.kind) story

pub of_their_seats : (Coherent : Type 0) (opening : Opening) (bytes : OpeningBytes) (script : Script) (story : List Event)
    → AllFollow (Follows Coherent opening bytes script) [] story → AreOfTheirSeats opening story
of_their_seats Coherent opening bytes script story all =
    follow-all (Follows Coherent opening bytes script) (λ (event : Event). IsOfItsSeat opening event.seat event.kind) [] story (λ front event follows. follows.of_seat) all

same_node : (node other : Node) → is_node node other ≡ true → other ≡ node
same_node Manager Manager same = refl
same_node Scm Scm same = refl
same_node (Datanode dn) (Datanode other) same = ap (λ (n : ℕ). Datanode n) (sym (eqb-true dn other same))
same_node Manager Scm same = absurd (false≢true same)
same_node Manager (Datanode other) same = absurd (false≢true same)
same_node Scm Manager same = absurd (false≢true same)
same_node Scm (Datanode other) same = absurd (false≢true same)
same_node (Datanode dn) Manager same = absurd (false≢true same)
same_node (Datanode dn) Scm same = absurd (false≢true same)

-- an event that no seat of the node's gave is no Halt of it
no_halt : (opening : Opening) (node : Node) (seat : ℕ) (kind : EventKind) → IsOfItsSeat opening seat kind → (IsNodeSeat opening node seat → ⊥) → halt_count node kind ≡ None
no_halt opening node seat (Halt other count) of_seat away = by (is_node node other) refl
  where
    by : (t : Bool) → is_node node other ≡ t → cond (is_node node other) (Some (Some count)) None ≡ None
    by true same = absurd (away (subst (λ (n : Node). IsNodeSeat opening n seat) (same_node node other same) of_seat))
    by false apart = ap (λ (t : Bool). cond t (Some (Some count)) None) apart
no_halt opening node seat kind of_seat away = refl

-- what a seat gave of a story and of the events behind its first
own_test : (seat : ℕ) (event : Event) (story : List Event) (t : Bool) → (event.seat == seat) ≡ t → own seat (event ∷ story) ≡ cond t (event ∷ own seat story) (own seat story)
own_test seat event story t is = ap (λ (t : Bool). cond t (event ∷ own seat story) (own seat story)) is

first_is_away : (seat : ℕ) (event : Event) (story : List Event) → own seat (event ∷ story) ≡ [] → (event.seat == seat) ≡ false
first_is_away seat event story none = by (event.seat == seat) refl
  where
    by : (t : Bool) → (event.seat == seat) ≡ t → (event.seat == seat) ≡ false
    by true is = absurd (cc (sym (own_test seat event story true is) ∙ none))
    by false apart = apart

rest_is_silent : (seat : ℕ) (event : Event) (story : List Event) → own seat (event ∷ story) ≡ [] → own seat story ≡ []
rest_is_silent seat event story none = sym (own_test seat event story false (first_is_away seat event story none)) ∙ none

-- a node that gave nothing has no Halt
none_halted : (opening : Opening) (node : Node) (story : List Event) (first : Option ℕ) → AreOfTheirSeats opening story
    → ((seat : ℕ) → IsNodeSeat opening node seat → own seat story ≡ []) → last_told (halt_count node) first story ≡ first
none_halted opening node [] first all silent = refl
none_halted opening node (event ∷ story) first all silent =
    let none = no_halt opening node event.seat event.kind all.0
    (λ its. false≢true (sym (first_is_away event.seat event story (silent event.seat its)) ∙ eq-eqb event.seat event.seat refl)) in
    ap (λ (o : Option (Option ℕ)). last_told (halt_count node) (newer o first) story) none
    ∙ none_halted opening node story first all.1 (λ seat its. rest_is_silent seat event story (silent seat its))

-- the Halt of a node that has one seat is that seat's
pub seats_own : (opening : Opening) (node : Node) (seat : ℕ) → ((other : ℕ) → IsNodeSeat opening node other → other ≡ seat)
    → (story : List Event) (first : Option ℕ) → AreOfTheirSeats opening story
    → last_told (halt_count node) first story ≡ last_told (halt_count node) first (own seat story)
seats_own opening node seat only [] first all = refl
seats_own opening node seat only (event ∷ story) first all = by (event.seat == seat) refl (λ x. seats_own opening node seat only story x all.1)
  where
    by : (t : Bool) → (event.seat == seat) ≡ t → ((x : Option ℕ) → last_told (halt_count node) x story ≡ last_told (halt_count node) x (own seat story))
        → last_told (halt_count node) first (event ∷ story) ≡ last_told (halt_count node) first (own seat (event ∷ story))
    by true is rest = rest (newer (halt_count node event.kind) first) ∙ ap (last_told (halt_count node) first) (sym (own_test seat event story true is))
    by false apart rest =
        let none = no_halt opening node event.seat event.kind all.0 (λ its. false≢true (sym apart ∙ eq-eqb event.seat seat (only event.seat its))) in
        ap (λ (o : Option (Option ℕ)). last_told (halt_count node) (newer o first) story) none
        ∙ (rest first ∙ ap (last_told (halt_count node) first) (sym (own_test seat event story false apart)))

-- ---- the disks of datanodes

module _ {D : Type 0} (see : D → Seen) where
  -- none of them is one of another node's
  module _ (node : Node) (apart : (dn : ℕ) → is_of node (names.Meta dn) ≡ false) (apart_slots : (dn : ℕ) → is_of node (names.Slots dn) ≡ false) where
    pub none_stopped : (number : ℕ) (before : List (NodeDisks D)) (loaded after : List (NodeState D)) → has_stopped node (datanode_disks see number before loaded after) ≡ false
    none_stopped number [] loaded after = refl
    none_stopped number (b ∷ before) [] after = refl
    none_stopped number (b ∷ before) (l ∷ loaded) [] = refl
    none_stopped number (b ∷ before) (l ∷ loaded) (a ∷ after) =
        rw (apart number, apart_slots number) (none_stopped (number + 1) before loaded after)

    pub none_counted : (count : RunDisk → ℕ) (number : ℕ) (before : List (NodeDisks D)) (loaded after : List (NodeState D)) → of_node count node (datanode_disks see number before loaded after) ≡ []
    none_counted count number [] loaded after = refl
    none_counted count number (b ∷ before) [] after = refl
    none_counted count number (b ∷ before) (l ∷ loaded) [] = refl
    none_counted count number (b ∷ before) (l ∷ loaded) (a ∷ after) =
        rw (apart number, apart_slots number) (none_counted count (number + 1) before loaded after)

  inside : {m n : NodeState D} → Some m ≡ Some n → m ≡ n
  inside e = cc

  -- those of the datanode of this number
  module _ (dn : ℕ) where
    other_number : (number : ℕ) → number ≢ dn → (number == dn) ≡ false
    other_number number apart = by (number == dn) refl
      where
        by : (t : Bool) → (number == dn) ≡ t → (number == dn) ≡ false
        by true is = absurd (apart (eqb-true number dn is))
        by false is = is

    first_away : (number count : ℕ) → ((n : ℕ) → n < suc count → number + n ≢ dn) → number ≢ dn
    first_away number count away is = away 0 (omega arith) (omega (arith, is))

    rest_away : (number count : ℕ) → ((n : ℕ) → n < suc count → number + n ≢ dn) → (n : ℕ) → n < count → number + 1 + n ≢ dn
    rest_away number count away n less is = away (suc n) (omega (arith, less)) (omega (arith, is))

    -- none has this number
    pub absent_stopped : (number : ℕ) (before : List (NodeDisks D)) (loaded after : List (NodeState D)) → ((n : ℕ) → n < length after → number + n ≢ dn)
        → has_stopped (Datanode dn) (datanode_disks see number before loaded after) ≡ false
    absent_stopped number [] loaded after away = refl
    absent_stopped number (b ∷ before) [] after away = refl
    absent_stopped number (b ∷ before) (l ∷ loaded) [] away = refl
    absent_stopped number (b ∷ before) (l ∷ loaded) (a ∷ after) away =
        rw (other_number number (first_away number (length after) away)) (absent_stopped (number + 1) before loaded after (rest_away number (length after) away))

    absent_counted : (count : RunDisk → ℕ) (number : ℕ) (before : List (NodeDisks D)) (loaded after : List (NodeState D)) → ((n : ℕ) → n < length after → number + n ≢ dn)
        → of_node count (Datanode dn) (datanode_disks see number before loaded after) ≡ []
    absent_counted count number [] loaded after away = refl
    absent_counted count number (b ∷ before) [] after away = refl
    absent_counted count number (b ∷ before) (l ∷ loaded) [] away = refl
    absent_counted count number (b ∷ before) (l ∷ loaded) (a ∷ after) away =
        rw (other_number number (first_away number (length after) away)) (absent_counted count (number + 1) before loaded after (rest_away number (length after) away))

    above_away : (number : ℕ) → number ≡ dn → (count n : ℕ) → n < count → number + 1 + n ≢ dn
    above_away number here count n less is = absurd (omega (arith, is, here))

    its_stopped : (number n : ℕ) (before : List (NodeDisks D)) (loaded after : List (NodeState D)) (node : NodeState D)
        → length before ≡ length after → length loaded ≡ length after → slice_get after n ≡ Some node → number + n ≡ dn
        → has_stopped (Datanode dn) (datanode_disks see number before loaded after) ≡ is_halted node
    its_stopped number n before loaded [] node before_count loaded_count at its = absurd cc
    its_stopped number n [] loaded (a ∷ after) node before_count loaded_count at its = absurd (omega (arith, before_count))
    its_stopped number n (b ∷ before) [] (a ∷ after) node before_count loaded_count at its = absurd (omega (arith, loaded_count))
    its_stopped number zero (b ∷ before) (l ∷ loaded) (a ∷ after) node before_count loaded_count at its =
        let here : number ≡ dn = omega (arith, its) in
        rw (eq-eqb number dn here)
        (ap (λ (t : Bool). a.blocks.stopped || (a.shelf.failed || t)) (absent_stopped (number + 1) before loaded after (above_away number here (length after)))
        ∙ (ap (λ (t : Bool). a.blocks.stopped || t) (or-false a.shelf.failed)
        ∙ ap is_halted (inside at)))
    its_stopped number (suc n) (b ∷ before) (l ∷ loaded) (a ∷ after) node before_count loaded_count at its =
        rw (other_number number (λ here. absurd (omega (arith, here, its))))
        (its_stopped (number + 1) n before loaded after node (omega (arith, before_count)) (omega (arith, loaded_count)) at (omega (arith, its)))

    pub its_after : (number n : ℕ) (before : List (NodeDisks D)) (loaded after : List (NodeState D)) (node : NodeState D)
        → length before ≡ length after → length loaded ≡ length after → slice_get after n ≡ Some node → number + n ≡ dn
        → of_node (λ (disk : RunDisk). disk.after.faults) (Datanode dn) (datanode_disks see number before loaded after)
        ≡ (see (meta_of node)).faults ∷ (see (slots_of node)).faults ∷ []
    its_after number n before loaded [] node before_count loaded_count at its = absurd cc
    its_after number n [] loaded (a ∷ after) node before_count loaded_count at its = absurd (omega (arith, before_count))
    its_after number n (b ∷ before) [] (a ∷ after) node before_count loaded_count at its = absurd (omega (arith, loaded_count))
    its_after number zero (b ∷ before) (l ∷ loaded) (a ∷ after) node before_count loaded_count at its =
        let here : number ≡ dn = omega (arith, its) in
        rw (eq-eqb number dn here)
        (ap (λ (counts : List ℕ). (see (meta_of a)).faults ∷ (see (slots_of a)).faults ∷ counts)
        (absent_counted (λ (disk : RunDisk). disk.after.faults) (number + 1) before loaded after (above_away number here (length after)))
        ∙ ap (λ (m : NodeState D). (see (meta_of m)).faults ∷ (see (slots_of m)).faults ∷ []) (inside at))
    its_after number (suc n) (b ∷ before) (l ∷ loaded) (a ∷ after) node before_count loaded_count at its =
        rw (other_number number (λ here. absurd (omega (arith, here, its))))
        (its_after (number + 1) n before loaded after node (omega (arith, before_count)) (omega (arith, loaded_count)) at (omega (arith, its)))

    pub its_loaded : (number n : ℕ) (before : List (NodeDisks D)) (loaded after : List (NodeState D)) (was : NodeState D)
        → length before ≡ length after → length loaded ≡ length after → slice_get loaded n ≡ Some was → number + n ≡ dn
        → of_node (λ (disk : RunDisk). disk.faults) (Datanode dn) (datanode_disks see number before loaded after)
        ≡ (see (meta_of was)).faults ∷ (see (slots_of was)).faults ∷ []
    its_loaded number n before [] after was before_count loaded_count at its = absurd cc
    its_loaded number n [] (l ∷ loaded) after was before_count loaded_count at its = absurd (omega (arith, before_count, loaded_count))
    its_loaded number n (b ∷ before) (l ∷ loaded) [] was before_count loaded_count at its = absurd (omega (arith, loaded_count))
    its_loaded number zero (b ∷ before) (l ∷ loaded) (a ∷ after) was before_count loaded_count at its =
        let here : number ≡ dn = omega (arith, its) in
        rw (eq-eqb number dn here)
        (ap (λ (counts : List ℕ). (see (meta_of l)).faults ∷ (see (slots_of l)).faults ∷ counts)
        (absent_counted (λ (disk : RunDisk). disk.faults) (number + 1) before loaded after (above_away number here (length after)))
        ∙ ap (λ (m : NodeState D). (see (meta_of m)).faults ∷ (see (slots_of m)).faults ∷ []) (inside at))
    its_loaded number (suc n) (b ∷ before) (l ∷ loaded) (a ∷ after) was before_count loaded_count at its =
        rw (other_number number (λ here. absurd (omega (arith, here, its))))
        (its_loaded (number + 1) n before loaded after was (omega (arith, before_count)) (omega (arith, loaded_count)) at (omega (arith, its)))

  -- one of them stopped where one of the datanodes halted
  pub halted_any : (number : ℕ) (before : List (NodeDisks D)) (loaded after : List (NodeState D)) → length before ≡ length after → length loaded ≡ length after
      → any_stopped (datanode_disks see number before loaded after) ≡ list_any is_halted after
  halted_any number before loaded [] before_count loaded_count = none before loaded
    where
      none : (before : List (NodeDisks D)) (loaded : List (NodeState D)) → any_stopped (datanode_disks see number before loaded []) ≡ false
      none [] loaded = refl
      none (b ∷ before) [] = refl
      none (b ∷ before) (l ∷ loaded) = refl
  halted_any number [] loaded (a ∷ after) before_count loaded_count = absurd (omega (arith, before_count))
  halted_any number (b ∷ before) [] (a ∷ after) before_count loaded_count = absurd (omega (arith, loaded_count))
  halted_any number (b ∷ before) (l ∷ loaded) (a ∷ after) before_count loaded_count =
      ap (λ (t : Bool). a.blocks.stopped || (a.shelf.failed || t)) (halted_any (number + 1) before loaded after (omega (arith, before_count)) (omega (arith, loaded_count)))
      ∙ either a.blocks.stopped a.shelf.failed (list_any is_halted after)
    where
      either : (x y z : Bool) → (x || (y || z)) ≡ ((x || y) || z)
      either true y z = refl
      either false y z = refl

-- ---- each node's

-- a datanode at a place, or none
pub there : {A : Type 0} (items : List A) (n : ℕ) → n < length items → (x : A) × (slice_get items n ≡ Some x)
there [] n less = absurd (omega (arith, less))
there (first ∷ items) zero less = (first, refl)
there (first ∷ items) (suc n) less = there items n (omega (arith, less))

-- by what one seat of a node kept of its Halt
module _ (opening : Opening) (story : List Event) (disks : List RunDisk) (all : AreOfTheirSeats opening story) where
  named_by : (node : Node) (seat : ℕ) (halted : Bool) (loaded count : ℕ) → ((other : ℕ) → IsNodeSeat opening node other → other ≡ seat)
      → has_stopped node disks ≡ halted → faults_loaded node disks ≡ loaded → faults_after node disks ≡ count
      → halt_of node (own seat story) ≡ (if halted then Some count else None) → (halted ≡ true → Rose loaded count) → HaltIsNamed disks story node
  named_by node seat halted loaded count only halted_is loaded_is after_is halt rose = record {
    halt = seats_own opening node seat only story None all
        ∙ (halt
        ∙ (ap (λ (t : Bool). cond t (Some count) None) (sym halted_is)
        ∙ ap (λ (n : ℕ). cond (has_stopped node disks) (Some n) None) (sym after_is)));
    rose = λ is. subst (λ (n : ℕ). Rose n (faults_after node disks)) (sym loaded_is) (subst (λ (n : ℕ). Rose loaded n) (sym after_is) (rose (sym halted_is ∙ is)));
  }

  -- a node that isn't there
  named_absent : (node : Node) → has_stopped node disks ≡ false → ((seat : ℕ) → IsNodeSeat opening node seat → ⊥) → HaltIsNamed disks story node
  named_absent node unstopped away = record {
    halt = none_halted opening node story None all (λ seat its. absurd (away seat its))
        ∙ ap (λ (t : Bool). cond t (Some (faults_after node disks)) None) (sym unstopped);
    rose = λ is. absurd (false≢true (sym unstopped ∙ is));
  }

module _ {D : Type 0} (told : D → Option (List ℕ)) (clock : D → ℕ) (image : D → Images) (faults : D → ℕ) (Coherent : Type 0) (opening : Opening) (bytes : OpeningBytes)
    (script : Script) (counted : Node → ℕ) (story mine : List Event) (see : D → Seen) (sees : (d : D) → (see d).faults ≡ faults d)
    (loaded first : ℕ) (stopped : Bool) (before after : Seen) (disks_before : OtherDisks D) (nodes_loaded nodes_after : OtherNodes D) where
  abbrev disks : List RunDisk
  disks = all_disks see (manager_disk loaded first stopped before after) disks_before nodes_loaded nodes_after

  abbrev scm : ScmState D
  scm = nodes_after.scm

  abbrev scm_loaded : ScmState D
  scm_loaded = nodes_loaded.scm

  abbrev was_begun : List (NodeDisks D)
  was_begun = disks_before.datanodes

  abbrev was_loaded : List (NodeState D)
  was_loaded = nodes_loaded.datanodes

  abbrev nodes : List (NodeState D)
  nodes = nodes_after.datanodes

  module _ (all : AreOfTheirSeats opening story) (flushers : own flusher_seat story ≡ mine) (halt : halt_of Manager mine ≡ (if stopped then Some after.faults else None))
      (rose : stopped ≡ true → Rose loaded after.faults)
      (scm_is : ScmIsAsTold faults opening counted story scm) (nodes_are : AreAsTold told clock image faults Coherent opening bytes script counted story nodes)
      (known : AreCounted faults counted nodes_loaded) (many : AreAsMany disks_before nodes_loaded nodes_after) where
    abbrev begun_count : length was_begun ≡ length nodes
    begun_count = many.before_count

    abbrev loaded_count : length was_loaded ≡ length nodes
    loaded_count = many.loaded_count

    of_manager : HaltIsNamed disks story Manager
    of_manager =
        named_by opening story disks all Manager flusher_seat stopped loaded after.faults (λ other its. its)
        (ap (λ (t : Bool). stopped || t) (none_stopped see Manager (λ dn. refl) (λ dn. refl) 0 was_begun was_loaded nodes) ∙ or-false stopped)
        (ap (λ (l : List ℕ). together (loaded ∷ l)) (none_counted see Manager (λ dn. refl) (λ dn. refl) (λ (disk : RunDisk). disk.faults) 0 was_begun was_loaded nodes))
        (ap (λ (l : List ℕ). together (after.faults ∷ l)) (none_counted see Manager (λ dn. refl) (λ dn. refl) (λ (disk : RunDisk). disk.after.faults) 0 was_begun was_loaded nodes))
        (ap (halt_of Manager) flushers ∙ halt) rose

    of_scm : HaltIsNamed disks story Scm
    of_scm =
        named_by opening story disks all Scm scm_seat scm.stopped (counted Scm) (faults scm.disk) (λ other its. its)
        (ap (λ (t : Bool). scm.stopped || t) (none_stopped see Scm (λ dn. refl) (λ dn. refl) 0 was_begun was_loaded nodes) ∙ or-false scm.stopped)
        (ap (λ (l : List ℕ). together ((see scm_loaded.disk).faults ∷ l)) (none_counted see Scm (λ dn. refl) (λ dn. refl) (λ (disk : RunDisk). disk.faults) 0 was_begun was_loaded nodes)
        ∙ (sees scm_loaded.disk ∙ sym known.of_scm))
        (ap (λ (l : List ℕ). together ((see scm.disk).faults ∷ l)) (none_counted see Scm (λ dn. refl) (λ dn. refl) (λ (disk : RunDisk). disk.after.faults) 0 was_begun was_loaded nodes)
        ∙ sees scm.disk)
        scm_is.halt scm_is.rose

    of_datanode : (dn : ℕ) → HaltIsNamed disks story (Datanode dn)
    of_datanode dn = ⊎_elim here absent (cases_lt dn (length nodes))
      where
        here : dn < length nodes → HaltIsNamed disks story (Datanode dn)
        here less =
            let it = there nodes dn less in
            let was = there was_loaded dn (omega (arith, less, loaded_count)) in
            let node = it.0 in
            let stood = (nodes_are.each dn node it.1).rests.stood in
            named_by opening story disks all (Datanode dn) (datanode_seat dn) (is_halted node) (counted (Datanode dn)) (count_of faults node) (λ other its. its.its)
            (its_stopped see dn 0 dn was_begun was_loaded nodes node begun_count loaded_count it.1 (omega arith))
            (ap together (its_loaded see dn 0 dn was_begun was_loaded nodes was.0 begun_count loaded_count was.1 (omega arith))
            ∙ (count_is was.0 ∙ sym (known.of_each dn was.0 was.1)))
            (ap together (its_after see dn 0 dn was_begun was_loaded nodes node begun_count loaded_count it.1 (omega arith)) ∙ count_is node)
            stood.halt stood.rose
          where
            count_is : (m : NodeState D) → together ((see (meta_of m)).faults ∷ (see (slots_of m)).faults ∷ []) ≡ count_of faults m
            count_is m = rw (sees (meta_of m), sees (slots_of m)) refl

        absent : length nodes ≤ dn → HaltIsNamed disks story (Datanode dn)
        absent above =
            named_absent opening story disks all (Datanode dn)
            (absent_stopped see dn 0 was_begun was_loaded nodes (λ n less is. absurd (omega (arith, less, is, above))))
            (λ seat its. absurd (omega (arith, its.there, above, nodes_are.count)))

    pub halts_named : HaltsAreNamed disks story
    halts_named Manager = of_manager
    halts_named Scm = of_scm
    halts_named (Datanode dn) = of_datanode dn

-- ---- what the status says of it

or_true : (t : Bool) → (t || true) ≡ true
or_true true = refl
or_true false = refl

and_false : (t : Bool) → ((t && false) || false) ≡ false
and_false true = refl
and_false false = refl

module _ (story : List Event) where
  -- whose disk it is
  owner : (disks : List RunDisk) → any_stopped disks ≡ true → (node : Node) × (has_stopped node disks ≡ true)
  owner [] is = absurd (false≢true is)
  owner (disk ∷ disks) is = by disk.stopped refl (λ rest. owner disks rest)
    where
      own_disk : (disk : RunDisk) → (node : Node) × (is_of node disk.name ≡ true)
      own_disk disk = of_name disk.name
        where
          of_name : (name : DiskName) → (node : Node) × (is_of node name ≡ true)
          of_name names.Manager = (Manager, refl)
          of_name names.Scm = (Scm, refl)
          of_name (names.Meta dn) = (Datanode dn, eq-eqb dn dn refl)
          of_name (names.Slots dn) = (Datanode dn, eq-eqb dn dn refl)

      by : (t : Bool) → disk.stopped ≡ t → (any_stopped disks ≡ true → (node : Node) × (has_stopped node disks ≡ true))
          → (node : Node) × (has_stopped node (disk ∷ disks) ≡ true)
      by true stopped behind = let its = own_disk disk in (its.0, rw (its.1, stopped) refl)
      by false runs behind =
          let its = behind (rw runs at is) in
          (its.0, rw its.1 (or_true (is_of its.0 disk.name && disk.stopped)))

  none_there : (disks : List RunDisk) → any_stopped disks ≡ false → (node : Node) → has_stopped node disks ≡ false
  none_there [] is node = refl
  none_there (disk ∷ disks) is node = by disk.stopped refl (λ rest. none_there disks rest node)
    where
      by : (t : Bool) → disk.stopped ≡ t → (any_stopped disks ≡ false → has_stopped node disks ≡ false) → has_stopped node (disk ∷ disks) ≡ false
      by true stopped behind =
          let one : any_stopped (disk ∷ disks) ≡ true = rw stopped refl in
          absurd (false≢true (sym is ∙ one))
      by false runs behind = rw (runs, behind (rw runs at is)) (and_false (is_of node disk.name))

  pub status_names : (disks : List RunDisk) → HaltsAreNamed disks story → StatusNamesHalts (if any_stopped disks then Disk else Done) story
  status_names disks halts = by (any_stopped disks) refl
    where
      halt_is : (node : Node) (t : Bool) → has_stopped node disks ≡ t → halt_of node story ≡ cond t (Some (faults_after node disks)) None
      halt_is node t is = (halts node).halt ∙ ap (λ (t : Bool). cond t (Some (faults_after node disks)) None) is

      by : (t : Bool) → any_stopped disks ≡ t → StatusNamesHalts (if t then Disk else Done) story
      by true is = let its = owner disks is in (its.0, λ none. absurd (cc (sym (halt_is its.0 true its.1) ∙ none)))
      by false is = λ node. halt_is node false (none_there disks is node)

-- so it is said of the nodes themselves
pub status_of_all : {D : Type 0} (see : D → Seen) (story : List Event) (faults first : ℕ) (stopped : Bool) (manager_before manager_after : Seen) (before : OtherDisks D) (loaded after : OtherNodes D)
    → AreAsMany before loaded after → HaltsAreNamed (all_disks see (manager_disk faults first stopped manager_before manager_after) before loaded after) story
    → StatusNamesHalts (if some_halted stopped after then Disk else Done) story
status_of_all see story faults first stopped manager_before manager_after before loaded after many halts =
    subst (λ (t : Bool). StatusNamesHalts (if t then Disk else Done) story)
    (ap (λ (t : Bool). stopped || (after.scm.stopped || t)) (halted_any see 0 before.datanodes loaded.datanodes after.datanodes many.before_count many.loaded_count))
    (status_names story (all_disks see (manager_disk faults first stopped manager_before manager_after) before loaded after) halts)

-- A node that halted changes nothing on its disks any more.
use Rattle.std.proofs.Common.{◌≡◌, ℕ, ◌==◌, Bool, true, false, ◌&&◌, ◌||◌, List, [], ◌∷◌, ◌++◌, fold, Option, None}
use Rattle.std.proofs.Common.{Some, cond, is_none, refl, sym, ◌∙◌, ap, subst, append-nil}
use mathlib.Core.Bool.{false≢true}
use Rattle.std.proofs.lemmas.Bool.{eqb-true, eq-eqb, and_parts}
use Rattle.std.proofs.lemmas.List.Sums.{fold_push}
use Rattle.std.specs.Prelude.{MatchBool}
use Rattle.std.specs.List.{cons_option}
use Rattle.oz_dellog.specs.declared.txn.Txn.{Txn}
use Rattle.oz_fields.specs.declared.block.Block.{Block}
use Rattle.oz_script.specs.declared.lines.script.Script.{Script}
use Rattle.oz_core.specs.declared.event.Event.{Event}
use Rattle.oz_core.specs.declared.event.EventKind.{EventKind}
use Rattle.oz_core.specs.declared.event.EventKind.TheVariants.{Halt, Grant, Closed, Log, Put, Copy}
use Rattle.oz_core.specs.declared.event.Node.{Node}
use Rattle.oz_core.specs.declared.event.Node.TheVariants.{Manager, Scm, Datanode}
use Rattle.oz_core.specs.declared.opening.Opening.{Opening}
use Rattle.oz_core.specs.Contents.{OpeningBytes}
use Rattle.oz_core.specs.Fits.{EventFits, FitsFrom}
use Rattle.oz_core.specs.Law.{IsLegalFrom, IsEnabled, KindIsEnabled, puts_or_copies}
use Rattle.oz_core.specs.Manager.{halt_of, halt_count, is_node}
use Rattle.oz_core.specs.Nodes.{is_block, is_running, stopped_or_started}
use Rattle.oz_core.specs.Scm.{Containers, containers_after, id_after, logged}
use Rattle.oz_core.specs.Stories.{all_told, last_told, has_event, newer}
use Rattle.oz_kept.specs.Held.{Having, ArePut, HavingAfter, HavingFrom}
use Rattle.oz_kept.specs.laws.Places.{moved_over, legal_first, legal_rest}

-- ---- a story that goes on by one event

pub legal_on : (opening : Opening) (start story : List Event) (event : Event) → IsLegalFrom opening start story
    → IsEnabled opening (start ++ story) event → IsLegalFrom opening start (story ++ event ∷ [])
unfolding IsLegalFrom
legal_on opening start [] event legal enabled = (subst (λ (l : List Event). IsEnabled opening l event) (append-nil start) enabled, tt)
legal_on opening start (first ∷ story) event legal enabled = (
  legal.0,
  legal_on opening (start ++ first ∷ []) story event legal.1
      (subst (λ (l : List Event). IsEnabled opening l event) (sym (moved_over start story first)) enabled),
)

pub fits_on : (opening : Opening) (bytes : OpeningBytes) (script : Script) (start story : List Event) (event : Event)
    → FitsFrom opening bytes script start story → EventFits opening bytes script (start ++ story) event.kind
    → FitsFrom opening bytes script start (story ++ event ∷ [])
unfolding FitsFrom
fits_on opening bytes script start [] event fits here = (subst (λ (l : List Event). EventFits opening bytes script l event.kind) (append-nil start) here, tt)
fits_on opening bytes script start (first ∷ story) event fits here = (
  fits.0,
  fits_on opening bytes script (start ++ first ∷ []) story event fits.1
      (subst (λ (l : List Event). EventFits opening bytes script l event.kind) (sym (moved_over start story first)) here),
)

-- ---- a node that halted stays so

unfoldable pub IsHalted : Node → List Event → Type 0
IsHalted node story = (count : ℕ) × (halt_of node story ≡ Some count)

halt_next : (node : Node) (before : List Event) (event : Event) → halt_of node (before ++ event ∷ []) ≡ newer (halt_count node event.kind) (halt_of node before)
halt_next node before event = fold_push (λ told (event : Event). newer (halt_count node event.kind) told) None before event

itself : (node : Node) → is_node node node ≡ true
itself Manager = refl
itself Scm = refl
itself (Datanode number) = eq-eqb number number refl

pub halted_by : (node : Node) (before : List Event) (seat count : ℕ) → IsHalted node (before ++ record { seat = seat; kind = Halt node count } ∷ [])
unfolding IsHalted
halted_by node before seat count = (
  count,
  halt_next node before (record { seat = seat; kind = Halt node count })
      ∙ ap (λ (t : Bool). newer (cond t (Some (Some count)) None) (halt_of node before)) (itself node),
)

kind_still : (node : Node) (kind : EventKind) (o : Option ℕ) → ((count : ℕ) × (o ≡ Some count)) → (count : ℕ) × (newer (halt_count node kind) o ≡ Some count)
kind_still node (Halt other count) o halted = by (is_node node other)
  where
    by : (t : Bool) → (last : ℕ) × (newer (cond t (Some (Some count)) None) o ≡ Some last)
    by true = (count, refl)
    by false = halted
kind_still node kind o halted = halted

pub halted_still : (node : Node) (before : List Event) (event : Event) → IsHalted node before → IsHalted node (before ++ event ∷ [])
unfolding IsHalted
halted_still node before event halted =
    let next = kind_still node event.kind (halt_of node before) halted in
    (next.0, halt_next node before event ∙ next.1)

pub last_count : (node : Node) (story : List Event) → IsHalted node story → (count : ℕ) × (halt_of node story ≡ Some count)
unfolding IsHalted
last_count node story halted = halted

pub unhalted_not : (node : Node) (story : List Event) → IsHalted node story → halt_of node story ≡ None → ⊥
unfolding IsHalted
unhalted_not node story halted none = let both : Some halted.0 ≡ None = sym halted.1 ∙ none in absurd cc

pub running_not : (dn : ℕ) (story : List Event) → IsHalted (Datanode dn) story → is_running dn story ≡ true → ⊥
unfolding IsHalted
running_not dn story halted runs =
    false≢true (sym (ap (λ (o : Option ℕ). is_none o && last_told (stopped_or_started dn) true story) halted.1) ∙ runs)

-- ---- the storage container manager

-- these events change nothing of its disk
pub record ScmRests (story : List Event) : Type 0 where
  pub ids : (next : ℕ) → last_told id_after next story ≡ next
  pub containers : (all : Containers) → fold (λ before (event : Event). containers_after before event.kind) all story ≡ all
  pub logs : all_told logged story ≡ []

record KindRests (kind : EventKind) : Type 0 where
  ids : (next : ℕ) → newer (id_after kind) next ≡ next
  containers : (all : Containers) → containers_after all kind ≡ all
  logs : logged kind ≡ None

kind_rests : (opening : Opening) (before : List Event) (seat : ℕ) (kind : EventKind) → KindIsEnabled opening before seat kind → IsHalted Scm before
    → KindRests kind
kind_rests opening before seat (Grant stripe container pipeline first count) enabled halted = absurd (unhalted_not Scm before halted enabled.unhalted)
kind_rests opening before seat (Closed container state) enabled halted = absurd (unhalted_not Scm before halted enabled.unhalted)
kind_rests opening before seat (Log number container locals) enabled halted = absurd (unhalted_not Scm before halted enabled.unhalted)
kind_rests opening before seat kind enabled halted = record { ids = λ next. refl; containers = λ all. refl; logs = refl }

pub scm_rests : (opening : Opening) (story before : List Event) → IsLegalFrom opening before story → IsHalted Scm before → ScmRests story
scm_rests opening [] before legal halted = record { ids = λ next. refl; containers = λ all. refl; logs = refl }
scm_rests opening (event ∷ story) before legal halted =
    let here = kind_rests opening before event.seat event.kind (legal_first opening before event story legal) halted in
    let later = scm_rests opening story (before ++ event ∷ []) (legal_rest opening before event story legal) (halted_still Scm before event halted) in
    record {
      ids = λ next. later.ids (newer (id_after event.kind) next) ∙ here.ids next;
      containers = λ all. later.containers (containers_after all event.kind) ∙ here.containers all;
      logs = ap (λ (o : Option Txn). cons_option o (all_told logged story)) here.logs ∙ later.logs;
    }

-- ---- a datanode

module _ (opening : Opening) (dn : ℕ) (block : Block) where
  gets_nothing : (before : List Event) (seat : ℕ) (kind : EventKind) → KindIsEnabled opening before seat kind → IsHalted (Datanode dn) before
      → puts_or_copies dn block kind ≡ false
  gets_nothing before seat (Put other put id first count) enabled halted = by (other == dn && is_block block put) refl
    where
      by : (t : Bool) → (other == dn && is_block block put) ≡ t → t ≡ false
      by true e =
          let same = eqb-true other dn (and_parts (other == dn) (is_block block put) e).0 in
          absurd (running_not dn before halted (subst (λ (n : ℕ). is_running n before ≡ true) same enabled.runs))
      by false e = refl
  gets_nothing before seat (Copy source target copied) enabled halted = by (target == dn && is_block block copied) refl
    where
      by : (t : Bool) → (target == dn && is_block block copied) ≡ t → t ≡ false
      by true e =
          let same = eqb-true target dn (and_parts (target == dn) (is_block block copied) e).0 in
          absurd (running_not dn before halted (subst (λ (n : ℕ). is_running n before ≡ true) same enabled.runs))
      by false e = refl
  gets_nothing before seat kind enabled halted = refl

  pub node_rests : (story before : List Event) → IsLegalFrom opening before story → IsHalted (Datanode dn) before
      → has_event (puts_or_copies dn block) story ≡ false
  node_rests [] before legal halted = refl
  node_rests (event ∷ story) before legal halted =
      ap (λ (t : Bool). t || has_event (puts_or_copies dn block) story)
      (gets_nothing before event.seat event.kind (legal_first opening before event story legal) halted)
      ∙ node_rests story (before ++ event ∷ []) (legal_rest opening before event story legal) (halted_still (Datanode dn) before event halted)

-- its bytes are those that it had, behind events that give it none
module _ (script : Script) (block : Block) (dn : ℕ) (content : List ℕ) where
  had_before : (kind : EventKind) (having : Having) → puts_or_copies dn block kind ≡ false → HavingAfter script block kind having dn content → having dn content
  had_before (Put other put id first count) having none has = subst
      (λ (t : Bool). MatchBool t (ArePut script id first count content) (having dn content)) none has
  had_before (Copy source target copied) having none has = subst (λ (t : Bool). MatchBool t (having source content) (having dn content)) none has
  had_before kind having none has = has

  pub had_still : (story : List Event) (having : Having) → has_event (puts_or_copies dn block) story ≡ false
      → HavingFrom script block having story dn content → having dn content
  unfolding HavingFrom
  had_still [] having none has = has
  had_still (event ∷ story) having none has = by (puts_or_copies dn block event.kind) refl none (had_still story (HavingAfter script block event.kind having))
    where
      by : (t : Bool) → puts_or_copies dn block event.kind ≡ t → (t || has_event (puts_or_copies dn block) story) ≡ false
          → (has_event (puts_or_copies dn block) story ≡ false → HavingFrom script block (HavingAfter script block event.kind having) story dn content
          → HavingAfter script block event.kind having dn content) → having dn content
      by true e whole later = absurd (false≢true (sym whole))
      by false e whole later = had_before event.kind having e (later whole has)

  -- what is had behind two parts is what the second makes of the first
  pub had_in_parts : (one other : List Event) (having : Having) → HavingFrom script block having (one ++ other) dn content
      → HavingFrom script block (HavingFrom script block having one) other dn content
  unfolding HavingFrom
  had_in_parts [] other having has = has
  had_in_parts (event ∷ one) other having has = had_in_parts one other (HavingAfter script block event.kind having) has

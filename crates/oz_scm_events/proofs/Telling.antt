-- By the law some kinds of event are of the storage container manager's seat alone, and some of a datanode's, so their own
-- events tell all of them.
use Rattle.std.specs.Prelude.{true, false, Bool, ◌==◌, ◌&&◌, map, is_none}
use Rattle.std.specs.List.{range_with_len}
use Rattle.std.proofs.Common.{◌≡◌, ℕ, List, [], ◌++◌, Option, None, Some, length, refl, sym, ap, ◌∙◌, cond}
use Rattle.std.proofs.lemmas.Bool.{false≢true, eqb-true}
use Rattle.oz_buffer.specs.Buffer.{AllFollow, Follows, IsOfItsSeat}
use Rattle.oz_buffer.specs.laws.Following.{follow-all}
use Rattle.oz_core.specs.declared.event.Event.{Event}
use Rattle.oz_core.specs.declared.event.EventKind.{EventKind}
use Rattle.oz_core.specs.declared.event.EventKind.TheVariants.{Halt, Grant, Up, Down, Closed, Stop, Start, Log, AckDel, Retire}
use Rattle.oz_core.specs.declared.event.Node.{Node}
use Rattle.oz_core.specs.declared.event.Node.TheVariants.{Manager, Scm, Datanode}
use Rattle.oz_core.specs.declared.opening.Opening.{Opening}
use Rattle.oz_core.specs.Contents.{OpeningBytes}
use Rattle.oz_core.specs.Law.{KindIsEnabled}
use Rattle.oz_core.specs.Manager.{halt_count, halt_of, is_node}
use Rattle.oz_core.specs.Nodes.{is_running, stopped_or_started}
use Rattle.oz_core.specs.Scm.{Containers, acknowledged_at_opening, acknowledger, containers, containers_after, id_after, logged, logged_number, next_id, is_up, retires, up_or_down, ups}
use Rattle.oz_core.specs.declared.opening.Unretired.{Unretired}
use Rattle.oz_core.specs.Seats.{datanode_seat, scm_seat, IsNodeSeat}
use Rattle.oz_core.specs.Stories.{last_told, newer}
use Rattle.oz_script.specs.declared.lines.script.Script.{Script}
use Rattle.oz_scm_events.proofs.Log.{SaySame}
use Rattle.oz_scm_events.proofs.Own.{AreIts, IsIts, had_by_own, made_by_own, own, told_by_own}

-- ---- the storage container manager

abbrev of_scm : EventKind → Bool
of_scm (Grant stripe container pipeline first count) = true
of_scm (Closed container state) = true
of_scm (Up dn) = true
of_scm (Down dn) = true
of_scm (Halt Scm count) = true
of_scm (Log number container locals) = true
of_scm (AckDel dn number) = true
of_scm (Retire number) = true
of_scm _ = false

abbrev pub scm_gives_it : Event → Type 0
scm_gives_it event = IsIts scm_seat of_scm event

scm_gives : (opening : Opening) (story : List Event) (seat : ℕ) (kind : EventKind) → KindIsEnabled opening story seat kind → of_scm kind ≡ true → seat ≡ scm_seat
scm_gives opening story seat (Grant stripe container pipeline first count) may is = may.of_scm
scm_gives opening story seat (Closed container state) may is = may.of_scm
scm_gives opening story seat (Up dn) may is = may.of_scm
scm_gives opening story seat (Down dn) may is = may.of_scm
scm_gives opening story seat (Halt Scm count) may is = may.of_node
scm_gives opening story seat (Log number container locals) may is = may.of_scm
scm_gives opening story seat (AckDel dn number) may is = may.of_scm
scm_gives opening story seat (Retire number) may is = may.of_scm
scm_gives opening story seat (Halt Manager count) may is = absurd (false≢true is)
scm_gives opening story seat (Halt (Datanode dn) count) may is = absurd (false≢true is)
scm_gives opening story seat kind may is = absurd (false≢true is)

no_id : (next : ℕ) (kind : EventKind) → of_scm kind ≡ false → newer (id_after kind) next ≡ next
no_id next (Grant stripe container pipeline first count) not = absurd (false≢true (sym not))
no_id next kind not = refl

no_container : (made : Containers) (kind : EventKind) → of_scm kind ≡ false → containers_after made kind ≡ made
no_container made (Grant stripe container pipeline first count) not = absurd (false≢true (sym not))
no_container made (Closed container state) not = absurd (false≢true (sym not))
no_container made kind not = refl

not_up : (dn : ℕ) (up : Bool) (kind : EventKind) → of_scm kind ≡ false → newer (up_or_down dn kind) up ≡ up
not_up dn up (Up other) not = absurd (false≢true (sym not))
not_up dn up (Down other) not = absurd (false≢true (sym not))
not_up dn up kind not = refl

no_number : (last : ℕ) (kind : EventKind) → of_scm kind ≡ false → newer (logged_number kind) last ≡ last
no_number last (Log number container locals) not = absurd (false≢true (sym not))
no_number last kind not = refl

no_txn : (kind : EventKind) → of_scm kind ≡ false → logged kind ≡ None
no_txn (Log number container locals) not = absurd (false≢true (sym not))
no_txn kind not = refl

no_ack_of : (number : ℕ) (kind : EventKind) → of_scm kind ≡ false → acknowledger number kind ≡ None
no_ack_of number (AckDel dn other) not = absurd (false≢true (sym not))
no_ack_of number kind not = refl

no_end_of : (number : ℕ) (kind : EventKind) → of_scm kind ≡ false → retires number kind ≡ false
no_end_of number (Retire other) not = absurd (false≢true (sym not))
no_end_of number kind not = refl

-- ---- its halts, which are of its seat whatever the disks had

abbrev halts_it : EventKind → Bool
halts_it (Halt Scm count) = true
halts_it _ = false

halts_of_seat : (opening : Opening) (seat : ℕ) (kind : EventKind) → IsOfItsSeat opening seat kind → halts_it kind ≡ true → seat ≡ scm_seat
halts_of_seat opening seat (Halt Scm count) of_seat is = of_seat
halts_of_seat opening seat (Halt Manager count) of_seat is = absurd (false≢true is)
halts_of_seat opening seat (Halt (Datanode dn) count) of_seat is = absurd (false≢true is)
halts_of_seat opening seat kind of_seat is = absurd (false≢true is)

no_halt_of_it : (halt : Option ℕ) (kind : EventKind) → halts_it kind ≡ false → newer (halt_count Scm kind) halt ≡ halt
no_halt_of_it halt (Halt Scm count) not = absurd (false≢true (sym not))
no_halt_of_it halt (Halt Manager count) not = refl
no_halt_of_it halt (Halt (Datanode dn) count) not = refl
no_halt_of_it halt kind not = refl

module _ (Coherent : Type 0) (opening : Opening) (bytes : OpeningBytes) (script : Script) (story : List Event) (all : AllFollow (Follows Coherent opening bytes script) [] story) where
  halts_all : AreIts scm_seat halts_it story
  halts_all =
      follow-all (Follows Coherent opening bytes script) (IsIts scm_seat halts_it) [] story (λ front event may. halts_of_seat opening event.seat event.kind may.of_seat) all

  pub halt_own : halt_of Scm story ≡ halt_of Scm (own scm_seat halts_it story)
  halt_own = made_by_own scm_seat halts_it (λ halt kind. newer (halt_count Scm kind) halt) no_halt_of_it None story halts_all

-- ---- a datanode

abbrev of_datanode : ℕ → EventKind → Bool
of_datanode dn (Stop other) = other == dn
of_datanode dn (Start other) = other == dn
of_datanode dn (Halt node count) = is_node (Datanode dn) node
of_datanode dn _ = false

its_halt : (opening : Opening) (dn seat : ℕ) (node : Node) → IsNodeSeat opening node seat → is_node (Datanode dn) node ≡ true → seat ≡ datanode_seat dn
its_halt opening dn seat Manager of is = absurd (false≢true is)
its_halt opening dn seat Scm of is = absurd (false≢true is)
its_halt opening dn seat (Datanode other) of is = of.its ∙ ap datanode_seat (sym (eqb-true dn other is))

datanode_gives : (dn : ℕ) (opening : Opening) (story : List Event) (seat : ℕ) (kind : EventKind) → KindIsEnabled opening story seat kind → of_datanode dn kind ≡ true → seat ≡ datanode_seat dn
datanode_gives dn opening story seat (Stop other) may is = may.of_datanode.its ∙ ap datanode_seat (eqb-true other dn is)
datanode_gives dn opening story seat (Start other) may is = may.of_datanode.its ∙ ap datanode_seat (eqb-true other dn is)
datanode_gives dn opening story seat (Halt node count) may is = its_halt opening dn seat node may.of_node is
datanode_gives dn opening story seat kind may is = absurd (false≢true is)

no_stop : (dn : ℕ) (runs : Bool) (kind : EventKind) → of_datanode dn kind ≡ false → newer (stopped_or_started dn kind) runs ≡ runs
no_stop dn runs (Stop other) not = ap (λ t. newer (cond t (Some false) None) runs) not
no_stop dn runs (Start other) not = ap (λ t. newer (cond t (Some true) None) runs) not
no_stop dn runs kind not = refl

no_fault : (dn : ℕ) (halt : Option ℕ) (kind : EventKind) → of_datanode dn kind ≡ false → newer (halt_count (Datanode dn) kind) halt ≡ halt
no_fault dn halt (Halt node count) not = ap (λ t. newer (cond t (Some (Some count)) None) halt) not
no_fault dn halt kind not = refl

-- ---- a story

module _ (Coherent : Type 0) (opening : Opening) (bytes : OpeningBytes) (script : Script) (coherent : Coherent) (story : List Event) (all : AllFollow (Follows Coherent opening bytes script) [] story) where
  its_all : (seat : ℕ) (is_its : EventKind → Bool) → ((front : List Event) (of : ℕ) (kind : EventKind) → KindIsEnabled opening front of kind → is_its kind ≡ true → of ≡ seat) → AreIts seat is_its story
  its_all seat is_its gives =
      follow-all (Follows Coherent opening bytes script) (IsIts seat is_its) [] story (λ front event may. gives front event.seat event.kind (may.enabled coherent)) all

  pub scm_all : AreIts scm_seat of_scm story
  scm_all = its_all scm_seat of_scm (scm_gives opening)

  pub next_own : next_id opening story ≡ next_id opening (own scm_seat of_scm story)
  next_own = made_by_own scm_seat of_scm (λ next kind. newer (id_after kind) next) no_id opening.next_id story scm_all

  pub containers_own : containers opening story ≡ containers opening (own scm_seat of_scm story)
  containers_own = made_by_own scm_seat of_scm containers_after no_container opening.containers story scm_all

  pub up_own : (dn : ℕ) → is_up dn story ≡ is_up dn (own scm_seat of_scm story)
  up_own dn = made_by_own scm_seat of_scm (λ up kind. newer (up_or_down dn kind) up) (not_up dn) true story scm_all

  pub ups_own : ups opening story ≡ ups opening (own scm_seat of_scm story)
  ups_own i = map (λ dn. up_own dn i) (range_with_len 0 (length opening.nodes))

  pub log_own : SaySame opening (own scm_seat of_scm story) story
  log_own = record {
    last = made_by_own scm_seat of_scm (λ last kind. newer (logged_number kind) last) no_number opening.last_txn story scm_all;
    logs_are = ap (λ l. map (λ (unretired : Unretired). unretired.txn) opening.unretired ++ l) (told_by_own scm_seat of_scm logged no_txn story scm_all);
    acknowledgers_are = λ number.
        ap (λ l. acknowledged_at_opening opening number ++ l) (told_by_own scm_seat of_scm (acknowledger number) (no_ack_of number) story scm_all);
    retired_is = λ number. had_by_own scm_seat of_scm (retires number) (no_end_of number) story scm_all;
  }

  pub running_own : (dn : ℕ) → is_running dn story ≡ is_running dn (own (datanode_seat dn) (of_datanode dn) story)
  running_own dn =
      let its = its_all (datanode_seat dn) (of_datanode dn) (datanode_gives dn opening) in
      let halts = made_by_own (datanode_seat dn) (of_datanode dn) (λ halt kind. newer (halt_count (Datanode dn) kind) halt) (no_fault dn) None story its in
      let stops = made_by_own (datanode_seat dn) (of_datanode dn) (λ runs kind. newer (stopped_or_started dn kind) runs) (no_stop dn) true story its in
      ap (λ halt. is_none halt && last_told (stopped_or_started dn) true story) halts
      ∙ ap (λ runs. is_none (halt_of (Datanode dn) (own (datanode_seat dn) (of_datanode dn) story)) && runs) stops

-- How who sends the log of deleted blocks goes on, and what its faults say.
use Rattle.std.specs.Prelude.{Result, Ok, Err, IfErr, is_some}
use Rattle.std.proofs.Common.{◌≡◌, ◌⊎◌, ⊎_elim, ℕ, Bool, List, [], ◌++◌, Option, Some, Contains, refl, sym, ◌∙◌, ap, subst, append-nil, append_assoc}
use Rattle.std.proofs.lemmas.List.Elements.{All-contains, All-weaker, Contains-append_left}
use Rattle.oz_core.specs.declared.event.Event.{Event}
use Rattle.oz_core.specs.declared.event.EventKind.TheVariants.{Retire}
use Rattle.oz_core.specs.declared.event.Node.TheVariants.{Scm}
use Rattle.oz_core.specs.declared.opening.Opening.{Opening}
use Rattle.oz_core.specs.Manager.{halt_of}
use Rattle.oz_core.specs.Scm.{logged, logs, members}
use Rattle.oz_core.specs.Seats.{scm_seat}
use Rattle.oz_core.specs.Stories.{all_told}
use Rattle.oz_dellog.specs.declared.txn.Txn.{Txn}
use Rattle.oz_dellog.specs.Log.{is_done}
use Rattle.oz_kept.specs.reopened.laws.Rising.{member_stays}
use Rattle.oz_node_admin.specs.Seats.{OnlyLooked}
use Rattle.oz_node_events.specs.Deleting.{MayApply}
use Rattle.oz_owned.specs.laws.Numbered.{logs_append}
use Rattle.oz_scm.specs.grants.Made.{log_of, may_ack}
use Rattle.oz_scm_events.specs.declared.acking.AckFault.{AckFault}
use Rattle.oz_scm_events.specs.declared.acking.AckFault.TheVariants as acks
use Rattle.oz_scm_events.specs.Noted.{IsNoteRefusal, own_noted}
use Rattle.oz_turn.specs.declared.seat.Seat.{Seat}
use Rattle.oz_turn.specs.declared.told.Told.{Ghosts as Tells}
use Rattle.oz_turn.specs.Ring.{TurnId}
use Rattle.oz_turn.specs.Seat.{IsReady, number_of, seen_of}
use Rattle.oz_turn.specs.Told.{BeginsWith, own_entries}
use Rattle.oz_service.specs.declared.deleting.due.Due.{Due}
use Rattle.oz_service.specs.declared.deleting.noted.Noted.{Noted}
use Rattle.oz_service.specs.declared.pass.fault.PassFault.{PassFault}
use Rattle.oz_service.specs.Deleting.{WasNoted}
use Rattle.oz_service.specs.Sending.{IsSendFault, MayBeSent, WasSince, as_sent}

-- ---- a seat that only looks

module _ {T E : Type 0} {told : Tells T E} where
  pub looks_still : (turn : TurnId) (seat : Seat T E told) → IsReady turn (number_of seat) seat → OnlyLooked turn seat seat
  looks_still turn seat ready = record { ready = ready; begins = ([], sym (append-nil (seen_of seat))); mine = refl; room = refl }

  pub looks_then : (turn : TurnId) (first second third : Seat T E told) → OnlyLooked turn first second → OnlyLooked turn second third → OnlyLooked turn first third
  looks_then turn first second third one two = record {
    ready = subst (λ (n : ℕ). IsReady turn n third) one.ready.numbered two.ready;
    begins = (
      one.begins.0 ++ two.begins.0,
      two.begins.1 ∙ (ap (λ (l : List E). l ++ two.begins.0) one.begins.1 ∙ append_assoc (seen_of first) one.begins.0 two.begins.0),
    );
    mine = two.mine ∙ one.mine;
    room = two.room ∙ one.room;
  }

-- ---- what may be sent may be sent later

logged_later : (opening : Opening) (story more : List Event) (txn : Txn) → Contains (logs opening story) txn → Contains (logs opening (story ++ more)) txn
logged_later opening story more txn there =
    subst (λ (l : List Txn). Contains l txn) (sym (logs_append opening story more)) (Contains-append_left (logs opening story) (all_told logged more) txn there)

pub may_later : (opening : Opening) (story later : List Event) (due : Due) → BeginsWith later story → MayBeSent opening story due → MayBeSent opening later due
may_later opening story later due begins may = subst (λ (l : List Event). MayBeSent opening l due) (sym begins.1) (record {
  logged = logged_later opening story begins.0 due.txn may.logged;
  members = All-weaker (Contains (members opening story due.txn.container)) (Contains (members opening (story ++ begins.0) due.txn.container))
      (λ dn among. member_stays opening story begins.0 due.txn.container dn among) due.receivers may.members;
})

pub may_apply : (opening : Opening) (story : List Event) (due : Due) (dn : ℕ) → MayBeSent opening story due → Contains due.receivers dn → MayApply opening story dn due.txn
may_apply opening story due dn may among = record {
  logged = may.logged;
  member = All-contains (Contains (members opening story due.txn.container)) due.receivers dn may.members among;
}

-- ---- what a fault says

pub fault_is : (story own : List Event) (due : Bool) (answer : Result (Unit {0}) AckFault) → halt_of Scm story ≡ halt_of Scm own
    → IfErr answer (IsNoteRefusal own due) → IfErr (as_sent answer) (IsSendFault story)
fault_is story own due (Ok done) same refused = tt
fault_is story own due (Err (acks.Stopped count)) same refused = same ∙ refused
fault_is story own due (Err acks.NotDue) same refused = tt
fault_is story own due (Err acks.OutOfMemory) same refused = tt

given_fault : {A : Type 0} (answer : Result A PassFault) (fault : PassFault) (P : PassFault → Type 0) → answer ≡ Err fault → IfErr answer P → P fault
given_fault answer fault P is holds = subst (λ (r : Result _ PassFault). IfErr r P) is holds

-- who has halted has given nothing more
halted_gives : (kind : _) (mine later : List Event) (answer : Result (Unit {0}) AckFault) (count : ℕ)
    → later ≡ own_noted (is_some (halt_of Scm mine)) kind mine answer → halt_of Scm mine ≡ Some count → later ≡ mine
halted_gives kind mine later answer count given halted = given ∙ ap (λ (o : Option ℕ). own_noted (is_some o) kind mine answer) halted

acknowledged_fault : (story between behind : List Event) (kind : _) (due : Bool) (first second : Result (Unit {0}) AckFault)
    → halt_of Scm story ≡ halt_of Scm behind → behind ≡ own_noted (is_some (halt_of Scm between)) kind between second
    → IfErr first (IsNoteRefusal between due) → IfErr (as_sent first) (IsSendFault story)
acknowledged_fault story between behind kind due (Ok done) second same given refused = tt
acknowledged_fault story between behind kind due (Err (acks.Stopped count)) second same given refused =
    same ∙ (ap (halt_of Scm) (halted_gives kind between behind second count given refused) ∙ refused)
acknowledged_fault story between behind kind due (Err acks.NotDue) second same given refused = tt
acknowledged_fault story between behind kind due (Err acks.OutOfMemory) second same given refused = tt

pub noted_fault_is : (opening : Opening) (dn number : ℕ) (seen story : List Event) (noted : Noted) (fault : PassFault)
    → halt_of Scm story ≡ halt_of Scm (own_entries (λ (event : Event). event.seat) scm_seat story)
    → WasNoted opening dn number seen story noted
    → (as_sent noted.acknowledged ≡ Err fault) ⊎ (as_sent noted.retired ≡ Err fault) → IsSendFault story fault
noted_fault_is opening dn number seen story noted fault own was either =
    let same : halt_of Scm story ≡ halt_of Scm was.behind = own ∙ ap (halt_of Scm) was.own in
    ⊎_elim
    (λ is. given_fault (as_sent noted.acknowledged) fault (IsSendFault story) is
    (acknowledged_fault story was.between was.behind (Retire number) (may_ack was.acknowledged.made number dn) noted.acknowledged noted.retired same
    was.retired.given was.acknowledged.refused))
    (λ is. given_fault (as_sent noted.retired) fault (IsSendFault story) is
    (fault_is story was.behind (is_done (log_of was.retired.made) number) noted.retired same was.retired.refused))
    either

pub if_err : {A E : Type 0} (P Q : E → Type 0) (result : Result A E) → ((e : E) → P e → Q e) → IfErr result P → IfErr result Q
if_err P Q (Ok value) from holds = tt
if_err P Q (Err error) from holds = from error holds

-- a place since is one since each story before
pub was_since : (Holds : List Event → Type 0) (before place after : List Event) → BeginsWith place before → BeginsWith after place → Holds place
    → WasSince Holds before after
was_since Holds before place after since within so = record { place = place; since = since; within = within; so = so }

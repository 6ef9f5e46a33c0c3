-- An entry of the log of deleted blocks that is noted, and what is told of it.
use Rattle.std.specs.Prelude.{◌≢◌, ◌&&◌, ◌||◌, Bool, true, false, not, if◌then◌else◌, All, Contains, IfNone, IfSome, OnOk, nat_le, replicate}
use Rattle.std.proofs.Common.{◌≡◌, inl, inr, ⊎_elim, ℕ, ◌+◌, ◌<◌, ◌≤◌, List, [], ◌∷◌, ◌++◌, length, Option, None, Some, Result, Ok, Err, IfErr, refl, sym, ap, ◌∙◌, subst, arith}
use Rattle.std.proofs.lemmas.Bool.{false≢true, and_parts, eqb-true, leb-true}
use Rattle.std.proofs.lemmas.List.{length-replicate}
use Rattle.std.proofs.lemmas.List.Elements.{All-weaker, Contains-append_left}
use Rattle.std.proofs.lemmas.List.Folds.{list_any-append}
use Rattle.std.specs.FinMap.{get}
use Rattle.std.specs.Option.{option_map_or}
use Rattle.oz_buffer.specs.Buffer.{AllFollow, Follows, IsNote, IsOfItsSeat}
use Rattle.oz_core.specs.declared.event.Event.{Event}
use Rattle.oz_core.specs.declared.event.EventKind.{EventKind}
use Rattle.oz_core.specs.declared.event.EventKind.TheVariants as events
use Rattle.oz_core.specs.declared.event.Node.TheVariants.{Scm}
use Rattle.oz_core.specs.declared.opening.Opening.{Opening}
use Rattle.oz_core.specs.Contents.{OpeningBytes}
use Rattle.oz_core.specs.Fits.{EventFits}
use Rattle.oz_core.specs.Law.{IsPurged, KindIsEnabled, applies}
use Rattle.oz_core.specs.Manager.{halt_count, halt_of}
use Rattle.oz_core.specs.Scm.{acknowledgers, containers, up_or_down}
use Rattle.oz_core.specs.Seats.{scm_seat}
use Rattle.oz_core.specs.Stories.{has_event}
use Rattle.oz_dellog.specs.declared.logged.Logged.{Logged}
use Rattle.oz_dellog.specs.declared.txn.TheConstants.{MOST_LOCALS}
use Rattle.oz_dellog.specs.declared.txn.Txn.{Txn}
use Rattle.oz_dellog.specs.Log.{is_done, with_txn}
use Rattle.oz_dellog.specs.Logged.{acknowledgement_count, is_acknowledged_by, nobody}
use Rattle.oz_fields.specs.declared.block.Block.{Block}
use Rattle.oz_scm.specs.declared.grants.entry.Entry.{Entry}
use Rattle.oz_scm.specs.declared.grants.entry.Entry.TheVariants.{Acked, Logged as Logs, Retired}
use Rattle.oz_scm.specs.grants.Made.{Made, after_ack, after_entry, after_log, after_retirement, container_at, is_local_count, is_made, is_member, is_next_txn, is_owed_by, log_of, may_ack, may_log, MayLog}
use Rattle.oz_scm.specs.declared.fault.ScmStop.{ScmStop}
use Rattle.oz_scm.specs.Logging as scm_logs
use Rattle.oz_scm.specs.Logging.{noted}
use Rattle.oz_scm.specs.Noting.{Notes, StandsOrNoted}
use Rattle.oz_scm.specs.Scm.{State, StandsFor}
use Rattle.oz_script.specs.declared.lines.script.Script.{Script}
use Rattle.oz_scm_events.specs.declared.acking.AckFault.{AckFault}
use Rattle.oz_scm_events.specs.declared.acking.AckFault.TheVariants.{Stopped, NotDue, OutOfMemory}
use Rattle.oz_scm_events.specs.Granted.{by_scm, with_told}
use Rattle.oz_scm_events.specs.Kept.{AreContainers, IsKept, IsLogOf, IsUnretired}
use Rattle.oz_scm_events.specs.Left.{IsMadeOf, LoadsAsOrOneMore, ScmHalted}
use Rattle.oz_scm_events.specs.Logged.{log_event}
use Rattle.oz_scm_events.specs.Noted.{IsNoteRefusal, noted_as, told_of_note}
use Rattle.oz_scm_events.proofs.Enabled.{Last, halt_enabled, least_count, made_is, still_made, unhalted}
use Rattle.oz_scm_events.proofs.Kept.{containers_more, kept_halted, kept_made, kept_more, known, quiet_next}
use Rattle.oz_scm_events.proofs.Left.{halts_now}
use Rattle.oz_scm_events.proofs.Log.{log_acked, log_logged, log_retired, three_acknowledged}
use Rattle.oz_turn.specs.Told.{own_entries, BeginsWith}
use Rattle.oz_world.specs.Disk.{Seen}
use Rattle.oz_world.specs.Faults.{Rose}

-- ---- what the log says

pub record Owes (made : Made) (number dn : ℕ) : Type 0 where
  pub logged : Logged
  pub there : get made.unretired number ≡ Some logged
  pub unflagged : is_acknowledged_by logged dn ≡ false

is_not : (t : Bool) → not t ≡ true → t ≡ false
is_not true wrong = absurd (false≢true wrong)
is_not false right = refl

owes : (made : Made) (number dn : ℕ) → may_ack made number dn ≡ true → Owes made number dn
owes made number dn may = of (get made.unretired number) refl may
  where
    of : (o : Option Logged) → get made.unretired number ≡ o → option_map_or (is_owed_by made dn) o false ≡ true → Owes made number dn
    of None is may = absurd (false≢true may)
    of (Some logged) is may = record {
      logged = logged;
      there = is;
      unflagged = is_not (is_acknowledged_by logged dn) (and_parts (is_member made.nodes (container_at made.containers logged.container) dn) (not (is_acknowledged_by logged dn)) may).1;
    }

pub record Done (made : Made) (number : ℕ) : Type 0 where
  pub logged : Logged
  pub there : get made.unretired number ≡ Some logged
  pub done : nat_le 3 (acknowledgement_count logged) ≡ true

pub done_of : (made : Made) (number : ℕ) → is_done (log_of made) number ≡ true → Done made number
done_of made number may = of (get made.unretired number) refl may
  where
    of : (o : Option Logged) → get made.unretired number ≡ o → option_map_or (λ logged. nat_le 3 (acknowledgement_count logged)) o false ≡ true → Done made number
    of None is may = absurd (false≢true may)
    of (Some logged) is may = record { logged = logged; there = is; done = may }

few_numbers : (dn : ℕ) → dn < 256 → dn < length nobody
unfolding nobody
few_numbers dn few = subst (λ n. dn < n) (sym (length-replicate 256 false)) few

applied_later : (dn number : ℕ) (seen more : List Event) → has_event (applies dn number) seen ≡ true → has_event (applies dn number) (seen ++ more) ≡ true
applied_later dn number seen more applied =
    list_any-append (λ (event : Event). applies dn number event.kind) seen more ∙ ap (λ t. t || has_event (applies dn number) more) applied

all_three : (a b c : Bool) → (a && b && c) ≡ true → (a ≡ true) × ((b ≡ true) × (c ≡ true))
all_three true true true is = (refl, (refl, refl))
all_three true true false is = absurd (false≢true is)
all_three true false c is = absurd (false≢true is)
all_three false b c is = absurd (false≢true is)

pub may_log_of : (made : Made) (txn : Txn) → may_log made txn ≡ true → MayLog made txn
may_log_of made txn may =
    let parts = all_three (is_next_txn made.last_txn txn.number) (is_made made.containers txn.container) (is_local_count (length txn.locals)) may in
    record { number_is = parts.0; container_is = parts.1.0; count_is = parts.1.1 }

purged_later : (seen story : List Event) (block : Block) → BeginsWith story seen → IsPurged seen block → IsPurged story block
purged_later seen story block begins it =
    let asked : Event = record { seat = it.seat; kind = events.PurgeAsk it.blocks } in
    record {
      seat = it.seat;
      blocks = it.blocks;
      there = subst (λ (l : List Event). Contains l asked) (sym begins.1) (Contains-append_left seen begins.0 asked it.there);
      among = it.among;
    }

-- ---- an entry that may be noted

pub record MayNote (Coherent : Type 0) (opening : Opening) (bytes : OpeningBytes) (script : Script) (made : Made) (mine seen_beside : List Event) (kind : EventKind) (entry : Entry) : Type 0 where
  pub enabled : Coherent → (story : List Event) → BeginsWith story seen_beside → AllFollow (Follows Coherent opening bytes script) [] story → known story ≡ mine → KindIsEnabled opening story scm_seat kind
  pub makes : (story : List Event) → IsMadeOf opening story made → (later : Made) → after_entry entry (Some made) ≡ Some later → IsMadeOf opening (story ++ by_scm kind ∷ []) later
  pub no_halt : halt_count Scm kind ≡ None
  pub no_up : (dn : ℕ) → up_or_down dn kind ≡ None
  pub of_seat : IsOfItsSeat opening scm_seat kind
  pub fits : (story : List Event) → EventFits opening bytes script story kind

same_made : (one other : Made) → Some one ≡ Some other → one ≡ other
same_made one other is = cc is

module _ {D : Type 0} {loaded : ℕ} (Coherent : Type 0) (opening : Opening) (bytes : OpeningBytes) (script : Script) (old : State D) (faults : ℕ) (seen mine : List Event) (kept : IsKept opening loaded old faults seen mine) (running : old.stopped ≡ false) (seen_beside : List Event) where
  pub may_ack_it : (number dn : ℕ) → dn < 256 → may_ack old.made number dn ≡ true → (Coherent → has_event (applies dn number) seen_beside ≡ true)
      → MayNote Coherent opening bytes script old.made mine seen_beside (events.AckDel dn number) (Acked number dn)
  may_ack_it number dn few may applied =
      let owed = owes old.made number dn may in
      record {
        enabled = λ coherent story begins all own.
            let is = (made_is Coherent opening bytes script old faults seen mine kept coherent story all own running).log in
            record {
              of_scm = refl;
              unhalted = unhalted Coherent opening bytes script old faults seen mine kept coherent story all own running;
              applied = subst (λ (l : List Event). has_event (applies dn number) l ≡ true) (sym begins.1) (applied_later dn number seen_beside begins.0 (applied coherent));
              new = λ among. false≢true (sym owed.unflagged ∙ ((is.each number owed.logged owed.there).acknowledged dn).1 among);
            };
        makes = λ story made later is.
            subst (IsMadeOf opening (story ++ by_scm (events.AckDel dn number) ∷ [])) (same_made (after_ack number dn old.made) later is) (record {
              nodes = made.nodes;
              next = made.next ∙ sym (quiet_next opening story (events.AckDel dn number) refl);
              containers = subst (AreContainers old.made.containers) (sym (containers_more opening story (events.AckDel dn number))) made.containers;
              log = log_acked opening story (log_of old.made) made.log number dn owed.logged owed.there (few_numbers dn few);
            });
        no_halt = refl;
        no_up = λ dn. refl;
        of_seat = tt;
        fits = λ story. tt;
      }

  pub may_retire_it : (number : ℕ) → is_done (log_of old.made) number ≡ true
      → MayNote Coherent opening bytes script old.made mine seen_beside (events.Retire number) (Retired number)
  may_retire_it number may =
      let done = done_of old.made number may in
      record {
        enabled = λ coherent story begins all own.
            let is = (made_is Coherent opening bytes script old faults seen mine kept coherent story all own running).log.each number done.logged done.there in
            record {
              of_scm = refl;
              unhalted = unhalted Coherent opening bytes script old faults seen mine kept coherent story all own running;
              acknowledged = three_acknowledged opening story number done.logged is done.done;
              new = is.unretired;
            };
        makes = λ story made later is.
            subst (IsMadeOf opening (story ++ by_scm (events.Retire number) ∷ [])) (same_made (after_retirement number old.made) later is) (record {
              nodes = made.nodes;
              next = made.next ∙ sym (quiet_next opening story (events.Retire number) refl);
              containers = subst (AreContainers old.made.containers) (sym (containers_more opening story (events.Retire number))) made.containers;
              log = log_retired opening story (log_of old.made) made.log number done.logged done.there;
            });
        no_halt = refl;
        no_up = λ dn. refl;
        of_seat = tt;
        fits = λ story. tt;
      }

  pub may_log_it : (txn : Txn) → may_log old.made txn ≡ true → (Coherent → All (λ local. IsPurged seen_beside (record { container = txn.container; local = local })) txn.locals)
      → MayNote Coherent opening bytes script old.made mine seen_beside (log_event txn) (Logs txn)
  may_log_it txn may purged =
      let parts = all_three (is_next_txn old.made.last_txn txn.number) (is_made old.made.containers txn.container) (is_local_count (length txn.locals)) may in
      let number_is : txn.number ≡ old.made.last_txn + 1 = eqb-true txn.number (old.made.last_txn + 1) parts.0 in
      let count = and_parts (nat_le 1 (length txn.locals)) (nat_le (length txn.locals) MOST_LOCALS) parts.1.1 in
      record {
        enabled = λ coherent story begins all own.
            let is = (made_is Coherent opening bytes script old faults seen mine kept coherent story all own running).log in
            record {
              of_scm = refl;
              unhalted = unhalted Coherent opening bytes script old faults seen mine kept coherent story all own running;
              next = number_is ∙ ap (λ n. n + 1) is.last;
              some = leb-true 1 (length txn.locals) count.0;
              few = leb-true (length txn.locals) MOST_LOCALS count.1;
              purged = All-weaker (λ local. IsPurged seen_beside (record { container = txn.container; local = local })) (λ local. IsPurged story (record { container = txn.container; local = local }))
                  (λ local it. purged_later seen_beside story (record { container = txn.container; local = local }) begins it) txn.locals (purged coherent);
            };
        makes = λ story made later is.
            subst (IsMadeOf opening (story ++ by_scm (log_event txn) ∷ [])) (same_made (after_log txn old.made) later is) (record {
              nodes = made.nodes;
              next = made.next ∙ sym (quiet_next opening story (log_event txn) refl);
              containers = subst (AreContainers old.made.containers) (sym (containers_more opening story (log_event txn))) made.containers;
              log = subst (λ n. IsLogOf opening (story ++ by_scm (events.Log n txn.container txn.locals) ∷ []) (with_txn (log_of old.made) txn.container txn.locals)) (sym number_is)
                  (log_logged opening story (log_of old.made) made.log txn.container txn.locals);
            });
        no_halt = refl;
        no_up = λ dn. refl;
        of_seat = tt;
        fits = λ story. tt;
      }

  -- it is in the story that three acknowledged
  pub acknowledged_by_three : (number : ℕ) → is_done (log_of old.made) number ≡ true → 3 ≤ length (acknowledgers opening mine number)
  acknowledged_by_three number may =
      let done = done_of old.made number may in
      three_acknowledged opening mine number done.logged ((kept.log running).each number done.logged done.there) done.done

  -- ---- what is told

  module _ (kind : EventKind) (entry : Entry) (may : MayNote Coherent opening bytes script old.made mine seen_beside kind entry) (new : State D) (before after : Seen) where
    follows : (beside : ℕ) (mine_beside : List Event) (answer : Result (Unit {0}) ℕ) → Notes entry old new before after answer
        → IfSome (told_of_note kind (noted_as answer)) (λ kind. (story : List Event) → BeginsWith story seen_beside → AllFollow (Follows Coherent opening bytes script) [] story
        → own_entries (λ (event : Event). event.seat) beside story ≡ mine_beside → known story ≡ mine → Follows Coherent opening bytes script story (by_scm kind))
    follows beside mine_beside (Ok done) notes = λ story begins all its own. record {
      of_seat = may.of_seat;
      enabled = λ coherent. may.enabled coherent story begins all own;
      fits = λ coherent. may.fits story;
    }
    follows beside mine_beside (Err count) notes = λ story begins all its own. record {
      of_seat = refl;
      enabled = λ coherent. halt_enabled Coherent opening bytes script old faults seen mine kept coherent story all own count running
          (let one = least_count before.faults after.faults (notes.cause running notes.stops) in omega (arith, one, notes.count));
      fits = λ coherent. tt;
    }

    pub note_follows : (beside : ℕ) (mine_beside : List Event) (answer : Result (Unit {0}) ℕ) (result : Result (Unit {0}) AckFault) (told : Option EventKind)
        → told ≡ told_of_note kind result → result ≡ noted_as answer → Notes entry old new before after answer
        → IfSome told (λ kind. (story : List Event) → BeginsWith story seen_beside → AllFollow (Follows Coherent opening bytes script) [] story
        → own_entries (λ (event : Event). event.seat) beside story ≡ mine_beside → known story ≡ mine → Follows Coherent opening bytes script story (by_scm kind))
    note_follows beside mine_beside answer result told is answered notes =
        subst (λ (o : Option EventKind). IfSome o (λ kind. (story : List Event) → BeginsWith story seen_beside → AllFollow (Follows Coherent opening bytes script) [] story
        → own_entries (λ (event : Event). event.seat) beside story ≡ mine_beside → known story ≡ mine → Follows Coherent opening bytes script story (by_scm kind)))
        (sym (is ∙ ap (told_of_note kind) answered)) (follows beside mine_beside answer notes)

    -- ---- what a stop leaves

    halts : Coherent → (beside : ℕ) (mine_beside seen_after : List Event) (answer : Result (Unit {0}) ℕ) → Notes entry old new before after answer
        → IfSome (told_of_note kind (noted_as answer)) (Last Coherent opening bytes script old faults seen mine kept beside seen_beside mine_beside seen_after)
        → new.stopped ≡ true → ScmHalted after opening seen_after
    halts coherent beside mine_beside seen_after (Ok done) notes told stopped = absurd (false≢true (sym notes.stops ∙ stopped))
    halts coherent beside mine_beside seen_after (Err count) notes told stopped =
        subst (ScmHalted after opening) (sym told.last)
        (halts_now opening told.story count before after (StandsOrNoted old.made entry) notes.telling notes.time (notes.stands running)
        (λ left. ⊎_elim
        (λ stands. still_made Coherent opening bytes script old faults seen mine kept coherent running told.story told.follow told.own left stands)
        (λ it.
        let made = made_is Coherent opening bytes script old faults seen mine kept coherent told.story told.follow told.own running in
        inr (
          kind,
          may.enabled coherent told.story told.begins told.follow told.own,
          (it.0, may.makes told.story made it.0 it.1, subst (λ (n : ℕ). StandsFor n left it.0) kept.nodes it.2),
        ))))

    pub halted_noted : (beside : ℕ) (mine_beside seen_after : List Event) (answer : Result (Unit {0}) ℕ) (result : Result (Unit {0}) AckFault) (told : Option EventKind)
        → told ≡ told_of_note kind result → result ≡ noted_as answer → Notes entry old new before after answer
        → IfSome told (Last Coherent opening bytes script old faults seen mine kept beside seen_beside mine_beside seen_after) → Coherent → new.stopped ≡ true → ScmHalted after opening seen_after
    halted_noted beside mine_beside seen_after answer result told is answered notes last coherent stopped =
        halts coherent beside mine_beside seen_after answer notes
        (subst (λ (o : Option EventKind). IfSome o (Last Coherent opening bytes script old faults seen mine kept beside seen_beside mine_beside seen_after)) (is ∙ ap (told_of_note kind) answered) last) stopped

    -- ---- what is kept

    kept_note : (seen_after : List Event) (answer : Result (Unit {0}) ℕ) → Notes entry old new before after answer → before.faults ≡ faults → known seen_after ≡ with_told (told_of_note kind (noted_as answer)) mine
        → IsKept opening loaded new after.faults seen_after (with_told (told_of_note kind (noted_as answer)) mine)
    kept_note seen_after (Ok done) notes same own =
        kept_more opening old new faults after.faults seen mine seen_after kept running kind (may.makes mine (kept_made kept running) new.made notes.made) may.no_halt may.no_up notes.ups notes.stops
        (subst (λ (n : ℕ). n ≤ after.faults) same notes.never_falls) own
    kept_note seen_after (Err count) notes same own =
        kept_halted opening old new faults after.faults seen mine seen_after kept running count notes.count notes.same notes.ups notes.stops
        (subst (λ (n : ℕ). Rose n after.faults) same (notes.cause running notes.stops)) (subst (λ (n : ℕ). n ≤ after.faults) same notes.never_falls) own

    pub kept_noted : (seen_after mine_after : List Event) (answer : Result (Unit {0}) ℕ) (result : Result (Unit {0}) AckFault) → result ≡ noted_as answer → Notes entry old new before after answer → before.faults ≡ faults
        → mine_after ≡ with_told (told_of_note kind result) mine → known seen_after ≡ mine_after → IsKept opening loaded new after.faults seen_after mine_after
    kept_noted seen_after mine_after answer result is notes same told own =
        let given = told ∙ ap (λ r. with_told (told_of_note kind r) mine) is in
        subst (λ (l : List Event). IsKept opening loaded new after.faults seen_after l) (sym given) (kept_note seen_after answer notes same (own ∙ given))

-- ---- refusals

module _ {D : Type 0} {loaded : ℕ} (opening : Opening) (old new : State D) (entry : Entry) (before after : Seen) (seen mine : List Event) (kept : IsKept opening loaded new after.faults seen mine) (due : Bool) where
  says : (answer : Result (Unit {0}) ℕ) → Notes entry old new before after answer → IfErr (noted_as answer) (IsNoteRefusal mine due)
  says (Ok done) notes = tt
  says (Err count) notes = kept.halt ∙ ap (λ t. if t then Some after.faults else None) notes.stops ∙ ap (λ n. Some n) (sym notes.count)

  pub says_noted : (answer : Result (Unit {0}) ℕ) (result : Result (Unit {0}) AckFault) → result ≡ noted_as answer → Notes entry old new before after answer → IfErr result (IsNoteRefusal mine due)
  says_noted answer result is notes = subst (λ r. IfErr r (IsNoteRefusal mine due)) (sym is) (says answer notes)

-- ---- answers

pub if_ok : {T E : Type 0} (result : Result T E) (P : Type 0) → P → OnOk result P
if_ok (Ok x) P it = it
if_ok (Err fault) P it = tt

abbrev back : Result (Unit {0}) AckFault → Result (Unit {0}) ℕ
back (Ok done) = Ok done
back (Err (Stopped count)) = Err count
back (Err NotDue) = Err 0
back (Err OutOfMemory) = Err 0

back_is : (answer : Result (Unit {0}) ℕ) → back (noted_as answer) ≡ answer
back_is (Ok done) = refl
back_is (Err count) = refl

pub same_note : (one other : Result (Unit {0}) ℕ) (result : Result (Unit {0}) AckFault) → result ≡ noted_as one → result ≡ noted_as other → one ≡ other
same_note one other result is too = sym (back_is one) ∙ ap back (sym is ∙ too) ∙ back_is other

pub note_is_note : (kind : EventKind) (result : Result (Unit {0}) AckFault) → IsNote kind → IfSome (told_of_note kind result) IsNote
note_is_note kind (Ok done) note = note
note_is_note kind (Err (Stopped count)) note = tt
note_is_note kind (Err NotDue) note = tt
note_is_note kind (Err OutOfMemory) note = tt

-- ---- a transaction for which there was memory, and one for which there was none

module _ {D T : Type 0} (txn : Txn) (old new : State D) (before after : Seen) (result : Result T ScmStop) (logs : scm_logs.Logs txn old new before after result) where
  pub noted_at : (answer : Result T ℕ) → Some answer ≡ noted result → Notes (Logs txn) old new before after answer
  noted_at answer is = subst (λ (o : Option (Result T ℕ)). IfSome o (Notes (Logs txn) old new before after)) (sym is) logs.notes

  pub wanted : None ≡ noted result → new ≡ old
  wanted is = (subst (λ (o : Option (Result T ℕ)). IfNone o ((old.stopped ≡ false) × (new ≡ old))) (sym is) logs.wants).1

-- Once all stripes were swept behind a drain's start and no datanode puts behind its Delete, a datanode that holds what was garbage at the
-- start holds a block of a watched transaction that it didn't apply. So, over a settled log, the drain is done where no datanode that is down
-- holds it up, and else the lowest that does keeps it from its end.
use Rattle.std.proofs.Common.{◌≡◌, ⊎_elim, ◌⊎◌, ℕ, ◌-◌, ◌<◌, Bool, true, false, List, [], ◌∷◌, ◌++◌, length, take}
use Rattle.std.proofs.Common.{Option, None, Some, Contains, inl, inr, refl, sym, ◌∙◌, ap, subst, append-nil}
use Rattle.std.proofs.Common.{append_assoc}
use mathlib.Core.Bool.{false≢true}
use Rattle.std.proofs.lemmas.Bool.{eqb-true}
use Rattle.std.proofs.lemmas.List.Elements.{Contains-append_right, Contains-get_or}
use Rattle.std.proofs.Math.ListN.{get_or}
use Rattle.std.specs.List.{slice_get}
use Rattle.oz_dellog.specs.declared.txn.Txn.{Txn}
use Rattle.oz_fields.specs.declared.block.Block.{Block}
use Rattle.oz_rows.specs.RowMaps.{Rows}
use Rattle.oz_command.specs.declared.command.AdminCommand.TheVariants as admin
use Rattle.oz_command.specs.declared.command.Command.TheVariants as commands
use Rattle.oz_script.specs.declared.lines.script.Line.{Line}
use Rattle.oz_core.specs.declared.event.Event.{Event}
use Rattle.oz_core.specs.declared.event.EventKind.{EventKind}
use Rattle.oz_core.specs.declared.event.EventKind.TheVariants.{Put, Retire}
use Rattle.oz_core.specs.declared.event.Node.TheVariants.{Manager, Scm}
use Rattle.oz_core.specs.declared.opening.Opening.{Opening}
use Rattle.oz_core.specs.Contents.{OpeningBytes}
use Rattle.oz_core.specs.Drained.{IsDrained, IsFinished, WasGarbage}
use Rattle.oz_core.specs.Due.{IsHeld, IsHolding}
use Rattle.oz_core.specs.Law.{IsLegal, PutIsEnabled, RetireIsEnabled, applies}
use Rattle.oz_core.specs.Lines.{AfterIsTold, HasStarted, IsStart}
use Rattle.oz_core.specs.Manager.{IsGarbage, halt_of}
use Rattle.oz_core.specs.Nodes.{holds}
use Rattle.oz_core.specs.Scm.{acknowledgers, is_logged, is_retired, is_up, logs, members, names_block, retires}
use Rattle.oz_core.specs.Seats.{datanode_seat}
use Rattle.oz_core.specs.Stories.{has_event}
use Rattle.oz_kept.specs.laws.Deleted.{enabled_at, found_at, front_legal, legal_to}
use Rattle.oz_kept.specs.reopened.laws.Placed.{event_there}
use Rattle.oz_kept.specs.reopened.laws.Rising.{member_on, members_on}
use Rattle.oz_repl.specs.views.Away.{StaysAway}
use Rattle.oz_repl.specs.views.laws.Acknowledged.{all_of_three, applied_at}
use Rattle.oz_repl.specs.views.laws.Logged.{logged_and_held, named_by}
use Rattle.oz_store.specs.Store.{IsStore}
use Rattle.oz_owned.specs.Ordered.{LogIsOrdered}
use Rattle.oz_owned.specs.laws.Gone.{gone}
use Rattle.oz_owned.specs.laws.Numbered.{acked_by_member, acks_differ, acks_grow, logs_grow}
use Rattle.oz_owned.specs.laws.Owned.{own_still, used_is_own}
use Rattle.oz_owned.specs.laws.Staying.{garbage_still, told_still}
use Rattle.oz_owned.specs.laws.Swept.{logged_still}
use Rattle.oz_service.specs.Looks.{AreSweptBehind}
use Rattle.oz_service.specs.Settled.{HoldsUp, IsSettled, IsWatched, StillHolds, UpHoldNone}

-- ---- a line has one start

after_still : (before more : List Event) (after : Option (ℕ × ℕ)) → AfterIsTold before after → AfterIsTold (before ++ more) after
after_still before more None told = tt
after_still before more (Some named) told = told_still named.0 named.1 before more told

started_still : (before more : List Event) (line : Line) → HasStarted before line → HasStarted (before ++ more) line
started_still before more line started = record {
  before_it = λ later. told_still line.client (line.number - 1) before more (started.before_it later);
  after_it = after_still before more line.after started.after_it;
}

-- a list that isn't empty has a last element
last_off : {A : Type 0} (x : A) (l : List A) → (front : List A) × (last : A) × (x ∷ l ≡ front ++ last ∷ [])
last_off x [] = ([], x, refl)
last_off x (y ∷ l) = let rest = last_off y l in (x ∷ rest.0, rest.1, ap (λ l. x ∷ l) rest.2)

-- two fronts of a list: one goes on from the other
one_from_other : {A : Type 0} (a b c d : List A) → a ++ c ≡ b ++ d → ((more : List A) × (b ≡ a ++ more)) ⊎ ((more : List A) × (a ≡ b ++ more))
one_from_other [] b c d same = inl (b, refl)
one_from_other (x ∷ a) [] c d same = inr (x ∷ a, refl)
one_from_other (x ∷ a) (y ∷ b) c d same =
    let heads : x ≡ y = cc in
    let tails : a ++ c ≡ b ++ d = cc in
    ⊎_elim
    (λ (more, is). inl (more, λ i. sym heads i ∷ is i))
    (λ (more, is). inr (more, λ i. heads i ∷ is i))
    (one_from_other a b c d tails)

no_longer : (line : Line) (start more : List Event) → HasStarted start line
    → ((earlier : List Event) (event : Event) → start ++ more ≡ earlier ++ event ∷ [] → HasStarted earlier line → ⊥) → more ≡ []
no_longer line start [] started first = refl
no_longer line start (event ∷ more) started first =
    let off = last_off event more in
    absurd (first (start ++ off.0) off.1 (ap (λ l. start ++ l) off.2 ∙ sym (append_assoc start off.0 (off.1 ∷ []))) (started_still start off.0 line started))

-- what was garbage at the line's start was so at the start that is known
pub garbage_at_start : (opening : Opening) (story start : List Event) (line : Line) (block : Block) → IsStart story line start
    → WasGarbage opening story line block → IsGarbage opening start block
garbage_at_start opening story start line block is was = ⊎_elim
    (λ (more, longer).
    let none = no_longer line start more is.started (λ earlier event same. was.is_start.first earlier event (longer ∙ same)) in
    subst (λ (l : List Event). IsGarbage opening l block) (longer ∙ (ap (λ l. start ++ l) none ∙ append-nil start)) was.garbage)
    (λ (more, longer).
    let none = no_longer line was.start more was.is_start.started (λ earlier event same. is.first earlier event (longer ∙ same)) in
    subst (λ (l : List Event). IsGarbage opening l block) (sym (longer ∙ (ap (λ l. was.start ++ l) none ∙ append-nil was.start))) was.garbage)
    (one_from_other start was.start is.behind was.is_start.behind (sym is.parts ∙ was.is_start.parts))

pub was_garbage : (opening : Opening) (story start : List Event) (line : Line) (block : Block) → IsStart story line start
    → IsGarbage opening start block → WasGarbage opening story line block
was_garbage opening story start line block is garbage = record { start = start; is_start = is; garbage = garbage }

-- ---- a datanode that isn't there puts nothing

stays_away_all : (opening : Opening) (story : List Event) → IsLegal opening story
    → ((dn : ℕ) → dn < length opening.nodes → StaysAway opening dn story) → (dn : ℕ) → StaysAway opening dn story
stays_away_all opening story legal away dn = record {
  none = λ before behind seat number first count locals block id txn parts deleted logged same names put.
      let event : Event = record { seat = datanode_seat dn; kind = Put dn block id first count } in
      let there : Contains story event = subst (λ (l : List Event). Contains l event) (sym parts) (Contains-append_right before behind event put) in
      let enabled : PutIsEnabled opening (take there.0 story) (datanode_seat dn) dn block id first count =
      enabled_at opening story legal there.0 event (found_at story event there) in
      (away dn enabled.of_datanode.there).none before behind seat number first count locals block id txn parts deleted logged same names put;
}

retired_kind : (number : ℕ) (kind : EventKind) → retires number kind ≡ true → kind ≡ Retire number
retired_kind number (Retire txn) e = ap Retire (eqb-true txn number e)
retired_kind number kind e = absurd cc

module _ (opening : Opening) (story : List Event) (legal : IsLegal opening story) (ordered : LogIsOrdered opening) (settled : IsSettled opening story) where
  -- a retired transaction was acknowledged by each member
  retired_acked : (txn : Txn) → Contains (logs opening story) txn → is_retired txn.number story ≡ true → (dn : ℕ)
      → Contains (members opening story txn.container) dn
      → Contains (acknowledgers opening story txn.number) dn
  retired_acked txn there retired dn member =
      let it = event_there (retires txn.number) story retired in
      let kind = retired_kind txn.number it.event.kind it.so in
      let at : slice_get story it.there.0 ≡ Some (record { seat = it.event.seat; kind = Retire txn.number }) =
      found_at story it.event it.there ∙ ap (λ (kind : EventKind). Some (record { seat = it.event.seat; kind = kind })) kind in
      let enabled : RetireIsEnabled opening (take it.there.0 story) it.event.seat txn.number =
      enabled_at opening story legal it.there.0 (record { seat = it.event.seat; kind = Retire txn.number }) at in
      let found = acknowledgers opening (take it.there.0 story) txn.number in
      let on = member_on opening story txn.container dn member in
      let three : length (members opening story txn.container) ≡ 3 = ap length (members_on opening story txn.container on.0 on.1) in
      acks_grow opening story it.there.0 txn.number dn
      (all_of_three found (members opening story txn.container) (acks_differ opening txn.number (take it.there.0 story)
      (front_legal opening story legal it.there.0) ordered) enabled.acknowledged three
      (λ other acked. acked_by_member opening story legal ordered txn there other (acks_grow opening story it.there.0 txn.number other acked)) dn member)

  finished : (txn : Txn) → Contains (logs opening story) txn → IsFinished opening story txn
  finished txn there = by (is_retired txn.number story) refl
    where
      by : (t : Bool) → is_retired txn.number story ≡ t → IsFinished opening story txn
      by true e = record {
        acknowledged = λ k d lt up. retired_acked txn there e (get_or (members opening story txn.container) k d)
            (Contains-get_or (members opening story txn.container) k d lt);
        retired = λ all. e;
      }
      by false e = record {
        acknowledged = settled.acknowledged txn (there, e);
        retired = λ all. absurd (settled.few txn (there, e) all);
      }

-- ---- who holds what was garbage

module _ (opening : Opening) (bytes : OpeningBytes) (loaded : Rows) (story start : List Event) (line : Line) (legal : IsLegal opening story)
    (store : IsStore loaded opening bytes) (ordered : LogIsOrdered opening) (is : IsStart story line start)
    (swept : AreSweptBehind opening loaded start story) (away : (dn : ℕ) → dn < length opening.nodes → StaysAway opening dn story) where
  logged : (block : Block) → WasGarbage opening story line block → is_logged opening story block ≡ true
  logged block was =
      let garbage = garbage_at_start opening story start line block is was in
      let front : IsLegal opening start = legal_to opening [] start is.behind (subst (IsLegal opening) is.parts legal) in
      ⊎_elim
      (λ own.
      let it = swept own.stripe own.there in
      let to : IsLegal opening (start ++ it.between) = legal_to opening [] (start ++ it.between) it.behind (subst (IsLegal opening) it.parts legal) in
      it.logged block (own_still loaded own.stripe start it.between block own.own) (garbage_still opening start it.between block to garbage))
      (λ old. logged_still opening [] story block old)
      (used_is_own opening bytes loaded store start front block garbage.used)

  -- who applied a transaction holds none of its blocks
  still_holds : (dn : ℕ) (block : Block) → WasGarbage opening story line block → holds opening story dn block ≡ true
      → StillHolds opening story dn block
  still_holds dn block was held = ⊎_elim
      (λ (txn, names, unretired). by txn (inl unretired) unretired.0 names)
      (λ old.
      let named = named_by (logs opening []) block old in
      by named.txn (inr named.there) (logs_grow opening story 0 named.txn named.there) named.names)
      (logged_and_held opening bytes story dn block legal store.disks ordered.old (stays_away_all opening story legal away dn) (logged block was) held)
    where
      by : (txn : Txn) → IsWatched opening story txn → Contains (logs opening story) txn → names_block block txn ≡ true
          → StillHolds opening story dn block
      by txn watched there names = test (has_event (applies dn txn.number) story) refl
        where
          test : (t : Bool) → has_event (applies dn txn.number) story ≡ t → StillHolds opening story dn block
          test true e =
              let at = applied_at story dn txn.number e in
              let out = gone opening story legal ordered dn block txn there names at.0 at.1 (stays_away_all opening story legal away dn) in
              absurd (false≢true (sym out ∙ held))
          test false e = record { txn = txn; watched = watched; names = names; unapplied = e; held = held }

  pub holds_it_up : (dn : ℕ) → IsHolding opening story line dn → HoldsUp opening start story dn
  holds_it_up dn it = record {
    down = it.down;
    block = it.block;
    still = still_holds dn it.block it.garbage it.held;
    garbage = garbage_at_start opening story start line it.block is it.garbage;
  }

  pub is_holding : (dn : ℕ) → HoldsUp opening start story dn → IsHolding opening story line dn
  is_holding dn it = record {
    down = it.down;
    block = it.block;
    garbage = was_garbage opening story start line it.block is it.garbage;
    held = it.still.held;
  }

  pub what_is_drained : IsSettled opening story → ((dn : ℕ) → HoldsUp opening start story dn → ⊥) → IsDrained opening story line
  what_is_drained settled none = record {
    gone = λ block dn was held. by block dn was held (is_up dn story) refl;
    finished = λ block txn was there names. finished opening story legal ordered settled txn there;
  }
    where
      by : (block : Block) (dn : ℕ) → WasGarbage opening story line block → holds opening story dn block ≡ true → (t : Bool) → is_up dn story ≡ t → ⊥
      by block dn was held true up = settled.let_go dn block up (still_holds dn block was held)
      by block dn was held false down = none dn (record {
        down = down;
        block = block;
        still = still_holds dn block was held;
        garbage = garbage_at_start opening story start line block is was;
      })

  pub what_is_held : UpHoldNone opening story → line.command ≡ commands.Admin admin.Drain → halt_of Manager story ≡ None → halt_of Scm story ≡ None
      → (dn : ℕ) → HoldsUp opening start story dn → ((lower : ℕ) → lower < dn → HoldsUp opening start story lower → ⊥) → IsHeld opening story line dn
  what_is_held let_go drains manager scm dn it none = record {
    drains = drains;
    manager_unhalted = manager;
    scm_unhalted = scm;
    none_up = λ block other was held up. let_go other block up (still_holds other block was held);
    holding = is_holding dn it;
    lowest = λ lower lt holding. none lower lt (holds_it_up lower holding);
  }

-- what is held up isn't drained
pub not_drained : (opening : Opening) (story start : List Event) (line : Line) (dn : ℕ) → IsStart story line start
    → HoldsUp opening start story dn → IsDrained opening story line → ⊥
not_drained opening story start line dn is it drained =
    drained.gone it.block dn (was_garbage opening story start line it.block is it.garbage) it.still.held

-- What is due of the log of deleted blocks, by what the storage container manager has of it.
use Rattle.std.proofs.Common.{◌≡◌, ◌≢◌, ◌≤◌, ℕ, zero, suc, Bool, true, false, not, ◌&&◌, List, [], ◌∷◌, length, filter}
use Rattle.std.proofs.Common.{Option, None, Some, All, Contains, option_map, refl, sym, ◌∙◌, ap, subst, arith}
use Rattle.std.proofs.lemmas.Bool.{false≢true}
use Rattle.std.proofs.lemmas.List.Elements.{All-contains, All-contains_itself, All-filter}
use Rattle.std.proofs.lemmas.List.Sums.{list_all-from_AllPass}
use Rattle.std.proofs.lemmas.Option.{none-some, same_Some}
use Rattle.std.specs.FinMap.{entries, get}
use Rattle.std.specs.List.{list_all}
use Rattle.std.specs.Option.{option_map_or}
use Rattle.oz_core.specs.declared.event.Event.{Event}
use Rattle.oz_core.specs.declared.opening.Container.{Container}
use Rattle.oz_core.specs.declared.opening.Opening.{Opening}
use Rattle.oz_core.specs.Scm.{Containers, acknowledgers, containers, is_retired, is_up, logs, members}
use Rattle.oz_dellog.specs.declared.logged.Logged.{Logged}
use Rattle.oz_dellog.specs.declared.txn.Txn.{Txn}
use Rattle.oz_dellog.specs.Logged.{is_acknowledged_by, txn_of}
use Rattle.oz_kept.specs.reopened.Left.{IsUnretired}
use Rattle.oz_nodes.specs.Pipelines.{members_of}
use Rattle.oz_scm.specs.grants.Log.{AreCounted, IsLocalCount}
use Rattle.oz_scm.specs.grants.Made.{Made, log_of}
use Rattle.oz_scm_events.specs.Kept.{IsLogOf}
use Rattle.oz_service.specs.declared.deleting.due.Due.{Due}
use Rattle.oz_service.proofs.Entries.{each_given, each_of, entry_is, entry_there, none_given, none_passes}
use Rattle.oz_service.specs.Sending.{MayBeSent, NothingIsDue, due_in, due_where, dues_in, is_whole, receivers}

-- ---- what is due of one

nothing_due : (txn : Txn) (dns : List ℕ) (whole : Bool) → due_where txn dns whole ≡ None → (dns ≡ []) × (whole ≡ false)
nothing_due txn [] false none = (refl, refl)
nothing_due txn [] true none = absurd (none-some _ (sym none))
nothing_due txn (dn ∷ dns) whole none = absurd (none-some _ (sym none))

something_due : (txn : Txn) (dns : List ℕ) (whole : Bool) (due : Due) → due_where txn dns whole ≡ Some due → record { txn = txn; receivers = dns } ≡ due
something_due txn [] false due is = absurd (none-some due is)
something_due txn [] true due is = same_Some (record { txn = txn; receivers = [] }) due is
something_due txn (dn ∷ dns) whole due is = same_Some (record { txn = txn; receivers = dn ∷ dns }) due is

pub none_where : (txn : Txn) (dns : List ℕ) (whole : Bool) → dns ≡ [] → whole ≡ false → due_where txn dns whole ≡ None
none_where txn dns whole none is = (λ i. due_where txn (none i) (is i))

pub some_where : (txn : Txn) (dns : List ℕ) (whole : Bool) → (dns ≡ [] → whole ≡ true) → due_where txn dns whole ≡ Some (record { txn = txn; receivers = dns })
some_where txn [] false is = absurd (false≢true (is refl))
some_where txn [] true is = refl
some_where txn (dn ∷ dns) whole is = refl

pub is_some_number : (number : ℕ) → number ≢ 0 → 1 ≤ number
is_some_number zero some = absurd (some refl)
is_some_number (suc number) some = omega arith

-- by the members of its container
pub due_by : (opening : Opening) (story : List Event) (number : ℕ) (logged : Logged) (dns found : List ℕ) (whole : Bool) (due : Option Due)
    → members opening story logged.container ≡ dns
    → found ≡ filter (λ dn. is_up dn story && not (is_acknowledged_by logged dn)) dns → whole ≡ list_all (is_acknowledged_by logged) dns
    → due_where (txn_of number logged) found whole ≡ due → due ≡ due_in opening story (number, logged)
due_by opening story number logged dns found whole due its are is gives =
    sym gives
    ∙ λ i. due_where (txn_of number logged)
    ((are ∙ ap (filter (λ dn. is_up dn story && not (is_acknowledged_by logged dn))) (sym its)) i)
    ((is ∙ ap (list_all (is_acknowledged_by logged)) (sym its)) i)

pub each_counted : (made : Made) → AreCounted made → All (λ (entry : ℕ × Logged). IsLocalCount entry.1.locals) (entries made.unretired)
each_counted made counted = each_of (λ (entry : ℕ × Logged). IsLocalCount entry.1.locals) (entries made.unretired)
    (λ entry there. counted entry.0 entry.1 (entry_is made.unretired entry.0 entry.1 there))

-- ---- what is due of the log

passes : (up flag : Bool) → up ≡ true → (up && not flag) ≡ false → flag ≡ true
passes true true is none = refl
passes true false is none = absurd (false≢true (sym none))
passes false flag is none = absurd (false≢true is)

of_map : (number : ℕ) (found : Option Logged) (txn : Txn) → option_map (txn_of number) found ≡ Some txn
    → (logged : Logged) × (found ≡ Some logged) × (txn_of number logged ≡ txn)
of_map number None txn is = absurd (none-some txn is)
of_map number (Some logged) txn is = (logged, refl, same_Some (txn_of number logged) txn is)

-- The log is that of the storage container manager's own events, which tell alone what the story tells of these things.
module _ (opening : Opening) (own story : List Event) (made : Made) (log : IsLogOf opening own (log_of made))
    (logs_same : logs opening story ≡ logs opening own)
    (made_same : containers opening story ≡ containers opening own)
    (acks_same : (number : ℕ) → acknowledgers opening story number ≡ acknowledgers opening own number)
    (gone_same : (number : ℕ) → is_retired number story ≡ is_retired number own)
    (ups_same : (dn : ℕ) → is_up dn story ≡ is_up dn own) where
  members_same : (number : ℕ) → members opening story number ≡ members opening own number
  members_same number =
      ap (λ (all : Containers). option_map_or (λ (container : Container). members_of (length opening.nodes) container.pipeline) (get all number) []) made_same

  pub each_may_be_sent : All (MayBeSent opening story) (dues_in opening own made)
  each_may_be_sent = each_given (due_in opening own) (MayBeSent opening story) (entries made.unretired) (λ entry there due is.
      let logged = entry.1 in
      let dns = members opening own logged.container in
      let its = log.each entry.0 logged (entry_is made.unretired entry.0 logged there) in
      let same = something_due (txn_of entry.0 logged) (receivers opening own logged) (is_whole opening own logged) due is in
      subst (MayBeSent opening story) same (record {
        logged = subst (λ (l : List Txn). Contains l (txn_of entry.0 logged)) (sym logs_same) its.there;
        members = subst (λ (l : List ℕ). All (Contains l) (receivers opening own logged)) (sym (members_same logged.container))
            (All-filter (λ dn. is_up dn own && not (is_acknowledged_by logged dn)) (Contains dns) dns (All-contains_itself dns));
      }))

  record Stands (txn : Txn) : Type 0 where
    logged : Logged
    found : get made.unretired txn.number ≡ Some logged
    is : txn_of txn.number logged ≡ txn

  stands : (txn : Txn) → IsUnretired opening story txn → Stands txn
  stands txn unretired =
      let it = of_map txn.number (get made.unretired txn.number) txn
      (log.all txn (subst (λ (l : List Txn). Contains l txn) logs_same unretired.0) (sym (gone_same txn.number) ∙ unretired.1)) in
      record { logged = it.0; found = it.1; is = it.2 }

  module _ (none : dues_in opening own made ≡ []) (txn : Txn) (unretired : IsUnretired opening story txn) where
    abbrev it : Stands txn
    it = stands txn unretired

    abbrev dns : List ℕ
    dns = members opening own it.logged.container

    dns_are : members opening story txn.container ≡ dns
    dns_are = members_same txn.container ∙ ap (λ (t : Txn). members opening own t.container) (sym it.is)

    its_none : (receivers opening own it.logged ≡ []) × (is_whole opening own it.logged ≡ false)
    its_none = nothing_due (txn_of txn.number it.logged) (receivers opening own it.logged) (is_whole opening own it.logged)
        (none_given (due_in opening own) (entries made.unretired) none (txn.number, it.logged) (entry_there made.unretired txn.number it.logged it.found))

    acked : (dn : ℕ) → Contains dns dn → is_up dn story ≡ true → Contains (acknowledgers opening story txn.number) dn
    acked dn among up =
        let flag = passes (is_up dn own) (is_acknowledged_by it.logged dn) (sym (ups_same dn) ∙ up)
        (none_passes (λ other. is_up other own && not (is_acknowledged_by it.logged other)) dns its_none.0 dn among) in
        subst (λ (l : List ℕ). Contains l dn) (sym (acks_same txn.number)) (((log.each txn.number it.logged it.found).acknowledged dn).0 flag)

    up_acked : All (λ dn. is_up dn story ≡ true → Contains (acknowledgers opening story txn.number) dn) (members opening story txn.container)
    up_acked = subst (All (λ dn. is_up dn story ≡ true → Contains (acknowledgers opening story txn.number) dn)) (sym dns_are)
        (each_of (λ dn. is_up dn story ≡ true → Contains (acknowledgers opening story txn.number) dn) dns acked)

    not_by_all : All (Contains (acknowledgers opening story txn.number)) (members opening story txn.container) → ⊥
    not_by_all all =
        let flags = each_of (λ dn. is_acknowledged_by it.logged dn ≡ true) dns (λ dn among.
        ((log.each txn.number it.logged it.found).acknowledged dn).1
        (subst (λ (l : List ℕ). Contains l dn) (acks_same txn.number)
        (All-contains (Contains (acknowledgers opening story txn.number)) dns dn
        (subst (All (Contains (acknowledgers opening story txn.number))) dns_are all) among))) in
        false≢true (sym its_none.1 ∙ list_all-from_AllPass (is_acknowledged_by it.logged) dns flags)

  pub nothing_is_due : dues_in opening own made ≡ [] → NothingIsDue opening story
  nothing_is_due none = record { acknowledged = up_acked none; few = not_by_all none }

-- Transactions are logged one after another, as the seat sees it.
use Rattle.std.proofs.Common.{◌≡◌, ◌+◌, ◌<◌, ◌≤◌, ◌==◌, Bool, true, false, ℕ, List, length, take, get_or, All, Contains, refl, sym, ◌∙◌, subst, arith}
use Rattle.std.proofs.lemmas.List.{take_all}
use Rattle.std.proofs.lemmas.List.Elements.{All-more, All-weaker, Contains-append_left, Contains-push}
use Rattle.std.specs.Prelude.{Result, Ok, Err, OnOk}
use Rattle.oz_core.specs.declared.event.Event.{Event}
use Rattle.oz_core.specs.declared.event.EventKind.TheVariants.{PurgeAsk}
use Rattle.oz_core.specs.Law.{IsPurged}
use Rattle.oz_core.specs.Seats.{scm_seat}
use Rattle.oz_dellog.specs.declared.txn.Txn.{Txn}
use Rattle.oz_fields.specs.declared.block.Block.{Block}
use Rattle.oz_model.specs.laws.Members.{of_filtered}
use Rattle.oz_scm_events.specs.declared.acking.AckFault.{AckFault}
use Rattle.oz_scm_events.specs.declared.acking.AckFault.TheVariants.{Stopped}
use Rattle.oz_scm_events.specs.Logged.{log_event}
use Rattle.oz_scm_events.specs.Noted.{own_noted}
use Rattle.oz_turn.specs.Told.{BeginsWith, own_entries}
use Rattle.oz_service.specs.Purges.{ArePurgedOf, IsInLog}
use Rattle.oz_service.proofs.Going.{begins_then}
use Rattle.oz_service.proofs.Logs.{each_of}

pub begins_through : (first second third : List Event) → BeginsWith second first → BeginsWith third second → BeginsWith third first
begins_through first second third one two = begins_then first second third one two

in_still : (seen story : List Event) → BeginsWith story seen → (txn : Txn) → IsInLog seen txn → IsInLog story txn
in_still seen story begins txn there =
    subst (λ (l : List Event). Contains l (record { seat = scm_seat; kind = log_event txn })) (sym begins.1)
    (Contains-append_left seen begins.0 (record { seat = scm_seat; kind = log_event txn }) there)

pub none_in : (story : List Event) (txns : List Txn) → All (IsInLog story) (take 0 txns)
none_in story txns = each_of (IsInLog story) (take 0 txns) (λ txn there. absurd (omega (arith, there.1)))

-- one more is in
pub in_more : (seen story : List Event) → BeginsWith story seen → (txns : List Txn) (i : ℕ) (txn : Txn) → i < length txns → txn ≡ get_or txns i txn
    → All (IsInLog seen) (take i txns) → IsInLog story txn → All (IsInLog story) (take (i + 1) txns)
in_more seen story begins txns i txn within is was now =
    All-more (IsInLog story) txns i txn within (λ k d less. All-weaker (IsInLog seen) (IsInLog story) (in_still seen story begins) (take i txns) was k d less)
    (subst (IsInLog story) is now)

pub in_all : (story : List Event) (txns : List Txn) (i : ℕ) → length txns ≤ i → All (IsInLog story) (take i txns) → All (IsInLog story) txns
in_all story txns i past all = subst (All (IsInLog story)) (take_all i txns past) all

-- what was asked for stays so
purged_still : (seen story : List Event) → BeginsWith story seen → (block : Block) → IsPurged seen block → IsPurged story block
purged_still seen story begins block it = record {
  seat = it.seat;
  blocks = it.blocks;
  there = subst (λ (l : List Event). Contains l (record { seat = it.seat; kind = PurgeAsk it.blocks })) (sym begins.1)
      (Contains-append_left seen begins.0 (record { seat = it.seat; kind = PurgeAsk it.blocks }) it.there);
  among = it.among;
}

pub asked_still : (seen story : List Event) → BeginsWith story seen → (txn : Txn) → ArePurgedOf seen txn → ArePurgedOf story txn
asked_still seen story begins txn purged k d within =
    All-weaker (λ local. IsPurged seen (record { container = txn.container; local = local })) (λ local. IsPurged story
    (record { container = txn.container; local = local }))
    (λ local it. purged_still seen story begins (record { container = txn.container; local = local }) it) txn.locals purged k d within

-- a transaction that was logged stands in the story
pub told_in : (stopped : Bool) (before after story : List Event) (txn : Txn) (result : Result (Unit {0}) AckFault) (count : ℕ)
    → after ≡ own_noted stopped (log_event txn) before result → (stopped ≡ true → result ≡ Err (Stopped count))
    → own_entries (λ (event : Event). event.seat) scm_seat story ≡ after → OnOk result (IsInLog story txn)
told_in true before after story txn (Ok done) count own halted shown = let never = halted refl in absurd cc
told_in false before after story txn (Ok done) count own halted shown =
    let event : Event = record { seat = scm_seat; kind = log_event txn } in
    (of_filtered (λ (e : Event). e.seat == scm_seat) story event (subst (λ (l : List Event). Contains l event) (sym (shown ∙ own))
    (Contains-push before event))).0
told_in stopped before after story txn (Err fault) count own halted shown = tt

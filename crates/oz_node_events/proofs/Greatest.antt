-- The greatest transaction of a container that a datanode applied, one event further, and where others go on.
use Rattle.std.proofs.Common.{◌≡◌, ℕ, ◌<◌, Bool, true, false, ◌&&◌, ◌||◌, ◌==◌, max, cond, fold, List, [], ◌∷◌, ◌++◌, refl, sym, ap, ◌∙◌, append_assoc, append-nil, arith}
use Rattle.std.proofs.Math.Bool.{or-false}
use Rattle.std.proofs.lemmas.Bool.{ne_eqb}
use Rattle.std.proofs.lemmas.List.Folds.{list_any-append}
use Rattle.std.proofs.lemmas.List.Sums.{fold-append}
use Rattle.std.specs.List.{list_any}
use Rattle.oz_buffer.specs.Buffer.{AllFollow, Follows}
use Rattle.oz_buffer.specs.laws.Following.{follow-push}
use Rattle.oz_core.specs.declared.event.Event.{Event}
use Rattle.oz_core.specs.declared.event.EventKind.{EventKind}
use Rattle.oz_core.specs.declared.event.EventKind.TheVariants.{Log, Delete, Wipe}
use Rattle.oz_core.specs.declared.opening.Opening.{Opening}
use Rattle.oz_core.specs.Contents.{OpeningBytes}
use Rattle.oz_core.specs.Law.{KindIsEnabled}
use Rattle.oz_core.specs.Scm.{last_txn, logs}
use Rattle.oz_core.specs.Seats.{datanode_seat}
use Rattle.oz_dellog.specs.declared.txn.Txn.{Txn}
use Rattle.oz_kept.specs.reopened.Left.{greatest_after, greatest_of, is_txn_of, was_greatest}
use Rattle.oz_script.specs.declared.lines.script.Script.{Script}
use Rattle.oz_node_events.specs.NodeSeat.{NumbersAreOld, events_of}
use Rattle.oz_node_events.proofs.Holding.{DeletesBelow, IsBelow, below, logs_push}
use Rattle.oz_node_events.proofs.Telling.{is_its, its_kept, its_left, not_its}

-- what a list of transactions makes of a story
abbrev greatest_by : List Txn → ℕ → ℕ → ℕ → List Event → ℕ
greatest_by txns dn container start story = fold (λ most (event : Event). greatest_after txns dn container most event.kind) start story

-- ---- one transaction more

module _ (txns : List Txn) (new : Txn) (last : ℕ) (above : last < new.number) (dn container : ℕ) where
  same_after : (kind : EventKind) (most : ℕ) → IsBelow last kind
      → greatest_after (txns ++ new ∷ []) dn container most kind ≡ greatest_after txns dn container most kind
  same_after (Delete other number locals) most below =
      let apart : (new.number == number) ≡ false = ne_eqb new.number number (λ e. absurd (omega (arith, above, below, e))) in
      ap (λ (t : Bool). cond (other == dn && t) (max most number) most)
      (list_any-append (is_txn_of number container) txns (new ∷ [])
      ∙ (ap (λ (t : Bool). list_any (is_txn_of number container) txns || ((t && new.container == container) || false)) apart
      ∙ or-false (list_any (is_txn_of number container) txns)))
  same_after kind most below = refl

  same_story : (story : List Event) (start : ℕ) → DeletesBelow last story
      → greatest_by (txns ++ new ∷ []) dn container start story ≡ greatest_by txns dn container start story
  same_story [] start all = refl
  same_story (event ∷ story) start all =
      ap (λ (n : ℕ). greatest_by (txns ++ new ∷ []) dn container n story) (same_after event.kind start all.0)
      ∙ same_story story (greatest_after txns dn container start event.kind) all.1

-- an event of others changes nothing of it
greatest_away : (opening : Opening) (front : List Event) (txns : List Txn) (dn container most seat : ℕ) (kind : EventKind)
    → KindIsEnabled opening front seat kind → (seat == datanode_seat dn) ≡ false → greatest_after txns dn container most kind ≡ most
greatest_away opening front txns dn container most seat (Delete other number locals) may away =
    ap (λ (t : Bool). cond (t && list_any (is_txn_of number container) txns) (max most number) most) (not_its dn seat other away may.of_datanode.its)
greatest_away opening front txns dn container most seat (Wipe other) may away =
    ap (λ (t : Bool). cond t 0 most) (not_its dn seat other away may.of_datanode.its)
greatest_away opening front txns dn container most seat kind may away = refl

-- ---- one event more

module _ (Coherent : Type 0) (opening : Opening) (bytes : OpeningBytes) (script : Script) (coherent : Coherent) (numbered : NumbersAreOld opening)
    (dn container : ℕ) where
  abbrev Follow : List Event → Event → Type 0
  Follow = Follows Coherent opening bytes script

  one_more : (txns : List Txn) (front : List Event) (event : Event)
      → greatest_by txns dn container (was_greatest opening dn container) (front ++ event ∷ [])
      ≡ greatest_after txns dn container (greatest_by txns dn container (was_greatest opening dn container) front) event.kind
  one_more txns front event =
      fold-append (λ most (e : Event). greatest_after txns dn container most e.kind) (was_greatest opening dn container) front (event ∷ [])

  step_of : (front : List Event) (seat : ℕ) (kind : EventKind) → KindIsEnabled opening front seat kind → DeletesBelow (last_txn opening front) front
      → greatest_of opening (front ++ record { seat = seat; kind = kind } ∷ []) dn container
      ≡ greatest_after (logs opening front) dn container (greatest_of opening front dn container) kind
  step_of front seat (Log number named locals) may all =
      let txn : Txn = record { number = number; container = named; locals = locals } in
      let event : Event = record { seat = seat; kind = Log number named locals } in
      let start = was_greatest opening dn container in
      ap (λ (l : List Txn). greatest_by l dn container start (front ++ event ∷ [])) (logs_push opening front event)
      ∙ (one_more (logs opening front ++ txn ∷ []) front event
      ∙ same_story (logs opening front) txn (last_txn opening front) (omega (arith, may.next)) dn container front start all)
  step_of front seat kind may all =
      let event : Event = record { seat = seat; kind = kind } in
      ap (λ (l : List Txn). greatest_by l dn container (was_greatest opening dn container) (front ++ event ∷ []))
      (logs_push opening front event ∙ append-nil (logs opening front))
      ∙ one_more (logs opening front) front event

  pub greatest_push : (front : List Event) (event : Event) → AllFollow Follow [] front → Follow front event
      → greatest_of opening (front ++ event ∷ []) dn container
      ≡ greatest_after (logs opening front) dn container (greatest_of opening front dn container) event.kind
  greatest_push front event all follows =
      step_of front event.seat event.kind (follows.enabled coherent) (below Coherent opening bytes script coherent numbered front all).1

  pub greatest_more : (more before : List Event) → AllFollow Follow [] before → AllFollow Follow before more → events_of dn more ≡ []
      → greatest_of opening (before ++ more) dn container ≡ greatest_of opening before dn container
  unfolding AllFollow
  greatest_more [] before front all none = ap (λ (l : List Event). greatest_of opening l dn container) (append-nil before)
  greatest_more (event ∷ more) before front all none =
      by (is_its dn event) refl (greatest_more more (before ++ event ∷ []) (follow-push Follow before event front all.0) all.1)
    where
      by : (t : Bool) → is_its dn event ≡ t
          → (events_of dn more ≡ [] → greatest_of opening ((before ++ event ∷ []) ++ more) dn container ≡ greatest_of opening (before ++ event ∷ []) dn container)
          → greatest_of opening (before ++ event ∷ more) dn container ≡ greatest_of opening before dn container
      by true is rest = absurd (cc (sym (its_kept dn event more is) ∙ none))
      by false not rest =
          ap (λ (l : List Event). greatest_of opening l dn container) (sym (append_assoc before (event ∷ []) more))
          ∙ (rest (sym (its_left dn event more not) ∙ none)
          ∙ (greatest_push before event front all.0
          ∙ greatest_away opening before (logs opening before) dn container (greatest_of opening before dn container) event.seat event.kind
          (all.0.enabled coherent) not))

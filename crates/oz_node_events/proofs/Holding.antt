-- What a datanode holds stays so where others go on: no transaction that is logged later has the number of one that it applied.
use Rattle.std.proofs.Common.{◌≡◌, ⊎_elim, ℕ, zero, suc, ◌<◌, ◌≤◌, Bool, true, false, ◌&&◌, ◌||◌, ◌==◌, cond, List, [], ◌∷◌, ◌++◌, Option, None, Some, Contains, refl, sym, ap, ◌∙◌, subst, append_assoc, append-nil, arith}
use Rattle.std.proofs.Math.Bool.{or-false}
use Rattle.std.proofs.lemmas.Bool.{ne_eqb}
use Rattle.std.proofs.lemmas.List.Elements.{Contains-append_cases, filter_map-append}
use Rattle.std.proofs.lemmas.List.Folds.{list_any-append}
use Rattle.std.specs.Prelude.{map}
use Rattle.std.specs.List.{AllByRecursion, cons_option, list_any}
use Rattle.oz_buffer.specs.Buffer.{AllFollow, Follows}
use Rattle.oz_buffer.specs.laws.Following.{follow-each, follow-push, told-push}
use Rattle.oz_core.specs.declared.event.Event.{Event}
use Rattle.oz_core.specs.declared.event.EventKind.{EventKind}
use Rattle.oz_core.specs.declared.event.EventKind.TheVariants.{Log, Delete}
use Rattle.oz_core.specs.declared.opening.Opening.{Opening}
use Rattle.oz_core.specs.declared.opening.Unretired.{Unretired}
use Rattle.oz_core.specs.Contents.{OpeningBytes}
use Rattle.oz_core.specs.Law.{KindIsEnabled}
use Rattle.oz_core.specs.Nodes.{deletes, held_after, holds, was_held}
use Rattle.oz_core.specs.Scm.{last_txn, logged, logged_number, logs}
use Rattle.oz_core.specs.Stories.{all_told, last_told, newer}
use Rattle.oz_dellog.specs.declared.txn.Txn.{Txn}
use Rattle.oz_fields.specs.declared.block.Block.{Block}
use Rattle.oz_script.specs.declared.lines.script.Script.{Script}
use Rattle.oz_node_events.specs.NodeSeat.{NumbersAreOld, events_of}
use Rattle.oz_node_events.proofs.Telling.{is_its, its_kept, its_left, held_away}

-- ---- numbers

abbrev pub LogsBelow : Opening → List Event → Type 0
LogsBelow opening front = (txn : Txn) → Contains (logs opening front) txn → txn.number ≤ last_txn opening front

abbrev pub IsBelow : ℕ → EventKind → Type 0
IsBelow last (Delete dn number locals) = number ≤ last
IsBelow last _ = Unit {0}

abbrev pub DeletesBelow : ℕ → List Event → Type 0
DeletesBelow last front = AllByRecursion (λ (event : Event). IsBelow last event.kind) front

still_below : (last later : ℕ) (kind : EventKind) → last ≤ later → IsBelow last kind → IsBelow later kind
still_below last later (Delete dn number locals) le below = omega (arith, le, below)
still_below last later kind le below = below

all_below : (last later : ℕ) (front : List Event) (event : Event) → last ≤ later → DeletesBelow last front → IsBelow later event.kind
    → DeletesBelow later (front ++ event ∷ [])
all_below last later [] event le all one = (one, tt)
all_below last later (first ∷ front) event le all one =
    (still_below last later first.kind le all.0, all_below last later front event le all.1 one)

txn_push : (opening : Opening) (front : List Event) (event : Event) → last_txn opening (front ++ event ∷ []) ≡ newer (logged_number event.kind) (last_txn opening front)
txn_push opening front event = told-push logged_number opening.last_txn front event

pub logs_push : (opening : Opening) (front : List Event) (event : Event) → logs opening (front ++ event ∷ []) ≡ logs opening front ++ cons_option (logged event.kind) []
logs_push opening front event =
    let had = map (λ (unretired : Unretired). unretired.txn) opening.unretired in
    ap (λ (l : List Txn). had ++ l) (filter_map-append (λ (e : Event). logged e.kind) front (event ∷ []))
    ∙ sym (append_assoc had (all_told logged front) (cons_option (logged event.kind) []))

rises : (opening : Opening) (front : List Event) (seat : ℕ) (kind : EventKind) → KindIsEnabled opening front seat kind
    → last_txn opening front ≤ newer (logged_number kind) (last_txn opening front)
rises opening front seat (Log number container locals) may = omega (arith, may.next)
rises opening front seat kind may = omega arith

pub in_one : (x txn : Txn) → Contains (x ∷ []) txn → x ≡ txn
in_one x txn (zero, lt, is) = is
in_one x txn (suc k, lt, is) = absurd (omega (arith, lt))

newest : (opening : Opening) (front : List Event) (kind : EventKind) (txn : Txn) → Contains (cons_option (logged kind) []) txn
    → txn.number ≤ newer (logged_number kind) (last_txn opening front)
newest opening front (Log number container locals) txn among =
    let same = ap (λ (t : Txn). t.number) (in_one (record { number = number; container = container; locals = locals }) txn among) in
    omega (arith, same)
newest opening front kind txn among = absurd (omega (arith, among.1))

applied : (opening : Opening) (front : List Event) (seat : ℕ) (kind : EventKind) → KindIsEnabled opening front seat kind → LogsBelow opening front
    → IsBelow (newer (logged_number kind) (last_txn opening front)) kind
applied opening front seat (Delete dn number locals) may below =
    let is = below may.txn may.logged in
    let same = may.of_number in
    omega (arith, is, same)
applied opening front seat kind may below = tt

-- ---- one transaction more

module _ (txns : List Txn) (new : Txn) (last : ℕ) (above : last < new.number) (dn : ℕ) (block : Block) where
  same_deletes : (number : ℕ) (locals : List ℕ) → number ≤ last → deletes (txns ++ new ∷ []) number locals block ≡ deletes txns number locals block
  same_deletes number locals below =
      let has = λ (txn : Txn). txn.number == number && txn.container == block.container in
      let apart : (new.number == number) ≡ false = ne_eqb new.number number (λ e. absurd (omega (arith, above, below, e))) in
      ap (λ (t : Bool). t && list_any (λ local. local == block.local) locals)
      (list_any-append has txns (new ∷ [])
      ∙ (ap (λ (t : Bool). list_any has txns || ((t && new.container == block.container) || false)) apart
      ∙ or-false (list_any has txns)))

  same_after : (kind : EventKind) → IsBelow last kind → held_after (txns ++ new ∷ []) dn block kind ≡ held_after txns dn block kind
  same_after (Delete other number locals) below =
      ap (λ (t : Bool). cond (other == dn && t) (Some false) None) (same_deletes number locals below)
  same_after kind below = refl

  same_story : (story : List Event) (was : Bool) → DeletesBelow last story
      → last_told (held_after (txns ++ new ∷ []) dn block) was story ≡ last_told (held_after txns dn block) was story
  same_story [] was all = refl
  same_story (event ∷ story) was all =
      ap (λ (o : Option Bool). last_told (held_after (txns ++ new ∷ []) dn block) (newer o was) story) (same_after event.kind all.0)
      ∙ same_story story (newer (held_after txns dn block event.kind) was) all.1

-- ---- one event more

module _ (Coherent : Type 0) (opening : Opening) (bytes : OpeningBytes) (script : Script) (coherent : Coherent) (numbered : NumbersAreOld opening) where
  abbrev Follow : List Event → Event → Type 0
  Follow = Follows Coherent opening bytes script

  abbrev pub AreBelow : List Event → Type 0
  AreBelow front = LogsBelow opening front × DeletesBelow (last_txn opening front) front

  pub below_step : (front : List Event) (event : Event) → AreBelow front → Follow front event → AreBelow (front ++ event ∷ [])
  below_step front event was follows =
      let may = follows.enabled coherent in
      let later = newer (logged_number event.kind) (last_txn opening front) in
      let le = rises opening front event.seat event.kind may in (
        λ txn among. subst (λ (n : ℕ). txn.number ≤ n) (sym (txn_push opening front event))
            (⊎_elim
            (λ old. let is = was.0 txn old in omega (arith, is, le))
            (λ new. newest opening front event.kind txn new)
            (Contains-append_cases (logs opening front) (cons_option (logged event.kind) []) txn
            (subst (λ (l : List Txn). Contains l txn) (logs_push opening front event) among))),
        subst (λ (n : ℕ). DeletesBelow n (front ++ event ∷ [])) (sym (txn_push opening front event))
            (all_below (last_txn opening front) later front event le was.1 (applied opening front event.seat event.kind may was.0)),
      )

  pub below_none : AreBelow []
  below_none = (
    λ txn among. of_opening opening.unretired txn numbered (subst (λ (l : List Txn). Contains l txn) (append-nil (map (λ (unretired : Unretired). unretired.txn) opening.unretired)) among),
    tt,
  ) where
    of_opening : (all : List Unretired) (txn : Txn) → ((one : Unretired) → Contains all one → one.txn.number ≤ opening.last_txn)
        → Contains (map (λ (unretired : Unretired). unretired.txn) all) txn → txn.number ≤ opening.last_txn
    of_opening [] txn old among = absurd (omega (arith, among.1))
    of_opening (one ∷ all) txn old (zero, lt, is) =
        let le = old one (0, omega arith, refl) in
        let same = ap (λ (t : Txn). t.number) is in
        omega (arith, le, same)
    of_opening (one ∷ all) txn old (suc k, lt, is) =
        of_opening all txn (λ other there. old other (suc there.0, omega (arith, there.1), there.2)) (k, omega (arith, lt), is)

  pub below : (story : List Event) → AllFollow Follow [] story → AreBelow story
  below story all = follow-each Follow AreBelow story below_step below_none all

  module _ (dn : ℕ) (block : Block) where
    step_of : (front : List Event) (seat : ℕ) (kind : EventKind) → KindIsEnabled opening front seat kind → DeletesBelow (last_txn opening front) front
        → holds opening (front ++ record { seat = seat; kind = kind } ∷ []) dn block ≡ newer (held_after (logs opening front) dn block kind) (holds opening front dn block)
    step_of front seat (Log number container locals) may all =
        let txn : Txn = record { number = number; container = container; locals = locals } in
        let event : Event = record { seat = seat; kind = Log number container locals } in
        let was = was_held opening dn block in
        ap (λ (l : List Txn). last_told (held_after l dn block) was (front ++ event ∷ [])) (logs_push opening front event)
        ∙ (told-push (held_after (logs opening front ++ txn ∷ []) dn block) was front event
        ∙ same_story (logs opening front) txn (last_txn opening front) (omega (arith, may.next)) dn block front was all)
    step_of front seat kind may all =
        let event : Event = record { seat = seat; kind = kind } in
        let was = was_held opening dn block in
        ap (λ (l : List Txn). last_told (held_after l dn block) was (front ++ event ∷ [])) (logs_push opening front event ∙ append-nil (logs opening front))
        ∙ told-push (held_after (logs opening front) dn block) was front event

    pub holds_push : (front : List Event) (event : Event) → AllFollow Follow [] front → Follow front event
        → holds opening (front ++ event ∷ []) dn block ≡ newer (held_after (logs opening front) dn block event.kind) (holds opening front dn block)
    holds_push front event all follows = step_of front event.seat event.kind (follows.enabled coherent) (below front all).1

    pub holds_more : (more before : List Event) → AllFollow Follow [] before → AllFollow Follow before more → events_of dn more ≡ []
        → holds opening (before ++ more) dn block ≡ holds opening before dn block
    unfolding AllFollow
    holds_more [] before front all none = ap (λ (l : List Event). holds opening l dn block) (append-nil before)
    holds_more (event ∷ more) before front all none = by (is_its dn event) refl (holds_more more (before ++ event ∷ []) (follow-push Follow before event front all.0) all.1)
      where
        by : (t : Bool) → is_its dn event ≡ t
            → (events_of dn more ≡ [] → holds opening ((before ++ event ∷ []) ++ more) dn block ≡ holds opening (before ++ event ∷ []) dn block)
            → holds opening (before ++ event ∷ more) dn block ≡ holds opening before dn block
        by true is rest = absurd (cc (sym (its_kept dn event more is) ∙ none))
        by false not rest =
            ap (λ (l : List Event). holds opening l dn block) (sym (append_assoc before (event ∷ []) more))
            ∙ (rest (sym (its_left dn event more not) ∙ none)
            ∙ (holds_push before event front all.0
            ∙ ap (λ (o : Option Bool). newer o (holds opening before dn block))
            (held_away opening before (logs opening before) dn block event.seat event.kind (all.0.enabled coherent) not)))

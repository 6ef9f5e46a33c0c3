-- What is told of a datanode is told by its seat, so nothing is where others go on.
use Rattle.std.proofs.Common.{◌≡◌, ℕ, Bool, true, false, ◌&&◌, ◌==◌, cond, List, [], ◌∷◌, ◌++◌, length, Option, None, Some, eq-eqb, refl, sym, ap, ◌∙◌, append_assoc, append-nil, length-append, arith}
use Rattle.std.proofs.lemmas.Bool.{eqb-true, false≢true}
use Rattle.std.proofs.lemmas.List.Elements.{filter-append}
use Rattle.oz_buffer.specs.Buffer.{AllFollow, Follows, IsOfItsSeat}
use Rattle.oz_buffer.specs.laws.Following.{follow-each, told-push, untold-push}
use Rattle.oz_core.specs.declared.event.Event.{Event}
use Rattle.oz_core.specs.declared.event.EventKind.{EventKind}
use Rattle.oz_core.specs.declared.event.EventKind.TheVariants.{Put, Copy, Delete, Wipe, Stop, Start, CloseCommand, Halt}
use Rattle.oz_core.specs.declared.event.Node.TheVariants.{Manager, Scm, Datanode}
use Rattle.oz_core.specs.declared.opening.Opening.{Opening}
use Rattle.oz_core.specs.Contents.{OpeningBytes}
use Rattle.oz_core.specs.Law.{KindIsEnabled}
use Rattle.oz_core.specs.Manager.{halt_count, halt_of}
use Rattle.oz_core.specs.Nodes.{closed_after, deletes, held_after, is_block, is_closed, stopped_or_started, was_closed}
use Rattle.oz_core.specs.Seats.{datanode_seat}
use Rattle.oz_core.specs.Stories.{last_told, newer}
use Rattle.oz_dellog.specs.declared.txn.Txn.{Txn}
use Rattle.oz_fields.specs.declared.block.Block.{Block}
use Rattle.oz_script.specs.declared.lines.script.Script.{Script}
use Rattle.oz_node_events.specs.NodeSeat.{events_of}

abbrev pub is_its : ℕ → Event → Bool
is_its dn event = event.seat == datanode_seat dn

pub its_kept : (dn : ℕ) (event : Event) (story : List Event) → is_its dn event ≡ true → events_of dn (event ∷ story) ≡ event ∷ events_of dn story
its_kept dn event story is = ap (λ q. cond q (event ∷ events_of dn story) (events_of dn story)) is

pub its_left : (dn : ℕ) (event : Event) (story : List Event) → is_its dn event ≡ false → events_of dn (event ∷ story) ≡ events_of dn story
its_left dn event story not = ap (λ q. cond q (event ∷ events_of dn story) (events_of dn story)) not

pub its_parts : (dn : ℕ) (one other : List Event) → events_of dn (one ++ other) ≡ events_of dn one ++ events_of dn other
its_parts dn one other = filter-append (is_its dn) one other

pub no_length : (l : List Event) → length l ≡ 0 → l ≡ []
no_length [] none = refl
no_length (x ∷ l) none = absurd (omega (arith, none))

-- a list that goes on by others' events alone
pub others_go_on : (dn : ℕ) (seen more mine : List Event) → events_of dn seen ≡ mine → events_of dn (seen ++ more) ≡ mine → events_of dn more ≡ []
others_go_on dn seen more mine known still =
    let sum = length-append (events_of dn seen) (events_of dn more) in
    let parts = ap length (sym (its_parts dn seen more) ∙ (still ∙ sym known)) in
    no_length (events_of dn more) (omega (arith, sum, parts))

-- ---- whose event it is

pub not_its : (dn seat other : ℕ) → (seat == datanode_seat dn) ≡ false → seat ≡ datanode_seat other → (other == dn) ≡ false
not_its dn seat other away its = by (other == dn) refl
  where
    by : (t : Bool) → (other == dn) ≡ t → (other == dn) ≡ false
    by true e = absurd (false≢true (sym away ∙ eq-eqb seat (datanode_seat dn) (its ∙ ap datanode_seat (eqb-true other dn e))))
    by false e = e

its_not : (dn seat other : ℕ) → (seat == datanode_seat dn) ≡ false → seat ≡ datanode_seat other → (dn == other) ≡ false
its_not dn seat other away its = by (dn == other) refl
  where
    by : (t : Bool) → (dn == other) ≡ t → (dn == other) ≡ false
    by true e = absurd (false≢true (sym away ∙ eq-eqb seat (datanode_seat dn) (its ∙ ap datanode_seat (sym (eqb-true dn other e)))))
    by false e = e

halt_away : (opening : Opening) (dn seat : ℕ) (kind : EventKind) → IsOfItsSeat opening seat kind → (seat == datanode_seat dn) ≡ false
    → halt_count (Datanode dn) kind ≡ None
halt_away opening dn seat (Halt Manager count) of away = refl
halt_away opening dn seat (Halt Scm count) of away = refl
halt_away opening dn seat (Halt (Datanode other) count) of away =
    ap (λ (t : Bool). cond t (Some (Some count)) None) (its_not dn seat other away of.its)
halt_away opening dn seat kind of away = refl

line_away : (opening : Opening) (front : List Event) (dn seat : ℕ) (kind : EventKind) → KindIsEnabled opening front seat kind
    → (seat == datanode_seat dn) ≡ false → stopped_or_started dn kind ≡ None
line_away opening front dn seat (Stop other) may away = ap (λ (t : Bool). cond t (Some false) None) (not_its dn seat other away may.of_datanode.its)
line_away opening front dn seat (Start other) may away = ap (λ (t : Bool). cond t (Some true) None) (not_its dn seat other away may.of_datanode.its)
line_away opening front dn seat kind may away = refl

closed_away : (opening : Opening) (front : List Event) (dn container seat : ℕ) (kind : EventKind) → KindIsEnabled opening front seat kind
    → (seat == datanode_seat dn) ≡ false → closed_after dn container kind ≡ None
closed_away opening front dn container seat (CloseCommand other number) may away =
    ap (λ (t : Bool). cond (t && number == container) (Some true) None) (not_its dn seat other away may.of_datanode.its)
closed_away opening front dn container seat (Wipe other) may away =
    ap (λ (t : Bool). cond t (Some false) None) (not_its dn seat other away may.of_datanode.its)
closed_away opening front dn container seat kind may away = refl

pub held_away : (opening : Opening) (front : List Event) (txns : List Txn) (dn : ℕ) (block : Block) (seat : ℕ) (kind : EventKind)
    → KindIsEnabled opening front seat kind → (seat == datanode_seat dn) ≡ false → held_after txns dn block kind ≡ None
held_away opening front txns dn block seat (Put other put id first count) may away =
    ap (λ (t : Bool). cond (t && is_block block put) (Some true) None) (not_its dn seat other away may.of_datanode.its)
held_away opening front txns dn block seat (Copy source target copied) may away =
    ap (λ (t : Bool). cond (t && is_block block copied) (Some true) None) (not_its dn seat target away may.of_target.its)
held_away opening front txns dn block seat (Delete other number locals) may away =
    ap (λ (t : Bool). cond (t && deletes txns number locals block) (Some false) None) (not_its dn seat other away may.of_datanode.its)
held_away opening front txns dn block seat (Wipe other) may away =
    ap (λ (t : Bool). cond t (Some false) None) (not_its dn seat other away may.of_datanode.its)
held_away opening front txns dn block seat kind may away = refl

-- ---- what is told by the datanode's seat alone

module _ (Follow : List Event → Event → Type 0) (dn : ℕ) {X : Type 0} (tells : EventKind → Option X) (first : X)
    (away : (front : List Event) (event : Event) → Follow front event → is_its dn event ≡ false → tells event.kind ≡ None) where
  -- its own events tell all of it
  told_step : (front : List Event) (event : Event) → last_told tells first front ≡ last_told tells first (events_of dn front) → Follow front event
      → last_told tells first (front ++ event ∷ []) ≡ last_told tells first (events_of dn (front ++ event ∷ []))
  told_step front event was follows = by (is_its dn event) refl
    where
      by : (t : Bool) → is_its dn event ≡ t → last_told tells first (front ++ event ∷ []) ≡ last_told tells first (events_of dn (front ++ event ∷ []))
      by true is =
          told-push tells first front event
          ∙ (ap (newer (tells event.kind)) was
          ∙ (sym (told-push tells first (events_of dn front) event)
          ∙ ap (last_told tells first) (sym (its_parts dn front (event ∷ []) ∙ ap (λ l. events_of dn front ++ l) (its_kept dn event [] is)))))
      by false not =
          untold-push tells first front event (away front event follows not)
          ∙ (was
          ∙ ap (last_told tells first) (sym (its_parts dn front (event ∷ []) ∙ (ap (λ l. events_of dn front ++ l) (its_left dn event [] not) ∙ append-nil (events_of dn front)))))

  pub told_own : (story : List Event) → AllFollow Follow [] story → last_told tells first story ≡ last_told tells first (events_of dn story)
  told_own story all =
      follow-each Follow (λ front. last_told tells first front ≡ last_told tells first (events_of dn front)) story told_step refl all

  -- and where others go on it stays
  pub told_more : (more before : List Event) → AllFollow Follow before more → events_of dn more ≡ []
      → last_told tells first (before ++ more) ≡ last_told tells first before
  unfolding AllFollow
  told_more [] before all none = ap (last_told tells first) (append-nil before)
  told_more (event ∷ more) before all none = by (is_its dn event) refl (told_more more (before ++ event ∷ []) all.1)
    where
      by : (t : Bool) → is_its dn event ≡ t
          → (events_of dn more ≡ [] → last_told tells first ((before ++ event ∷ []) ++ more) ≡ last_told tells first (before ++ event ∷ []))
          → last_told tells first (before ++ event ∷ more) ≡ last_told tells first before
      by true is rest = absurd (cc (sym (its_kept dn event more is) ∙ none))
      by false not rest =
          ap (last_told tells first) (sym (append_assoc before (event ∷ []) more))
          ∙ (rest (sym (its_left dn event more not) ∙ none)
          ∙ untold-push tells first before event (away before event all.0 not))

module _ (Coherent : Type 0) (opening : Opening) (bytes : OpeningBytes) (script : Script) (dn : ℕ) where
  abbrev Follow : List Event → Event → Type 0
  Follow = Follows Coherent opening bytes script

  pub halt_own : (story : List Event) → AllFollow Follow [] story → halt_of (Datanode dn) story ≡ halt_of (Datanode dn) (events_of dn story)
  halt_own story all =
      told_own Follow dn (halt_count (Datanode dn)) None
      (λ front event may not. halt_away opening dn event.seat event.kind may.of_seat not) story all

  pub line_own : Coherent → (story : List Event) → AllFollow Follow [] story
      → last_told (stopped_or_started dn) true story ≡ last_told (stopped_or_started dn) true (events_of dn story)
  line_own coherent story all =
      told_own Follow dn (stopped_or_started dn) true
      (λ front event may not. line_away opening front dn event.seat event.kind (may.enabled coherent) not) story all

  pub closed_more : Coherent → (container : ℕ) (before more : List Event) → AllFollow Follow before more → events_of dn more ≡ []
      → is_closed opening (before ++ more) dn container ≡ is_closed opening before dn container
  closed_more coherent container before more all none =
      told_more Follow dn (closed_after dn container) (was_closed opening dn container)
      (λ front event may not. closed_away opening front dn container event.seat event.kind (may.enabled coherent) not) more before all none

  pub closed_own : Coherent → (container : ℕ) (story : List Event) → AllFollow Follow [] story
      → is_closed opening story dn container ≡ is_closed opening (events_of dn story) dn container
  closed_own coherent container story all =
      told_own Follow dn (closed_after dn container) (was_closed opening dn container)
      (λ front event may not. closed_away opening front dn container event.seat event.kind (may.enabled coherent) not) story all

-- No event of a story is a Bad, where the seat of no datanode gave one.
use Rattle.std.proofs.Common.{◌≡◌, ℕ, ◌<◌, Bool, true, false, ◌==◌, ◌||◌, cond, List, [], ◌∷◌, length, Option, eq-eqb, refl, sym, ap, ◌∙◌, arith}
use Rattle.std.proofs.lemmas.Bool.{false≢true}
use Rattle.std.specs.List.{AllByRecursion}
use Rattle.oz_buffer.specs.Buffer.{AllFollow, Follows}
use Rattle.oz_buffer.specs.laws.Following.{follow-all}
use Rattle.oz_core.specs.declared.event.Event.{Event}
use Rattle.oz_core.specs.declared.event.EventKind.{EventKind}
use Rattle.oz_core.specs.declared.event.EventKind.TheVariants.{Bad}
use Rattle.oz_core.specs.declared.event.Node.{Node}
use Rattle.oz_core.specs.declared.opening.Opening.{Opening}
use Rattle.oz_core.specs.Contents.{OpeningBytes}
use Rattle.oz_core.specs.Law.{KindIsEnabled}
use Rattle.oz_core.specs.Seats.{IsDatanodeSeat, datanode_seat}
use Rattle.oz_core.specs.Stories.{has_event}
use Rattle.oz_datanode.specs.Datanode.{State as NodeState}
use Rattle.oz_headline.specs.Reads.{NoneIsBad, is_bad}
use Rattle.oz_headline.specs.halts.Nodes.{AreAsTold}
use Rattle.oz_headline.proofs.halts_lemmas.Halts.{there}
use Rattle.oz_script.specs.declared.lines.script.Script.{Script}
use Rattle.oz_nodes_loaded.specs.NodeSeat.{is_bad as seat_bad}
use Rattle.oz_turn.specs.Told.{own_entries}
use Rattle.oz_world.specs.Disk.{Images}

abbrev own : ℕ → List Event → List Event
own seat story = own_entries (λ (event : Event). event.seat) seat story

own_test : (seat : ℕ) (event : Event) (story : List Event) (t : Bool) → (event.seat == seat) ≡ t → own seat (event ∷ story) ≡ cond t (event ∷ own seat story) (own seat story)
own_test seat event story t is = ap (λ (t : Bool). cond t (event ∷ own seat story) (own seat story)) is

-- each Bad is of the seat of a datanode that is there
abbrev BadIsOfItsSeat : Opening → ℕ → EventKind → Type 0
BadIsOfItsSeat opening seat (Bad dn block id) = IsDatanodeSeat opening dn seat
BadIsOfItsSeat opening seat kind = Unit {0}

abbrev AreOfTheirSeats : Opening → List Event → Type 0
AreOfTheirSeats opening story = AllByRecursion (λ (event : Event). BadIsOfItsSeat opening event.seat event.kind) story

of_its_seat : (opening : Opening) (before : List Event) (seat : ℕ) (kind : EventKind) → KindIsEnabled opening before seat kind → BadIsOfItsSeat opening seat kind
of_its_seat opening before seat (Bad dn block id) may = may.of_datanode
of_its_seat opening before seat kind may = tt

second : (x y : Bool) → (x || y) ≡ false → y ≡ false
second true y none = absurd (false≢true (sym none))
second false y none = none

module _ (opening : Opening) where
  -- no seat of a datanode gave a Bad
  abbrev SeatsAreGood : List Event → Type 0
  SeatsAreGood story = (dn : ℕ) → dn < length opening.nodes → has_event seat_bad (own (datanode_seat dn) story) ≡ false

  rest_is_good : (seat : ℕ) (event : Event) (story : List Event) → has_event seat_bad (own seat (event ∷ story)) ≡ false → has_event seat_bad (own seat story) ≡ false
  rest_is_good seat event story none = by (event.seat == seat) refl
    where
      by : (t : Bool) → (event.seat == seat) ≡ t → has_event seat_bad (own seat story) ≡ false
      by true is = second (seat_bad event.kind) (has_event seat_bad (own seat story)) (sym (ap (has_event seat_bad) (own_test seat event story true is)) ∙ none)
      by false is = sym (ap (has_event seat_bad) (own_test seat event story false is)) ∙ none

  first_is_good : (seat : ℕ) (kind : EventKind) (story : List Event) → BadIsOfItsSeat opening seat kind → SeatsAreGood (record { seat = seat; kind = kind } ∷ story) → is_bad kind ≡ false
  first_is_good seat (Bad dn block id) story its good =
      let event : Event = record { seat = seat; kind = Bad dn block id } in
      absurd (false≢true (sym (good dn its.there) ∙ ap (has_event seat_bad) (own_test (datanode_seat dn) event story true (eq-eqb seat (datanode_seat dn) its.its))))
  first_is_good seat kind story its good = refl

  all_are_good : (story : List Event) → AreOfTheirSeats opening story → SeatsAreGood story → NoneIsBad story
  all_are_good [] all good = refl
  all_are_good (event ∷ story) all good =
      ap (λ (t : Bool). t || has_event is_bad story) (first_is_good event.seat event.kind story all.0 good)
      ∙ all_are_good story all.1 (λ dn less. rest_is_good (datanode_seat dn) event story (good dn less))

module _ {D : Type 0} (told : D → Option (List ℕ)) (clock : D → ℕ) (image : D → Images) (faults : D → ℕ) (Coherent : Type 0) (opening : Opening) (bytes : OpeningBytes)
    (script : Script) (loaded : Node → ℕ) (story : List Event) where
  pub none_is_bad : Coherent → AllFollow (Follows Coherent opening bytes script) [] story → (nodes : List (NodeState D))
      → AreAsTold told clock image faults Coherent opening bytes script loaded story nodes → NoneIsBad story
  none_is_bad coherent all nodes are =
      all_are_good opening story
      (follow-all (Follows Coherent opening bytes script) (λ (event : Event). BadIsOfItsSeat opening event.seat event.kind) [] story
      (λ front event follows. of_its_seat opening front event.seat event.kind (follows.enabled coherent)) all)
      (λ dn less. let it = there nodes dn (omega (arith, less, are.count)) in (are.each dn it.0 it.1).kept.no_bad coherent)

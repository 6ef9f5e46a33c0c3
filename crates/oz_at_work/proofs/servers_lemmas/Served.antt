-- One datanode more, with its seat.
use Rattle.std.proofs.Common.{◌≡◌, ◌⊎◌, inl, inr, ⊎_elim, ℕ, zero, suc, List, [], ◌∷◌, ◌++◌, length, slice_get, Some, refl, sym, ap, ◌∙◌, subst, arith, length-append}
use Rattle.std.proofs.lemmas.Option.{slice_get_within}
use Rattle.oz_core.specs.declared.event.Event.{Event}
use Rattle.oz_datanode.specs.Datanode.{State as Datanode}
use Rattle.oz_node_events.specs.NodeSeat.{SeatView}
use Rattle.oz_at_work.specs.servers.Served.{AreServed, IsServed}
use Rattle.oz_turn.specs.declared.seat.Seat.{Seat}
use Rattle.oz_turn.specs.declared.told.Told.{Ghosts}
use Rattle.oz_turn.specs.Ring.{TurnId}

-- what is at a place of a list with one more behind it
last_cases : {A : Type 0} (items : List A) (item : A) (n : ℕ) (x : A) → slice_get (items ++ item ∷ []) n ≡ Some x
    → (slice_get items n ≡ Some x) ⊎ ((n ≡ length items) × (item ≡ x))
last_cases [] item zero x at = inr (refl, inside at)
  where
    inside : Some item ≡ Some x → item ≡ x
    inside e = cc
last_cases [] item (suc n) x at = absurd cc
last_cases (first ∷ items) item zero x at = inl at
last_cases (first ∷ items) item (suc n) x at = ⊎_elim (λ there. inl there) (λ here. let e = here.0 in inr (omega (arith, e), here.1)) (last_cases items item n x at)

module _ {D T : Type 0} {told : Ghosts T Event} (turn : TurnId) (Kept : SeatView → Type 0) (Stands : SeatView → Datanode D → Type 0) where
  pub served_more : (nodes nodes_after : List (Datanode D)) (seats seats_after : List (Seat T Event told)) (node : Datanode D) (s : Seat T Event told)
      → nodes_after ≡ nodes ++ node ∷ [] → seats_after ≡ seats ++ s ∷ [] → AreServed turn Kept Stands nodes seats → IsServed turn Kept Stands (length nodes) node s
      → AreServed turn Kept Stands nodes_after seats_after
  served_more nodes nodes_after seats seats_after node s more_nodes more_seats served is = record {
    count =
        let one = ap (λ (l : List (Datanode D)). length l) more_nodes ∙ length-append nodes (node ∷ []) in
        let two = ap (λ (l : List (Seat T Event told)). length l) more_seats ∙ length-append seats (s ∷ []) in
        omega (arith, one, two, served.count);
    each = λ dn other seat at seat_at.
        let here = last_cases nodes node dn other (subst (λ (l : List (Datanode D)). slice_get l dn ≡ Some other) more_nodes at) in
        let there = last_cases seats s dn seat (subst (λ (l : List (Seat T Event told)). slice_get l dn ≡ Some seat) more_seats seat_at) in
        ⊎_elim
        (λ among. ⊎_elim
        (λ seat_among. served.each dn other seat among seat_among)
        (λ seat_last. absurd (omega (arith, slice_get_within nodes dn other among, seat_last.0, served.count)))
        there)
        (λ last. ⊎_elim
        (λ seat_among. absurd (omega (arith, slice_get_within seats dn seat seat_among, last.0, served.count)))
        (λ seat_last.
        subst (λ (n : ℕ). IsServed turn Kept Stands n other seat) (sym last.0)
        (subst (λ (d : Datanode D). IsServed turn Kept Stands (length nodes) d seat) last.1
        (subst (λ (t : Seat T Event told). IsServed turn Kept Stands (length nodes) node t) seat_last.1 is)))
        there)
        here;
  }

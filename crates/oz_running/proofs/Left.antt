-- What seats leave with.
use Rattle.std.proofs.Common.{◌≡◌, ◌<◌, ◌≤◌, ℕ, ◌+◌, List, [], ◌∷◌, ◌++◌, length, slice_get, Some, refl, sym, ap, ◌∙◌, subst, arith, length-append}
use Rattle.std.proofs.lemmas.Option.{slice_get_within}
use Rattle.oz_core.specs.declared.event.Event.{Event}
use Rattle.oz_core.specs.declared.opening.Opening.{Opening}
use Rattle.oz_core.specs.Seats.{caller_seat, datanode_seat, flusher_seat, scm_seat, service_seat, stripe_seat}
use Rattle.oz_datanode.specs.Datanode.{State as Datanode}
use Rattle.oz_headline.specs.NodeSeat.{SeatView}
use Rattle.oz_nodes.specs.declared.nodes.TheConstants.{MOST_NODES}
use Rattle.oz_headline.specs.Seated.{AreReadyStripeSeats, ArePlaced, HasStoodIn}
use Rattle.oz_rows.specs.RowMaps.{Rows}
use Rattle.oz_running.specs.Seats.{AddsReady, AreNewFrom, HasLeft, HaveLeft}
use Rattle.oz_running.proofs.Placed.{joined_placed, one_placed, there}
use Rattle.oz_worker.specs.servers.Served.{AreServed, IsServed}
use Rattle.oz_service.specs.Pass.{AskedMore}
use Rattle.oz_turn.specs.declared.seat.Seat.{Seat}
use Rattle.oz_turn.specs.declared.told.Told.{Ghosts}
use Rattle.oz_turn.specs.Ring.{TurnId}
use Rattle.oz_turn.specs.Seat.{IsNewSeat, IsReady, mine_of, seen_of}

-- The seats of datanodes that were served are theirs.
pub served_left : {D T : Type 0} {told : Ghosts T Event} (turn : TurnId) (Kept : SeatView → Type 0) (Stands : SeatView → Datanode D → Type 0)
    (nodes : List (Datanode D)) (seats : List (Seat T Event told)) → AreServed turn Kept Stands nodes seats
    → ArePlaced (λ dn s. IsReady turn (datanode_seat dn) s × ((node : Datanode D) → slice_get nodes dn ≡ Some node → IsServed turn Kept Stands dn node s)) seats
served_left turn Kept Stands nodes seats are dn s at =
    let it = there nodes dn (omega (arith, slice_get_within seats dn s at, are.count)) in
    ((are.each dn it.0 s it.1 at).ready, λ node here. are.each dn node s here at)

module _ {T : Type 0} {told : Ghosts T Event} (turn : TurnId) (Coherent : Type 0) (opening : Opening) (loaded : Rows)
    (FlusherKept ScmKept : List Event → List Event → Type 0) (Served : ℕ → Seat T Event told → Type 0) where
  flusher_left : (s : Seat T Event told) → IsReady turn flusher_seat s → FlusherKept (seen_of s) (mine_of s)
      → HasLeft turn Coherent opening loaded FlusherKept ScmKept Served 0 s
  flusher_left s ready kept = record {
    ready = ready;
    flusher = λ at. kept;
    service = λ at. absurd (omega (arith, at));
    scm = λ at. absurd (omega (arith, at));
    datanode = λ dn of. let its = of.its in absurd (omega (arith, its));
    quiet = λ of. let above = of.behind_service in absurd (omega (arith, above));
    stripe = λ coherent stripe less at. absurd (omega (arith, at));
  }

  service_left : (s : Seat T Event told) → IsReady turn service_seat s → AskedMore [] (mine_of s)
      → HasLeft turn Coherent opening loaded FlusherKept ScmKept Served 1 s
  service_left s ready asked = record {
    ready = ready;
    flusher = λ at. absurd (omega (arith, at));
    service = λ at. asked;
    scm = λ at. absurd (omega (arith, at));
    datanode = λ dn of. let its = of.its in absurd (omega (arith, its));
    quiet = λ of. let above = of.behind_service in absurd (omega (arith, above));
    stripe = λ coherent stripe less at. absurd (omega (arith, at));
  }

  caller_left : (s : Seat T Event told) → IsReady turn caller_seat s → mine_of s ≡ []
      → HasLeft turn Coherent opening loaded FlusherKept ScmKept Served 2 s
  caller_left s ready none = record {
    ready = ready;
    flusher = λ at. absurd (omega (arith, at));
    service = λ at. absurd (omega (arith, at));
    scm = λ at. absurd (omega (arith, at));
    datanode = λ dn of. let its = of.its in absurd (omega (arith, its));
    quiet = λ of. none;
    stripe = λ coherent stripe less at. absurd (omega (arith, at));
  }

  scm_left : (s : Seat T Event told) → IsReady turn scm_seat s → ScmKept (seen_of s) (mine_of s)
      → HasLeft turn Coherent opening loaded FlusherKept ScmKept Served 3 s
  scm_left s ready kept = record {
    ready = ready;
    flusher = λ at. absurd (omega (arith, at));
    service = λ at. absurd (omega (arith, at));
    scm = λ at. kept;
    datanode = λ dn of. let its = of.its in absurd (omega (arith, its));
    quiet = λ of. absurd (of.not_scm refl);
    stripe = λ coherent stripe less at. absurd (omega (arith, at));
  }

  node_left : (dn : ℕ) (s : Seat T Event told) → dn < length opening.nodes → length opening.nodes ≤ MOST_NODES → IsReady turn (datanode_seat dn) s → Served dn s
      → HasLeft turn Coherent opening loaded FlusherKept ScmKept Served (4 + dn) s
  node_left dn s there few ready served = record {
    ready = ready;
    flusher = λ at. absurd (omega (arith, at));
    service = λ at. absurd (omega (arith, at));
    scm = λ at. absurd (omega (arith, at));
    datanode = λ other of. let its = of.its in let e : dn ≡ other = omega (arith, its) in subst (λ (k : ℕ). Served k s) e served;
    quiet = λ of. absurd (of.not_datanode dn (record { there = there; its = refl }));
    stripe = λ coherent stripe less at. absurd (omega (arith, at, there, few));
  }

  absent_left : (n : ℕ) (s : Seat T Event told) → length opening.nodes + n < MOST_NODES → IsReady turn (datanode_seat (length opening.nodes) + n) s → mine_of s ≡ []
      → HasLeft turn Coherent opening loaded FlusherKept ScmKept Served (4 + length opening.nodes + n) s
  absent_left n s few ready none = record {
    ready = ready;
    flusher = λ at. absurd (omega (arith, at));
    service = λ at. absurd (omega (arith, at));
    scm = λ at. absurd (omega (arith, at));
    datanode = λ dn of. let its = of.its in let there = of.there in absurd (omega (arith, its, there));
    quiet = λ of. none;
    stripe = λ coherent stripe less at. absurd (omega (arith, at, few));
  }

  stripe_left : (n : ℕ) (s : Seat T Event told) → length opening.nodes ≤ MOST_NODES → IsReady turn (stripe_seat n) s → (Coherent → HasStoodIn opening loaded n s)
      → HasLeft turn Coherent opening loaded FlusherKept ScmKept Served (20 + n) s
  stripe_left n s few ready stood = record {
    ready = ready;
    flusher = λ at. absurd (omega (arith, at));
    service = λ at. absurd (omega (arith, at));
    scm = λ at. absurd (omega (arith, at));
    datanode = λ dn of. let its = of.its in let there = of.there in absurd (omega (arith, its, there, few));
    quiet = λ of. let below = of.before_stripes in absurd (omega (arith, below));
    stripe = λ coherent stripe less at. let e : n ≡ stripe = omega (arith, at) in subst (λ (k : ℕ). HasStoodIn opening loaded k s) e (stood coherent);
  }

  worker_left : (n : ℕ) (s : Seat T Event told) → length opening.nodes ≤ MOST_NODES → IsReady turn (36 + n) s
      → HasLeft turn Coherent opening loaded FlusherKept ScmKept Served (36 + n) s
  worker_left n s few ready = record {
    ready = ready;
    flusher = λ at. absurd (omega (arith, at));
    service = λ at. absurd (omega (arith, at));
    scm = λ at. absurd (omega (arith, at));
    datanode = λ dn of. let its = of.its in let there = of.there in absurd (omega (arith, its, there, few));
    quiet = λ of. let below = of.before_stripes in absurd (omega (arith, below));
    stripe = λ coherent stripe less at. absurd (omega (arith, at, less));
  }

  counted : (a b : List (Seat T Event told)) (m n k : ℕ) → length a ≡ m → length b ≡ n → m + n ≡ k → length (a ++ b) ≡ k
  counted a b m n k one two sum = omega (arith, length-append a b, one, two, sum)

  -- more seats behind those of the numbers before this one
  behind_left : (before more : List (Seat T Event told)) (first : ℕ) → length before ≡ first
      → HaveLeft turn Coherent opening loaded FlusherKept ScmKept Served before
      → ArePlaced (λ n. HasLeft turn Coherent opening loaded FlusherKept ScmKept Served (first + n)) more
      → HaveLeft turn Coherent opening loaded FlusherKept ScmKept Served (before ++ more)
  behind_left before more first count left are =
      joined_placed (HasLeft turn Coherent opening loaded FlusherKept ScmKept Served) before more left
      (subst (λ (k : ℕ). ArePlaced (λ n. HasLeft turn Coherent opening loaded FlusherKept ScmKept Served (k + n)) more) (sym count) are)

  -- the seats of the flusher, of the service job, of the caller, and of the storage container manager
  pub first_left : (flusher service caller scm : Seat T Event told)
      → IsReady turn flusher_seat flusher → FlusherKept (seen_of flusher) (mine_of flusher)
      → IsReady turn service_seat service → AskedMore [] (mine_of service)
      → IsNewSeat turn caller_seat caller
      → IsReady turn scm_seat scm → ScmKept (seen_of scm) (mine_of scm)
      → HaveLeft turn Coherent opening loaded FlusherKept ScmKept Served (flusher ∷ service ∷ caller ∷ scm ∷ [])
  first_left flusher service caller scm ready kept service_ready asked new scm_ready scm_kept =
      let P = HasLeft turn Coherent opening loaded FlusherKept ScmKept Served in
      let one : ArePlaced P (flusher ∷ []) = one_placed P flusher (flusher_left flusher ready kept) in
      let two : ArePlaced P (flusher ∷ service ∷ []) = behind_left (flusher ∷ []) (service ∷ []) 1 refl one
      (one_placed (λ n. P (1 + n)) service (service_left service service_ready asked)) in
      let three : ArePlaced P (flusher ∷ service ∷ caller ∷ []) = behind_left (flusher ∷ service ∷ []) (caller ∷ []) 2 refl two
      (one_placed (λ n. P (2 + n)) caller (caller_left caller new.ready new.mine)) in
      behind_left (flusher ∷ service ∷ caller ∷ []) (scm ∷ []) 3 refl three
      (one_placed (λ n. P (3 + n)) scm (scm_left scm scm_ready scm_kept))

  -- then those of the datanodes, of those that aren't there, of the stripes, and of the workers
  pub all_left : (first nodes absent stripes all after : List (Seat T Event told))
      → length first ≡ 4 → HaveLeft turn Coherent opening loaded FlusherKept ScmKept Served first
      → length nodes ≡ length opening.nodes → ArePlaced (λ dn s. IsReady turn (datanode_seat dn) s × Served dn s) nodes
      → length opening.nodes + length absent ≡ MOST_NODES → AreNewFrom turn (datanode_seat (length opening.nodes)) absent
      → AreReadyStripeSeats turn stripes → (Coherent → ArePlaced (HasStoodIn opening loaded) stripes)
      → all ≡ ((first ++ nodes) ++ absent) ++ stripes → AddsReady turn all after
      → HaveLeft turn Coherent opening loaded FlusherKept ScmKept Served after
  all_left first nodes absent stripes all after first_count left node_count served absent_count new stripes_ready stood parts adds =
      let P = HasLeft turn Coherent opening loaded FlusherKept ScmKept Served in
      let few : length opening.nodes ≤ MOST_NODES = omega (arith, absent_count) in
      let four : ArePlaced P (first ++ nodes) = behind_left first nodes 4 first_count left
      (λ dn s at. let is = served dn s at in
      let there : dn < length opening.nodes = omega (arith, slice_get_within nodes dn s at, node_count) in
      node_left dn s there few is.0 is.1) in
      let c4 : length (first ++ nodes) ≡ 4 + length opening.nodes = counted first nodes 4 (length opening.nodes) _ first_count node_count refl in
      let five : ArePlaced P ((first ++ nodes) ++ absent) = behind_left (first ++ nodes) absent (4 + length opening.nodes) c4 four
      (λ n s at. let is = new n s at in
      let less : length opening.nodes + n < MOST_NODES = omega (arith, slice_get_within absent n s at, absent_count) in
      absent_left n s less is.ready is.mine) in
      let c5 : length ((first ++ nodes) ++ absent) ≡ 20 = omega (arith, length-append (first ++ nodes) absent, c4, absent_count) in
      let six : ArePlaced P (((first ++ nodes) ++ absent) ++ stripes) = behind_left ((first ++ nodes) ++ absent) stripes 20 c5 five
      (λ n s at. stripe_left n s few (stripes_ready.1 n s at) (λ coherent. stood coherent n s at)) in
      let c6 : length (((first ++ nodes) ++ absent) ++ stripes) ≡ 36 = counted ((first ++ nodes) ++ absent) stripes 20 16 36 c5 stripes_ready.0 refl in
      let c7 : length all ≡ 36 = ap (λ (l : List (Seat T Event told)). length l) parts ∙ c6 in
      subst (ArePlaced P) (sym adds.behind)
      (behind_left all adds.more 36 c7 (subst (ArePlaced P) (sym parts) six)
      (λ n s at. worker_left n s few (let e : length all + n ≡ 36 + n = omega (arith, c7) in subst (λ (k : ℕ). IsReady turn k s) e (adds.ready n s at))))

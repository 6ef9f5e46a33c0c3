-- What the seats that left say of the whole story.
use Rattle.std.proofs.Common.{◌≡◌, ◌<◌, ◌≤◌, ℕ, Bool, false, List, [], length, slice_get, Some, All, refl, sym, ◌∙◌, subst, arith}
use Rattle.std.proofs.lemmas.Option.{slice_get_within}
use Rattle.std.specs.Prelude.{Option}
use Rattle.oz_buffer.specs.Buffer.{AllFollow, Follows}
use Rattle.oz_core.specs.declared.event.Event.{Event}
use Rattle.oz_core.specs.declared.event.Node.{Node}
use Rattle.oz_core.specs.declared.opening.Opening.{Opening}
use Rattle.oz_core.specs.Contents.{OpeningBytes}
use Rattle.oz_core.specs.Seats.{datanode_seat, first_worker_seat, flusher_seat, scm_seat, service_seat, stripe_seat}
use Rattle.oz_core.specs.Stories.{has_event, mine}
use Rattle.oz_datanode.specs.Datanode.{State as Datanode}
use Rattle.oz_flusher.specs.flushing.Kept.{IsKept}
use Rattle.oz_headline.specs.halts.Nodes.{AreAsTold, IsAsTold, ScmIsAsTold, seat_over}
use Rattle.oz_script.specs.declared.lines.script.Script.{Script}
use Rattle.oz_names.specs.declared.limits.TheConstants.{STRIPES}
use Rattle.oz_headline.specs.Led.{no_lines}
use Rattle.oz_headline.specs.NodeSeat.{IsKept as SeatIsKept, SeatView, StandsFor, events_of, is_bad}
use Rattle.oz_nodes.specs.declared.nodes.TheConstants.{MOST_NODES}
use Rattle.oz_headline.specs.Keeps.{HasRun}
use Rattle.oz_rows.specs.RowMaps.{Rows}
use Rattle.oz_running.specs.Left.{IsLeft}
use Rattle.oz_running.specs.Run.{IsQuietSeat}
use Rattle.oz_running.proofs.Placed.{all_at, there}
use Rattle.oz_scm.specs.Scm.{State as Scm}
use Rattle.oz_scm_events.specs.Kept.{IsKept as ScmIsKept}
use Rattle.oz_worker.specs.servers.Served.{IsServed}
use Rattle.oz_service.specs.Pass.{AskedMore}
use Rattle.oz_turn.specs.declared.seat.Seat.{Seat}
use Rattle.oz_turn.specs.declared.told.Told.{Ghosts}
use Rattle.oz_turn.specs.Ring.{TurnId}
use Rattle.oz_turn.specs.Seat.{AreReady, mine_of, number_of, seen_of}
use Rattle.oz_turn.specs.Told.{BeginsWith, own_entries}
use Rattle.oz_world.specs.Disk.{Images, Seen, seen as seen_disk}

-- The storage container manager is what its seat makes of it in each story in which that gave the same.
scm_over : {D : Type 0} (opening : Opening) (loaded : ℕ) (scm : Scm D) (faults : ℕ) (seen given story : List Event) → mine scm_seat story ≡ given
    → ScmIsKept opening loaded scm faults seen given → ScmIsKept opening loaded scm faults story (mine scm_seat story)
scm_over opening loaded scm faults seen given story known kept =
    subst (λ (l : List Event). ScmIsKept opening loaded scm faults story l) (sym known) (record {
      own = known;
      halt = kept.halt;
      nodes = kept.nodes;
      next = kept.next;
      made = kept.made;
      up = kept.up;
      log = kept.log;
      no_fewer = kept.no_fewer;
      rose = kept.rose;
    })

module _ {D : Type 0} (told : D → Option (List ℕ)) (clock : D → ℕ) (image : D → Images) (faults : D → ℕ) (Coherent : Type 0) (opening : Opening)
    (bytes : OpeningBytes) (script : Script) (counts : Node → ℕ) where
  -- How many more a seat may note, and which lines it knows of, tells nothing of its datanode.
  without_room : (dn room : ℕ) (last : List ℕ) (seen given : List Event) (node : Datanode D)
      → StandsFor told clock image faults Coherent opening bytes script counts (record { dn = dn; seen = seen; mine = given; room = room; last = last }) node
      → StandsFor told clock image faults Coherent opening bytes script counts (record { dn = dn; seen = seen; mine = given; room = 0; last = no_lines }) node
  without_room dn room last seen given node stood = record {
    number = stood.number;
    halt = stood.halt;
    line = stood.line;
    tells = stood.tells;
    no_fewer = stood.no_fewer;
    rose = stood.rose;
    held = stood.held;
    whole = stood.whole;
    closed = stood.closed;
    greatest = stood.greatest;
    journal = stood.journal;
    contents = stood.contents;
  }

  -- what a seat that has seen the whole story stands for
  stands_over : (view : SeatView) (story : List Event) (dn : ℕ) (node : Datanode D) → view.dn ≡ dn → events_of dn story ≡ view.mine
      → StandsFor told clock image faults Coherent opening bytes script counts (record view { seen = story }) node
      → StandsFor told clock image faults Coherent opening bytes script counts (seat_over story dn) node
  stands_over view story dn node number given stood =
      subst (λ (l : List Event). StandsFor told clock image faults Coherent opening bytes script counts (record { dn = dn; seen = story; mine = l; room = 0; last = no_lines }) node) (sym given)
      (subst (λ (d : ℕ). StandsFor told clock image faults Coherent opening bytes script counts (record { dn = d; seen = story; mine = view.mine; room = 0; last = no_lines }) node) number
      (without_room view.dn view.room view.last story view.mine node stood))

  -- and what holds of it
  kept_over : (view : SeatView) (story : List Event) (dn : ℕ) → view.dn ≡ dn → events_of dn story ≡ view.mine → AllFollow (Follows Coherent opening bytes script) [] story
      → SeatIsKept Coherent opening bytes script view → SeatIsKept Coherent opening bytes script (seat_over story dn)
  kept_over view story dn number given follow kept = record {
    few = subst (λ (d : ℕ). d < MOST_NODES) number kept.few;
    there = subst (λ (d : ℕ). d < length opening.nodes) number kept.there;
    numbered = kept.numbered;
    own = refl;
    follow = follow;
    no_bad = λ coherent. subst (λ (l : List Event). has_event is_bad l ≡ false) (sym given) (kept.no_bad coherent);
  }

  -- By what a datanode's seat has seen and given, with what it stands for in a story that goes on without it.
  node_over : {T : Type 0} {told_of : Ghosts T Event} (turn : TurnId) (dn : ℕ) (node : Datanode D) (s : Seat T Event told_of) (story : List Event)
      → IsServed turn (SeatIsKept Coherent opening bytes script) (StandsFor told clock image faults Coherent opening bytes script counts) dn node s
      → BeginsWith story (seen_of s) → mine (datanode_seat dn) story ≡ mine_of s → AllFollow (Follows Coherent opening bytes script) [] story
      → ((view : SeatView) → SeatIsKept Coherent opening bytes script view → StandsFor told clock image faults Coherent opening bytes script counts view node
      → BeginsWith story view.seen → events_of view.dn story ≡ view.mine
      → StandsFor told clock image faults Coherent opening bytes script counts (record view { seen = story }) node)
      → IsAsTold told clock image faults Coherent opening bytes script counts story dn node
  node_over turn dn node s story served begins own follow goes_on =
      let given : events_of dn story ≡ served.view.mine = own ∙ sym served.mine in
      let stood = goes_on served.view served.kept served.rests.stood
      (subst (λ (l : List Event). BeginsWith story l) (sym served.seen) begins)
      (subst (λ (d : ℕ). events_of d story ≡ served.view.mine) (sym served.number) given) in
      record {
        kept = kept_over served.view story dn served.number given follow served.kept;
        rests = record { idle = served.rests.idle; stood = stands_over served.view story dn node served.number given stood };
      }

module _ {D T : Type 0} {told_of : Ghosts T Event} (told : D → Option (List ℕ)) (clock : D → ℕ) (image : D → Images) (faults : D → ℕ)
    (Coherent : Type 0) (opening : Opening) (bytes : OpeningBytes) (bodies : List (List ℕ)) (script : Script) (counts : Node → ℕ) (begun : Seen) (loaded : Rows)
    (turn : TurnId) (stopped : Bool) (disk : D) (scm : Scm D) (nodes : List (Datanode D)) (seats : List (Seat T Event told_of))
    (left : IsLeft told clock image faults Coherent opening bytes script counts turn bodies begun loaded stopped disk scm nodes seats) where
  pub ready_left : AreReady turn seats
  ready_left n s at = (left.left n s at).ready

  module _ (story : List Event) (many : first_worker_seat ≤ length seats)
      (begins : All (λ (s : Seat T Event told_of). BeginsWith story (seen_of s)) seats)
      (own : All (λ (s : Seat T Event told_of). own_entries (λ (event : Event). event.seat) (number_of s) story ≡ mine_of s) seats) where
    own_at : (n : ℕ) (s : Seat T Event told_of) → slice_get seats n ≡ Some s → mine n story ≡ mine_of s
    own_at n s at =
        subst (λ (k : ℕ). mine k story ≡ mine_of s) (left.left n s at).ready.numbered
        (all_at (λ (s : Seat T Event told_of). own_entries (λ (event : Event). event.seat) (number_of s) story ≡ mine_of s) seats n s own at)

    begins_at : (n : ℕ) (s : Seat T Event told_of) → slice_get seats n ≡ Some s → BeginsWith story (seen_of s)
    begins_at n s at = all_at (λ (s : Seat T Event told_of). BeginsWith story (seen_of s)) seats n s begins at

    pub service_left : AskedMore [] (mine service_seat story)
    service_left =
        let it = there seats service_seat (omega (arith, many)) in
        subst (λ (given : List Event). AskedMore [] given) (sym (own_at service_seat it.0 it.1)) ((left.left service_seat it.0 it.1).service refl)

    pub quiet_left : (seat : ℕ) → IsQuietSeat opening seat → mine seat story ≡ []
    quiet_left seat is =
        let below = is.before_stripes in
        let it = there seats seat (omega (arith, below, many)) in
        own_at seat it.0 it.1 ∙ (left.left seat it.0 it.1).quiet is

    pub stripe_left : Coherent → (stripe : ℕ) → stripe < STRIPES → (rows : Rows) × HasRun opening loaded story stripe rows
    stripe_left coherent stripe less =
        let it = there seats (stripe_seat stripe) (omega (arith, less, many)) in
        let stood = (left.left (stripe_seat stripe) it.0 it.1).stripe coherent stripe less refl in (
          stood.rows,
          record {
            seen = seen_of it.0;
            begins = begins_at (stripe_seat stripe) it.0 it.1;
            given = own_at (stripe_seat stripe) it.0 it.1 ∙ sym stood.own;
            stood = stood.stood;
          },
        )

    -- by what is kept of a story that goes on without the flusher
    pub flusher_left : ((seen given : List Event) → IsKept Coherent opening bodies begun stopped seen given (seen_disk (told disk) (clock disk) (image disk) (faults disk))
        → BeginsWith story seen → mine flusher_seat story ≡ given
        → IsKept Coherent opening bodies begun stopped story given (seen_disk (told disk) (clock disk) (image disk) (faults disk)))
        → IsKept Coherent opening bodies begun stopped story (mine flusher_seat story) (seen_disk (told disk) (clock disk) (image disk) (faults disk))
    flusher_left goes_on =
        let it = there seats flusher_seat (omega (arith, many)) in
        let known = own_at flusher_seat it.0 it.1 in
        subst (λ (given : List Event). IsKept Coherent opening bodies begun stopped story given (seen_disk (told disk) (clock disk) (image disk) (faults disk))) (sym known)
        (goes_on (seen_of it.0) (mine_of it.0) ((left.left flusher_seat it.0 it.1).flusher refl) (begins_at flusher_seat it.0 it.1) known)

    pub scm_left : ScmIsAsTold faults opening counts story scm
    scm_left =
        let it = there seats scm_seat (omega (arith, many)) in
        scm_over opening _ scm (faults scm.disk) (seen_of it.0) (mine_of it.0) story (own_at scm_seat it.0 it.1)
        ((left.left scm_seat it.0 it.1).scm refl)

    -- by what a datanode's seat stands for in a story that goes on without it
    pub nodes_left : AllFollow (Follows Coherent opening bytes script) [] story
        → ((view : SeatView) (node : Datanode D) → SeatIsKept Coherent opening bytes script view → StandsFor told clock image faults Coherent opening bytes script counts view node
        → BeginsWith story view.seen → events_of view.dn story ≡ view.mine
        → StandsFor told clock image faults Coherent opening bytes script counts (record view { seen = story }) node)
        → AreAsTold told clock image faults Coherent opening bytes script counts story nodes
    nodes_left follow goes_on = record {
      count = left.count;
      each = λ dn node at.
          let less : dn < length opening.nodes = omega (arith, slice_get_within nodes dn node at, left.count) in
          let it = there seats (datanode_seat dn) (omega (arith, less, left.few, many)) in
          let served = (left.left (datanode_seat dn) it.0 it.1).datanode dn (record { there = less; its = refl }) node at in
          node_over told clock image faults Coherent opening bytes script counts turn dn node it.0 story served
          (begins_at (datanode_seat dn) it.0 it.1) (own_at (datanode_seat dn) it.0 it.1) follow (λ view. goes_on view node);
    }

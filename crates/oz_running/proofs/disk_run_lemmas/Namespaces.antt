-- What the storage container manager and the datanodes are over the namespace that was shown, they are over each.
use Rattle.std.proofs.Common.{◌≡◌, ℕ, List, [], ◌∷◌, ◌++◌, Option, Some, false, not, subst}
use Rattle.oz_buffer.specs.Buffer.{AllFollow, Follows, IsOfItsSeat}
use Rattle.oz_core.specs.declared.event.Event.{Event}
use Rattle.oz_core.specs.declared.event.EventKind.{EventKind}
use Rattle.oz_core.specs.declared.event.EventKind.TheVariants.{Flushed, Halt, Swap}
use Rattle.oz_core.specs.declared.event.Node.{Node}
use Rattle.oz_core.specs.declared.event.Node.TheVariants.{Manager, Scm, Datanode}
use Rattle.oz_core.specs.declared.opening.Opening.{Opening}
use Rattle.oz_core.specs.Contents.{OpeningBytes}
use Rattle.oz_core.specs.Fits.{EventFits}
use Rattle.oz_core.specs.Law.{IsEnabled}
use Rattle.oz_core.specs.Nodes.{holds, is_closed, length_of}
use Rattle.oz_datanode.specs.Datanode.{State as NodeState, is_halted, node_in}
use Rattle.oz_datanode.specs.Writing.{is_open}
use Rattle.oz_entries.specs.Node.{is_held}
use Rattle.oz_entries.specs.declared.row.BlockRow.{BlockRow}
use Rattle.oz_fields.specs.declared.block.Block.{Block}
use Rattle.oz_kept.specs.reopened.Left.{greatest_of}
use Rattle.oz_scm.specs.grants.Made.{Made}
use Rattle.oz_headline.specs.halts.Disks.{OtherNodes}
use Rattle.oz_headline.specs.halts.Nodes.{AreAsTold, ScmIsAsTold, seat_over}
use Rattle.oz_script.specs.declared.lines.script.Script.{Script}
use Rattle.oz_loaded.specs.Unseated.{UnseatedView}
use Rattle.oz_namespace.specs.declared.namespace.Namespace.{Namespace}
use Rattle.oz_headline.specs.NodeSeat.{HasContents, IsKept, NumbersAreOld, SeatView, StandsFor}
use Rattle.oz_scm.specs.Scm.{State as ScmState}
use Rattle.oz_headline.specs.store_opening.Openings.{opening_of}
use Rattle.oz_world.specs.Disk.{Images}

-- Of the storage container manager's part of an opening the namespace says nothing.
pub scm_over : {D : Type 0} (faults : D → ℕ) (unseated : UnseatedView) (some namespace : Namespace) (nodes : OtherNodes D) (counts : Node → ℕ) (story : List Event) (scm : ScmState D)
    → ScmIsAsTold faults (opening_of unseated some nodes.scm.made nodes.datanodes) counts story scm → ScmIsAsTold faults (opening_of unseated namespace nodes.scm.made nodes.datanodes) counts story scm
scm_over faults unseated some namespace nodes counts story scm is = record {
  own = is.own;
  halt = is.halt;
  nodes = is.nodes;
  next = is.next;
  made = is.made;
  up = is.up;
  log = λ runs. let log = is.log runs in record {
    last = log.last;
    each = λ number logged found. let each = log.each number logged found in record {
      there = each.there;
      unretired = each.unretired;
      flags = each.flags;
      acknowledged = each.acknowledged;
    };
    all = log.all;
    logged_old = log.logged_old;
    acknowledged_old = log.acknowledged_old;
    retired_old = log.retired_old;
  };
  no_fewer = is.no_fewer;
  rose = is.rose;
}

-- that the disks agree over the namespace that was shown, and over another, which then is the same
module _ {D : Type 0} (told : D → Option (List ℕ)) (clock : D → ℕ) (image : D → Images) (faults : D → ℕ) (unseated : UnseatedView) (made : Made) (loaded : List (NodeState D)) (some namespace : Namespace)
    (Shown Coherent : Type 0) (agree : Coherent → Shown) (same : Coherent → some ≡ namespace) (bytes : OpeningBytes) (script : Script) (counts : Node → ℕ) (story : List Event) where
  abbrev shown : Opening
  shown = opening_of unseated some made loaded

  abbrev opening : Opening
  opening = opening_of unseated namespace made loaded

  over : (P : Opening → Type 0) → (Shown → P shown) → Coherent → P opening
  over P so coherent = subst (λ (n : Namespace). P (opening_of unseated n made loaded)) (same coherent) (so (agree coherent))

  of_seat : (seat : ℕ) (kind : EventKind) → IsOfItsSeat shown seat kind → IsOfItsSeat opening seat kind
  of_seat seat (Swap index) its = its
  of_seat seat (Flushed index moment) its = its
  of_seat seat (Halt Manager count) its = its
  of_seat seat (Halt Scm count) its = its
  of_seat seat (Halt (Datanode dn) count) its = record { there = its.there; its = its.its }
  of_seat seat kind its = tt

  all_follow : (before after : List Event) → AllFollow (Follows Shown shown bytes script) before after → AllFollow (Follows Coherent opening bytes script) before after
  unfolding AllFollow
  all_follow before [] all = tt
  all_follow before (event ∷ after) all = (
    record {
      of_seat = of_seat event.seat event.kind all.0.of_seat;
      enabled = over (λ (o : Opening). IsEnabled o before event) all.0.enabled;
      fits = over (λ (o : Opening). EventFits o bytes script before event.kind) all.0.fits;
    },
    all_follow (before ++ event ∷ []) after all.1,
  )

  seat_kept : (view : SeatView) → IsKept Shown shown bytes script view → IsKept Coherent opening bytes script view
  seat_kept view kept = record {
    few = kept.few;
    there = kept.there;
    numbered = over (λ (o : Opening). NumbersAreOld o) kept.numbered;
    own = kept.own;
    follow = all_follow [] view.seen kept.follow;
    no_bad = λ coherent. kept.no_bad (agree coherent);
  }

  stands : (view : SeatView) (node : NodeState D) → StandsFor told clock image faults Shown shown bytes script counts view node → StandsFor told clock image faults Coherent opening bytes script counts view node
  stands view node stood = record {
    number = stood.number;
    halt = stood.halt;
    line = stood.line;
    tells = λ coherent. stood.tells (agree coherent);
    no_fewer = stood.no_fewer;
    rose = stood.rose;
    held = over (λ (o : Opening). is_halted node ≡ false → (block : Block) → holds o view.seen view.dn block ≡ is_held (node_in node) block) stood.held;
    whole = over (λ (o : Opening). is_halted node ≡ false → (block : Block) (row : BlockRow) → (node_in node).rows block ≡ Some row → length_of o view.seen block ≡ Some row.length) stood.whole;
    closed = over (λ (o : Opening). is_halted node ≡ false → (container : ℕ) → is_closed o view.seen view.dn container ≡ not (is_open ((node_in node).states container))) stood.closed;
    greatest = over (λ (o : Opening). is_halted node ≡ false → (container : ℕ) → greatest_of o view.seen view.dn container ≡ (node_in node).greatest container) stood.greatest;
    journal = λ coherent. stood.journal (agree coherent);
    contents = over (λ (o : Opening). is_halted node ≡ false → HasContents told clock image faults o bytes script view.seen node) stood.contents;
  }

  pub nodes_over : (nodes : List (NodeState D)) → AreAsTold told clock image faults Shown shown bytes script counts story nodes → AreAsTold told clock image faults Coherent opening bytes script counts story nodes
  nodes_over nodes are = record {
    count = are.count;
    each = λ dn node at.
        let its = are.each dn node at in record {
          kept = seat_kept (seat_over story dn) its.kept;
          rests = record { idle = its.rests.idle; stood = stands (seat_over story dn) node its.rests.stood };
        };
  }

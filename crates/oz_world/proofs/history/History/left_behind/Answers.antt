use Rattle.std.proofs.Common.{◌≡◌, ◌<◌, ◌≤◌, ℕ, List, sym, ◌∙◌, ap, subst, arith, if◌then◌else◌, get_or, length, Vec, Global}
use Rattle.oz_world.specs.declared.history.TimedChange.{TimedChange}
use Rattle.oz_world.specs.Record.{images_since, half_of, none_of}
use Rattle.oz_world.proofs.Records.{replay_synced, replay_left, left_by_end, left_by_now}
use Rattle.oz_world.proofs.history.History.left_behind.Goals as goal
use Rattle.oz_world.proofs.history.History.left_behind.Goals.{then-synced-gt1+in_ok-redo, else-synced-gt1+in_ok-redo_part}

pub loop-entry-preserved : goal.loop-entry-preserved
loop-entry-preserved c =
    let entries = c.args.self.now.entries.items in
    let items = c.deref-entry-items.ensures.value in
    let lt : c.loop-entry.entry-index < length entries = omega (arith, ap length items, c.loop-entry-test.true) in
    let is : c.entry-item.result ≡ get_or entries c.loop-entry.entry-index c.entry-item.result = c.entry-item.is ∙ ap (λ (l : List TimedChange). get_or l c.loop-entry.entry-index c.entry-item.result) items in
    record {
      rest =
          replay_left (if c.args.half then half_of else none_of) entries c.loop-entry.entry-index c.loop-entry.synced c.entry-item.result c.loop-entry.left.items c.if-synced-gt1.left.items _ lt is c.loop-entry.invariant.synced c.loop-entry.invariant.rest
          (λ (more : 1 < c.loop-entry.synced). elim c.if-synced-gt1.branch [
            | then-synced-gt1+in_ok-redo w ↦ ap (λ (v : Vec ℕ Global). v.items) w.left-is ∙ w.in_ok-redo.ensures
            | else-synced-gt1+in_ok-redo_part w ↦ absurd (omega arith)
          ])
          (λ (last : c.loop-entry.synced ≤ 1). elim c.if-synced-gt1.branch [
            | then-synced-gt1+in_ok-redo w ↦ absurd (omega arith)
            | else-synced-gt1+in_ok-redo_part w ↦ ap (λ (v : Vec ℕ Global). v.items) w.left-is ∙ w.in_ok-redo_part.ensures
          ]);
      synced = replay_synced entries c.loop-entry.entry-index c.loop-entry.synced c.entry-item.result lt is c.loop-entry.invariant.synced ∙ sym c.saturating_sub-synced.ensures;
    }

pub returns-clause-which : goal.returns-clause-which
returns-clause-which c =
    let items = c.deref-entry-items.ensures.value in
    left_by_end (if c.args.half then half_of else none_of) c.args.self.now.entries.items c.loop-entry.entry-index c.loop-entry.left.items _ (omega (arith, ap length items, c.loop-entry-test.false)) c.loop-entry.invariant.rest

pub returns-clause-image : goal.returns-clause-image
returns-clause-image c =
    let items = c.deref-entry-items.ensures.value in
    let which = left_by_end (if c.args.half then half_of else none_of) c.args.self.now.entries.items c.loop-entry.entry-index c.loop-entry.left.items _ (omega (arith, ap length items, c.loop-entry-test.false)) c.loop-entry.invariant.rest in
    subst (images_since c.args.self.now.first.items c.args.self.now.entries.items c.args.self.now.clock) (sym which) (left_by_now c.args.half c.args.self.now.first.items c.args.self.now.entries.items c.args.self.now.clock c.args.self.now.past)

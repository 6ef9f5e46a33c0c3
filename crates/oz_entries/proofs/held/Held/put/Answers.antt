use Rattle.std.proofs.Common.{List, Some, cond, ap, ◌∙◌}
use Rattle.oz_entries.specs.declared.row.Chunk.{Chunk}
use Rattle.oz_entries.specs.Node.{with_row}
use Rattle.oz_entries.specs.Held.{node_of, any_in, user_of, HeldView, row_of}
use Rattle.oz_entries.specs.laws.Sound.{sound_same, sound_with}
use Rattle.oz_entries.proofs.HeldEdits.{put_same, none_of}
use Rattle.oz_entries.proofs.held.Held.put.Goals as goal

pub invariant_of-self : goal.invariant_of-self
invariant_of-self c =
    let free = rw (← c.self.view_is) at c.requires.free in
    let absent = rw (← c.self.view_is) at c.requires.absent in
    let held : HeldView = record { rows = c.self.inside.rows.entries; replicas = c.self.inside.replicas.entries; users = c.self.inside.users.items } in (
      c.take_slots.ensures.count ∙ c.self.invariant.0,
      sound_same (with_row c.args.block c.args.row (node_of held)) _
          (put_same held c.args.block c.args.row c.give_row.new.rows.entries c.take_slots.new.users.items c.self.invariant.0 free c.give_row.ensures c.take_slots.ensures.count
          (λ slot less. c.take_slots.ensures.taken slot less ∙ ap (λ (l : List Chunk). cond (any_in l slot) (Some c.args.block) (user_of c.self.inside.users.items slot)) c.items.ensures))
          (sound_with c.args.block c.args.row (node_of held) c.self.invariant.1 (none_of (row_of c.self.inside.rows.entries c.args.block) absent) free),
    )

pub returns : goal.returns
returns c =
    let free = rw (← c.self.view_is) at c.requires.free in
    rw (← c.self.view_is) (put_same _ c.args.block c.args.row _ _ c.self.invariant.0 free c.give_row.ensures c.take_slots.ensures.count
    (λ slot less. c.take_slots.ensures.taken slot less ∙ ap (λ (l : List Chunk). cond (any_in l slot) (Some c.args.block) (user_of c.self.inside.users.items slot)) c.items.ensures))

use Rattle.std.proofs.Common.{◌≡◌, true, length, sym, ap, ◌∙◌}
use Rattle.oz_entries.specs.Held.{user_of}
use Rattle.oz_entries.specs.laws.Drops.{is_theirs, uses_one}
use Rattle.oz_entries.proofs.Looking.{none_yet, nor_this}
use Rattle.oz_entries.proofs.users.uses_one.Goals as goal

pub loop-slot-init : goal.loop-slot-init
loop-slot-init c = none_yet (user_of c.args.users.now) c.args.container

pub returns-then-is_of : goal.returns-then-is_of
returns-then-is_of c =
    let theirs : is_theirs c.args.container (user_of c.args.users.now c.loop-slot.slot) ≡ true = ap (is_theirs c.args.container) (sym c.user_at.ensures) ∙ (sym c.is_of.ensures ∙ c.if-is_of.true) in
    sym (uses_one (user_of c.args.users.now) c.args.container c.loop-slot.slot (length c.args.users.now) c.loop-slot-test.true theirs)

pub loop-slot-preserved : goal.loop-slot-preserved
loop-slot-preserved c = nor_this (user_of c.args.users.now) c.args.container c.loop-slot.slot c.is_of.result c.loop-slot.invariant (c.is_of.ensures ∙ ap (is_theirs c.args.container) c.user_at.ensures) c.if-is_of.false

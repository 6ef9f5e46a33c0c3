use Rattle.std.proofs.Common.{ℕ, arith}
use Rattle.oz_node_law.specs.Words.{had_or_given, taken_slots}
use Rattle.oz_node_law.proofs.Found.{false-true}
use Rattle.oz_node_law.proofs.Slots.{taken, takes_so_many}
use Rattle.oz_node_law.proofs.room.are_slots.Goals as goal

pub returns-in-None : goal.returns-in-None
returns-in-None c = (
  λ h. false-true h,
  λ is. absurd (omega (arith, c.in-None.ensures, is.together, takes_so_many c.args.opening.now c.args.story.now c.args.dn is.slots is.taken)),
)

pub returns-in-Some : goal.returns-in-Some
returns-in-Some c =
    let all : ℕ = taken_slots c.args.opening.now c.args.story.now c.args.dn (had_or_given c.args.opening.now c.args.story.now c.args.dn) in (
      λ h. record {
        slots = all;
        others = c.in-Some.left;
        taken = taken c.args.opening.now c.args.story.now c.args.dn;
        few = c.are_few.ensures.0 h;
        together = omega (arith, c.in-Some.ensures);
      },
      λ is. c.are_few.ensures.1 (omega (arith, c.in-Some.ensures, is.few, is.together, takes_so_many c.args.opening.now c.args.story.now c.args.dn is.slots is.taken)),
    )

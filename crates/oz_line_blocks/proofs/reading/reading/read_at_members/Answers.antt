use Rattle.std.proofs.Common.{rules}
use Rattle.oz_turn.specs.Seat.{seen_of}
use Rattle.oz_underway.specs.laws.Going.{begins_through}
use Rattle.oz_line_blocks.proofs.reading_lemmas.Doubts.{are_later}
use Rattle.oz_line_blocks.proofs.reading_lemmas.Known.{as_long, content, doubted_among, may_later, nobody_at}
use Rattle.oz_line_blocks.proofs.reading_lemmas.Outcomes.{on_err_of}
use Rattle.oz_line_blocks.proofs.reading_lemmas.Three.{by_first, by_none, by_second, by_third, short_at_once, short_one, short_two, third_contained}
use Rattle.oz_line_blocks.proofs.reading.reading.read_at_members.Goals as goal

-- ---- the second member and the third

pub read_member-requires-2-clause-may : goal.read_member-requires-2-clause-may
read_member-requires-2-clause-may g c coherent =
    let O = g.O.Opened in
    may_later O.coherent O.opening O.bytes O.script c.args.id c.args.piece c.args.members (seen_of c.read_member.new.seat) (seen_of c.args.seat.now) c.read_member.ensures.looked.goes_on (c.requires.may coherent)

pub read_member-requires-2-clause-doubted : goal.read_member-requires-2-clause-doubted
read_member-requires-2-clause-doubted g c coherent =
    are_later c.args.id c.args.piece.block c.args.doubted (seen_of c.read_member.new.seat) (seen_of c.args.seat.now) c.read_member.ensures.looked.goes_on (c.requires.doubted coherent)

pub read_member-requires-3-clause-doubted : goal.read_member-requires-3-clause-doubted
read_member-requires-3-clause-doubted g c coherent =
    let from = begins_through (seen_of c.read_member-2.new.seat) (seen_of c.read_member.new.seat) (seen_of c.args.seat.now) c.read_member-2.ensures.looked.goes_on c.read_member.ensures.looked.goes_on in
    are_later c.args.id c.args.piece.block c.args.doubted (seen_of c.read_member-2.new.seat) (seen_of c.args.seat.now) from (c.requires.doubted coherent)

pub read_member-requires-3-clause-member : goal.read_member-requires-3-clause-member
read_member-requires-3-clause-member g c = third_contained c.args.members (search rules)

pub read_member-requires-3-clause-may : goal.read_member-requires-3-clause-may
read_member-requires-3-clause-may g c coherent =
    let O = g.O.Opened in
    let from = begins_through (seen_of c.read_member-2.new.seat) (seen_of c.read_member.new.seat) (seen_of c.args.seat.now) c.read_member-2.ensures.looked.goes_on c.read_member.ensures.looked.goes_on in
    may_later O.coherent O.opening O.bytes O.script c.args.id c.args.piece c.args.members (seen_of c.read_member-2.new.seat) (seen_of c.args.seat.now) from (c.requires.may coherent)

-- ---- memory is wanted

pub returns-in_err-bytes-clause-lacks : goal.returns-in_err-bytes-clause-lacks
returns-in_err-bytes-clause-lacks g c =
    let O = g.O.Opened in
    let D = g.D.Disk in
    on_err_of c.from_residual.result _
    (short_at_once D.told D.clock D.image D.faults O.coherent O.opening O.bytes O.script O.faults c.args.id c.args.piece c.args.members c.args.doubted c.args.members (seen_of c.args.seat.now)
    (seen_of c.read_member.new.seat) (search rules) c.in_err-bytes.ensures.asked c.read_member.ensures.looked.goes_on)

pub returns-in_err-bytes-2-clause-lacks : goal.returns-in_err-bytes-2-clause-lacks
returns-in_err-bytes-2-clause-lacks g c =
    let O = g.O.Opened in
    let D = g.D.Disk in
    let first = rw c.in-Nothing.is at c.in_ok-bytes.ensures.came in
    on_err_of c.from_residual-in_err-bytes-2.result _
    (short_one D.told D.clock D.image D.faults O.coherent O.opening O.bytes O.script O.faults c.args.id c.args.piece c.args.members c.args.doubted c.args.members c.in-Nothing.lack
    (seen_of c.args.seat.now) (seen_of c.read_member.new.seat) (seen_of c.read_member-2.new.seat) (search rules) first.0 c.in_err-bytes-2.ensures.asked c.read_member-2.ensures.looked.goes_on)

pub returns-in_err-bytes-3-clause-lacks : goal.returns-in_err-bytes-3-clause-lacks
returns-in_err-bytes-3-clause-lacks g c =
    let O = g.O.Opened in
    let D = g.D.Disk in
    let first = rw c.in-Nothing.is at c.in_ok-bytes.ensures.came in
    let second = rw c.in-Nothing-2.is at c.in_ok-bytes-2.ensures.came in
    on_err_of c.from_residual-in_err-bytes-3.result _
    (short_two D.told D.clock D.image D.faults O.coherent O.opening O.bytes O.script O.faults c.args.id c.args.piece c.args.members c.args.doubted c.args.members c.in-Nothing.lack c.in-Nothing-2.lack
    (seen_of c.args.seat.now) (seen_of c.read_member.new.seat) (seen_of c.read_member-2.new.seat) (seen_of c.read_member-3.new.seat) (search rules) first.0 second.0 c.in_err-bytes-3.ensures.asked
    c.read_member-3.ensures.looked.goes_on)

-- ---- a member gave the bytes

pub returns-in-Gave-clause-came : goal.returns-in-Gave-clause-came
returns-in-Gave-clause-came g c =
    let O = g.O.Opened in
    let D = g.D.Disk in
    let gave = rw c.in-Gave.is at c.in_ok-bytes.ensures.came in
    by_first D.told D.clock D.image D.faults O.coherent O.opening O.bytes O.script O.faults c.args.id c.args.piece c.args.members c.args.doubted c.args.members c.in-Gave.bytes.items
    (seen_of c.args.seat.now) (seen_of c.read_member.new.seat) (search rules) gave

pub returns-in-Gave-clause-known : goal.returns-in-Gave-clause-known
returns-in-Gave-clause-known g c =
    let O = g.O.Opened in
    let D = g.D.Disk in
    let gave = rw c.in-Gave.is at c.in_ok-bytes.ensures.came in (
      as_long D.told D.clock D.image D.faults O.coherent O.opening O.bytes O.script O.faults c.args.id c.args.piece c.args.members _ c.in-Gave.bytes.items (seen_of c.args.seat.now) (seen_of c.read_member.new.seat) gave.1,
      λ coherent. content D.told D.clock D.image D.faults O.coherent O.opening O.bytes O.script O.faults c.args.id c.args.piece c.args.members _ c.in-Gave.bytes.items (seen_of c.args.seat.now)
          (seen_of c.read_member.new.seat) gave.1
          (λ view after old new stood stays read stands.
          c.what_is_given_is_the_content.ensures.read coherent view after old new c.args.piece.block c.in-Gave.bytes.items stood stays read stands),
    )

pub returns-in-Gave-2-clause-came : goal.returns-in-Gave-2-clause-came
returns-in-Gave-2-clause-came g c =
    let O = g.O.Opened in
    let D = g.D.Disk in
    let first = rw c.in-Nothing.is at c.in_ok-bytes.ensures.came in
    let gave = rw c.in-Gave-2.is at c.in_ok-bytes-2.ensures.came in
    by_second D.told D.clock D.image D.faults O.coherent O.opening O.bytes O.script O.faults c.args.id c.args.piece c.args.members c.args.doubted c.args.members c.in-Gave-2.bytes.items c.in-Nothing.lack (seen_of c.args.seat.now)
    (seen_of c.read_member.new.seat) (seen_of c.read_member-2.new.seat) (search rules) first.0 gave

pub returns-in-Gave-2-clause-known : goal.returns-in-Gave-2-clause-known
returns-in-Gave-2-clause-known g c =
    let O = g.O.Opened in
    let D = g.D.Disk in
    let gave = rw c.in-Gave-2.is at c.in_ok-bytes-2.ensures.came in (
      as_long D.told D.clock D.image D.faults O.coherent O.opening O.bytes O.script O.faults c.args.id c.args.piece c.args.members _ c.in-Gave-2.bytes.items (seen_of c.read_member.new.seat)
          (seen_of c.read_member-2.new.seat) gave.1,
      λ coherent. content D.told D.clock D.image D.faults O.coherent O.opening O.bytes O.script O.faults c.args.id c.args.piece c.args.members _ c.in-Gave-2.bytes.items (seen_of c.read_member.new.seat)
          (seen_of c.read_member-2.new.seat) gave.1
          (λ view after old new stood stays read stands.
          c.what_is_given_is_the_content.ensures.read coherent view after old new c.args.piece.block c.in-Gave-2.bytes.items stood stays read stands),
    )

pub returns-in-Gave-3-clause-came : goal.returns-in-Gave-3-clause-came
returns-in-Gave-3-clause-came g c =
    let O = g.O.Opened in
    let D = g.D.Disk in
    let first = rw c.in-Nothing.is at c.in_ok-bytes.ensures.came in
    let second = rw c.in-Nothing-2.is at c.in_ok-bytes-2.ensures.came in
    let gave = rw c.in-Gave-3.is at c.in_ok-bytes-3.ensures.came in
    by_third D.told D.clock D.image D.faults O.coherent O.opening O.bytes O.script O.faults c.args.id c.args.piece c.args.members c.args.doubted c.args.members c.in-Gave-3.bytes.items c.in-Nothing.lack c.in-Nothing-2.lack (seen_of c.args.seat.now)
    (seen_of c.read_member.new.seat) (seen_of c.read_member-2.new.seat) (seen_of c.read_member-3.new.seat) (search rules) first.0 second.0 gave

pub returns-in-Gave-3-clause-known : goal.returns-in-Gave-3-clause-known
returns-in-Gave-3-clause-known g c =
    let O = g.O.Opened in
    let D = g.D.Disk in
    let gave = rw c.in-Gave-3.is at c.in_ok-bytes-3.ensures.came in (
      as_long D.told D.clock D.image D.faults O.coherent O.opening O.bytes O.script O.faults c.args.id c.args.piece c.args.members _ c.in-Gave-3.bytes.items (seen_of c.read_member-2.new.seat)
          (seen_of c.read_member-3.new.seat) gave.1,
      λ coherent. content D.told D.clock D.image D.faults O.coherent O.opening O.bytes O.script O.faults c.args.id c.args.piece c.args.members _ c.in-Gave-3.bytes.items (seen_of c.read_member-2.new.seat)
          (seen_of c.read_member-3.new.seat) gave.1
          (λ view after old new stood stays read stands.
          c.what_is_given_is_the_content.ensures.read coherent view after old new c.args.piece.block c.in-Gave-3.bytes.items stood stays read stands),
    )

-- ---- nobody did

pub returns-clause-came : goal.returns-clause-came
returns-clause-came g c =
    let O = g.O.Opened in
    let D = g.D.Disk in
    let first = rw c.in-Nothing.is at c.in_ok-bytes.ensures.came in
    let second = rw c.in-Nothing-2.is at c.in_ok-bytes-2.ensures.came in
    let third = rw c.in-Nothing-3.is at c.in_ok-bytes-3.ensures.came in
    by_none D.told D.clock D.image D.faults O.coherent O.opening O.bytes O.script O.faults c.args.id c.args.piece c.args.members c.args.doubted c.args.members c.in-Nothing.lack c.in-Nothing-2.lack
    c.in-Nothing-3.lack (seen_of c.args.seat.now) (seen_of c.read_member.new.seat) (seen_of c.read_member-2.new.seat) (seen_of c.read_member-3.new.seat) (search rules) first.0 second.0 third.0

pub returns-clause-known : goal.returns-clause-known
returns-clause-known g c coherent =
    let O = g.O.Opened in
    let first = rw c.in-Nothing.is at c.in_ok-bytes.ensures.came in
    let second = rw c.in-Nothing-2.is at c.in_ok-bytes-2.ensures.came in
    let third = rw c.in-Nothing-3.is at c.in_ok-bytes-3.ensures.came in
    let seen = seen_of c.args.seat.now in
    let one = seen_of c.read_member.new.seat in
    let two = seen_of c.read_member-2.new.seat in
    let three = seen_of c.read_member-3.new.seat in (
      doubted_among O.coherent O.opening O.bytes O.script c.args.id c.args.piece c.in-Nothing.lack c.in-Nothing-2.lack c.in-Nothing-3.lack _ _ _ one two three c.read_member-2.ensures.looked.goes_on
          c.read_member-3.ensures.looked.goes_on first.1 second.1 third.1 coherent,
      nobody_at O.coherent O.opening O.bytes O.script c.args.id c.args.piece c.args.members c.in-Nothing.lack c.in-Nothing-2.lack c.in-Nothing-3.lack one two three seen (search rules)
          c.read_member-2.ensures.looked.goes_on c.read_member-3.ensures.looked.goes_on
          (begins_through three two seen c.read_member-3.ensures.looked.goes_on (begins_through two one seen c.read_member-2.ensures.looked.goes_on c.read_member.ensures.looked.goes_on)) first.1 second.1 third.1 coherent
          (c.requires.may coherent),
    )

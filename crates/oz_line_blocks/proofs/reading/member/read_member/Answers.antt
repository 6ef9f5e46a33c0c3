use Rattle.std.proofs.Common.{inl, inr, refl, sym, ◌∙◌}
use Rattle.std.proofs.lemmas.Bool.{false≢true}
use Rattle.std.proofs.lemmas.Result.{IfOk-weaker}
use Rattle.oz_turn.specs.Seat.{seen_of}
use Rattle.oz_line_blocks.proofs.reading_lemmas.Known.{may_later}
use Rattle.oz_line_blocks.proofs.reading_lemmas.Told.{comes_from}
use Rattle.oz_line_blocks.proofs.reading.member.read_member.Goals as goal

pub returns-then-has-clause-came : goal.returns-then-has-clause-came
returns-then-has-clause-came g c =
    let among = c.has.ensures.0 c.if-has.true in
    (inl (among, refl, refl), (refl, λ coherent. c.requires.doubted coherent c.args.dn among))

pub read_locked-requires-clause-may : goal.read_locked-requires-clause-may
read_locked-requires-clause-may g c coherent =
    let O = g.O.Opened in
    may_later O.coherent O.opening O.bytes O.script c.args.wanted.id c.args.wanted.piece c.args.wanted.members (seen_of c.copy_member.new.seat) (seen_of c.args.seat.now) c.copy_member.ensures.looked.goes_on (c.requires.may coherent)

pub returns-in-Without-clause-came : goal.returns-in-Without-clause-came
returns-in-Without-clause-came g c =
    let copied = rw c.in-Without.is at c.in_ok-chunks.ensures.copied in
    (inr ((λ among. false≢true (sym c.if-has.false ∙ c.has.ensures.1 among)), copied.0), copied.1)

pub returns-in-Some-clause-came : goal.returns-in-Some-clause-came
returns-in-Some-clause-came g c =
    let copied = rw c.in-Chunks.is at c.in_ok-chunks.ensures.copied in
    let opens = rw (c.in-Some.is, c.deref.ensures.value) at c.in_ok-bytes.ensures.opens in
    ((λ among. false≢true (sym c.if-has.false ∙ c.has.ensures.1 among)), copied c.in-Some.bytes.items opens)

pub returns-clause-came : goal.returns-clause-came
returns-clause-came g c =
    let O = g.O.Opened in
    let D = g.D.Disk in
    IfOk-weaker c.read_locked.result _ _
    (λ one came. comes_from D.told D.clock D.image D.faults O.coherent O.opening O.bytes O.script O.faults c.args.wanted.id c.args.wanted.piece c.args.wanted.members c.args.wanted.doubted c.args.dn
    (seen_of c.args.seat.now) (seen_of c.copy_member.new.seat) (seen_of c.read_locked.new.seat) one (λ among. false≢true (sym c.if-has.false ∙ c.has.ensures.1 among)) came c.copy_member.ensures.looked.goes_on) c.read_locked.ensures.came

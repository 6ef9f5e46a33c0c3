use Rattle.std.proofs.Common.{◌≡◌, ℕ, Contains, ap, ◌∙◌, subst, sym}
use Rattle.oz_line_blocks.specs.declared.reading.lack.Lack.TheVariants as lacking
use Rattle.oz_line_blocks.specs.declared.reading.reading.Reading.TheVariants as readings
use Rattle.oz_line_blocks.specs.reading.Lacks.{AreDoubted, IsDoubted}
use Rattle.oz_line_blocks.specs.reading.Read.{IsKnownOf, MayRead, NobodyHasIt}
use Rattle.oz_requests.specs.declared.answer.Answer.TheVariants as answers
use Rattle.oz_requests.specs.declared.request.AskId.{AskId}
use Rattle.oz_turn.specs.Seat.{seen_of}
use Rattle.oz_underway.specs.laws.Going.{begins_itself, begins_through}
use Rattle.oz_at_work.specs.AtWork.{WorkView, id_of}
use Rattle.oz_at_work.proofs.Cutting.{cut_stays}
use Rattle.oz_at_work.proofs.Getting.{may_read, next_read}
use Rattle.oz_at_work.proofs.Staying.{doubted_still}
use Rattle.oz_at_work.proofs.at_work.LineAtWork.read.Goals as goal

pub returns-in_default-clause-stays : goal.returns-in_default-clause-stays
returns-in_default-clause-stays g c =
    let O = g.O.Opened in
    let seen = seen_of c.args.seat.now in
    cut_stays O seen seen c.args.self.now c.cut.new.self _ answers.OutOfMemory (begins_itself seen) tt c.cut.ensures c.requires.works

pub returns-in_default-members_of-clause-stays : goal.returns-in_default-members_of-clause-stays
returns-in_default-members_of-clause-stays g c =
    let O = g.O.Opened in
    cut_stays O (seen_of c.members_of.new.seat) (seen_of c.args.seat.now) c.args.self.now c.cut-in_default-members_of.new.self _ answers.OutOfMemory c.members_of.ensures.gone.goes_on tt c.cut-in_default-members_of.ensures c.requires.works

pub read_at_members-requires-clause-may : goal.read_at_members-requires-clause-may
read_at_members-requires-clause-may g c coherent =
    let O = g.O.Opened in
    let work : WorkView = c.args.self.now in
    let piece = c.in-Some.piece in
    let later = seen_of c.members_of.new.seat in
    let id : c.id-id.result ≡ id_of work.line work.asked = c.id-id.ensures ∙ ap (λ (w : WorkView). id_of work.line w.asked) c.self.view_is in
    subst (λ (i : AskId). MayRead O.coherent O.opening O.bytes O.script i piece c.in-Some-members_of.members later) (sym id)
    (may_read O.coherent O.opening O.bytes O.script (seen_of c.args.seat.now) work piece coherent (c.requires.works coherent) c.in-Some.ensures.its (c.opens.ensures.store coherent).disks
    later c.members_of.ensures.gone.goes_on c.members_of.ensures.follow c.in-Some-members_of.members (c.in-Some-members_of.ensures.are coherent))

pub read_at_members-requires-clause-doubted : goal.read_at_members-requires-clause-doubted
read_at_members-requires-clause-doubted g c coherent =
    let O = g.O.Opened in
    let work : WorkView = c.args.self.now in
    let piece = c.in-Some.piece in
    let seen = seen_of c.args.seat.now in
    let later = seen_of c.members_of.new.seat in
    let id : c.id-id.result ≡ id_of work.line work.asked = c.id-id.ensures ∙ ap (λ (w : WorkView). id_of work.line w.asked) c.self.view_is in
    let fit = next_read O.coherent O.opening O.bytes O.script seen work piece coherent (c.requires.works coherent) c.in-Some.ensures.its in
    subst (λ (i : AskId). AreDoubted later i piece.block c.self.inside.doubted) (sym id)
    (subst (λ (w : WorkView). AreDoubted later (id_of work.line work.asked) piece.block w.doubted) (sym c.self.view_is)
    (doubted_still later seen (id_of work.line work.asked) piece.block work.doubted c.members_of.ensures.gone.goes_on fit.are_doubted))

pub returns-in-Ok-Bytes-clause-stays : goal.returns-in-Ok-Bytes-clause-stays
returns-in-Ok-Bytes-clause-stays g c =
    let O = g.O.Opened in
    let seen = seen_of c.args.seat.now in
    let later = seen_of c.read_at_members.new.seat in
    let known : IsKnownOf O.coherent O.opening O.bytes O.script c.id-id.result c.in-Some.piece later (readings.Bytes c.in-Ok-Bytes.bytes) =
    rw (c.in-Ok-Bytes.is, c.in-Ok-Bytes.field-0-is) at c.read_at_members.ensures.known in
    record {
      line = c.take_in.ensures.line;
      works = λ coherent. c.take_in.ensures.works coherent later (record {
        before = seen;
        at_work = c.requires.works coherent;
        goes_on = begins_through later (seen_of c.members_of.new.seat) seen c.read_at_members.ensures.looked.goes_on c.members_of.ensures.gone.goes_on;
        follow = c.read_at_members.ensures.follow c.members_of.ensures.follow;
        piece = c.in-Some.piece;
        its = c.in-Some.ensures.its;
        has = known.1 coherent;
      });
      went_on = λ went. c.take_in.ensures.went_on;
    }

pub returns-in-Ok-Nobody-clause-stays : goal.returns-in-Ok-Nobody-clause-stays
returns-in-Ok-Nobody-clause-stays g c =
    let O = g.O.Opened in
    let work : WorkView = c.args.self.now in
    let seen = seen_of c.args.seat.now in
    let later = seen_of c.read_at_members.new.seat in
    let id : c.id-id.result ≡ id_of work.line work.asked = c.id-id.ensures ∙ ap (λ (w : WorkView). id_of work.line w.asked) c.self.view_is in
    let known : IsKnownOf O.coherent O.opening O.bytes O.script c.id-id.result c.in-Some.piece later (readings.Nobody c.in-Ok-Nobody.lacks) =
    rw (c.in-Ok-Nobody.is, c.in-Ok-Nobody.field-0-is) at c.read_at_members.ensures.known in
    record {
      line = c.miss.ensures.line;
      works = λ coherent. c.miss.ensures.works coherent later (record {
        before = seen;
        at_work = c.requires.works coherent;
        goes_on = begins_through later (seen_of c.members_of.new.seat) seen c.read_at_members.ensures.looked.goes_on c.members_of.ensures.gone.goes_on;
        whole = (c.opens.ensures.store coherent).disks;
        its = c.in-Some.ensures.its;
        doubted = subst (λ (i : AskId). (dn : ℕ) → Contains c.in-Ok-Nobody.lacks (lacking.Doubted dn) → IsDoubted later i c.in-Some.piece.block dn) id (known coherent).0;
        nobody = subst (λ (i : AskId). NobodyHasIt O.coherent O.opening O.bytes O.script i c.in-Some.piece c.in-Ok-Nobody.lacks later) id (known coherent).1;
      });
      went_on = λ went. c.miss.ensures.went_on;
    }

pub returns-in-Err-clause-stays : goal.returns-in-Err-clause-stays
returns-in-Err-clause-stays g c =
    let O = g.O.Opened in
    let seen = seen_of c.args.seat.now in
    let later = seen_of c.read_at_members.new.seat in
    cut_stays O later seen c.args.self.now c.cut-in-Err.new.self _ answers.OutOfMemory (begins_through later (seen_of c.members_of.new.seat) seen c.read_at_members.ensures.looked.goes_on c.members_of.ensures.gone.goes_on) tt c.cut-in-Err.ensures c.requires.works

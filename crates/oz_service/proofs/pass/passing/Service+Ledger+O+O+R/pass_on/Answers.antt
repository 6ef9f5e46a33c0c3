use Rattle.std.proofs.Common.{◌≡◌, ◌∙◌, false, true, Ok, ap, sym}
use Rattle.oz_names.specs.declared.limits.TheConstants.{STRIPES}
use Rattle.oz_service.specs.declared.pass.passing.Passed.TheVariants.{Idle}
use Rattle.oz_service.proofs.Going.{begins_same, begins_then, goes_then, looked_goes}
use Rattle.oz_service.proofs.Passing.{idle_of, neither, rows_around, sent_around, work_around}
use Rattle.oz_service.proofs.pass.passing.Service+Ledger+O+O+R.pass_on.Goals as goal

pub returns-in_err-purged-clause-goes_on : goal.returns-in_err-purged-clause-goes_on
returns-in_err-purged-clause-goes_on g c =
    let first = c.args.self.now in
    let asked = c.ask_again.new.self in
    let looked = c.is_flushed-flushed.new.self in
    let purged = c.purge_where.new.self in
    goes_then first asked purged c.in_ok-asked.ensures.goes_on
    (goes_then asked looked purged (looked_goes asked looked c.is_flushed-flushed.ensures.looked) c.in_err-purged.ensures.goes_on)

pub returns-in_err-worked-clause-goes_on : goal.returns-in_err-worked-clause-goes_on
returns-in_err-worked-clause-goes_on g c =
    let first = c.args.self.now in
    let asked = c.ask_again.new.self in
    let looked = c.is_flushed-flushed.new.self in
    let purged = c.purge_where.new.self in
    let worked = c.work_off.new.self in
    goes_then first asked worked c.in_ok-asked.ensures.goes_on
    (goes_then asked looked worked (looked_goes asked looked c.is_flushed-flushed.ensures.looked)
    (goes_then looked purged worked c.in_ok-purged.ensures.goes_on c.in_err-worked.ensures.goes_on))

pub returns-in_err-sent-clause-goes_on : goal.returns-in_err-sent-clause-goes_on
returns-in_err-sent-clause-goes_on g c =
    let first = c.args.self.now in
    let asked = c.ask_again.new.self in
    let looked = c.is_flushed-flushed.new.self in
    let purged = c.purge_where.new.self in
    let worked = c.work_off.new.self in
    let sent = c.send.new.self in
    goes_then first asked sent c.in_ok-asked.ensures.goes_on
    (goes_then asked looked sent (looked_goes asked looked c.is_flushed-flushed.ensures.looked)
    (goes_then looked purged sent c.in_ok-purged.ensures.goes_on
    (goes_then purged worked sent c.in_ok-worked.ensures.goes_on (looked_goes worked sent c.in_err-sent.ensures.looked))))

pub returns-clause-goes_on : goal.returns-clause-goes_on
returns-clause-goes_on g c =
    let first = c.args.self.now in
    let asked = c.ask_again.new.self in
    let looked = c.is_flushed-flushed.new.self in
    let purged = c.purge_where.new.self in
    let worked = c.work_off.new.self in
    let sent = c.send.new.self in
    goes_then first asked sent c.in_ok-asked.ensures.goes_on
    (goes_then asked looked sent (looked_goes asked looked c.is_flushed-flushed.ensures.looked)
    (goes_then looked purged sent c.in_ok-purged.ensures.goes_on
    (goes_then purged worked sent c.in_ok-worked.ensures.goes_on (looked_goes worked sent c.in_ok-sent.ensures.looked))))

pub returns-clause-idle : goal.returns-clause-idle
returns-clause-idle g c = λ coherent is.
    let O = g.O.Opened in
    let rows = g.L.Loaded.rows in
    let first = c.args.self.now in
    let asked = c.ask_again.new.self in
    let looked = c.is_flushed-flushed.new.self in
    let purged = c.purge_where.new.self in
    let worked = c.work_off.new.self in
    let sent = c.send.new.self in
    let one = begins_then first.seen asked.seen looked.seen c.in_ok-asked.ensures.goes_on.seen c.is_flushed-flushed.ensures.looked.seen in
    let two = begins_then first.seen looked.seen purged.seen one c.in_ok-purged.ensures.goes_on.seen in
    let three = begins_then first.seen purged.seen worked.seen two c.in_ok-worked.ensures.goes_on.seen in
    let last = c.in_ok-sent.ensures.looked.seen in
    let same : c.outcome_of.result ≡ Idle = cc in
    let idle = idle_of c.either-any.result c.is_flushed-flushed.result (sym c.outcome_of.ensures ∙ same) in
    let both = neither c.either.result c.either-2.result (sym c.either-any.ensures ∙ idle.0) in
    let left = neither c.in_ok-asked.asked c.in_ok-purged.purged (sym c.either.ensures ∙ both.0) in
    let right = neither c.in_ok-worked.worked c.in_ok-sent.sent (sym c.either-2.ensures ∙ both.1) in record {
      rows = rows_around first.seen looked.seen purged.seen sent.seen one (begins_then purged.seen worked.seen sent.seen c.in_ok-worked.ensures.goes_on.seen last)
          O.coherent O.opening rows STRIPES (c.in_ok-purged.ensures.idle idle.1 (ap Ok left.1));
      snapshots = work_around first.seen purged.seen worked.seen sent.seen two last O.opening rows STRIPES (c.in_ok-worked.ensures.idle coherent (ap Ok right.0));
      transactions = sent_around first.seen worked.seen sent.seen sent.seen three (begins_same sent.seen) O.opening (c.in_ok-sent.ensures.idle coherent (ap Ok right.1));
    }

use Rattle.std.proofs.Common.{◌≡◌, ◌≤◌, ℕ, nat_lt, true, false, List, None, is_some, length, rules, ap, sym, ◌∙◌, subst, arith}
use Rattle.std.proofs.lemmas.Bool.Decides.{nat_tests}
use Rattle.oz_cache.specs.Cache.{last_epoch, newest}
use Rattle.oz_fields.specs.declared.block.Block.{Block}
use Rattle.oz_locks.specs.Pins.{pinned_blocks}
use Rattle.oz_locks.specs.Reclaims.{AreFound}
use Rattle.oz_reclaim.specs.Work.{IsChainWork}
use Rattle.oz_rows.specs.RowMaps.{row_of}
use Rattle.oz_om.proofs.Remains.{answered, left_marked_by, left_unflushed}
use Rattle.oz_om.proofs.Works.{none_of}
use Rattle.oz_om.proofs.worked.has_none_left.Goals as goal

pub returns-then-waits-clause-answered : goal.returns-then-waits-clause-answered
returns-then-waits-clause-answered g c = λ coherent.
    let s = c.args.stripe.now in
    let above : nat_lt s.flushed (last_epoch s.cache) ≡ true = search rules in
    left_unflushed g.O.Opened.coherent g.L.Loaded.coherent g.O.Opened.opening g.O.Opened.bytes g.O.Opened.script g.L.Loaded.rows g.L.Loaded.last_index
    g.L.Loaded.keeps c.requires.opens s c.requires.rests c.requires.follow coherent c.is_kept.ensures.kept above

pub returns-then-is_some-clause-answered : goal.returns-then-is_some-clause-answered
returns-then-is_some-clause-answered g c = λ coherent.
    let s = c.args.stripe.now in
    let is : is_some c.in_ok-work.work ≡ true = search rules in
    left_marked_by g.O.Opened.coherent g.L.Loaded.coherent g.O.Opened.opening g.O.Opened.bytes g.O.Opened.script g.L.Loaded.rows g.L.Loaded.last_index
    g.L.Loaded.keeps c.requires.opens s c.requires.rests c.requires.follow coherent c.is_kept.ensures.kept c.in_ok-work.work is c.in_ok-work.ensures.work

pub returns-clause-answered : goal.returns-clause-answered
returns-clause-answered g c = λ coherent.
    let s = c.args.stripe.now in
    let tables = row_of s.cache.durable.rows in
    let found = c.in_ok-found.found in
    let same = c.sweep.ensures.same ∙ (λ i. record (c.next_work.ensures.same i) { reclaim = c.sweep.new.self.reclaim }) in
    let none : is_some c.in_ok-work.work ≡ false = search rules in
    let below : nat_lt s.flushed (last_epoch s.cache) ≡ false = search rules in
    let swept = c.in_ok-sweep.ensures.swept (c.requires.opens.agrees.0 coherent) in
    let here = subst (λ v. AreFound (row_of v.cache.durable.rows) (pinned_blocks c.sweep.new.self.pins) 1 found) c.next_work.ensures.same
    (c.in_ok-found.ensures.found (row_of c.next_work.new.self.cache.durable.rows) swept) in
    let are = subst (λ (l : List Block). AreFound tables l 1 found) (λ i. pinned_blocks (same i).pins) here in
    answered g.O.Opened.coherent g.L.Loaded.coherent g.O.Opened.opening g.O.Opened.bytes g.O.Opened.script g.L.Loaded.rows g.L.Loaded.last_index
    g.L.Loaded.keeps c.requires.opens s c.requires.rests c.requires.follow coherent c.is_kept.ensures.kept c.requires.untold found are below
    (none_of c.in_ok-work.work none (IsChainWork (newest s.cache)) c.in_ok-work.ensures.work) c.is_empty.result
    (λ e. search rules) (λ e. search rules)

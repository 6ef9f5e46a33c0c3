use Rattle.std.proofs.Common.{ℕ, sym, ◌∙◌, subst}
use Rattle.oz_cache.specs.Cache.{CacheView, newest}
use Rattle.oz_core.specs.Manager.{namespace_of}
use Rattle.oz_om.specs.declared.decider.outcome.Outcome.{Outcome}
use Rattle.oz_om.specs.decider.Outcomes.{IfDecided}
use Rattle.oz_om.specs.decider.Promises.{IsDecision}
use Rattle.oz_decision.specs.Meets.{Stand}
use Rattle.oz_sound.specs.Sound.{IsSoundButRenames}
use Rattle.oz_store.specs.striped.Shares.{share_of}
use Rattle.oz_store.specs.granted.Empty.{IsPoolEmpty}
use Rattle.oz_om.specs.Held.{IsOpenAsk}
use Rattle.oz_om.proofs.Empty.{no_block}
use Rattle.oz_om.proofs.Picking.{held_pooled, pooled}
use Rattle.oz_om.proofs.Tellable.{but_renames}
use Rattle.oz_om.proofs.making.make.Goals as goal

pub returns-in-Some-grant_of-clause-made : goal.returns-in-Some-grant_of-clause-made
returns-in-Some-grant_of-clause-made g c = record {
  request = c.in-Some.request.now;
  pick = c.in-Ok.pick;
  ask = subst (λ (n : ℕ). IsOpenAsk c.args.ledger.now.story c.args.place c.args.id n c.in-Some.request.now) (c.number.ensures ∙ λ i. (sym c.in-Ok.ensures.same i).number) c.in-Some.ensures;
  picked = c.in-Ok.ensures.picked;
  made = subst (λ (cache : CacheView). IsDecision (newest cache) c.in-Some.request.now c.in-Ok.pick c.in-Ok-Decided.decision) c.cached.ensures
      (subst (λ (o : Outcome). IfDecided o (λ decision. IsDecision (newest c.cached.result.now) c.in-Some.request.now c.in-Ok.pick decision)) c.in-Ok-Decided.field-0-is
      c.in-Ok-Decided.ensures.decision);
}

pub returns-in-Some-grant_of-clause-granted : goal.returns-in-Some-grant_of-clause-granted
returns-in-Some-grant_of-clause-granted g c =
    pooled g.L.Loaded.coherent c.pick_for.new.stripe c.in-Some.request.now c.in-Ok.pick c.in-Ok-Decided.decision.reply c.in-Some-grant_of.granted
    c.in-Ok.ensures.picked c.in-Some-grant_of.ensures

pub returns-in-Ok-NoBlock-clause-refused : goal.returns-in-Ok-NoBlock-clause-refused
returns-in-Ok-NoBlock-clause-refused g c =
    let s = c.pick_for.new.stripe in
    let held = held_pooled g.O.Opened.coherent g.O.Opened.opening g.O.Opened.bytes g.O.Opened.script g.L.Loaded.rows c.args.ledger.now.story
    c.args.stripe.now s c.in-Ok.ensures.same c.requires.held in
    let ask = subst (λ (n : ℕ). IsOpenAsk c.args.ledger.now.story c.args.place c.args.id n c.in-Some.request.now) (c.number.ensures ∙ λ i. (sym c.in-Ok.ensures.same i).number) c.in-Some.ensures in (
      ask.in_time,
      λ coherent.
          let stand = but_renames (newest s.cache) (share_of s.number (namespace_of g.O.Opened.opening c.args.ledger.now.story)) (held.keeps.stands coherent).stand in
          let wants = (c.in-Ok-NoBlock.ensures.no_block (share_of s.number (namespace_of g.O.Opened.opening c.args.ledger.now.story))
          (subst (λ (cache : CacheView). Stand IsSoundButRenames (newest cache) (share_of s.number (namespace_of g.O.Opened.opening c.args.ledger.now.story))) (sym c.cached.ensures) stand)).0 c.in-Ok-NoBlock.field-0-is in
          subst (λ (n : ℕ). IsPoolEmpty g.O.Opened.opening c.args.ledger.now.story c.args.id n) (sym c.number-in-Ok-NoBlock.ensures)
          (no_block g.O.Opened.coherent g.L.Loaded.coherent g.O.Opened.opening g.O.Opened.bytes g.O.Opened.script g.L.Loaded.rows g.L.Loaded.last_index g.L.Loaded.keeps
          c.requires.opens c.a_pool_has_what_is_free.ensures s c.args.ledger.now.story held c.args.id coherent
          c.args.place c.in-Some.request.now c.in-Ok.pick ask c.in-Ok.ensures.picked wants),
    )

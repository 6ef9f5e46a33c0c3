use Rattle.std.proofs.Common.{◌≡◌, Bool, true, false, not, Some, None, IsSome, refl, sym, ap, subst, ◌∙◌}
use Rattle.std.specs.FinMap.{from_entries}
use Rattle.std.proofs.lemmas.Bool.{OnTrue_at, OnTrue_from, OnFalse_at, OnFalse_from, false≢true}
use Rattle.oz_dellog.specs.declared.log.DelLog.TheInside.{Inside}
use Rattle.oz_dellog.specs.Logged.{is_acknowledged_by}
use Rattle.oz_dellog.specs.Log.{Log}
use Rattle.oz_dellog.specs.Index.{IsIndexed}
use Rattle.oz_dellog.proofs.Sound.{is_changed, asked, acks, stays}
use Rattle.oz_dellog.proofs.log.DelLog.ack.Goals as goal
use Rattle.oz_dellog.proofs.log.DelLog.ack.Goals.{in-Some, in-None}

twice : (a b : Bool) → a ≡ not b → b ≡ not a
twice a true h = ap not (sym h)
twice a false h = ap not (sym h)

abbrev seen : Inside → Log
seen inside = record { last = inside.last; unretired = from_entries inside.unretired.entries }

pub invariant_of-self : goal.invariant_of-self
invariant_of-self c =
    elim c.match-get_mut.branch [
      | in-Some w ↦
          let through = c.get_mut.follows.holds w.acknowledge.new.logged in
          subst (λ (inside : Inside). IsIndexed inside.last inside.unretired inside.index) (sym w.self-inside-is)
          (is_changed c.self.inside.last c.args.number c.self.inside.unretired (c.get_mut.follows.lender w.acknowledge.new.logged) c.self.inside.index w.in-Some.logged.now w.acknowledge.new.logged
          c.self.invariant (sym w.in-Some.ensures.value) through.0 through.4 w.acknowledge.ensures.container)
      | in-None w ↦
          subst (λ (inside : Inside). IsIndexed inside.last inside.unretired inside.index) (sym w.self-inside-is)
          (subst (λ m. IsIndexed c.self.inside.last m c.self.inside.index) (sym c.get_mut.follows.holds-at-none) c.self.invariant)
    ]

pub returns-clause-answer : goal.returns-clause-answer
returns-clause-answer c =
    elim c.match-get_mut.branch [
      | in-Some w ↦ w.result-is ∙ twice _ _ w.acknowledge.ensures.before
          ∙ asked (λ logged. not (is_acknowledged_by logged c.args.dn)) c.args.self.now c.self.inside.last c.args.number c.self.inside.unretired (Some w.in-Some.logged.now) c.self.view_is w.in-Some.ensures.value
      | in-None w ↦ w.result-is
          ∙ asked (λ logged. not (is_acknowledged_by logged c.args.dn)) c.args.self.now c.self.inside.last c.args.number c.self.inside.unretired None c.self.view_is w.in-None.ensures.value
    ]

pub returns-clause-noted : goal.returns-clause-noted
returns-clause-noted c =
    OnTrue_from c.match-get_mut.result _ (λ yes. elim c.match-get_mut.branch [
      | in-Some w ↦
          let through = c.get_mut.follows.holds w.acknowledge.new.logged in
          ap seen w.self-inside-is
          ∙ acks c.args.self.now c.self.inside.last c.args.number c.args.dn c.self.inside.unretired (c.get_mut.follows.lender w.acknowledge.new.logged) w.in-Some.logged.now w.acknowledge.new.logged
          c.self.view_is w.in-Some.ensures.value (OnTrue_at (sym w.result-is ∙ yes) w.acknowledge.ensures.new) ((through.3 (subst IsSome w.in-Some.ensures.value refl)).0)
      | in-None w ↦ absurd (false≢true (sym w.result-is ∙ yes))
    ])

pub returns-clause-refused : goal.returns-clause-refused
returns-clause-refused c =
    OnFalse_from c.match-get_mut.result _ (λ no. elim c.match-get_mut.branch [
      | in-Some w ↦
          let through = c.get_mut.follows.holds w.acknowledge.new.logged in
          ap seen w.self-inside-is
          ∙ stays c.args.self.now c.self.inside.last c.args.number c.self.inside.unretired (c.get_mut.follows.lender w.acknowledge.new.logged) w.in-Some.logged.now w.acknowledge.new.logged
          c.self.view_is w.in-Some.ensures.value (OnFalse_at (sym w.result-is ∙ no) w.acknowledge.ensures.again) through.0
      | in-None w ↦ ap seen w.self-inside-is ∙ ap (λ m. seen (record { last = c.self.inside.last; unretired = m; index = c.self.inside.index })) c.get_mut.follows.holds-at-none ∙ c.self.view_is
    ])

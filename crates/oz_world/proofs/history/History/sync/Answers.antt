use Rattle.std.proofs.Common.{◌+◌, ◌≡◌, ◌∷◌, [], List, refl, sym, ◌∙◌, ap, subst, arith, length, length-append}
use Rattle.oz_world.specs.Disk.{Same, Ticks, IsStable}
use Rattle.oz_world.specs.Record.{images, images_since, synced_count}
use Rattle.oz_world.specs.inner.Contents.{contents}
use Rattle.oz_world.specs.declared.history.Change.TheVariants.{Sync}
use Rattle.oz_world.specs.declared.history.TimedChange.{TimedChange}
use Rattle.oz_world.proofs.Pushes.{pushed}
use Rattle.oz_world.proofs.Records.{by_later, by_push, contents-push, images-push, ticks_pass, ticks_push, stable_push, synced_count-push_sync}
use Rattle.oz_world.specs.laws.Present.{AreBy, until_all}
use Rattle.oz_world.proofs.history.History.sync.Goals as goal

pub invariant_of-self-clause-past : goal.invariant_of-self-clause-past
invariant_of-self-clause-past c =
    let all = pushed _ _ _ _ _ (c.push.ensures.succeeds (c.args.self.now.spare (omega arith))) refl c.push.ensures.items in
    subst (AreBy (c.args.self.now.clock + 1)) (sym all) (by_push c.args.self.now.clock c.args.self.now.entries.items (record { moment = c.args.self.now.clock + 1; change = Sync }) c.args.self.now.past refl)

pub invariant_of-self-else-self-len-clause-past : goal.invariant_of-self-else-self-len-clause-past
invariant_of-self-else-self-len-clause-past c = by_later c.args.self.now.clock (c.args.self.now.clock + 1) c.args.self.now.entries.items (omega arith) c.args.self.now.past

pub returns-else-self-len-clause-time : goal.returns-else-self-len-clause-time
returns-else-self-len-clause-time c = ticks_pass c.args.self.now.first.items c.args.self.now.entries.items c.args.self.now.clock c.args.self.now.past

pub returns-then-self-len-clause-contents : goal.returns-then-self-len-clause-contents
returns-then-self-len-clause-contents c =
    let all = pushed _ _ _ _ _ (c.push.ensures.succeeds (c.args.self.now.spare (omega arith))) refl c.push.ensures.items in
    ap (contents c.args.self.now.first.items) all ∙ contents-push c.args.self.now.first.items c.args.self.now.entries.items (record { moment = c.args.self.now.clock + 1; change = Sync })

pub returns-then-self-len-clause-time : goal.returns-then-self-len-clause-time
returns-then-self-len-clause-time c =
    let all = pushed _ _ _ _ _ (c.push.ensures.succeeds (c.args.self.now.spare (omega arith))) refl c.push.ensures.items in
    subst (λ (l : List TimedChange). Ticks Same c.args.self.now.clock (c.args.self.now.clock + 1) (images_since c.args.self.now.first.items c.args.self.now.entries.items) (images_since c.args.self.now.first.items l)) (sym all)
    (ticks_push c.args.self.now.first.items c.args.self.now.entries.items (record { moment = c.args.self.now.clock + 1; change = Sync }) c.args.self.now.clock c.args.self.now.past refl)

pub returns-then-self-len-clause-stable : goal.returns-then-self-len-clause-stable
returns-then-self-len-clause-stable c =
    let all = pushed _ _ _ _ _ (c.push.ensures.succeeds (c.args.self.now.spare (omega arith))) refl c.push.ensures.items in
    subst (λ (l : List TimedChange). IsStable (images_since c.args.self.now.first.items l) (c.args.self.now.clock + 1) (contents c.args.self.now.first.items c.args.self.now.entries.items)) (sym all)
    (stable_push c.args.self.now.first.items c.args.self.now.entries.items (record { moment = c.args.self.now.clock + 1; change = Sync }) c.args.self.now.clock c.args.self.now.past refl refl)

pub returns-else-self-len-clause-stable : goal.returns-else-self-len-clause-stable
returns-else-self-len-clause-stable c left h =
    let all = until_all (c.args.self.now.clock + 1) c.args.self.now.entries.items (by_later c.args.self.now.clock (c.args.self.now.clock + 1) c.args.self.now.entries.items (omega arith) c.args.self.now.past) in
    c.args.self.now.stable (omega (arith, c.args.self.now.within)) left (subst (λ (l : List TimedChange). images c.args.self.now.first.items (λ bytes. bytes ≡ c.args.self.now.first.items) l left) all h)

pub invariant_of-self-clause-counted : goal.invariant_of-self-clause-counted
invariant_of-self-clause-counted c =
    let all = pushed _ _ _ _ _ (c.push.ensures.succeeds (c.args.self.now.spare (omega arith))) refl c.push.ensures.items in
    let size : c.len-self.result ≡ length c.args.self.now.entries.items + 1 =
    omega (arith, c.len-self.ensures, c.push.new.self.ok.0, ap length all, length-append c.args.self.now.entries.items (record { moment = c.args.self.now.clock + 1; change = Sync } ∷ [])) in
    size ∙ sym (ap synced_count all ∙ synced_count-push_sync c.args.self.now.entries.items (record { moment = c.args.self.now.clock + 1; change = Sync }) refl)

pub invariant_of-self-clause-stable : goal.invariant_of-self-clause-stable
invariant_of-self-clause-stable c is left h =
    let entry : TimedChange = record { moment = c.args.self.now.clock + 1; change = Sync } in
    let first = c.args.self.now.first.items in
    let all = pushed _ _ _ _ _ (c.push.ensures.succeeds (c.args.self.now.spare (omega arith))) refl c.push.ensures.items in
    let last : left ≡ contents first c.args.self.now.entries.items =
    images-push first (λ bytes. bytes ≡ first) c.args.self.now.entries.items entry left (subst (λ (l : List TimedChange). images first (λ bytes. bytes ≡ first) l left) all h) in
    last ∙ sym (ap (contents first) all ∙ contents-push first c.args.self.now.entries.items entry)

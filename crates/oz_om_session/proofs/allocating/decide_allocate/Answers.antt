use Rattle.std.proofs.Common.{◌≡◌, ◌≤◌, ◌↔◌, [], length, None, sym, ◌∙◌, rules}
use Rattle.oz_cache.specs.Cache.{newest}
use Rattle.oz_model.specs.Answers.{Answers}
use Rattle.oz_namespace.specs.declared.namespace.Namespace.{Namespace}
use Rattle.oz_requests.specs.Names.{name_fault}
use Rattle.oz_sound.specs.Sound.{IsSound, IsSoundButRenames}
use Rattle.oz_decision.specs.Meets.{AreInGrammar, IsSafe, Stand, Meets}
use Rattle.oz_decision.specs.laws.OneRow.{has_bytes, nothing_is_safe, stand_but_renames}
use Rattle.oz_decision.specs.laws.Refusing.{refused}
use Rattle.oz_om_session.specs.Picks.{IsNew}
use Rattle.oz_om_session.specs.Records.{recorded_grant}
use Rattle.oz_om_session.proofs.GrantRecords.{safe, few_bytes, decided, as_recorded, none_decided}
use Rattle.oz_om_session.proofs.GrantMeets.{meets, meets_all}
use Rattle.oz_om_session.proofs.allocating.decide_allocate.Goals as goal

pub returns-in-Some-clause-meets : goal.returns-in-Some-clause-meets
returns-in-Some-clause-meets c =
    let made = c.unchanged.ensures in
    rw (made.reply, made.bytes, made.changes) (λ fresh namespace stand. refused IsSound (newest c.args.cached.now) namespace c.args.request.now c.in-Some.code (sym c.name_fault.ensures ∙ c.in-Some.is) stand)

pub returns-in-Some-clause-but_renames : goal.returns-in-Some-clause-but_renames
returns-in-Some-clause-but_renames c =
    let made = c.unchanged.ensures in
    rw (made.reply, made.bytes, made.changes) (λ fresh namespace stand. refused IsSoundButRenames (newest c.args.cached.now) namespace c.args.request.now c.in-Some.code (sym c.name_fault.ensures ∙ c.in-Some.is) stand)

pub returns-in-Some-clause-safe : goal.returns-in-Some-clause-safe
returns-in-Some-clause-safe c =
    let made = c.unchanged.ensures in
    rw (made.bytes, made.changes) (λ fit. nothing_is_safe (newest c.args.cached.now) fit)

pub returns-clause-meets : goal.returns-clause-meets
unfolding Answers
returns-clause-meets c =
    let all = newest c.args.cached.now in
    let request = c.args.request.now in
    let named : name_fault request ≡ None = search rules in
    let it = c.allocate_named.ensures in
    decided all c.args.pick request c.allocate_named.result (λ d. IsNew all c.args.pick → (namespace : Namespace) → Stand IsSound all namespace → Meets IsSound all namespace request d.reply d.bytes d.changes) it.reply it.allowed it.picked it.changes it.operations
    (λ d is fresh namespace stand. as_recorded all c.args.pick request d is (Meets IsSound all namespace request d.reply) (meets_all all c.args.pick c.requires.pick request c.requires.family named fresh namespace d.reply is.allowed is.picked stand (is.reply namespace (stand_but_renames all namespace stand))))

pub returns-clause-but_renames : goal.returns-clause-but_renames
unfolding Answers
returns-clause-but_renames c =
    let all = newest c.args.cached.now in
    let request = c.args.request.now in
    let named : name_fault request ≡ None = search rules in
    let it = c.allocate_named.ensures in
    decided all c.args.pick request c.allocate_named.result (λ d. IsNew all c.args.pick → (namespace : Namespace) → Stand IsSoundButRenames all namespace → Meets IsSoundButRenames all namespace request d.reply d.bytes d.changes) it.reply it.allowed it.picked it.changes it.operations
    (λ d is fresh namespace stand. as_recorded all c.args.pick request d is (Meets IsSoundButRenames all namespace request d.reply) (meets all c.args.pick c.requires.pick request c.requires.family named fresh namespace d.reply is.allowed is.picked stand (is.reply namespace stand)))

pub returns-clause-none : goal.returns-clause-none
returns-clause-none c =
    let all = newest c.args.cached.now in
    let it = c.allocate_named.ensures in
    none_decided all c.args.pick c.requires.pick c.args.request.now c.requires.family (search rules) c.allocate_named.result it.reply it.picked it.none

pub returns-clause-safe : goal.returns-clause-safe
returns-clause-safe c =
    let all = newest c.args.cached.now in
    let request = c.args.request.now in
    let named : name_fault request ≡ None = search rules in
    let it = c.allocate_named.ensures in
    decided all c.args.pick request c.allocate_named.result (λ d. AreInGrammar all → IsSafe all d.bytes d.changes) it.reply it.allowed it.picked it.changes it.operations
    (λ d is fit. as_recorded all c.args.pick request d is (IsSafe all) (safe all c.args.pick c.requires.pick request c.requires.family named d.reply is.allowed is.picked fit))

pub returns-clause-recorded : goal.returns-clause-recorded
returns-clause-recorded c =
    let all = newest c.args.cached.now in
    let request = c.args.request.now in
    let it = c.allocate_named.ensures in
    decided all c.args.pick request c.allocate_named.result (λ d. (d.bytes ≡ []) ↔ (d.changes ≡ [])) it.reply it.allowed it.picked it.changes it.operations
    (λ d is. as_recorded all c.args.pick request d is (λ b c. (b ≡ []) ↔ (c ≡ [])) (has_bytes (recorded_grant all request d.reply)))

pub returns-clause-size : goal.returns-clause-size
returns-clause-size c =
    let all = newest c.args.cached.now in
    let request = c.args.request.now in
    let named : name_fault request ≡ None = search rules in
    let it = c.allocate_named.ensures in
    decided all c.args.pick request c.allocate_named.result (λ d. length d.bytes ≤ 6304) it.reply it.allowed it.picked it.changes it.operations
    (λ d is. as_recorded all c.args.pick request d is (λ b c. length b ≤ 6304) (few_bytes all c.args.pick c.requires.pick request c.requires.family named d.reply is.allowed is.picked))

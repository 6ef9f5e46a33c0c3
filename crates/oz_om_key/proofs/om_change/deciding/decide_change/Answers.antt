use Rattle.std.proofs.Common.{◌≡◌, ◌≤◌, ◌↔◌, [], length, None, sym, ◌∙◌, rules}
use Rattle.oz_cache.specs.Cache.{newest}
use Rattle.oz_model.specs.Answers.{Answers}
use Rattle.oz_namespace.specs.declared.namespace.Namespace.{Namespace}
use Rattle.oz_requests.specs.Names.{name_fault}
use Rattle.oz_sound.specs.Sound.{IsSound, IsSoundButRenames}
use Rattle.oz_decision.specs.Meets.{AreInGrammar, IsSafe, Stand, Meets}
use Rattle.oz_decision.specs.laws.OneRow.{has_bytes, nothing_is_safe, stand_but_renames}
use Rattle.oz_decision.specs.laws.Refusing.{refused}
use Rattle.oz_om_key.proofs.om_change_lemmas.Records.{follows, decided, as_recorded}
use Rattle.oz_om_key.proofs.om_change_lemmas.Meeting.{meets, meets_all}
use Rattle.oz_om_key.proofs.om_change.deciding.decide_change.Goals as goal

pub returns-in-Some-clause-meets : goal.returns-in-Some-clause-meets
returns-in-Some-clause-meets c =
    let made = c.unchanged.ensures in
    rw (made.reply, made.bytes, made.changes) (λ namespace stand. refused IsSound (newest c.args.cached.now) namespace c.args.request.now c.in-Some.code (sym c.name_fault.ensures ∙ c.in-Some.is) stand)

pub returns-in-Some-clause-but_renames : goal.returns-in-Some-clause-but_renames
returns-in-Some-clause-but_renames c =
    let made = c.unchanged.ensures in
    rw (made.reply, made.bytes, made.changes) (λ namespace stand. refused IsSoundButRenames (newest c.args.cached.now) namespace c.args.request.now c.in-Some.code (sym c.name_fault.ensures ∙ c.in-Some.is) stand)

pub returns-in-Some-clause-safe : goal.returns-in-Some-clause-safe
returns-in-Some-clause-safe c =
    let made = c.unchanged.ensures in
    rw (made.bytes, made.changes) (λ fit. nothing_is_safe (newest c.args.cached.now) fit)

pub returns-clause-meets : goal.returns-clause-meets
unfolding Answers
returns-clause-meets c =
    let all = newest c.args.cached.now in
    let request = c.args.request.now in
    let named : name_fault request ≡ None = search rules in
    let it = c.change_named.ensures in
    decided all request c.change_named.result (λ d. (namespace : Namespace) → Stand IsSound all namespace → Meets IsSound all namespace request d.reply d.bytes d.changes) it.reply it.allowed it.changes it.operations
    (λ d is namespace stand. as_recorded all request d is (Meets IsSound all namespace request d.reply) (meets_all all namespace request d.reply d.changes c.requires named is.allowed is.changes stand (is.reply namespace (stand_but_renames all namespace stand))))

pub returns-clause-but_renames : goal.returns-clause-but_renames
unfolding Answers
returns-clause-but_renames c =
    let all = newest c.args.cached.now in
    let request = c.args.request.now in
    let named : name_fault request ≡ None = search rules in
    let it = c.change_named.ensures in
    decided all request c.change_named.result (λ d. (namespace : Namespace) → Stand IsSoundButRenames all namespace → Meets IsSoundButRenames all namespace request d.reply d.bytes d.changes) it.reply it.allowed it.changes it.operations
    (λ d is namespace stand. as_recorded all request d is (Meets IsSoundButRenames all namespace request d.reply) (meets all namespace request d.reply d.changes c.requires named is.allowed is.changes stand (is.reply namespace stand)))

pub returns-clause-safe : goal.returns-clause-safe
returns-clause-safe c =
    let all = newest c.args.cached.now in
    let request = c.args.request.now in
    let named : name_fault request ≡ None = search rules in
    let it = c.change_named.ensures in
    decided all request c.change_named.result (λ d. AreInGrammar all → IsSafe all d.bytes d.changes) it.reply it.allowed it.changes it.operations
    (λ d is fit. as_recorded all request d is (IsSafe all) ((follows all request d.reply d.changes c.requires named is.allowed is.changes).safe fit))

pub returns-clause-recorded : goal.returns-clause-recorded
returns-clause-recorded c =
    let all = newest c.args.cached.now in
    let request = c.args.request.now in
    let it = c.change_named.ensures in
    decided all request c.change_named.result (λ d. (d.bytes ≡ []) ↔ (d.changes ≡ [])) it.reply it.allowed it.changes it.operations
    (λ d is. as_recorded all request d is (λ b c. (b ≡ []) ↔ (c ≡ [])) (has_bytes d.changes))

pub returns-clause-size : goal.returns-clause-size
returns-clause-size c =
    let all = newest c.args.cached.now in
    let request = c.args.request.now in
    let named : name_fault request ≡ None = search rules in
    let it = c.change_named.ensures in
    decided all request c.change_named.result (λ d. length d.bytes ≤ 1626432) it.reply it.allowed it.changes it.operations
    (λ d is. as_recorded all request d is (λ b c. length b ≤ 1626432) (follows all request d.reply d.changes c.requires named is.allowed is.changes).short)

use Rattle.std.proofs.Common.{◌≡◌, ◌≤◌, ◌↔◌, [], length, refl, sym, ◌∙◌, arith}
use Rattle.oz_cache.specs.Cache.{newest}
use Rattle.oz_model.specs.Answers.{Answers}
use Rattle.oz_namespace.specs.declared.namespace.Namespace.{Namespace}
use Rattle.oz_rows.specs.Operations.{batch_bytes}
use Rattle.oz_sound.specs.Sound.{IsSound, IsSoundButRenames}
use Rattle.oz_decision.specs.Drafts.{row_by_row}
use Rattle.oz_decision.specs.Meets.{AreInGrammar, IsSafe, Stand, Meets}
use Rattle.oz_decision.specs.laws.OneRow.{nothing_is_safe, stand_but_renames}
use Rattle.oz_decision.specs.laws.Refusing.{refused}
use Rattle.oz_om_key.proofs.Meeting.{meets, decided, as_nothing}
use Rattle.oz_om_key.proofs.deciding.decide.Goals as goal

pub returns-in-Some-clause-meets : goal.returns-in-Some-clause-meets
returns-in-Some-clause-meets c =
    let made = c.unchanged.ensures in
    rw (made.reply, made.bytes, made.changes) (λ namespace stand. refused IsSound (newest c.args.cached.now) namespace c.args.request.now c.in-Some.code (sym c.name_fault.ensures ∙ c.in-Some.is) stand)

pub returns-in-Some-clause-but_renames : goal.returns-in-Some-clause-but_renames
returns-in-Some-clause-but_renames c =
    let made = c.unchanged.ensures in
    rw (made.reply, made.bytes, made.changes) (λ namespace stand. refused IsSoundButRenames (newest c.args.cached.now) namespace c.args.request.now c.in-Some.code (sym c.name_fault.ensures ∙ c.in-Some.is) stand)

pub returns-in-Some-clause-safe : goal.returns-in-Some-clause-safe
returns-in-Some-clause-safe c =
    let made = c.unchanged.ensures in
    rw (made.bytes, made.changes) (λ fit. nothing_is_safe (newest c.args.cached.now) fit)

pub returns-clause-meets : goal.returns-clause-meets
unfolding Answers
returns-clause-meets c =
    let all = newest c.args.cached.now in
    let request = c.args.request.now in
    let it = c.decide_named.ensures in
    decided all request c.decide_named.result (λ d. (namespace : Namespace) → Stand IsSound all namespace → Meets IsSound all namespace request d.reply d.bytes d.changes) it.reply it.changes it.bytes
    (λ d is namespace stand. as_nothing all request d is (Meets IsSound all namespace request d.reply) (meets IsSound all namespace request d.reply c.requires stand (is.reply namespace (stand_but_renames all namespace stand))))

pub returns-clause-but_renames : goal.returns-clause-but_renames
unfolding Answers
returns-clause-but_renames c =
    let all = newest c.args.cached.now in
    let request = c.args.request.now in
    let it = c.decide_named.ensures in
    decided all request c.decide_named.result (λ d. (namespace : Namespace) → Stand IsSoundButRenames all namespace → Meets IsSoundButRenames all namespace request d.reply d.bytes d.changes) it.reply it.changes it.bytes
    (λ d is namespace stand. as_nothing all request d is (Meets IsSoundButRenames all namespace request d.reply) (meets IsSoundButRenames all namespace request d.reply c.requires stand (is.reply namespace stand)))

pub returns-clause-safe : goal.returns-clause-safe
returns-clause-safe c =
    let all = newest c.args.cached.now in
    let request = c.args.request.now in
    let it = c.decide_named.ensures in
    decided all request c.decide_named.result (λ d. AreInGrammar all → IsSafe all d.bytes d.changes) it.reply it.changes it.bytes
    (λ d is fit. as_nothing all request d is (IsSafe all) (nothing_is_safe all fit))

pub returns-clause-operations : goal.returns-clause-operations
returns-clause-operations c =
    let all = newest c.args.cached.now in
    let request = c.args.request.now in
    let it = c.decide_named.ensures in
    decided all request c.decide_named.result (λ d. d.bytes ≡ batch_bytes (row_by_row d.changes)) it.reply it.changes it.bytes
    (λ d is. as_nothing all request d is (λ b c. b ≡ batch_bytes (row_by_row c)) refl)

pub returns-clause-recorded : goal.returns-clause-recorded
returns-clause-recorded c =
    let all = newest c.args.cached.now in
    let request = c.args.request.now in
    let it = c.decide_named.ensures in
    decided all request c.decide_named.result (λ d. (d.bytes ≡ []) ↔ (d.changes ≡ [])) it.reply it.changes it.bytes
    (λ d is. as_nothing all request d is (λ b c. (b ≡ []) ↔ (c ≡ [])) ((λ e. refl), λ e. refl))

pub returns-clause-size : goal.returns-clause-size
returns-clause-size c =
    let all = newest c.args.cached.now in
    let request = c.args.request.now in
    let it = c.decide_named.ensures in
    decided all request c.decide_named.result (λ d. length d.bytes ≤ 6304) it.reply it.changes it.bytes
    (λ d is. as_nothing all request d is (λ b c. length b ≤ 6304) (omega arith))

use Rattle.std.proofs.Common.{◌≡◌, [], None, rules, ap, sym, ◌∙◌, subst}
use Rattle.std.specs.List.{sum_by}
use Rattle.oz_decision.specs.Meets.{Stand}
use Rattle.oz_decision.specs.laws.Between.{next}
use Rattle.oz_model.specs.Buckets.{bucket_at}
use Rattle.oz_namespace.specs.declared.namespace.Namespace.{Namespace}
use Rattle.oz_rows.specs.Counts.{AreKeys}
use Rattle.oz_rows.specs.declared.key.RowKey.TheVariants as keys
use Rattle.oz_rows.specs.Rows.{kind_of}
use Rattle.oz_sound.specs.Sound.{IsSoundButRenames}
use Rattle.oz_om.specs.Tallies.{bytes_in}
use Rattle.oz_om.specs.Tallies.{bytes_at}
use Rattle.oz_om.proofs.Tallied.{bytes_are, no_first_key, through_ok}
use Rattle.oz_om.proofs.tally.bucket_bytes.Goals as goal

pub keys_between-requires : goal.keys_between-requires
keys_between-requires g c =
    let from_is : c.in_ok-from.from ≡ keys.Key c.args.volume.now c.args.bucket.now [] = search rules in
    let to_is : c.in_ok-to.to ≡ keys.Key c.args.volume.now (next c.args.bucket.now) [] = search rules in
    ap kind_of to_is ∙ sym (ap kind_of from_is)

pub returns : goal.returns
returns g c =
    let all = g.M.RowMap.rows c.args.rows.now in
    let v = c.args.volume.now in
    let b = c.args.bucket.now in
    let ks = c.deref.result.now in
    let from_is : c.in_ok-from.from ≡ keys.Key v b [] = search rules in
    let to_is : c.in_ok-to.to ≡ keys.Key v (next b) [] = search rules in
    through_ok (λ bytes. bytes ≡ sum_by (λ key. bytes_at (all key)) ks)
    (λ bytes. (namespace : Namespace) → Stand IsSoundButRenames all namespace → bytes ≡ bytes_in (bucket_at namespace v b))
    c.bytes_of_all.result
    (λ bytes is namespace stand.
    let absent : all c.in_ok-from.from ≡ None = ap all from_is ∙ no_first_key all stand.fit v b in
    let are = subst (λ to. AreKeys all (keys.Key v b []) to c.in_ok-found.found.items) to_is
    (subst (λ from. AreKeys all from c.in_ok-to.to c.in_ok-found.found.items) from_is (c.in_ok-found.ensures absent)) in
    is ∙ bytes_are all namespace stand v b ks (subst (AreKeys all (keys.Key v b []) (keys.Key v (next b) [])) (sym c.deref.ensures.value) are))
    c.bytes_of_all.ensures

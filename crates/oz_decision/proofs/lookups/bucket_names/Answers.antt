use Rattle.std.proofs.Common.{◌≡◌, [], List, ℕ, None, Result, Ok, Err, IfOk, map, sym, ◌∙◌, ap, subst}
use Rattle.std.specs.FinMap.{keys as keys_in}
use Rattle.oz_model.specs.Buckets.{buckets_at}
use Rattle.oz_namespace.specs.declared.namespace.Namespace.{Namespace}
use Rattle.oz_rows.specs.declared.key.RowKey.{RowKey}
use Rattle.oz_rows.specs.declared.key.RowKey.TheVariants as keys
use Rattle.oz_rows.specs.Rows.{kind_of}
use Rattle.oz_rows.specs.Counts.{AreKeys}
use Rattle.oz_decision.specs.Meets.{Stand}
use Rattle.oz_sound.specs.Sound.{IsSoundButRenames}
use Rattle.oz_decision.specs.Walking.{bucket_named}
use Rattle.oz_decision.specs.laws.Between.{next}
use Rattle.oz_decision.specs.laws.Counting.{no_first_bucket, buckets_listed}
use Rattle.oz_decision.proofs.lookups.bucket_names.Goals as goal

listed : {E : Type 0} (r : Result (List (List ℕ)) E) (ks : List RowKey) (Q : List (List ℕ) → Type 0) → IfOk r (λ names. names ≡ map bucket_named ks) → Q (map bucket_named ks) → IfOk r Q
listed (Ok names) ks Q e q = subst Q (sym e) q
listed (Err e) ks Q is q = tt

pub keys_between-requires : goal.keys_between-requires
keys_between-requires g c =
    let v = c.args.volume.now in
    let from_is : c.in_ok-from.from ≡ keys.Bucket v [] = c.in_ok-from.ensures.from in
    let to_is : c.in_ok-from.to ≡ keys.Bucket (next v) [] = c.in_ok-from.ensures.to in
    ap kind_of to_is ∙ sym (ap kind_of from_is)

pub returns : goal.returns
returns g c =
    let all = g.M.RowMap.rows c.args.rows.now in
    let v = c.args.volume.now in
    let ks = c.deref.result.now in
    let from_is : c.in_ok-from.from ≡ keys.Bucket v [] = c.in_ok-from.ensures.from in
    let to_is : c.in_ok-from.to ≡ keys.Bucket (next v) [] = c.in_ok-from.ensures.to in
    let found_is : ks ≡ c.in_ok-found.found.items = c.deref.ensures.value in
    listed c.buckets_named.result ks (λ names. (namespace : Namespace) → Stand IsSoundButRenames all namespace → names ≡ keys_in (buckets_at namespace v)) c.buckets_named.ensures
    (λ namespace stand.
    let absent : all c.in_ok-from.from ≡ None = ap all from_is ∙ no_first_bucket all namespace stand v in
    let are : AreKeys all c.in_ok-from.from c.in_ok-from.to c.in_ok-found.found.items = c.in_ok-found.ensures absent in
    let here : AreKeys all (keys.Bucket v []) (keys.Bucket (next v) []) ks = subst (AreKeys all (keys.Bucket v []) (keys.Bucket (next v) [])) (sym found_is) (subst (λ to. AreKeys all (keys.Bucket v []) to c.in_ok-found.found.items) to_is (subst (λ from. AreKeys all from c.in_ok-from.to c.in_ok-found.found.items) from_is are)) in
    buckets_listed all namespace stand v ks here)

use Rattle.std.proofs.Common.{◌≡◌, ℕ, List, None, count_by, sym, ◌∙◌, ap, subst, arith, rules}
use Rattle.oz_rows.specs.declared.key.RowKey.{RowKey}
use Rattle.oz_rows.specs.declared.key.RowKey.TheVariants as keys
use Rattle.oz_rows.specs.RowMaps.{Rows}
use Rattle.oz_rows.specs.Rows.{kind_of}
use Rattle.oz_rows.specs.Counts.{AreKeys}
use Rattle.oz_decision.specs.Walking.{is_live}
use Rattle.oz_decision.specs.laws.Between.{next}
use Rattle.oz_decision.specs.laws.Snapshots.{no_first_snapshot, none_live, snapshot_rows}
use Rattle.oz_decision.proofs.lookups.snapshot_count.Goals as goal

-- the keys that were walked, between the keys that were meant
walked_there : (all : Rows) (v b : List ℕ) (from to : RowKey) (found ks : List RowKey) → from ≡ keys.Snapshot v b 0 → to ≡ keys.Snapshot v (next b) 0 → ks ≡ found → AreKeys all from to found → AreKeys all (keys.Snapshot v b 0) (keys.Snapshot v (next b) 0) ks
walked_there all v b from to found ks from_is to_is found_is are =
    subst (AreKeys all (keys.Snapshot v b 0) (keys.Snapshot v (next b) 0)) (sym found_is) (subst (λ q. AreKeys all (keys.Snapshot v b 0) q found) to_is (subst (λ q. AreKeys all q to found) from_is are))

pub keys_between-requires : goal.keys_between-requires
keys_between-requires g c =
    let v = c.args.volume.now in
    let b = c.args.bucket.now in
    let from_is : c.in_ok-from.from ≡ keys.Snapshot v b 0 = search rules in
    let to_is : c.in_ok-to.to ≡ keys.Snapshot v (next b) 0 = search rules in
    ap kind_of to_is ∙ sym (ap kind_of from_is)

pub returns-clause-shows : goal.returns-clause-shows
returns-clause-shows g c = λ namespace stand.
    let all = g.M.RowMap.rows c.args.rows.now in
    let v = c.args.volume.now in
    let b = c.args.bucket.now in
    let ks = c.deref.result.now in
    let from_is : c.in_ok-from.from ≡ keys.Snapshot v b 0 = search rules in
    let to_is : c.in_ok-to.to ≡ keys.Snapshot v (next b) 0 = search rules in
    let absent : all c.in_ok-from.from ≡ None = ap all from_is ∙ no_first_snapshot all v b stand.fit in
    let here = walked_there all v b c.in_ok-from.from c.in_ok-to.to c.in_ok-found.found.items ks from_is to_is c.deref.ensures.value (c.in_ok-found.ensures absent) in
    let found = snapshot_rows all v b namespace stand ks here in
    let live : c.live_count.result ≡ count_by (λ key. is_live (all key)) ks = c.live_count.ensures in
    c.in_u32.ensures.same (omega (arith, found.few, live)) ∙ live ∙ found.same

pub returns-clause-none : goal.returns-clause-none
returns-clause-none g c = λ zero fit n is.
    let all = g.M.RowMap.rows c.args.rows.now in
    let v = c.args.volume.now in
    let b = c.args.bucket.now in
    let ks = c.deref.result.now in
    let from_is : c.in_ok-from.from ≡ keys.Snapshot v b 0 = search rules in
    let to_is : c.in_ok-to.to ≡ keys.Snapshot v (next b) 0 = search rules in
    let absent : all c.in_ok-from.from ≡ None = ap all from_is ∙ no_first_snapshot all v b fit in
    let here = walked_there all v b c.in_ok-from.from c.in_ok-to.to c.in_ok-found.found.items ks from_is to_is c.deref.ensures.value (c.in_ok-found.ensures absent) in
    let live : c.live_count.result ≡ count_by (λ key. is_live (all key)) ks = c.live_count.ensures in
    none_live all v b ks here (sym live ∙ c.in_u32.ensures.none zero) n is

use Rattle.std.proofs.Common.{◌≡◌, ℕ, List, map, ◌∙◌, ap}
use Rattle.oz_decision.specs.Meets.{Stand}
use Rattle.oz_model.specs.Buckets.{bucket_at}
use Rattle.oz_namespace.specs.declared.namespace.Namespace.{Namespace}
use Rattle.oz_namespace.specs.Namespace.{buckets_of}
use Rattle.oz_sound.specs.Sound.{IsSoundButRenames}
use Rattle.oz_om.specs.Tallies.{tally_in, tally_of}
use Rattle.oz_om.proofs.Tallied.{all_buckets, through_ok}
use Rattle.oz_om.proofs.tally.tally_in_rows.Goals as goal

pub returns : goal.returns
returns g c =
    let all = g.M.RowMap.rows c.args.rows.now in
    let v = c.args.volume.now in
    through_ok
    (λ tally. (namespace : Namespace) → Stand IsSoundButRenames all namespace → tally ≡ tally_in (map (bucket_at namespace v) c.items.result.now))
    (λ tally. (namespace : Namespace) → Stand IsSoundButRenames all namespace → tally ≡ tally_of namespace v)
    c.tally_of_buckets.result
    (λ tally is namespace stand.
    is namespace stand
    ∙ (ap (λ (l : List (List ℕ)). tally_in (map (bucket_at namespace v) l)) (c.items.ensures ∙ c.in_ok-names.ensures namespace stand)
    ∙ ap tally_in (all_buckets (buckets_of namespace v))))
    c.tally_of_buckets.ensures

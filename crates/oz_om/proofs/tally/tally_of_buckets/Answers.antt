use Rattle.std.proofs.Common.{◌≡◌, ℕ, List, [], ◌∷◌, ◌++◌, map, take, get_or, sym, ◌∙◌, ap}
use Rattle.std.proofs.lemmas.List.{map-append, take_all, take_more}
use Rattle.oz_model.specs.Buckets.{bucket_at}
use Rattle.oz_om.specs.Tallies.{tally_in}
use Rattle.oz_om.specs.Tallies.{together}
use Rattle.oz_om.proofs.Tallied.{one_more}
use Rattle.oz_om.proofs.tally.tally_of_buckets.Goals as goal

pub loop-bucket-preserved : goal.loop-bucket-preserved
loop-bucket-preserved g c = λ namespace stand.
    let f = bucket_at namespace c.args.volume.now in
    let index = c.loop-bucket.bucket-index in
    let names = c.args.names.now in
    let item : List ℕ = get_or names index c.bucket-item.result in
    let one_is : c.in_ok-one.one ≡ tally_in (f item ∷ []) = c.in_ok-one.ensures namespace stand ∙ ap (λ (b : List ℕ). tally_in (f b ∷ [])) c.bucket-item.is in
    c.in_ok-sum.ensures
    ∙ ((λ i. together (c.loop-bucket.invariant namespace stand i) (one_is i))
    ∙ (one_more (map f (take index names)) (f item)
    ∙ (ap tally_in (sym (map-append f (take index names) (item ∷ [])))
    ∙ ap (λ (l : List (List ℕ)). tally_in (map f l)) (sym (take_more names index c.bucket-item.result c.loop-bucket-test.true)))))

pub returns : goal.returns
returns g c = λ namespace stand.
    c.loop-bucket.invariant namespace stand
    ∙ ap (λ (l : List (List ℕ)). tally_in (map (bucket_at namespace c.args.volume.now) l)) (take_all c.loop-bucket.bucket-index c.args.names.now c.loop-bucket-test.false)

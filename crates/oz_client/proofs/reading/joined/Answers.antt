use Rattle.std.proofs.Common.{ℕ, List, ◌++◌, take, sym, ◌∙◌, ap}
use Rattle.std.proofs.lemmas.List.{take_all}
use Rattle.std.specs.List.{flat_map}
use Rattle.oz_client.proofs.Lists.{joined-more}
use Rattle.oz_client.proofs.reading.joined.Goals as goal

pub loop-content-preserved : goal.loop-content-preserved
loop-content-preserved c =
    let before : List ℕ = flat_map (λ (content : List ℕ). content) (take c.loop-content.content-index c.args.contents.now) in
    c.in_ok-extend_from_slice.ensures.items
    ∙ (ap (λ (bytes : List ℕ). bytes ++ c.items.result.now) c.loop-content.invariant
    ∙ (ap (λ (bytes : List ℕ). before ++ bytes) (c.items.ensures ∙ c.content-item.is)
    ∙ sym (joined-more c.args.contents.now c.loop-content.content-index c.content-item.result c.loop-content-test.true)))

pub returns : goal.returns
returns c =
    c.of.ensures
    ∙ (c.loop-content.invariant
    ∙ ap (flat_map (λ (content : List ℕ). content)) (take_all c.loop-content.content-index c.args.contents.now c.loop-content-test.false))

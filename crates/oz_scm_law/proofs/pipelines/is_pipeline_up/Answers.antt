use Rattle.std.proofs.Common.{◌≡◌, ℕ, ◌+◌, ◌%◌, ◌≤◌, length, sym, ◌∙◌, ap, subst}
use Rattle.std.proofs.lemmas.Bool.{leb-true, le-leb}
use Rattle.std.specs.List.{count_by}
use mir.Val.{bool_byte}
use Rattle.oz_core.specs.Scm.{ups}
use Rattle.oz_nodes.specs.Pipelines.{is_node_up, members_of}
use Rattle.oz_scm_law.proofs.Ups.{as_many, of_three}
use Rattle.oz_scm_law.proofs.pipelines.is_pipeline_up.Goals as goal

pub returns : goal.returns
returns c =
    let us = ups c.args.opening.now c.args.story.now in
    let count : c.len-count.result ≡ length us = c.len-count.ensures ∙ sym (as_many c.args.opening.now c.args.story.now) in
    let first = c.from-first.ensures in
    let one : c.from.result ≡ bool_byte (is_node_up us (c.args.pipeline % length us)) = c.from.ensures ∙ ap bool_byte (c.is_node_up-one.ensures ∙ ap (is_node_up us) (c.modulo.ensures ∙ (λ i. first i % count i))) in
    let two : c.from-2.result ≡ bool_byte (is_node_up us ((c.args.pipeline + 1) % length us)) = c.from-2.ensures ∙ ap bool_byte (c.is_node_up-two.ensures ∙ ap (is_node_up us) (c.modulo-2.ensures ∙ (λ i. (first i + 1) % count i))) in
    let three : c.from-3.result ≡ bool_byte (is_node_up us ((c.args.pipeline + 2) % length us)) = c.from-3.ensures ∙ ap bool_byte (c.is_node_up-three.ensures ∙ ap (is_node_up us) (c.modulo-3.ensures ∙ (λ i. (first i + 2) % count i))) in
    let all : (c.from.result + c.from-2.result) + c.from-3.result ≡ count_by (is_node_up us) (members_of (length us) c.args.pipeline) =
    (λ i. (one i + two i) + three i) ∙ sym (of_three (is_node_up us) (c.args.pipeline % length us) ((c.args.pipeline + 1) % length us) ((c.args.pipeline + 2) % length us)) in (
      λ h. subst (λ (n : ℕ). 2 ≤ n) all (leb-true 2 ((c.from.result + c.from-2.result) + c.from-3.result) h),
      λ is. le-leb 2 ((c.from.result + c.from-2.result) + c.from-3.result) (subst (λ (n : ℕ). 2 ≤ n) (sym all) is),
    )

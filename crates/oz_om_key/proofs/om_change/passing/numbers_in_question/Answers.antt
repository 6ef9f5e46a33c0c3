use Rattle.std.proofs.Common.{◌≡◌, ◌++◌, [], ◌∷◌, Bool, List, Vec, Global, ℕ, cond, get_or, subst, sym, ap, ◌∙◌, rules}
use Rattle.std.specs.List.{AllByRecursion}
use Rattle.oz_model.specs.Reach.{blocks_of}
use Rattle.oz_om_key.specs.om_change.Passing.{IsHeldAlike}
use Rattle.oz_om_key.proofs.om_change_lemmas.Passing.{all_alike, in_the_end, next_kept}
use Rattle.oz_om_key.proofs.om_change.passing.numbers_in_question.Goals.{then-branch+in_ok-push, else-branch}
use Rattle.oz_om_key.proofs.om_change.passing.numbers_in_question.Goals as goal

pub loop-i-preserved : goal.loop-i-preserved
loop-i-preserved g c =
    let all = g.M.RowMap.rows c.args.rows.now in
    let v = c.args.of.now.volume.now in
    let b = c.args.of.now.bucket.now in
    let k = c.args.of.now.key.now in
    let numbers = c.args.numbers.now in
    let number = get_or numbers c.loop-i.i 0 in
    let kept = c.loop-i.kept.items in
    let t = c.in_ok-is_in_question.field-0 in
    next_kept all v b k c.in_ok-below.below c.loop-i.i numbers kept c.if-branch.kept.items _ c.loop-i-test.true t c.in_ok-is_in_question.ensures
    (elim c.if-branch.branch [
      | then-branch+in_ok-push w ↦
          let pushed : w.push.new.self.items ≡ kept ++ number ∷ [] = search rules in
          ap (λ (u : Vec ℕ Global). u.items) w.kept-is ∙ pushed ∙ ap (λ (u : Bool). cond u (kept ++ number ∷ []) kept) (sym w.if-branch.true)
      | else-branch w ↦ ap (λ (u : Vec ℕ Global). u.items) w.kept-is ∙ ap (λ (u : Bool). cond u (kept ++ number ∷ []) kept) (sym w.if-branch.false)
    ])
    c.loop-i.invariant

pub returns : goal.returns
returns g c =
    let all = g.M.RowMap.rows c.args.rows.now in
    let v = c.args.of.now.volume.now in
    let b = c.args.of.now.bucket.now in
    let k = c.args.of.now.key.now in
    let numbers = c.args.numbers.now in
    let below = c.in_ok-below.below in
    subst (λ (kept : List ℕ). AllByRecursion (IsHeldAlike all v b k numbers kept) (blocks_of c.args.pieces.now))
    (sym (in_the_end all v b k below c.loop-i.i numbers c.loop-i.kept.items _ c.loop-i-test.false c.loop-i.invariant))
    (all_alike all v b k c.span_of.result below numbers c.in_ok-below.ensures (blocks_of c.args.pieces.now) c.span_of.ensures)

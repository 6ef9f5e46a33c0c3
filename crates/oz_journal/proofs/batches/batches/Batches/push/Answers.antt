use Rattle.std.proofs.Common.{rules, ◌≡◌, ◌∙◌, [], ◌++◌, length, replicate, ap}
use Rattle.oz_journal.proofs.batches_lemmas.Heads.{put_first, put_behind}
use Rattle.oz_journal.proofs.batches.batches.Batches.push.Goals.{then-is_empty-2, else-is_empty-2}
use Rattle.oz_journal.proofs.batches.batches.Batches.push.Goals as goal

pub returns-clause-bytes : goal.returns-clause-bytes
returns-clause-bytes c =
    let raw = c.self.inside.bytes.items in
    let batch = c.args.batch.now in
    let new = c.extend_from_slice-2.new.self.items in
    let view = ap (λ w. w.bytes ++ batch) c.self.view_is in
    let items : new ≡ c.if-is_empty-2.self-inside.bytes.items ++ batch = search rules in
    elim c.if-is_empty-2.branch [
      | then-is_empty-2 w ↦
          let none : raw ≡ [] = search rules in
          let zeros : w.extend_from_slice.new.self.items ≡ raw ++ replicate 13 0 = search rules in
          put_first raw w.extend_from_slice.new.self.items batch new none zeros (items ∙ ap (λ b. b.bytes.items ++ batch) w.self-inside-is) ∙ view
      | else-is_empty-2 w ↦
          let some : length raw ≡ 0 → ⊥ = λ e. search rules in
          put_behind raw batch new c.self.invariant.shape some (items ∙ ap (λ b. b.bytes.items ++ batch) w.self-inside-is) ∙ view
    ]

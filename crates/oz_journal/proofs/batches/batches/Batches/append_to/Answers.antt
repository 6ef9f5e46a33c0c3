use Rattle.std.proofs.Common.{rules, ◌≡◌, [], ◌∷◌, ◌++◌, sym, ap, ◌∙◌}
use Rattle.oz_journal.specs.batches.Body.{body_bytes}
use Rattle.oz_journal.specs.batches.Waiting.{framed_batches}
use Rattle.oz_journal.proofs.batches_lemmas.Heads.{closed, is_there, appends_as}
use Rattle.oz_journal.proofs.batches.batches.Batches.append_to.Goals as goal
use Rattle.oz_journal.specs.Journal.{body_of}

pub returns-clause-appended : goal.returns-clause-appended
returns-clause-appended g c =
    let raw = c.self.inside.bytes.items in
    let view = ap (λ w. w.bytes) c.self.view_is in
    let long = is_there raw c.self.invariant.shape (λ e. c.requires.some (sym view ∙ e)) in
    let first : c.as_mut_slice-framed.result.now ≡ raw ++ 0 ∷ [] = search rules in
    let body : body_of c.put_head.new.framed ≡ body_bytes c.args.index c.args.self.now.bytes = c.put_head.ensures.body ∙ ap (body_bytes c.args.index) (ap framed_batches first ∙ (closed raw long ∙ view)) in
    appends_as _ _ _ _ _ body c.append-written.ensures.appended

use Rattle.std.proofs.Common.{◌≡◌, ◌++◌, List, [], ◌∷◌, ap, append-nil, arith, length, option_copied, refl, sym, ◌∙◌, ℕ}
use Rattle.std.proofs.lemmas.Bool.{eqb-true}
use Rattle.oz_decision.specs.Versions.{version_at}
use Rattle.oz_om_key.specs.om_change.Noting.{noted}
use Rattle.oz_rows.specs.declared.operation.Change.{Change}
use Rattle.oz_om_key.proofs.om_change_lemmas.Batches.{bytes_of}
use Rattle.oz_om_key.proofs.om_change_lemmas.Noted.{nothing_noted}
use Rattle.oz_om_key.proofs.om_change.noting.note_names.Goals as goal

no_items : (l : List ℕ) → length l ≡ 0 → l ≡ []
no_items [] e = refl
no_items (x ∷ l) e = absurd (omega (arith, e))

pub returns-then-is_empty-clause-bytes : goal.returns-then-is_empty-clause-bytes
returns-then-is_empty-clause-bytes g c =
    let all = g.M.RowMap.rows c.args.rows.now in
    let of = c.args.of.now in
    let blocks = version_at (option_copied c.args.row) in
    let none : c.args.numbers.now ≡ [] = no_items c.args.numbers.now (eqb-true (length c.args.numbers.now) 0 (sym c.is_empty.ensures ∙ c.if-is_empty.true)) in
    let same : noted all of.volume.now of.bucket.now of.key.now c.args.numbers.now blocks ≡ [] = ap (λ (n : List ℕ). noted all of.volume.now of.bucket.now of.key.now n blocks) none ∙ nothing_noted all of.volume.now of.bucket.now of.key.now blocks in
    sym (append-nil c.args.draft.bytes) ∙ ap (λ (l : List Change). c.args.draft.bytes ++ bytes_of l) (sym same)

pub returns-then-is_empty-clause-changes : goal.returns-then-is_empty-clause-changes
returns-then-is_empty-clause-changes g c =
    let all = g.M.RowMap.rows c.args.rows.now in
    let of = c.args.of.now in
    let blocks = version_at (option_copied c.args.row) in
    let none : c.args.numbers.now ≡ [] = no_items c.args.numbers.now (eqb-true (length c.args.numbers.now) 0 (sym c.is_empty.ensures ∙ c.if-is_empty.true)) in
    let same : noted all of.volume.now of.bucket.now of.key.now c.args.numbers.now blocks ≡ [] = ap (λ (n : List ℕ). noted all of.volume.now of.bucket.now of.key.now n blocks) none ∙ nothing_noted all of.volume.now of.bucket.now of.key.now blocks in
    sym (append-nil c.args.draft.changes) ∙ ap (λ (l : List Change). c.args.draft.changes ++ l) (sym same)

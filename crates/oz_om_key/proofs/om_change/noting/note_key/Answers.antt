use Rattle.std.proofs.Common.{◌≡◌, ◌-◌, ◌<◌, ◌++◌, ◌∷◌, [], ℕ, Bool, IfOk, List, length, take, get_or, subst, sym, arith}
use Rattle.std.specs.Bool.{OnTrue}
use Rattle.std.specs.List.{AllByRecursion}
use Rattle.oz_decision.specs.Drafts.{row_by_row}
use Rattle.oz_model.specs.Reach.{blocks_of}
use Rattle.oz_om_key.specs.om_change.Noting.{noted}
use Rattle.oz_om_key.specs.om_change.Passing.{IsHeldAlike, IsLiveIn}
use Rattle.oz_om_key.proofs.om_change_lemmas.Passing.{last_alike, last_of, noted_alike}
use Rattle.oz_rows.specs.declared.operation.Change.{Change}
use Rattle.oz_rows.specs.Operations.{batch_bytes}
use Rattle.oz_om_key.proofs.om_change.noting.note_key.Goals as goal

pub returns-clause-bytes : goal.returns-clause-bytes
returns-clause-bytes g c =
    let all = g.M.RowMap.rows c.args.rows.now in
    let of = c.args.of.now in
    let blocks = blocks_of c.args.pieces.now in
    let noted_by = λ (numbers : List ℕ). noted all of.volume.now of.bucket.now of.key.now numbers blocks in
    let same : noted_by c.deref.result.now ≡ noted_by c.args.numbers.now =
    noted_alike all of.volume.now of.bucket.now of.key.now c.args.numbers.now c.deref.result.now blocks
    (subst (λ (kept : List ℕ). AllByRecursion (IsHeldAlike all of.volume.now of.bucket.now of.key.now c.args.numbers.now kept) blocks) (sym c.deref.ensures.value) c.in_ok-kept.ensures) in
    subst (λ (l : List Change). IfOk c.note_pieces-2.result (λ more. more.bytes ≡ c.args.before.bytes ++ batch_bytes (row_by_row l))) same c.note_pieces-2.ensures.bytes

pub returns-clause-changes : goal.returns-clause-changes
returns-clause-changes g c =
    let all = g.M.RowMap.rows c.args.rows.now in
    let of = c.args.of.now in
    let blocks = blocks_of c.args.pieces.now in
    let noted_by = λ (numbers : List ℕ). noted all of.volume.now of.bucket.now of.key.now numbers blocks in
    let same : noted_by c.deref.result.now ≡ noted_by c.args.numbers.now =
    noted_alike all of.volume.now of.bucket.now of.key.now c.args.numbers.now c.deref.result.now blocks
    (subst (λ (kept : List ℕ). AllByRecursion (IsHeldAlike all of.volume.now of.bucket.now of.key.now c.args.numbers.now kept) blocks) (sym c.deref.ensures.value) c.in_ok-kept.ensures) in
    subst (λ (l : List Change). IfOk c.note_pieces-2.result (λ more. more.changes ≡ c.args.before.changes ++ l)) same c.note_pieces-2.ensures.changes

pub returns-then-branch-clause-bytes : goal.returns-then-branch-clause-bytes
returns-then-branch-clause-bytes g c =
    let all = g.M.RowMap.rows c.args.rows.now in
    let of = c.args.of.now in
    let numbers = c.args.numbers.now in
    let n = length numbers - 1 in
    let some : 0 < length numbers = c.if-count-gt0.true in
    let live : AllByRecursion (IsLiveIn all of.volume.now of.bucket.now of.key.now (get_or numbers n 0)) (blocks_of c.args.pieces.now) =
    subst (λ (t : Bool). OnTrue t (AllByRecursion (IsLiveIn all of.volume.now of.bucket.now of.key.now (get_or numbers n 0)) (blocks_of c.args.pieces.now))) c.if-branch.true c.in_ok-has_all.ensures in
    let last = get_or numbers n 0 in
    let blocks = blocks_of c.args.pieces.now in
    let same : noted all of.volume.now of.bucket.now of.key.now (last ∷ []) blocks ≡ noted all of.volume.now of.bucket.now of.key.now numbers blocks =
    noted_alike all of.volume.now of.bucket.now of.key.now numbers (last ∷ []) blocks
    (last_alike all of.volume.now of.bucket.now of.key.now (take n numbers) numbers last (last_of numbers n (omega (arith, some)) (omega (arith, some))) blocks live) in
    subst (λ (l : List Change). IfOk c.note_pieces.result (λ more. more.bytes ≡ c.args.before.bytes ++ batch_bytes (row_by_row l))) same c.note_pieces.ensures.bytes

pub returns-then-branch-clause-changes : goal.returns-then-branch-clause-changes
returns-then-branch-clause-changes g c =
    let all = g.M.RowMap.rows c.args.rows.now in
    let of = c.args.of.now in
    let numbers = c.args.numbers.now in
    let n = length numbers - 1 in
    let some : 0 < length numbers = c.if-count-gt0.true in
    let live : AllByRecursion (IsLiveIn all of.volume.now of.bucket.now of.key.now (get_or numbers n 0)) (blocks_of c.args.pieces.now) =
    subst (λ (t : Bool). OnTrue t (AllByRecursion (IsLiveIn all of.volume.now of.bucket.now of.key.now (get_or numbers n 0)) (blocks_of c.args.pieces.now))) c.if-branch.true c.in_ok-has_all.ensures in
    let last = get_or numbers n 0 in
    let blocks = blocks_of c.args.pieces.now in
    let same : noted all of.volume.now of.bucket.now of.key.now (last ∷ []) blocks ≡ noted all of.volume.now of.bucket.now of.key.now numbers blocks =
    noted_alike all of.volume.now of.bucket.now of.key.now numbers (last ∷ []) blocks
    (last_alike all of.volume.now of.bucket.now of.key.now (take n numbers) numbers last (last_of numbers n (omega (arith, some)) (omega (arith, some))) blocks live) in
    subst (λ (l : List Change). IfOk c.note_pieces.result (λ more. more.changes ≡ c.args.before.changes ++ l)) same c.note_pieces.ensures.changes

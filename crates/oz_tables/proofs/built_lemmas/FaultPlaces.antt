-- The place of a fault lies in its body.
use Rattle.std.proofs.Common.{◌≡◌, ⊎_elim, ℕ, zero, suc, ◌≤◌, List, [], ◌∷◌, ◌++◌, length, Some, Ok, refl, ◌∙◌, ap, arith, slice_get, length-append}
use Rattle.std.proofs.lemmas.Grind.{flat_map-append}
use Rattle.oz_rows.specs.declared.operation.Head.{Head}
use Rattle.oz_rows.specs.Operations.{batch_bytes, head_bytes, head_in, operation_bytes}
use Rattle.oz_rows.specs.Reading.{head_at}
use Rattle.oz_rows.specs.declared.entry.RowEntry.{RowEntry}
use Rattle.oz_effects.specs.Build.{HeadFalls, HeadFails, OperationFails, LeavesOrphan, IsDamagedBody, FailsFrom}

none_read : (x : Head × List ℕ) → head_at [] ≡ Ok x → ⊥
unfolding head_at
none_read x e = absurd (cc e)

some_bytes : (bytes : List ℕ) (x : Head × List ℕ) → head_at bytes ≡ Ok x → 1 ≤ length bytes
some_bytes [] x e = absurd (none_read x e)
some_bytes (b ∷ bytes) x e = omega arith

falls_within : (last : Head) (bytes : List ℕ) (head : Head) (place : ℕ) → 1 ≤ length bytes → HeadFalls last head place → place ≤ length bytes
falls_within last bytes head place some falls = ⊎_elim (λ below. omega (arith, below.1)) (λ stale. omega (arith, some, stale.2)) falls

head_within : (last : Head) (bytes : List ℕ) (place : ℕ) → HeadFails last bytes place → place ≤ length bytes
head_within last bytes place fails = ⊎_elim (λ unread. omega (arith, unread.2)) (λ falls. falls_within last bytes falls.0 place (some_bytes bytes _ falls.2) falls.3) fails

operation_within : (all : List RowEntry) (bytes rest : List ℕ) (place : ℕ) → OperationFails all bytes rest place → place ≤ length bytes
operation_within all bytes rest place fails = ⊎_elim (λ unread. omega (arith, unread.2)) (λ gone. omega (arith, gone.4)) fails

orphan_within : (last : Head) (before : List RowEntry) (bytes : List ℕ) (place : ℕ) → LeavesOrphan last before bytes place → place ≤ length bytes
orphan_within last before bytes place leaves =
    let parts : batch_bytes leaves.body.items ≡ batch_bytes leaves.earlier ++ batch_bytes (leaves.operation ∷ leaves.later) = ap batch_bytes leaves.parts ∙ flat_map-append operation_bytes leaves.earlier (leaves.operation ∷ leaves.later) in
    let size = ap length leaves.body_is.2 ∙ length-append (head_bytes (head_in leaves.body)) (batch_bytes leaves.body.items) in
    let behind = ap length parts ∙ length-append (batch_bytes leaves.earlier) (batch_bytes (leaves.operation ∷ leaves.later)) in
    omega (arith, leaves.begins, size, behind)

body_within : (last : Head) (before : List RowEntry) (bytes : List ℕ) (place : ℕ) → IsDamagedBody last before bytes place → place ≤ length bytes
body_within last before bytes place damaged = ⊎_elim (head_within last bytes place) (λ behind. ⊎_elim (λ fails. operation_within fails.between bytes fails.rest place fails.fails) (orphan_within last before bytes place) behind) damaged

pub fails_within : (before : List RowEntry) (last : Head) (bodies : List (List ℕ)) (count place : ℕ) → FailsFrom before last bodies count place → (body : List ℕ) × (slice_get bodies count ≡ Some body) × (place ≤ length body)
unfolding FailsFrom
fails_within before last [] count place fails = absurd fails
fails_within before last (bytes ∷ bodies) zero place fails = (bytes, refl, body_within last before bytes place fails)
fails_within before last (bytes ∷ bodies) (suc count) place fails = fails_within fails.1 (head_in fails.0) bodies count place fails.3

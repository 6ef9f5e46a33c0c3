-- Operations and heads read as they are spelled.
use Rattle.std.proofs.Common.{◌≡◌, ℕ, suc, ◌<◌, ◌≤◌, ◌^◌, true, ◌&&◌, eqb, leb, ltb, List, [], ◌∷◌, ◌++◌, length, Ok}
use Rattle.std.proofs.Common.{refl, sym, ap, subst, append_assoc, arith}
use Rattle.std.proofs.lemmas.Bool.{eqb-true, eq-eqb, and_parts, and_from, leb-true, le-leb, ltb-true, lt-ltb}
use Rattle.std.proofs.lemmas.List.{append-nil}
use Rattle.oz_fields.specs.Field.{AreBytes}
use Rattle.oz_fields.specs.Number.{u8_bytes, u64_bytes, u8_at, u64_at}
use Rattle.oz_fields.specs.Text.{text_bytes}
use Rattle.oz_fields.specs.laws.Bytes.{AreBytes-behind}
use Rattle.oz_fields.specs.laws.Numbers.{u8_field, u64_field}
use Rattle.oz_rows.specs.declared.operation.Operation.{Operation}
use Rattle.oz_rows.specs.declared.operation.Operation.TheVariants.{Put, Remove, CopyKeys, MoveDeleted, DropKeys}
use Rattle.oz_rows.specs.declared.operation.Operation.TheVariants.{DropOpen}
use Rattle.oz_rows.specs.declared.key.RowKey.{RowKey}
use Rattle.oz_rows.specs.declared.row.Row.{Row}
use Rattle.oz_rows.specs.Rows.{KeyFits, RowFits, key_bytes, row_bytes}
use Rattle.oz_rows.specs.Operations.{OperationFits, operation_bytes, IsIndex, IsHead, head_bytes}
use Rattle.oz_rows.specs.Reading.{field, put_at, remove_at, copy_keys_at, move_deleted_at, drop_keys_at, drop_open_at}
use Rattle.oz_rows.specs.Reading.{operation_of_tag_at, operation_at, index_at, head_at}
use Rattle.oz_rows.specs.laws.Grammar.{IsRead, Finds, Backs, fits_as, field_reads, finds_done, finds_then, finds_last}
use Rattle.oz_rows.specs.laws.Grammar.{finds_either, finds_none, backs_done, backs_then, backs_last, backs_as, is_read}
use Rattle.oz_rows.specs.laws.FieldReads.{volume_name_reads, number_reads, owner_reads}
use Rattle.oz_rows.specs.laws.RowReads.{key_reads, row_reads}

put_finds : Finds OperationFits operation_bytes (1 ∷ []) put_at
unfolding put_at
put_finds = finds_then row_reads (λ row row-fits. finds_done row-fits refl)

put_backs : (key : RowKey) (row : Row) → RowFits key row → Backs put_at (row_bytes key row) (Put key row)
unfolding put_at
put_backs key row fits = backs_as (append-nil (row_bytes key row)) (backs_then _ (key, row) row_reads fits backs_done)

remove_finds : Finds OperationFits operation_bytes (2 ∷ []) remove_at
unfolding remove_at
remove_finds = finds_then key_reads (λ key key-fits. finds_done key-fits refl)

remove_backs : (key : RowKey) → KeyFits key → Backs remove_at (key_bytes key) (Remove key)
unfolding remove_at
remove_backs key fits = backs_as (append-nil (key_bytes key)) (backs_then _ key key_reads fits backs_done)

copy_keys_finds : Finds OperationFits operation_bytes (3 ∷ []) copy_keys_at
unfolding copy_keys_at
copy_keys_finds = finds_then volume_name_reads
    (λ volume volume-fits. finds_then volume_name_reads
    (λ bucket bucket-fits. finds_then number_reads (λ number number-fits. finds_done (volume-fits, bucket-fits, number-fits) refl)))

copy_keys_backs : (volume : List ℕ) (bucket : List ℕ) (number : ℕ) → OperationFits (CopyKeys volume bucket number)
    → Backs copy_keys_at (text_bytes volume ++ text_bytes bucket ++ u64_bytes number) (CopyKeys volume bucket number)
unfolding copy_keys_at
copy_keys_backs volume bucket number fits =
    backs_as (simp (append_assoc, append-nil))
    (backs_then _ volume volume_name_reads fits.0 (backs_then _ bucket volume_name_reads fits.1 (backs_then _ number number_reads fits.2 backs_done)))

move_deleted_finds : Finds OperationFits operation_bytes (4 ∷ []) move_deleted_at
unfolding move_deleted_at
move_deleted_finds =
    finds_then volume_name_reads
    (λ volume volume-fits. finds_then volume_name_reads
    (λ bucket bucket-fits. finds_then owner_reads
    (λ from from-fits. finds_then owner_reads (λ to to-fits. finds_done (volume-fits, bucket-fits, from-fits, to-fits) refl))))

move_deleted_backs : (volume : List ℕ) (bucket : List ℕ) (from : ℕ) (to : ℕ) → OperationFits (MoveDeleted volume bucket from to)
    → Backs move_deleted_at (text_bytes volume ++ text_bytes bucket ++ u64_bytes from ++ u64_bytes to) (MoveDeleted volume bucket from to)
unfolding move_deleted_at
move_deleted_backs volume bucket from to fits =
    backs_as (simp (append_assoc, append-nil))
    (backs_then _ volume volume_name_reads fits.0
    (backs_then _ bucket volume_name_reads fits.1 (backs_then _ from owner_reads fits.2 (backs_then _ to owner_reads fits.3 backs_done))))

drop_keys_finds : Finds OperationFits operation_bytes (5 ∷ []) drop_keys_at
unfolding drop_keys_at
drop_keys_finds = finds_then volume_name_reads
    (λ volume volume-fits. finds_then volume_name_reads
    (λ bucket bucket-fits. finds_then number_reads (λ number number-fits. finds_done (volume-fits, bucket-fits, number-fits) refl)))

drop_keys_backs : (volume : List ℕ) (bucket : List ℕ) (number : ℕ) → OperationFits (DropKeys volume bucket number)
    → Backs drop_keys_at (text_bytes volume ++ text_bytes bucket ++ u64_bytes number) (DropKeys volume bucket number)
unfolding drop_keys_at
drop_keys_backs volume bucket number fits =
    backs_as (simp (append_assoc, append-nil))
    (backs_then _ volume volume_name_reads fits.0 (backs_then _ bucket volume_name_reads fits.1 (backs_then _ number number_reads fits.2 backs_done)))

drop_open_finds : Finds OperationFits operation_bytes (6 ∷ []) drop_open_at
unfolding drop_open_at
drop_open_finds = finds_then volume_name_reads
    (λ volume volume-fits. finds_then volume_name_reads (λ bucket bucket-fits. finds_done (volume-fits, bucket-fits) refl))

drop_open_backs : (volume : List ℕ) (bucket : List ℕ) → OperationFits (DropOpen volume bucket)
    → Backs drop_open_at (text_bytes volume ++ text_bytes bucket) (DropOpen volume bucket)
unfolding drop_open_at
drop_open_backs volume bucket fits =
    backs_as (simp append-nil) (backs_then _ volume volume_name_reads fits.0 (backs_then _ bucket volume_name_reads fits.1 backs_done))

operation_of_tag_finds : (left tag : ℕ) → Finds OperationFits operation_bytes (tag ∷ []) (operation_of_tag_at left tag)
operation_of_tag_finds left tag =
    finds_either (eqb tag 1) (λ is. subst (λ (k : ℕ). Finds OperationFits operation_bytes (k ∷ []) put_at) (sym (eqb-true tag 1 is)) put_finds)
    (λ _. finds_either (eqb tag 2) (λ is. subst (λ (k : ℕ). Finds OperationFits operation_bytes (k ∷ []) remove_at)
    (sym (eqb-true tag 2 is)) remove_finds)
    (λ _. finds_either (eqb tag 3) (λ is. subst (λ (k : ℕ). Finds OperationFits operation_bytes (k ∷ []) copy_keys_at)
    (sym (eqb-true tag 3 is)) copy_keys_finds)
    (λ _. finds_either (eqb tag 4) (λ is. subst (λ (k : ℕ). Finds OperationFits operation_bytes (k ∷ []) move_deleted_at)
    (sym (eqb-true tag 4 is)) move_deleted_finds)
    (λ _. finds_either (eqb tag 5) (λ is. subst (λ (k : ℕ). Finds OperationFits operation_bytes (k ∷ []) drop_keys_at)
    (sym (eqb-true tag 5 is)) drop_keys_finds)
    (λ _. finds_either (eqb tag 6) (λ is. subst (λ (k : ℕ). Finds OperationFits operation_bytes (k ∷ []) drop_open_at)
    (sym (eqb-true tag 6 is)) drop_open_finds) (λ _. finds_none))))))

operation_found : (bytes : List ℕ) (operation : Operation) (rest : List ℕ) → AreBytes bytes → operation_at bytes ≡ Ok (operation, rest)
    → OperationFits operation × (bytes ≡ operation_bytes operation ++ rest)
unfolding operation_at
operation_found [] operation rest fit e = absurd cc
operation_found (tag ∷ bytes) operation rest fit e =
    (operation_of_tag_finds (suc (length bytes)) tag).found bytes operation rest (AreBytes-behind (tag ∷ bytes) (tag ∷ []) bytes fit refl) e

operation_back : (operation : Operation) (rest : List ℕ) → OperationFits operation → operation_at (operation_bytes operation ++ rest) ≡ Ok (operation, rest)
unfolding operation_at
operation_back (Put key row) rest fits = (put_backs key row fits).back rest
operation_back (Remove key) rest fits = (remove_backs key fits).back rest
operation_back (CopyKeys volume bucket number) rest fits = (copy_keys_backs volume bucket number fits).back rest
operation_back (MoveDeleted volume bucket from to) rest fits = (move_deleted_backs volume bucket from to fits).back rest
operation_back (DropKeys volume bucket number) rest fits = (drop_keys_backs volume bucket number fits).back rest
operation_back (DropOpen volume bucket) rest fits = (drop_open_backs volume bucket fits).back rest

pub operation_reads : IsRead OperationFits operation_bytes operation_at
operation_reads = record { reads_back = operation_back; one_spelling = operation_found }

-- no operation is spelled by no byte
pub some_bytes : (operation : Operation) → 1 ≤ length (operation_bytes operation)
some_bytes (Put key row) = omega arith
some_bytes (Remove key) = omega arith
some_bytes (CopyKeys volume bucket number) = omega arith
some_bytes (MoveDeleted volume bucket from to) = omega arith
some_bytes (DropKeys volume bucket number) = omega arith
some_bytes (DropOpen volume bucket) = omega arith

index_reads : IsRead IsIndex u64_bytes index_at
unfolding index_at
index_reads = fits_as (λ n. (n < 2 ^ 64) × ((leb 1 n && ltb n (2 ^ 63)) ≡ true)) IsIndex u64_bytes index_at
    (λ n fits. let parts = and_parts _ _ fits.1 in (leb-true _ _ parts.0, ltb-true _ _ parts.1))
    (λ n is. (let high = is.1 in omega arith, and_from _ _ (le-leb 1 n is.0) (lt-ltb n (2 ^ 63) is.1)))
    (field_reads (λ n. n < 2 ^ 64) u64_bytes u64_at (λ n. leb 1 n && ltb n (2 ^ 63)) u64_field)

layout_reads : IsRead (λ n. n ≡ 1) u8_bytes (field u8_at (λ n. eqb n 1))
layout_reads = fits_as (λ n. (n < 2 ^ 8) × (eqb n 1 ≡ true)) (λ n. n ≡ 1) u8_bytes (field u8_at (λ n. eqb n 1))
    (λ n fits. eqb-true n 1 fits.1)
    (λ n is. (omega arith, eq-eqb n 1 is))
    (field_reads (λ n. n < 2 ^ 8) u8_bytes u8_at (λ n. eqb n 1) u8_field)

pub head_reads : IsRead IsHead head_bytes head_at
unfolding head_at
head_reads = is_read
    (finds_then layout_reads (λ layout is. finds_then index_reads (λ index fits. finds_done (is, fits) refl)))
    (λ head fits. backs_as (simp append-nil) (backs_then _ head.layout layout_reads fits.0 (backs_then _ head.index index_reads fits.1 backs_done)))

-- Bytes that are one row, and those that aren't.
use Rattle.std.proofs.Common.{◌≡◌, ℕ, ◌-◌, ◌≤◌, List, [], ◌++◌, length, Result, Ok, refl, sym, ap, subst, ◌∙◌}
use Rattle.std.proofs.lemmas.List.{append-nil, nil_from_length}
use Rattle.oz_fields.specs.Field.{AreBytes}
use Rattle.oz_rows.specs.declared.fault.ReadFault.{ReadFault}
use Rattle.oz_rows.specs.declared.fault.ReadFault.TheVariants as reads
use Rattle.oz_rows.specs.declared.fault.RowFault.TheVariants as faults
use Rattle.oz_rows.specs.declared.key.RowKey.{RowKey}
use Rattle.oz_rows.specs.declared.row.Row.{Row}
use Rattle.oz_rows.specs.Rows.{row_bytes, IsRow}
use Rattle.oz_rows.specs.Reading.{ReadFails, row_at}
use Rattle.oz_rows.specs.Faults.{place_in, RowEnds, IsRowFault}
use Rattle.oz_rows.specs.laws.RowReads.{row_reads}

abbrev pub Found : Type 0
Found = Result ((RowKey × Row) × List ℕ) ℕ

abbrev pub read_as : RowKey × Row → List ℕ → Found
read_as row rest = Ok (row, rest)

pub row_again : (bytes : List ℕ) (key : RowKey) (row : Row) → IsRow bytes key row → row_at bytes ≡ read_as (key, row) []
row_again bytes key row is = ap row_at (is.1 ∙ sym (append-nil (row_bytes key row))) ∙ row_reads.reads_back (key, row) [] is.0

pub row_fault : (bytes : List ℕ) (fault : ReadFault) → ReadFails fault (row_at bytes) → IsRowFault bytes (place_in bytes fault)
row_fault bytes reads.OutOfMemory fails = tt
row_fault bytes (reads.Left left) fails = subst (λ (read : Found). RowEnds bytes (length bytes - left) read) (sym fails) refl

pub no_row_fails : (bytes : List ℕ) (fault : ReadFault) → ReadFails fault (row_at bytes) → (key : RowKey) (row : Row) → IsRow bytes key row → place_in bytes fault ≡ faults.OutOfMemory
no_row_fails bytes reads.OutOfMemory fails key row is = refl
no_row_fails bytes (reads.Left left) fails key row is = let again = row_again bytes key row is in absurd cc

pub row_found : (bytes : List ℕ) (row : RowKey × Row) (rest : List ℕ) → AreBytes bytes → row_at bytes ≡ read_as row rest → length rest ≡ 0 → IsRow bytes row.0 row.1
row_found bytes row rest fit e over =
    let spelled = row_reads.one_spelling bytes row rest fit e in
    (spelled.0, spelled.1 ∙ ap (λ (left : List ℕ). row_bytes row.0 row.1 ++ left) (nil_from_length rest over) ∙ append-nil (row_bytes row.0 row.1))

whole : (RowKey × Row) × List ℕ → Found
whole read = Ok read

same_whole : (read other : (RowKey × Row) × List ℕ) → whole read ≡ whole other → read ≡ other
unfolding whole
same_whole read other e = cc

same_read : (row other : RowKey × Row) (rest left : List ℕ) → read_as row rest ≡ read_as other left → (row ≡ other) × (rest ≡ left)
unfolding whole
same_read row other rest left e =
    let same = same_whole (row, rest) (other, left) e in
    (ap (λ (read : (RowKey × Row) × List ℕ). read.0) same, ap (λ (read : (RowKey × Row) × List ℕ). read.1) same)

pub row_is : (bytes : List ℕ) (row : RowKey × Row) (rest : List ℕ) → row_at bytes ≡ read_as row rest → (key : RowKey) (value : Row) → IsRow bytes key value → (row ≡ (key, value)) × (length rest ≡ 0)
row_is bytes row rest e key value is =
    let same = same_read row (key, value) rest [] (sym e ∙ row_again bytes key value is) in
    (same.0, ap length same.1)

pub row_goes_on : (bytes : List ℕ) (row : RowKey × Row) (rest : List ℕ) (place : ℕ) → row_at bytes ≡ read_as row rest → 1 ≤ length rest → place ≡ length bytes - length rest → RowEnds bytes place (row_at bytes)
row_goes_on bytes row rest place e more is = subst (λ (read : Found). RowEnds bytes place read) (sym e) (more, is)

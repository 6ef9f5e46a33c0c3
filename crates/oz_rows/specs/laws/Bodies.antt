-- Bodies: a head, and operations to the end.
use Rattle.std.proofs.Common.{◌≡◌, ℕ, List, ◌++◌, Result, Ok, refl, sym, ap, ◌∙◌, inl, inr}
use Rattle.oz_fields.specs.Field.{AreBytes}
use Rattle.oz_rows.specs.declared.fault.ReadFault.{ReadFault}
use Rattle.oz_rows.specs.declared.fault.ReadFault.TheVariants as reads
use Rattle.oz_rows.specs.declared.fault.RowFault.TheVariants as faults
use Rattle.oz_rows.specs.declared.operation.Operation.{Operation}
use Rattle.oz_rows.specs.declared.operation.Head.{Head}
use Rattle.oz_rows.specs.declared.operation.Operations.{Operations}
use Rattle.oz_rows.specs.Operations.{AreOperations, batch_bytes, head_bytes, head_in, IsBody}
use Rattle.oz_rows.specs.Reading.{ReadFails, head_at}
use Rattle.oz_rows.specs.Faults.{place_in, IsBodyFault, BatchFails}
use Rattle.oz_rows.specs.laws.OperationReads.{head_reads}
use Rattle.oz_rows.specs.laws.Batches.{no_batch_fails, same_batch}

abbrev Found : Type 0
Found = Result (Head × List ℕ) ℕ

abbrev read_as : Head → List ℕ → Found
read_as head rest = Ok (head, rest)

whole : Head × List ℕ → Found
whole read = Ok read

same_whole : (read other : Head × List ℕ) → whole read ≡ whole other → read ≡ other
unfolding whole
same_whole read other e = cc

same_read : (head other : Head) (rest left : List ℕ) → read_as head rest ≡ read_as other left → (head ≡ other) × (rest ≡ left)
unfolding whole
same_read head other rest left e =
    let same = same_whole (head, rest) (other, left) e in
    (ap (λ (read : Head × List ℕ). read.0) same, ap (λ (read : Head × List ℕ). read.1) same)

head_again : (bytes : List ℕ) (body : Operations) → IsBody bytes body → head_at bytes ≡ read_as (head_in body) (batch_bytes body.items)
head_again bytes body is = ap head_at is.2 ∙ head_reads.reads_back (head_in body) (batch_bytes body.items) is.0

pub head_fault : (bytes : List ℕ) (fault : ReadFault) → ReadFails fault (head_at bytes) → IsBodyFault bytes (place_in bytes fault)
head_fault bytes reads.OutOfMemory fails = tt
head_fault bytes (reads.Left left) fails = inl (left, fails, refl)

pub no_head_fails : (bytes : List ℕ) (fault : ReadFault) → ReadFails fault (head_at bytes) → (body : Operations) → IsBody bytes body
    → place_in bytes fault ≡ faults.OutOfMemory
no_head_fails bytes reads.OutOfMemory fails body is = refl
no_head_fails bytes (reads.Left left) fails body is = let again = head_again bytes body is in absurd cc

pub batch_fault : (bytes : List ℕ) (head : Head) (rest : List ℕ) (fault : ReadFault) → AreBytes bytes → head_at bytes ≡ read_as head rest
    → BatchFails rest fault → IsBodyFault bytes (place_in bytes fault)
batch_fault bytes head rest reads.OutOfMemory fit read fails = tt
batch_fault bytes head rest (reads.Left left) fit read fails =
    let spelled = head_reads.one_spelling bytes head rest fit read in
    inr (record { head = head; batch = rest; left = left; head_fits = spelled.0; parts = spelled.1; batch_ends = fails; is_left = refl })

pub no_operation_fails : (bytes : List ℕ) (head : Head) (rest : List ℕ) (fault : ReadFault) → head_at bytes ≡ read_as head rest → BatchFails rest fault
    → (body : Operations) → IsBody bytes body → place_in bytes fault ≡ faults.OutOfMemory
no_operation_fails bytes head rest reads.OutOfMemory read fails body is = refl
no_operation_fails bytes head rest (reads.Left left) read fails body is =
    let same = same_read head (head_in body) rest (batch_bytes body.items) (sym read ∙ head_again bytes body is) in
    absurd (no_batch_fails body.items rest left is.1 same.1 fails)

pub body_found : (bytes : List ℕ) (head : Head) (rest : List ℕ) (items : List Operation) → AreBytes bytes → head_at bytes ≡ read_as head rest
    → AreOperations items × (rest ≡ batch_bytes items) → IsBody bytes (record { layout = head.layout; index = head.index; items = items })
body_found bytes head rest items fit read all =
    let spelled = head_reads.one_spelling bytes head rest fit read in
    (spelled.0, all.0, spelled.1 ∙ ap (λ (batch : List ℕ). head_bytes head ++ batch) all.1)

made : Head → List Operation → Operations
made head items = record { layout = head.layout; index = head.index; items = items }

same_made : (head other : Head) (items other_items : List Operation) → head ≡ other → items ≡ other_items → made head items ≡ made other other_items
same_made head other items other_items a b = ap (λ (h : Head). made h items) a ∙ ap (made other) b

pub body_is : (bytes : List ℕ) (head : Head) (rest : List ℕ) (items : List Operation) → head_at bytes ≡ read_as head rest → AreOperations items
    × (rest ≡ batch_bytes items) → (body : Operations) → IsBody bytes body → record { layout = head.layout; index = head.index; items = items } ≡ body
unfolding made
body_is bytes head rest items read all body is =
    let same = same_read head (head_in body) rest (batch_bytes body.items) (sym read ∙ head_again bytes body is) in
    same_made head (head_in body) items body.items same.0 (same_batch body.items items is.1 all.0 (sym same.1 ∙ all.1))

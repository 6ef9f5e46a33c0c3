-- Bytes are a body, or a fault stands at one place of them.
use Rattle.std.proofs.Common.{◌≡◌, ℕ, zero, suc, ◌<◌, ◌≤◌, ◌-◌, ◌⊎◌, List, [], ◌∷◌, ◌++◌, length, Result, Ok, Err, refl, sym, ap, ◌∙◌, inl, inr, append_assoc, arith}
use Rattle.std.proofs.lemmas.List.Concat.{flat_map-cons}
use Rattle.oz_fields.specs.Field.{AreBytes}
use Rattle.oz_fields.specs.laws.Bytes.{AreBytes-behind}
use Rattle.oz_rows.specs.declared.fault.ReadFault.TheVariants as reads
use Rattle.oz_rows.specs.declared.fault.RowFault.TheVariants as faults
use Rattle.oz_rows.specs.declared.operation.Operation.{Operation}
use Rattle.oz_rows.specs.declared.operation.Head.{Head}
use Rattle.oz_rows.specs.declared.operation.Operations.{Operations}
use Rattle.oz_rows.specs.Operations.{OperationFits, operation_bytes, AreOperations, batch_bytes, head_bytes, IsHead, IsBody}
use Rattle.oz_rows.specs.Reading.{head_at, operation_at}
use Rattle.oz_rows.specs.Faults.{BatchEnds, OperationEnds, IsBodyFault}
use Rattle.oz_rows.specs.laws.OperationReads.{operation_reads, head_reads}
use Rattle.oz_rows.specs.laws.Batches.{fewer_left}
use Rattle.oz_rows.specs.laws.Bodies.{body_found, no_head_fails, no_operation_fails}

abbrev OperationRead : Type 0
OperationRead = Result (Operation × List ℕ) ℕ

abbrev HeadRead : Type 0
HeadRead = Result (Head × List ℕ) ℕ

abbrev Whole : List ℕ → Type 0
Whole bytes = (items : List Operation) × AreOperations items × (bytes ≡ batch_bytes items)

abbrev Cut : List ℕ → Type 0
Cut bytes = (left : ℕ) × BatchEnds bytes left

-- what stands behind one operation more
behind_one : (operation : Operation) (bytes rest : List ℕ) → OperationFits operation → bytes ≡ operation_bytes operation ++ rest → Whole rest ⊎ Cut rest → Whole bytes ⊎ Cut bytes
behind_one operation bytes rest fits e (inl (items, all, is)) =
    inl (operation ∷ items, (fits, all), (e ∙ ap (λ (l : List ℕ). operation_bytes operation ++ l) is ∙ sym (flat_map-cons operation_bytes operation items)))
behind_one operation bytes rest fits e (inr (left, ends)) = inr (
  left,
  record {
    before = operation ∷ ends.before;
    rest = ends.rest;
    before_fits = (fits, ends.before_fits);
    parts = e ∙ ap (λ (l : List ℕ). operation_bytes operation ++ l) ends.parts ∙ sym (append_assoc (operation_bytes operation) (batch_bytes ends.before) ends.rest)
        ∙ ap (λ (l : List ℕ). l ++ ends.rest) (sym (flat_map-cons operation_bytes operation ends.before));
    not_over = ends.not_over;
    fault = ends.fault;
  },
)

each_batch : (bound : ℕ) (bytes : List ℕ) → length bytes ≤ bound → AreBytes bytes → Whole bytes ⊎ Cut bytes
each_batch bound [] le fit = inl ([], tt, refl)
each_batch zero (b ∷ bytes) le fit = absurd (omega arith)
each_batch (suc bound) (b ∷ bytes) le fit = by (each_batch bound) (operation_at (b ∷ bytes)) refl
  where
    by : ((rest : List ℕ) → length rest ≤ bound → AreBytes rest → Whole rest ⊎ Cut rest) → (read : OperationRead) → operation_at (b ∷ bytes) ≡ read → Whole (b ∷ bytes) ⊎ Cut (b ∷ bytes)
    by behind (Err left) e = inr (left, record { before = []; rest = b ∷ bytes; before_fits = tt; parts = refl; not_over = omega arith; fault = e })
    by behind (Ok (operation, rest)) e =
        let spelled = operation_reads.one_spelling (b ∷ bytes) operation rest fit e in
        let fewer = fewer_left operation (b ∷ bytes) rest fit e in
        behind_one operation (b ∷ bytes) rest spelled.0 spelled.1 (behind rest (omega (arith, fewer)) (AreBytes-behind (b ∷ bytes) (operation_bytes operation) rest fit spelled.1))

pub each_body : (bytes : List ℕ) → AreBytes bytes → ((body : Operations) × IsBody bytes body) ⊎ ((place : ℕ) × IsBodyFault bytes (faults.At place))
each_body bytes fit = by (head_at bytes) refl
  where
    by : (read : HeadRead) → head_at bytes ≡ read → ((body : Operations) × IsBody bytes body) ⊎ ((place : ℕ) × IsBodyFault bytes (faults.At place))
    by (Err left) e = inr (length bytes - left, inl (left, e, refl))
    by (Ok (head, rest)) e = by_batch (each_batch (length rest) rest (omega arith) (AreBytes-behind bytes (head_bytes head) rest fit spelled.1))
      where
        spelled : IsHead head × (bytes ≡ head_bytes head ++ rest)
        spelled = head_reads.one_spelling bytes head rest fit e

        by_batch : Whole rest ⊎ Cut rest → ((body : Operations) × IsBody bytes body) ⊎ ((place : ℕ) × IsBodyFault bytes (faults.At place))
        by_batch (inl (items, all, is)) = inl (record { layout = head.layout; index = head.index; items = items }, body_found bytes head rest items fit e (all, is))
        by_batch (inr (left, ends)) = inr (length bytes - left, inr (record { head = head; batch = rest; left = left; head_fits = spelled.0; parts = spelled.1; batch_ends = ends; is_left = refl }))

pub body_without_fault : (bytes : List ℕ) (body : Operations) (place : ℕ) → IsBody bytes body → IsBodyFault bytes (faults.At place) → ⊥
body_without_fault bytes body place is (inl (left, e, at)) = let none = no_head_fails bytes (reads.Left left) e body is in absurd cc
body_without_fault bytes body place is (inr ends) =
    let head = ap head_at ends.parts ∙ head_reads.reads_back ends.head ends.batch ends.head_fits in
    let none = no_operation_fails bytes ends.head ends.batch (reads.Left ends.left) head ends.batch_ends body is in
    absurd cc

-- ---- one place

left_or : {A : Type 0} → Result A ℕ → ℕ
left_or (Ok x) = 0
left_or (Err left) = left

err : (A : Type 0) → ℕ → Result A ℕ
err A left = Err left

err_same : (A : Type 0) (a b : ℕ) → err A a ≡ err A b → a ≡ b
unfolding left_or err
err_same A a b e = ap left_or e

operation_read : Operation × List ℕ → OperationRead
operation_read read = Ok read

head_read : Head × List ℕ → HeadRead
head_read read = Ok read

same_operation : (x y : Operation × List ℕ) → operation_read x ≡ operation_read y → x ≡ y
unfolding operation_read
same_operation x y e = cc

same_head : (x y : Head × List ℕ) → head_read x ≡ head_read y → x ≡ y
unfolding head_read
same_head x y e = cc

first_read : (first : Operation) (others : List Operation) (rest : List ℕ) → OperationFits first → operation_at (batch_bytes (first ∷ others) ++ rest) ≡ operation_read (first, batch_bytes others ++ rest)
unfolding operation_read
first_read first others rest fits =
    ap operation_at (ap (λ (text : List ℕ). text ++ rest) (flat_map-cons operation_bytes first others) ∙ append_assoc (operation_bytes first) (batch_bytes others) rest)
    ∙ operation_reads.reads_back first (batch_bytes others ++ rest) fits

unread : (read : Operation × List ℕ) (rest : List ℕ) (left : ℕ) → operation_at rest ≡ operation_read read → operation_at rest ≡ Err left → ⊥
unfolding operation_read
unread read rest left a b = absurd cc

-- operations of two rows of them that begin at one place are the same, up to what can't be read
ends_once : (a b : List Operation) (rest other : List ℕ) (left behind : ℕ) → AreOperations a → AreOperations b → batch_bytes a ++ rest ≡ batch_bytes b ++ other → operation_at rest ≡ Err left → operation_at other ≡ Err behind → rest ≡ other
ends_once [] [] rest other left behind fit_a fit_b e at_a at_b = e
ends_once [] (y ∷ b) rest other left behind fit_a fit_b e at_a at_b = absurd (unread (y, batch_bytes b ++ other) rest left (ap operation_at e ∙ first_read y b other fit_b.0) at_a)
ends_once (x ∷ a) [] rest other left behind fit_a fit_b e at_a at_b = absurd (unread (x, batch_bytes a ++ rest) other behind (ap operation_at (sym e) ∙ first_read x a rest fit_a.0) at_b)
ends_once (x ∷ a) (y ∷ b) rest other left behind fit_a fit_b e at_a at_b =
    let same = same_operation (x, batch_bytes a ++ rest) (y, batch_bytes b ++ other) (sym (first_read x a rest fit_a.0) ∙ ap operation_at e ∙ first_read y b other fit_b.0) in
    ends_once a b rest other left behind fit_a.1 fit_b.1 (ap (λ (read : Operation × List ℕ). read.1) same) at_a at_b

headed : (bytes : List ℕ) (place : ℕ) → (ends : OperationEnds bytes place) → head_at bytes ≡ head_read (ends.head, ends.batch)
unfolding head_read
headed bytes place ends = ap head_at ends.parts ∙ head_reads.reads_back ends.head ends.batch ends.head_fits

unheaded : (bytes : List ℕ) (read : Head × List ℕ) (left : ℕ) → head_at bytes ≡ head_read read → head_at bytes ≡ Err left → ⊥
unfolding head_read
unheaded bytes read left a b = absurd cc

failed_once : (A : Type 0) (read : Result A ℕ) (a b : ℕ) → read ≡ Err a → read ≡ Err b → a ≡ b
unfolding err
failed_once A read a b x y = err_same A a b (sym x ∙ y)

pub one_place : (bytes : List ℕ) (a b : ℕ) → IsBodyFault bytes (faults.At a) → IsBodyFault bytes (faults.At b) → a ≡ b
one_place bytes a b (inl (left, e, at)) (inl (other, f, here)) = at ∙ ap (λ (n : ℕ). length bytes - n) (failed_once (Head × List ℕ) (head_at bytes) left other e f) ∙ sym here
one_place bytes a b (inl (left, e, at)) (inr ends) = absurd (unheaded bytes (ends.head, ends.batch) left (headed bytes b ends) e)
one_place bytes a b (inr ends) (inl (left, e, at)) = absurd (unheaded bytes (ends.head, ends.batch) left (headed bytes a ends) e)
one_place bytes a b (inr x) (inr y) =
    let same = ap (λ (read : Head × List ℕ). read.1) (same_head (x.head, x.batch) (y.head, y.batch) (sym (headed bytes a x) ∙ headed bytes b y)) in
    let rest = ends_once x.batch_ends.before y.batch_ends.before x.batch_ends.rest y.batch_ends.rest x.left y.left x.batch_ends.before_fits y.batch_ends.before_fits (sym x.batch_ends.parts ∙ same ∙ y.batch_ends.parts) x.batch_ends.fault y.batch_ends.fault in
    let left = failed_once (Operation × List ℕ) (operation_at y.batch_ends.rest) x.left y.left (ap operation_at (sym rest) ∙ x.batch_ends.fault) y.batch_ends.fault in
    x.is_left ∙ ap (λ (n : ℕ). length bytes - n) left ∙ sym y.is_left

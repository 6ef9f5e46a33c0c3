-- Operations one behind the other, to the end.
use Rattle.std.proofs.Common.{◌≡◌, ℕ, ◌<◌, ◌≤◌, List, [], ◌∷◌, ◌++◌, length, Result, Ok, Err, refl, sym, ap, ◌∙◌}
use Rattle.std.proofs.Common.{append_assoc, arith}
use Rattle.std.proofs.lemmas.List.{append-nil, nil_from_length, length-append}
use Rattle.std.proofs.lemmas.List.Concat.{flat_map-cons}
use Rattle.oz_fields.specs.Field.{AreBytes}
use Rattle.oz_rows.specs.declared.fault.ReadFault.{ReadFault}
use Rattle.oz_rows.specs.declared.fault.ReadFault.TheVariants as reads
use Rattle.oz_rows.specs.declared.operation.Operation.{Operation}
use Rattle.oz_rows.specs.Operations.{OperationFits, operation_bytes, AreOperations, batch_bytes}
use Rattle.oz_rows.specs.Reading.{ReadFails, operation_at}
use Rattle.oz_rows.specs.Faults.{BatchEnds, BatchFails}
use Rattle.oz_rows.specs.laws.OperationReads.{operation_reads, some_bytes}

abbrev Found : Type 0
Found = Result (Operation × List ℕ) ℕ

abbrev read_as : Operation → List ℕ → Found
read_as operation rest = Ok (operation, rest)

batch-push : (before : List Operation) (operation : Operation) → batch_bytes (before ++ operation ∷ []) ≡ batch_bytes before ++ operation_bytes operation
batch-push [] operation = flat_map-cons operation_bytes operation [] ∙ append-nil (operation_bytes operation)
batch-push (first ∷ before) operation =
    flat_map-cons operation_bytes first (before ++ operation ∷ []) ∙ ap (λ (text : List ℕ). operation_bytes first ++ text) (batch-push before operation)
    ∙ sym (append_assoc (operation_bytes first) (batch_bytes before) (operation_bytes operation))
    ∙ ap (λ (text : List ℕ). text ++ operation_bytes operation) (sym (flat_map-cons operation_bytes first before))

AreOperations-push : (before : List Operation) (operation : Operation) → AreOperations before → OperationFits operation
    → AreOperations (before ++ operation ∷ [])
AreOperations-push [] operation all fits = (fits, tt)
AreOperations-push (first ∷ before) operation all fits = (all.0, AreOperations-push before operation all.1 fits)

-- one more operation was read
pub one_more : (before : List Operation) (operation : Operation) (bytes rest after : List ℕ) → AreBytes rest → operation_at rest ≡ read_as operation after
    → AreOperations before × (bytes ≡ batch_bytes before ++ rest)
    → AreOperations (before ++ operation ∷ []) × (bytes ≡ batch_bytes (before ++ operation ∷ []) ++ after)
one_more before operation bytes rest after fit here so_far =
    let spelled = operation_reads.one_spelling rest operation after fit here in (
      AreOperations-push before operation so_far.0 spelled.0,
      so_far.1 ∙ ap (λ (text : List ℕ). batch_bytes before ++ text) spelled.1 ∙ sym (append_assoc (batch_bytes before) (operation_bytes operation) after)
          ∙ ap (λ (text : List ℕ). text ++ after) (sym (batch-push before operation)),
    )

pub fewer_left : (operation : Operation) (rest after : List ℕ) → AreBytes rest → operation_at rest ≡ read_as operation after → length after < length rest
fewer_left operation rest after fit here =
    let spelled = operation_reads.one_spelling rest operation after fit here in
    omega (arith, ap length spelled.1, length-append (operation_bytes operation) after, some_bytes operation)

pub batch_stops : (fault : ReadFault) (before : List Operation) (bytes rest : List ℕ) → ReadFails fault (operation_at rest) → 1 ≤ length rest
    → AreOperations before × (bytes ≡ batch_bytes before ++ rest) → BatchFails bytes fault
batch_stops reads.OutOfMemory before bytes rest fails more so_far = tt
batch_stops (reads.Left left) before bytes rest fails more so_far =
    record { before = before; rest = rest; before_fits = so_far.0; parts = so_far.1; not_over = more; fault = fails }

pub batch_done : (found : List Operation) (bytes rest : List ℕ) → length rest ≡ 0 → AreOperations found × (bytes ≡ batch_bytes found ++ rest)
    → AreOperations found × (bytes ≡ batch_bytes found)
batch_done found bytes rest over so_far =
    (so_far.0, so_far.1 ∙ ap (λ (left : List ℕ). batch_bytes found ++ left) (nil_from_length rest over) ∙ append-nil (batch_bytes found))

-- operations at the front of a batch are the batch's first operations
record GoesOn (all before : List Operation) (rest : List ℕ) : Type 0 where
  after : List Operation
  parts : all ≡ before ++ after
  left : rest ≡ batch_bytes after
  fits : AreOperations after

whole : Operation × List ℕ → Found
whole read = Ok read

same_whole : (read other : Operation × List ℕ) → whole read ≡ whole other → read ≡ other
unfolding whole
same_whole read other e = cc

same_read : (operation other : Operation) (rest left : List ℕ) → read_as operation rest ≡ read_as other left → (operation ≡ other) × (rest ≡ left)
unfolding whole
same_read operation other rest left e =
    let same = same_whole (operation, rest) (other, left) e in
    (ap (λ (read : Operation × List ℕ). read.0) same, ap (λ (read : Operation × List ℕ). read.1) same)

cons_batch : (first : Operation) (others : List Operation) → OperationFits first
    → operation_at (batch_bytes (first ∷ others)) ≡ read_as first (batch_bytes others)
cons_batch first others fits = ap operation_at (flat_map-cons operation_bytes first others) ∙ operation_reads.reads_back first (batch_bytes others) fits

nothing_read : (operation : Operation) (rest : List ℕ) → operation_at [] ≡ read_as operation rest → ⊥
unfolding operation_at
nothing_read operation rest e = cc

goes_on : (all before : List Operation) (rest : List ℕ) → AreOperations all → AreOperations before → batch_bytes all ≡ batch_bytes before ++ rest
    → GoesOn all before rest
goes_on all [] rest fits before_fits e = record { after = all; parts = refl; left = sym e; fits = fits }
goes_on [] (first ∷ before) rest fits before_fits e =
    let here : [] ≡ operation_bytes first ++ (batch_bytes before ++ rest) = e
    ∙ ap (λ (text : List ℕ). text ++ rest) (flat_map-cons operation_bytes first before)
    ∙ append_assoc (operation_bytes first) (batch_bytes before) rest in
    absurd (nothing_read first (batch_bytes before ++ rest)
    (ap operation_at here ∙ operation_reads.reads_back first (batch_bytes before ++ rest) before_fits.0))
goes_on (one ∷ all) (first ∷ before) rest fits before_fits e =
    let here : batch_bytes (one ∷ all) ≡ operation_bytes first ++ (batch_bytes before ++ rest) = e
    ∙ ap (λ (text : List ℕ). text ++ rest) (flat_map-cons operation_bytes first before)
    ∙ append_assoc (operation_bytes first) (batch_bytes before) rest in
    let same = same_read one first (batch_bytes all) (batch_bytes before ++ rest)
    (sym (cons_batch one all fits.0) ∙ ap operation_at here ∙ operation_reads.reads_back first (batch_bytes before ++ rest) before_fits.0) in
    let further = goes_on all before rest fits.1 before_fits.1 same.1 in
    record {
      after = further.after;
      parts = ap (λ (operation : Operation). operation ∷ all) same.0
          ∙ ap (λ (operations : List Operation). first ∷ operations) further.parts;
      left = further.left;
      fits = further.fits;
    }

-- nothing in a whole batch is at fault
nothing_left : (after : List Operation) (rest : List ℕ) (left : ℕ) → rest ≡ batch_bytes after → AreOperations after → 1 ≤ length rest
    → operation_at rest ≡ Err left → ⊥
nothing_left [] rest left is fits more e = absurd (omega (arith, ap length is))
nothing_left (first ∷ others) rest left is fits more e = let read = ap operation_at is ∙ cons_batch first others fits.0 in cc

pub no_batch_fails : (all : List Operation) (bytes : List ℕ) (left : ℕ) → AreOperations all → bytes ≡ batch_bytes all → BatchEnds bytes left → ⊥
no_batch_fails all bytes left fits is ends =
    let further = goes_on all ends.before ends.rest fits ends.before_fits (sym is ∙ ends.parts) in
    nothing_left further.after ends.rest left further.left further.fits ends.not_over ends.fault

none_after : (after : List Operation) → [] ≡ batch_bytes after → AreOperations after → after ≡ []
none_after [] e fits = refl
none_after (first ∷ others) e fits = absurd (nothing_read first (batch_bytes others) (ap operation_at e ∙ cons_batch first others fits.0))

pub same_batch : (all found : List Operation) → AreOperations all → AreOperations found → batch_bytes all ≡ batch_bytes found → found ≡ all
same_batch all found fits found_fits e =
    let further = goes_on all found [] fits found_fits (e ∙ sym (append-nil (batch_bytes found))) in
    sym (further.parts ∙ ap (λ (operations : List Operation). found ++ operations) (none_after further.after further.left further.fits) ∙ append-nil found)

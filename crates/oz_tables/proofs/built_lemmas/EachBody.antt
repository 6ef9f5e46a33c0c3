-- Each list of bodies makes rows, or is damaged at some place.
use Rattle.std.proofs.Common.{◌≡◌, ℕ, zero, suc, ◌<◌, ◌≤◌, ◌-◌, ◌+◌, ◌⊎◌, Bool, true, false, List, [], ◌∷◌, ◌++◌, length, Option, Some, None, IsSome, Result, Ok, Err, refl, sym, ap, ◌∙◌, subst, inl, inr, append_assoc, append-nil, arith}
use Rattle.std.specs.Prelude.{MatchBool}
use Rattle.std.specs.List.{AllByRecursion, list_any}
use mathlib.Core.Bool.{false≢true}
use Rattle.std.proofs.lemmas.Bool.{cases_lt}
use Rattle.std.proofs.lemmas.List.Concat.{flat_map-cons}
use Rattle.oz_fields.specs.Field.{AreBytes}
use Rattle.oz_fields.specs.laws.Bytes.{AreBytes-behind}
use Rattle.oz_rows.specs.declared.key.RowKey.{RowKey}
use Rattle.oz_rows.specs.declared.row.Row.{Row}
use Rattle.oz_rows.specs.declared.operation.Head.{Head}
use Rattle.oz_rows.specs.declared.operation.Operation.{Operation}
use Rattle.oz_rows.specs.declared.operation.Operation.TheVariants.{Put, Remove, CopyKeys, MoveDeleted, DropKeys, DropOpen}
use Rattle.oz_rows.specs.declared.operation.Operations.{Operations}
use Rattle.oz_rows.specs.Operations.{OperationFits, operation_bytes, AreOperations, batch_bytes, head_bytes, head_in, IsHead, IsBody}
use Rattle.oz_rows.specs.Reading.{head_at, operation_at}
use Rattle.oz_rows.specs.laws.OperationReads.{operation_reads, head_reads}
use Rattle.oz_rows.specs.laws.Batches.{fewer_left}
use Rattle.oz_rows.specs.laws.Bodies.{body_found}
use Rattle.oz_rows.specs.declared.entry.RowEntry.{RowEntry}
use Rattle.oz_rows.specs.RowMaps.{row_of, KeysRise, Becomes}
use Rattle.oz_effects.specs.Effects.{Leads, IsPossible, operation_changes}
use Rattle.oz_effects.specs.Build.{base_of, removes, IsOrphan, LeavesOne, AllAreBased, IsAtFault, NoneAtFault, no_head, Rises, IsNextBody, BuildsFrom, Builds, OperationFails, IsDamagedBody, FailsFrom, FailsAt}
use Rattle.oz_tables.specs.built.Steps.{is_left}
use Rattle.oz_rows.specs.laws.Changes.{become}
use Rattle.oz_effects.specs.laws.Steps.{some_apart, some_inside, leads_rise}
use Rattle.oz_effects.specs.laws.Based.{based_after}
use Rattle.oz_tables.specs.built.laws.Lefts.{left_told}

abbrev OperationRead : Type 0
OperationRead = Result (Operation × List ℕ) ℕ

abbrev HeadRead : Type 0
HeadRead = Result (Head × List ℕ) ℕ

-- ---- the operations of a batch, one after another

-- all of them may follow each other
record Follows (before : List RowEntry) (bytes : List ℕ) : Type 0 where
  items : List Operation
  after : List RowEntry
  fit : AreOperations items
  parts : bytes ≡ batch_bytes items
  leads : Leads before items after

-- one fails
record Stops (before : List RowEntry) (bytes : List ℕ) : Type 0 where
  items : List Operation
  rest : List ℕ
  between : List RowEntry
  fit : AreOperations items
  parts : bytes ≡ batch_bytes items ++ rest
  leads : Leads before items between
  not_over : 1 ≤ length rest
  fails : (body : List ℕ) → (place : ℕ) × OperationFails between body rest place

-- what an operation that removes nothing names
abbrev NotThere : List RowEntry → Operation → Type 0
NotThere all operation = (key : RowKey) × (operation ≡ Remove key) × (row_of all key ≡ None)

possible_or_not : (all : List RowEntry) (operation : Operation) → IsPossible all operation ⊎ NotThere all operation
possible_or_not all (Put key row) = inl tt
possible_or_not all (CopyKeys volume bucket number) = inl tt
possible_or_not all (MoveDeleted volume bucket from to) = inl tt
possible_or_not all (DropKeys volume bucket number) = inl tt
possible_or_not all (DropOpen volume bucket) = inl tt
possible_or_not all (Remove key) = by (row_of all key) refl
  where
    by : (row : Option Row) → row_of all key ≡ row → IsSome (row_of all key) ⊎ NotThere all (Remove key)
    by None e = inr (key, refl, e)
    by (Some row) e = inl (subst IsSome (sym e) refl)

module _ (before between : List RowEntry) (operation : Operation) (bytes rest : List ℕ) (possible : IsPossible before operation) (becomes : Becomes before (operation_changes before operation) between) (fits : OperationFits operation) (e : bytes ≡ operation_bytes operation ++ rest) where
  one_before : Follows between rest ⊎ Stops between rest → Follows before bytes ⊎ Stops before bytes
  unfolding Leads
  one_before (inl follows) = inl (record {
    items = operation ∷ follows.items;
    after = follows.after;
    fit = (fits, follows.fit);
    parts = e ∙ ap (λ (l : List ℕ). operation_bytes operation ++ l) follows.parts ∙ sym (flat_map-cons operation_bytes operation follows.items);
    leads = (between, possible, becomes, follows.leads);
  })
  one_before (inr stops) = inr (record {
    items = operation ∷ stops.items;
    rest = stops.rest;
    between = stops.between;
    fit = (fits, stops.fit);
    parts = e ∙ ap (λ (l : List ℕ). operation_bytes operation ++ l) stops.parts ∙ sym (append_assoc (operation_bytes operation) (batch_bytes stops.items) stops.rest)
        ∙ ap (λ (l : List ℕ). l ++ stops.rest) (sym (flat_map-cons operation_bytes operation stops.items));
    leads = (between, possible, becomes, stops.leads);
    not_over = stops.not_over;
    fails = stops.fails;
  })

stops_here : (before : List RowEntry) (bytes : List ℕ) → 1 ≤ length bytes → ((body : List ℕ) → (place : ℕ) × OperationFails before body bytes place) → Stops before bytes
unfolding Leads
stops_here before bytes more fails = record { items = []; rest = bytes; between = before; fit = tt; parts = refl; leads = refl; not_over = more; fails = fails }

nothing_follows : (before : List RowEntry) → Follows before []
unfolding Leads
nothing_follows before = record { items = []; after = before; fit = tt; parts = refl; leads = refl }

module _ (bound : ℕ) (before : List RowEntry) (bytes : List ℕ) (le : length bytes ≤ suc bound) (more : 1 ≤ length bytes) (rise : KeysRise before) (fit : AreBytes bytes)
    (behind : (before : List RowEntry) (rest : List ℕ) → length rest ≤ bound → KeysRise before → AreBytes rest → Follows before rest ⊎ Stops before rest) where
  one_taken : (operation : Operation) (rest : List ℕ) → operation_at bytes ≡ Ok (operation, rest) → IsPossible before operation ⊎ NotThere before operation → Follows before bytes ⊎ Stops before bytes
  one_taken operation rest e (inr (key, is, absent)) =
      let read = e ∙ ap (λ (operation : Operation). Ok (operation, rest)) is in
      inr (stops_here before bytes more (λ body. (length body - length bytes, inr (key, rest, read, absent, refl))))
  one_taken operation rest e (inl possible) =
      let spelled = operation_reads.one_spelling bytes operation rest fit e in
      let fewer = fewer_left operation bytes rest fit e in
      let made = become (operation_changes before operation) before rise in
      one_before before made.0 operation bytes rest possible made.1 spelled.0 spelled.1
      (behind made.0 rest (omega (arith, fewer)) made.1.in_order (AreBytes-behind bytes (operation_bytes operation) rest fit spelled.1))

  one_read : (read : OperationRead) → operation_at bytes ≡ read → Follows before bytes ⊎ Stops before bytes
  one_read (Err left) e = inr (stops_here before bytes more (λ body. (length body - left, inl (left, e, refl))))
  one_read (Ok (operation, rest)) e = one_taken operation rest e (possible_or_not before operation)

each_batch : (bound : ℕ) (before : List RowEntry) (bytes : List ℕ) → length bytes ≤ bound → KeysRise before → AreBytes bytes → Follows before bytes ⊎ Stops before bytes
each_batch bound before [] le rise fit = inl (nothing_follows before)
each_batch zero before (b ∷ bytes) le rise fit = absurd (omega arith)
each_batch (suc bound) before (b ∷ bytes) le rise fit = one_read bound before (b ∷ bytes) le (omega arith) rise fit (each_batch bound) (operation_at (b ∷ bytes)) refl

-- ---- an operation is at fault or not

module _ (after : List RowEntry) (rise : KeysRise after) (whole : List Operation) where
  orphan_or_not : (key : RowKey) → ((base : RowKey) × IsOrphan after key base) ⊎ ((base : RowKey) → IsOrphan after key base → ⊥)
  orphan_or_not key = by (row_of after key) refl
    where
      by : (o : Option Row) → row_of after key ≡ o → ((base : RowKey) × IsOrphan after key base) ⊎ ((base : RowKey) → IsOrphan after key base → ⊥)
      by None e = inr (λ base orphan. some_apart (sym orphan.stands ∙ e))
      by (Some row) e = needs (base_of key row) refl
        where
          needs : (o : Option RowKey) → base_of key row ≡ o → ((base : RowKey) × IsOrphan after key base) ⊎ ((base : RowKey) → IsOrphan after key base → ⊥)
          needs None f = inr (λ base orphan. some_apart (sym (ap (base_of key) (some_inside row row orphan.row (sym e ∙ orphan.stands)) ∙ orphan.needs) ∙ f))
          needs (Some base) f = there (row_of after base) refl
            where
              there : (o : Option Row) → row_of after base ≡ o → ((base : RowKey) × IsOrphan after key base) ⊎ ((base : RowKey) → IsOrphan after key base → ⊥)
              there None g = inl (base, record { row = row; stands = e; needs = f; absent = g })
              there (Some other) g = inr (λ another orphan.
                  let same = some_inside base base another (sym f ∙ ap (base_of key) (some_inside row row orphan.row (sym e ∙ orphan.stands)) ∙ orphan.needs) in
                  some_apart (sym (ap (row_of after) (sym same) ∙ g) ∙ orphan.absent))

  leaves_or_not : (base : RowKey) → LeavesOne after whole base ⊎ (LeavesOne after whole base → ⊥)
  leaves_or_not base = by (row_of after base) refl
    where
      by : (o : Option Row) → row_of after base ≡ o → LeavesOne after whole base ⊎ (LeavesOne after whole base → ⊥)
      by (Some row) e = inr (λ leaves. some_apart (sym e ∙ leaves.1.absent))
      by None e = told (list_any (is_left whole base) after) (left_told after whole base (list_any (is_left whole base) after) rise e refl)
        where
          told : (t : Bool) → MatchBool t (LeavesOne after whole base) (LeavesOne after whole base → ⊥) → LeavesOne after whole base ⊎ (LeavesOne after whole base → ⊥)
          told true leaves = inl leaves
          told false none = inr none

  fault_or_not : (later : List Operation) (operation : Operation) → IsAtFault after whole later operation ⊎ (IsAtFault after whole later operation → ⊥)
  fault_or_not later (Put key row) = by (orphan_or_not key)
    where
      by : ((base : RowKey) × IsOrphan after key base) ⊎ ((base : RowKey) → IsOrphan after key base → ⊥) → IsAtFault after whole later (Put key row) ⊎ (IsAtFault after whole later (Put key row) → ⊥)
      by (inl orphan) = inl orphan
      by (inr none) = inr (λ orphan. none orphan.0 orphan.1)
  fault_or_not later (Remove base) = by (leaves_or_not base) (list_any (removes base) later) refl
    where
      by : LeavesOne after whole base ⊎ (LeavesOne after whole base → ⊥) → (t : Bool) → list_any (removes base) later ≡ t → IsAtFault after whole later (Remove base) ⊎ (IsAtFault after whole later (Remove base) → ⊥)
      by (inr none) t e = inr (λ fault. none fault.0)
      by (inl leaves) true e = inr (λ fault. false≢true (sym fault.1 ∙ e))
      by (inl leaves) false e = inl (leaves, e)
  fault_or_not later (CopyKeys volume bucket number) = inr (λ fault. fault)
  fault_or_not later (MoveDeleted volume bucket from to) = inr (λ fault. fault)
  fault_or_not later (DropKeys volume bucket number) = inr (λ fault. fault)
  fault_or_not later (DropOpen volume bucket) = inr (λ fault. fault)

  record FirstFault (items : List Operation) : Type 0 where
    earlier : List Operation
    operation : Operation
    later : List Operation
    parts : items ≡ earlier ++ operation ∷ later
    first : NoneAtFault after whole earlier (operation ∷ later)
    at_fault : IsAtFault after whole later operation

  first_fault : (items behind : List Operation) → NoneAtFault after whole items behind ⊎ FirstFault (items ++ behind)
  first_fault [] behind = inl tt
  first_fault (operation ∷ items) behind = by (fault_or_not (items ++ behind) operation) (first_fault items behind)
    where
      by : IsAtFault after whole (items ++ behind) operation ⊎ (IsAtFault after whole (items ++ behind) operation → ⊥) → NoneAtFault after whole items behind ⊎ FirstFault (items ++ behind)
          → NoneAtFault after whole (operation ∷ items) behind ⊎ FirstFault (operation ∷ (items ++ behind))
      by (inl fault) rest = inr (record { earlier = []; operation = operation; later = items ++ behind; parts = refl; first = tt; at_fault = fault })
      by (inr none) (inl all) = inl (none, all)
      by (inr none) (inr found) = inr (record {
        earlier = operation ∷ found.earlier;
        operation = found.operation;
        later = found.later;
        parts = ap (λ (l : List Operation). operation ∷ l) found.parts;
        first = (subst (λ (l : List Operation). IsAtFault after whole l operation → ⊥) found.parts none, found.first);
        at_fault = found.at_fault;
      })

-- ---- bodies

abbrev body_with : Head → List Operation → Operations
body_with head items = record { layout = head.layout; index = head.index; items = items }

abbrev Next : Head → List RowEntry → List ℕ → Type 0
Next last before bytes = (body : Operations) × (after : List RowEntry) × IsNextBody last before bytes body after

abbrev Damaged : Head → List RowEntry → List ℕ → Type 0
Damaged last before bytes = (place : ℕ) × IsDamagedBody last before bytes place

module _ (last : Head) (before : List RowEntry) (bytes : List ℕ) (rise : KeysRise before) (based : AllAreBased before) (fit : AreBytes bytes) where
  module _ (head : Head) (rest : List ℕ) (reads : head_at bytes ≡ Ok (head, rest)) (rises : Rises last head) where
    spelled : IsHead head × (bytes ≡ head_bytes head ++ rest)
    spelled = head_reads.one_spelling bytes head rest fit reads

    stopped : Stops before rest → Damaged last before bytes
    stopped stops =
        let fails = stops.fails bytes in (
          fails.0,
          inr (inl (record {
            head = head;
            items = stops.items;
            rest = stops.rest;
            between = stops.between;
            reads = reads ∙ ap (λ (rest : List ℕ). Ok (head, rest)) stops.parts;
            rises = rises;
            fit = stops.fit;
            leads = stops.leads;
            not_over = stops.not_over;
            fails = fails.1;
          })),
        )

    followed : Follows before rest → Next last before bytes ⊎ Damaged last before bytes
    followed follows = by (first_fault follows.after (leads_rise before follows.items follows.after follows.leads rise) follows.items follows.items [])
      where
        is : IsBody bytes (body_with head follows.items)
        is = body_found bytes head rest follows.items fit reads (follows.fit, follows.parts)

        by : NoneAtFault follows.after follows.items follows.items [] ⊎ FirstFault follows.after (leads_rise before follows.items follows.after follows.leads rise) follows.items (follows.items ++ []) → Next last before bytes ⊎ Damaged last before bytes
        by (inl none) = inl (body_with head follows.items, follows.after, record { body_is = is; rises = rises; leads = follows.leads; based = based_after before follows.items follows.after based follows.leads none })
        by (inr found) = inr (
          length (head_bytes head) + length (batch_bytes found.earlier),
          inr (inr (record {
            body = body_with head follows.items;
            after = follows.after;
            earlier = found.earlier;
            operation = found.operation;
            later = found.later;
            body_is = is;
            rises = rises;
            leads = follows.leads;
            parts = sym (append-nil follows.items) ∙ found.parts;
            first = found.first;
            at_fault = found.at_fault;
            begins = refl;
          })),
        )

    by_batch : Follows before rest ⊎ Stops before rest → Next last before bytes ⊎ Damaged last before bytes
    by_batch (inl follows) = followed follows
    by_batch (inr stops) = inr (stopped stops)

    risen : Next last before bytes ⊎ Damaged last before bytes
    risen = by_batch (each_batch (length rest) before rest (omega arith) rise (AreBytes-behind bytes (head_bytes head) rest fit spelled.1))

  each_body : Next last before bytes ⊎ Damaged last before bytes
  each_body = by (head_at bytes) refl
    where
      by : (read : HeadRead) → head_at bytes ≡ read → Next last before bytes ⊎ Damaged last before bytes
      by (Err left) e = inr (length bytes - left, inl (inl (left, e, refl)))
      by (Ok (head, rest)) e = by_layout (cases_lt head.layout last.layout)
        where
          by_index : last.layout ≤ head.layout → (last.index < head.index) ⊎ (head.index ≤ last.index) → Next last before bytes ⊎ Damaged last before bytes
          by_index kept (inl above) = risen head rest e (record { layout = kept; index = above })
          by_index kept (inr le) = inr (1, inl (inr (head, rest, e, inr (kept, le, refl))))

          by_layout : (head.layout < last.layout) ⊎ (last.layout ≤ head.layout) → Next last before bytes ⊎ Damaged last before bytes
          by_layout (inl below) = inr (0, inl (inr (head, rest, e, inl (below, refl))))
          by_layout (inr kept) = by_index kept (cases_lt last.index head.index)

abbrev Built : List RowEntry → Head → List (List ℕ) → Type 0
Built before last bodies = (all : List RowEntry) × (head : Head) × BuildsFrom before last bodies all head

abbrev Failed : List RowEntry → Head → List (List ℕ) → Type 0
Failed before last bodies = (count : ℕ) × (place : ℕ) × FailsFrom before last bodies count place

module _ (before : List RowEntry) (last : Head) (bytes : List ℕ) (bodies : List (List ℕ)) (rise : KeysRise before) (behind : (between : List RowEntry) (head : Head) → KeysRise between → AllAreBased between → Built between head bodies ⊎ Failed between head bodies) where
  one_more : (body : Operations) (after : List RowEntry) → IsNextBody last before bytes body after → Built after (head_in body) bodies ⊎ Failed after (head_in body) bodies → Built before last (bytes ∷ bodies) ⊎ Failed before last (bytes ∷ bodies)
  unfolding BuildsFrom FailsFrom
  one_more body after next (inl (all, head, builds)) = inl (all, head, (body, after, next, builds))
  one_more body after next (inr (count, place, fails)) = inr (suc count, place, (body, after, next, fails))

  one_first : Next last before bytes ⊎ Damaged last before bytes → Built before last (bytes ∷ bodies) ⊎ Failed before last (bytes ∷ bodies)
  unfolding BuildsFrom FailsFrom
  one_first (inr (place, damaged)) = inr (0, place, damaged)
  one_first (inl (body, after, next)) = one_more body after next (behind after (head_in body) (leads_rise before body.items after next.leads rise) next.based)

pub each_builds : (before : List RowEntry) (last : Head) (bodies : List (List ℕ)) → KeysRise before → AllAreBased before → AllByRecursion AreBytes bodies → Built before last bodies ⊎ Failed before last bodies
unfolding BuildsFrom FailsFrom
each_builds before last [] rise based fit = inl (before, last, (refl, refl))
each_builds before last (bytes ∷ bodies) rise based fit =
    one_first before last bytes bodies rise (λ between head rise based. each_builds between head bodies rise based fit.1) (each_body last before bytes rise based fit.0)

-- what they make is told by the index alone
pub told : (bodies : List (List ℕ)) → Built [] no_head bodies ⊎ Failed [] no_head bodies
    → ((all : List RowEntry) × (index : ℕ) × Builds bodies all index) ⊎ ((count : ℕ) × (place : ℕ) × FailsAt bodies count place)
told bodies (inl (all, head, builds)) = inl (all, head.index, (head, builds, refl))
told bodies (inr fails) = inr fails

-- Bodies make one thing.
use Rattle.std.proofs.Common.{◌≡◌, ℕ, zero, suc, ◌<◌, ◌≤◌, ◌+◌, ◌-◌, Bool, true, false, List, [], ◌∷◌, ◌++◌, length, Option, Some, None, IsSome, Result, Ok, Err, cond, refl, sym, ◌∙◌, ap, subst, inl, inr, append_assoc, arith}
use mathlib.Core.Bool.{false≢true}
use Rattle.std.specs.Ordering.{is_eq, is_gt}
use Rattle.std.specs.declared.cmp.Ordering.{Ordering}
use Rattle.std.specs.declared.cmp.Ordering.TheVariants.{Less, Equal, Greater}
use Rattle.std.proofs.lemmas.List.{append-nil}
use Rattle.std.proofs.lemmas.List.Concat.{flat_map-cons}
use Rattle.oz_rows.specs.declared.key.RowKey.{RowKey}
use Rattle.oz_rows.specs.declared.row.Row.{Row}
use Rattle.oz_rows.specs.declared.operation.Change.{Change}
use Rattle.oz_rows.specs.declared.operation.Head.{Head}
use Rattle.oz_rows.specs.declared.operation.Operation.{Operation}
use Rattle.oz_rows.specs.declared.operation.Operation.TheVariants.{Put, Remove, CopyKeys, MoveDeleted, DropKeys, DropOpen}
use Rattle.oz_rows.specs.declared.operation.Operations.{Operations}
use Rattle.oz_rows.specs.Order.{key_order}
use Rattle.oz_rows.specs.Operations.{OperationFits, operation_bytes, AreOperations, batch_bytes, head_bytes, head_in, IsBody}
use Rattle.oz_rows.specs.Reading.{head_at, operation_at}
use Rattle.oz_rows.specs.laws.Bodies.{body_is}
use Rattle.oz_rows.specs.laws.OperationReads.{operation_reads, head_reads}
use Rattle.oz_rows.specs.declared.entry.RowEntry.{RowEntry}
use Rattle.oz_rows.specs.RowMaps.{row_of, is_same, KeysRise, Becomes}
use Rattle.oz_effects.specs.Effects.{Leads, IsPossible, operation_changes}
use Rattle.oz_effects.specs.Build.{AllAreBased, IsAtFault, NoneAtFault, Rises, IsNextBody, BuildsFrom, HeadFalls, HeadFails, OperationFails, BatchFails, LeavesOrphan, IsDamagedBody, FailsFrom}
use Rattle.oz_rows.specs.laws.Order.{itself, below_above}
use Rattle.oz_rows.specs.laws.Same.{same_is_one}
use Rattle.oz_rows.specs.laws.Following.{found_over, first_least}

-- ---- rows in order are told by the row of each key

same_self : (key : RowKey) → is_same key key ≡ true
same_self key = ap is_eq (itself key)

own_row : (x : RowEntry) (l : List RowEntry) → row_of (x ∷ l) x.key ≡ Some x.row
own_row x l = ap (λ (t : Bool). cond t (Some x.row) (row_of l x.key)) (same_self x.key)

none_under : (x : RowEntry) (l : List RowEntry) (key : RowKey) → KeysRise (x ∷ l) → is_same x.key key ≡ true → row_of l key ≡ None
none_under x l key rise same = by (row_of l key) refl
  where
    by : (o : Option Row) → row_of l key ≡ o → row_of l key ≡ None
    by None e = e
    by (Some row) e =
        let below = found_over x.key key l rise.0 (subst IsSome (sym e) refl) in
        absurd (false≢true (sym (ap is_eq below) ∙ same))

first_same : (x y : RowEntry) (a b : List RowEntry) → KeysRise (x ∷ a) → KeysRise (y ∷ b) → ((key : RowKey) → row_of (x ∷ a) key ≡ row_of (y ∷ b) key) → x.key ≡ y.key
first_same x y a b rise_a rise_b same = by (key_order x.key y.key) refl
  where
    y_not_above : is_gt (key_order y.key x.key) ≡ false
    y_not_above = first_least y b x.key rise_b (subst IsSome (sym (sym (same x.key) ∙ own_row x a)) refl)

    x_not_above : is_gt (key_order x.key y.key) ≡ false
    x_not_above = first_least x a y.key rise_a (subst IsSome (sym (same y.key ∙ own_row y b)) refl)

    by : (o : Ordering) → key_order x.key y.key ≡ o → x.key ≡ y.key
    by Less e = absurd (false≢true (sym y_not_above ∙ ap is_gt (below_above x.key y.key e)))
    by Equal e = same_is_one x.key y.key (ap is_eq e)
    by Greater e = absurd (false≢true (sym x_not_above ∙ ap is_gt e))

some_row : (a b : Row) → Some a ≡ Some b → a ≡ b
some_row a b e = cc

entry : RowKey → Row → RowEntry
entry key row = record { key = key; row = row }

same_entry : (x y : RowEntry) → x.key ≡ y.key → x.row ≡ y.row → x ≡ y
unfolding entry
same_entry x y key row = ap (λ (k : RowKey). entry k x.row) key ∙ ap (λ (r : Row). entry y.key r) row

pub rows_one : (a b : List RowEntry) → KeysRise a → KeysRise b → ((key : RowKey) → row_of a key ≡ row_of b key) → a ≡ b
rows_one [] [] rise_a rise_b same = refl
rows_one [] (y ∷ b) rise_a rise_b same = let clash : None ≡ Some y.row = same y.key ∙ own_row y b in absurd cc
rows_one (x ∷ a) [] rise_a rise_b same = let clash : None ≡ Some x.row = sym (same x.key) ∙ own_row x a in absurd cc
rows_one (x ∷ a) (y ∷ b) rise_a rise_b same =
    let key = first_same x y a b rise_a rise_b same in
    let row = some_row x.row y.row (sym (own_row x a) ∙ same x.key ∙ ap (row_of (y ∷ b)) key ∙ own_row y b) in
    ap (λ (first : RowEntry). first ∷ a) (same_entry x y key row) ∙ ap (λ (rest : List RowEntry). y ∷ rest) (rows_one a b rise_a.1 rise_b.1 (λ other. behind key other (is_same x.key other) refl))
  where
    behind : x.key ≡ y.key → (other : RowKey) (t : Bool) → is_same x.key other ≡ t → row_of a other ≡ row_of b other
    behind key other true e = none_under x a other rise_a e ∙ sym (none_under y b other rise_b (ap (λ (key : RowKey). is_same key other) (sym key) ∙ e))
    behind key other false e =
        sym (ap (λ (t : Bool). cond t (Some x.row) (row_of a other)) e) ∙ same other ∙ ap (λ (t : Bool). cond t (Some y.row) (row_of b other)) (ap (λ (key : RowKey). is_same key other) (sym key) ∙ e)

becomes_one : (before : List RowEntry) (changes : List Change) (a b : List RowEntry) → Becomes before changes a → Becomes before changes b → a ≡ b
becomes_one before changes a b to_a to_b = rows_one a b to_a.in_order to_b.in_order (λ key. to_a.rows key ∙ sym (to_b.rows key))

leads_one : (before : List RowEntry) (items : List Operation) (a b : List RowEntry) → Leads before items a → Leads before items b → a ≡ b
unfolding Leads
leads_one before [] a b to_a to_b = to_a ∙ sym to_b
leads_one before (operation ∷ items) a b (one, possible_one, becomes_a, to_a) (other, possible_other, becomes_b, to_b) =
    let same = becomes_one before (operation_changes before operation) one other becomes_a becomes_b in
    leads_one one items a b to_a (subst (λ (rows : List RowEntry). Leads rows items b) (sym same) to_b)

-- ---- a body is read in one way

read_or : {A : Type 0} → A → Result A ℕ → A
read_or d (Ok x) = x
read_or d (Err left) = d

left_or : {A : Type 0} → Result A ℕ → ℕ
left_or (Ok x) = 0
left_or (Err left) = left

abbrev ok : {A : Type 0} → A → Result A ℕ
ok x = Ok x

abbrev err : (A : Type 0) → ℕ → Result A ℕ
err A left = Err left

ok_same : {A : Type 0} (x y : A) → ok x ≡ ok y → x ≡ y
unfolding read_or
ok_same x y e = ap (read_or x) e

err_same : (A : Type 0) (a b : ℕ) → err A a ≡ err A b → a ≡ b
unfolding left_or
err_same A a b e = ap left_or e

is_read : {A : Type 0} → Result A ℕ → Bool
is_read (Ok x) = true
is_read (Err left) = false

not_both_read : {A : Type 0} (r : Result A ℕ) (x : A) (left : ℕ) → r ≡ Ok x → r ≡ Err left → ⊥
unfolding is_read
not_both_read r x left ok err = false≢true (sym (ap is_read err) ∙ ap is_read ok)

abbrev HeadRead : Type 0
HeadRead = Head × List ℕ

abbrev OperationRead : Type 0
OperationRead = Operation × List ℕ

headed : (bytes : List ℕ) (body : Operations) → IsBody bytes body → head_at bytes ≡ Ok (head_in body, batch_bytes body.items)
headed bytes body is = ap head_at is.2 ∙ head_reads.reads_back (head_in body) (batch_bytes body.items) is.0

body_one : (bytes : List ℕ) (body other : Operations) → IsBody bytes body → IsBody bytes other → body ≡ other
body_one bytes body other is is_other =
    let head = headed bytes body is in
    sym (body_is bytes (head_in body) (batch_bytes body.items) body.items head (is.1, refl) body is) ∙ body_is bytes (head_in body) (batch_bytes body.items) body.items head (is.1, refl) other is_other

first_read : (first : Operation) (others : List Operation) (rest : List ℕ) → OperationFits first → operation_at (batch_bytes (first ∷ others) ++ rest) ≡ Ok (first, batch_bytes others ++ rest)
first_read first others rest fits =
    ap operation_at (ap (λ (text : List ℕ). text ++ rest) (flat_map-cons operation_bytes first others) ∙ append_assoc (operation_bytes first) (batch_bytes others) rest)
    ∙ operation_reads.reads_back first (batch_bytes others ++ rest) fits

nothing_read : (read : OperationRead) → operation_at [] ≡ Ok read → ⊥
unfolding operation_at
nothing_read read e = cc

-- operations of two rows of them that begin at one place are the same
both_read : (one first : Operation) (a b : List Operation) (rest left : List ℕ) → OperationFits one → OperationFits first → batch_bytes (one ∷ a) ++ rest ≡ batch_bytes (first ∷ b) ++ left → (one ≡ first) × (batch_bytes a ++ rest ≡ batch_bytes b ++ left)
both_read one first a b rest left fits_one fits_first e =
    let x : OperationRead = (one, batch_bytes a ++ rest) in
    let y : OperationRead = (first, batch_bytes b ++ left) in
    let same : x ≡ y = ok_same x y (sym (first_read one a rest fits_one) ∙ ap operation_at e ∙ first_read first b left fits_first) in
    (ap (λ (read : OperationRead). read.0) same, ap (λ (read : OperationRead). read.1) same)

-- ---- one place of a fault

-- an operation that fails is none that may follow
fails_possible : (between : List RowEntry) (bytes rest : List ℕ) (place : ℕ) (operation : Operation) (behind : List ℕ) → operation_at rest ≡ Ok (operation, behind) → IsPossible between operation → OperationFails between bytes rest place → ⊥
fails_possible between bytes rest place operation behind here possible (inl (left, fails, is)) = not_both_read (operation_at rest) (operation, behind) left here fails
fails_possible between bytes rest place operation behind here possible (inr (key, after, there, absent, is)) =
    let x : OperationRead = (operation, behind) in
    let y : OperationRead = (Remove key, after) in
    let same : operation ≡ Remove key = ap (λ (read : OperationRead). read.0) (ok_same x y (sym here ∙ there)) in
    let found : IsSome (row_of between key) = subst (IsPossible between) same possible in
    false≢true (subst IsSome absent found)

-- behind some operations of a whole batch none fails
whole_batch : (before : List RowEntry) (all items : List Operation) (rest : List ℕ) (after between : List RowEntry) (bytes : List ℕ) (place : ℕ) → AreOperations all → AreOperations items → batch_bytes all ++ [] ≡ batch_bytes items ++ rest
    → Leads before all after → Leads before items between → 1 ≤ length rest → OperationFails between bytes rest place → ⊥
unfolding Leads
whole_batch before [] [] rest after between bytes place fits_all fits e leads_all leads more fails = omega (arith, ap length e)
whole_batch before (one ∷ all) [] rest after between bytes place fits_all fits e (middle, possible, becomes, leads_all) leads more fails =
    fails_possible between bytes rest place one (batch_bytes all ++ []) (ap operation_at (sym e) ∙ first_read one all [] fits_all.0) (subst (λ (rows : List RowEntry). IsPossible rows one) (sym leads) possible) fails
whole_batch before [] (first ∷ items) rest after between bytes place fits_all fits e leads_all leads more fails = nothing_read (first, batch_bytes items ++ rest) (ap operation_at e ∙ first_read first items rest fits.0)
whole_batch before (one ∷ all) (first ∷ items) rest after between bytes place fits_all fits e (middle, possible, becomes, leads_all) (other, possible_other, becomes_other, leads) more fails =
    let same = both_read one first all items [] rest fits_all.0 fits.0 e in
    let rows = becomes_one before (operation_changes before one) middle other becomes (subst (λ (operation : Operation). Becomes before (operation_changes before operation) other) (sym same.0) becomes_other) in
    whole_batch middle all items rest after between bytes place fits_all.1 fits.1 same.1 leads_all (subst (λ (start : List RowEntry). Leads start items between) (sym rows) leads) more fails

record SamePlace (rest left : List ℕ) (a b : List RowEntry) : Type 0 where
  rest_same : rest ≡ left
  rows_same : a ≡ b

-- two operations that fail behind some of one batch are one
same_place : (before : List RowEntry) (all items : List Operation) (left rest : List ℕ) (after between : List RowEntry) (bytes : List ℕ) (at place : ℕ) → AreOperations all → AreOperations items → batch_bytes all ++ left ≡ batch_bytes items ++ rest
    → Leads before all after → Leads before items between → OperationFails after bytes left at → OperationFails between bytes rest place → SamePlace left rest after between
unfolding Leads
same_place before [] [] left rest after between bytes at place fits_all fits e leads_all leads fails_all fails = record { rest_same = e; rows_same = leads_all ∙ sym leads }
same_place before (one ∷ all) [] left rest after between bytes at place fits_all fits e (middle, possible, becomes, leads_all) leads fails_all fails =
    absurd (fails_possible between bytes rest place one (batch_bytes all ++ left) (ap operation_at (sym e) ∙ first_read one all left fits_all.0) (subst (λ (rows : List RowEntry). IsPossible rows one) (sym leads) possible) fails)
same_place before [] (first ∷ items) left rest after between bytes at place fits_all fits e leads_all (other, possible, becomes, leads) fails_all fails =
    absurd (fails_possible after bytes left at first (batch_bytes items ++ rest) (ap operation_at e ∙ first_read first items rest fits.0) (subst (λ (rows : List RowEntry). IsPossible rows first) (sym leads_all) possible) fails_all)
same_place before (one ∷ all) (first ∷ items) left rest after between bytes at place fits_all fits e (middle, possible, becomes, leads_all) (other, possible_other, becomes_other, leads) fails_all fails =
    let same = both_read one first all items left rest fits_all.0 fits.0 e in
    let rows = becomes_one before (operation_changes before one) middle other becomes (subst (λ (operation : Operation). Becomes before (operation_changes before operation) other) (sym same.0) becomes_other) in
    same_place middle all items left rest after between bytes at place fits_all.1 fits.1 same.1 leads_all (subst (λ (start : List RowEntry). Leads start items between) (sym rows) leads) fails_all fails

fails_once : (between : List RowEntry) (bytes rest : List ℕ) (at place : ℕ) → OperationFails between bytes rest at → OperationFails between bytes rest place → at ≡ place
fails_once between bytes rest at place (inl (a, fails_a, is_a)) (inl (b, fails_b, is_b)) = is_a ∙ ap (λ (left : ℕ). length bytes - left) (err_same OperationRead a b (sym fails_a ∙ fails_b)) ∙ sym is_b
fails_once between bytes rest at place (inl (a, fails_a, is_a)) (inr (key, behind, here, absent, is_b)) = absurd (not_both_read (operation_at rest) (Remove key, behind) a here fails_a)
fails_once between bytes rest at place (inr (key, behind, here, absent, is_a)) (inl (b, fails_b, is_b)) = absurd (not_both_read (operation_at rest) (Remove key, behind) b here fails_b)
fails_once between bytes rest at place (inr (key, behind, here, absent, is_a)) (inr (other, after, there, none, is_b)) = is_a ∙ sym is_b

at_fault_unbased : (all : List RowEntry) (items later : List Operation) (operation : Operation) → IsAtFault all items later operation → AllAreBased all → ⊥
at_fault_unbased all items later (Put key row) (base, orphan) based = based key base orphan
at_fault_unbased all items later (Remove base) ((key, orphan, unput), last) based = based key base orphan
at_fault_unbased all items later (CopyKeys volume bucket number) fault based = fault
at_fault_unbased all items later (MoveDeleted volume bucket from to) fault based = fault
at_fault_unbased all items later (DropKeys volume bucket number) fault based = fault
at_fault_unbased all items later (DropOpen volume bucket) fault based = fault

-- the first operation at fault is one
module _ (all : List RowEntry) (items : List Operation) where
  same_fault : (x y : Operation) (later behind : List Operation) → x ≡ y → later ≡ behind → IsAtFault all items later x → IsAtFault all items behind y
  same_fault x y later behind same rest fault = subst (λ (l : List Operation). IsAtFault all items l y) rest (subst (λ (operation : Operation). IsAtFault all items later operation) same fault)

  first_once : (a b : List Operation) (x y : Operation) (later behind : List Operation) → a ++ x ∷ later ≡ b ++ y ∷ behind → NoneAtFault all items a (x ∷ later) → NoneAtFault all items b (y ∷ behind) → IsAtFault all items later x → IsAtFault all items behind y → a ≡ b
  first_once [] [] x y later behind e none_a none_b at_x at_y = refl
  first_once [] (first ∷ b) x y later behind e none_a none_b at_x at_y =
      let same : x ≡ first = cc in
      let rest : later ≡ b ++ y ∷ behind = cc in
      absurd (none_b.0 (same_fault x first later (b ++ y ∷ behind) same rest at_x))
  first_once (one ∷ a) [] x y later behind e none_a none_b at_x at_y =
      let same : y ≡ one = cc in
      let rest : behind ≡ a ++ x ∷ later = cc in
      absurd (none_a.0 (same_fault y one behind (a ++ x ∷ later) same rest at_y))
  first_once (one ∷ a) (first ∷ b) x y later behind e none_a none_b at_x at_y =
      let same : one ≡ first = cc in
      let rest : a ++ x ∷ later ≡ b ++ y ∷ behind = cc in
      ap (λ (operation : Operation). operation ∷ a) same ∙ ap (λ (operations : List Operation). first ∷ operations) (first_once a b x y later behind rest none_a.1 none_b.1 at_x at_y)

-- ---- one body

record SameBody (body other : Operations) (a b : List RowEntry) : Type 0 where
  bodies : body ≡ other
  rows : a ≡ b

next_one : (last : Head) (before : List RowEntry) (bytes : List ℕ) (body other : Operations) (a b : List RowEntry) → IsNextBody last before bytes body a → IsNextBody last before bytes other b → SameBody body other a b
next_one last before bytes body other a b next next_other =
    let same = body_one bytes body other next.body_is next_other.body_is in
    record {
      bodies = same;
      rows = leads_one before body.items a b next.leads (subst (λ (operations : Operations). Leads before operations.items b) (sym same) next_other.leads);
    }

falls_not : (last head : Head) (place : ℕ) → Rises last head → HeadFalls last head place → ⊥
falls_not last head place rises (inl (below, is)) = omega (arith, rises.layout, below)
falls_not last head place rises (inr (kept, le, is)) = omega (arith, rises.index, le)

head_ok : (last : Head) (bytes : List ℕ) (head : Head) (rest : List ℕ) (place : ℕ) → head_at bytes ≡ Ok (head, rest) → Rises last head → HeadFails last bytes place → ⊥
head_ok last bytes head rest place reads rises (inl (left, fails, is)) = not_both_read (head_at bytes) (head, rest) left reads fails
head_ok last bytes head rest place reads rises (inr (other, after, there, falls)) =
    let x : HeadRead = (head, rest) in
    let y : HeadRead = (other, after) in
    let same : head ≡ other = ap (λ (read : HeadRead). read.0) (ok_same x y (sym reads ∙ there)) in
    falls_not last other place (subst (Rises last) same rises) falls

batch_is : (bytes : List ℕ) (head other : Head) (rest left : List ℕ) → head_at bytes ≡ Ok (head, rest) → head_at bytes ≡ Ok (other, left) → rest ≡ left
batch_is bytes head other rest left here there =
    let x : HeadRead = (head, rest) in
    let y : HeadRead = (other, left) in
    ap (λ (read : HeadRead). read.1) (ok_same x y (sym here ∙ there))

to_end : (items : List Operation) → batch_bytes items ++ [] ≡ batch_bytes items
to_end items = append-nil (batch_bytes items)

-- a whole body whose operations may follow each other has no operation that fails
no_batch_fails : (last : Head) (before : List RowEntry) (bytes : List ℕ) (body : Operations) (after : List RowEntry) (place : ℕ) → IsBody bytes body → Leads before body.items after → BatchFails last before bytes place → ⊥
no_batch_fails last before bytes body after place is leads fails =
    whole_batch before body.items fails.items fails.rest after fails.between bytes place is.1 fails.fit (to_end body.items ∙ batch_is bytes (head_in body) fails.head (batch_bytes body.items) (batch_bytes fails.items ++ fails.rest) (headed bytes body is) fails.reads) leads fails.leads fails.not_over fails.fails

next_not_damaged : (last : Head) (before : List RowEntry) (bytes : List ℕ) (body : Operations) (after : List RowEntry) (place : ℕ) → IsNextBody last before bytes body after → IsDamagedBody last before bytes place → ⊥
next_not_damaged last before bytes body after place next (inl head) = head_ok last bytes (head_in body) (batch_bytes body.items) place (headed bytes body next.body_is) next.rises head
next_not_damaged last before bytes body after place next (inr (inl batch)) = no_batch_fails last before bytes body after place next.body_is next.leads batch
next_not_damaged last before bytes body after place next (inr (inr left)) =
    let same = body_one bytes body left.body next.body_is left.body_is in
    let rows = leads_one before body.items after left.after next.leads (subst (λ (operations : Operations). Leads before operations.items left.after) (sym same) left.leads) in
    at_fault_unbased left.after left.body.items left.later left.operation left.at_fault (subst AllAreBased rows next.based)

falls_once : (last head : Head) (at place : ℕ) → HeadFalls last head at → HeadFalls last head place → at ≡ place
falls_once last head at place (inl (below, is_a)) (inl (also, is_b)) = is_a ∙ sym is_b
falls_once last head at place (inl (below, is_a)) (inr (kept, le, is_b)) = absurd (omega (arith, below, kept))
falls_once last head at place (inr (kept, le, is_a)) (inl (below, is_b)) = absurd (omega (arith, below, kept))
falls_once last head at place (inr (kept, le, is_a)) (inr (also, le_also, is_b)) = is_a ∙ sym is_b

heads_once : (last : Head) (bytes : List ℕ) (at place : ℕ) → HeadFails last bytes at → HeadFails last bytes place → at ≡ place
heads_once last bytes at place (inl (a, fails_a, is_a)) (inl (b, fails_b, is_b)) = is_a ∙ ap (λ (left : ℕ). length bytes - left) (err_same HeadRead a b (sym fails_a ∙ fails_b)) ∙ sym is_b
heads_once last bytes at place (inl (a, fails_a, is_a)) (inr (head, rest, here, falls)) = absurd (not_both_read (head_at bytes) (head, rest) a here fails_a)
heads_once last bytes at place (inr (head, rest, here, falls)) (inl (b, fails_b, is_b)) = absurd (not_both_read (head_at bytes) (head, rest) b here fails_b)
heads_once last bytes at place (inr (head, rest, here, falls)) (inr (other, after, there, also)) =
    let x : HeadRead = (head, rest) in
    let y : HeadRead = (other, after) in
    let same : head ≡ other = ap (λ (read : HeadRead). read.0) (ok_same x y (sym here ∙ there)) in
    falls_once last other at place (subst (λ (h : Head). HeadFalls last h at) same falls) also

batches_once : (last : Head) (before : List RowEntry) (bytes : List ℕ) (at place : ℕ) → BatchFails last before bytes at → BatchFails last before bytes place → at ≡ place
batches_once last before bytes at place a b =
    let same = same_place before a.items b.items a.rest b.rest a.between b.between bytes at place a.fit b.fit (batch_is bytes a.head b.head (batch_bytes a.items ++ a.rest) (batch_bytes b.items ++ b.rest) a.reads b.reads) a.leads b.leads a.fails b.fails in
    fails_once b.between bytes b.rest at place
    (subst (λ (rest : List ℕ). OperationFails b.between bytes rest at) same.rest_same (subst (λ (rows : List RowEntry). OperationFails rows bytes a.rest at) same.rows_same a.fails)) b.fails

orphans_once : (last : Head) (before : List RowEntry) (bytes : List ℕ) (at place : ℕ) → LeavesOrphan last before bytes at → LeavesOrphan last before bytes place → at ≡ place
orphans_once last before bytes at place a b =
    let same = body_one bytes a.body b.body a.body_is b.body_is in
    let rows = leads_one before a.body.items a.after b.after a.leads (subst (λ (operations : Operations). Leads before operations.items b.after) (sym same) b.leads) in
    let items : a.body.items ≡ b.body.items = ap (λ (operations : Operations). operations.items) same in
    let first = subst (λ (l : List Operation). NoneAtFault b.after l a.earlier (a.operation ∷ a.later)) items (subst (λ (after : List RowEntry). NoneAtFault after a.body.items a.earlier (a.operation ∷ a.later)) rows a.first) in
    let at_fault = subst (λ (l : List Operation). IsAtFault b.after l a.later a.operation) items (subst (λ (after : List RowEntry). IsAtFault after a.body.items a.later a.operation) rows a.at_fault) in
    let earlier = first_once b.after b.body.items a.earlier b.earlier a.operation b.operation a.later b.later (sym a.parts ∙ items ∙ b.parts) first b.first at_fault b.at_fault in
    a.begins ∙ ap (λ (head : Head). length (head_bytes head) + length (batch_bytes a.earlier)) (ap head_in same) ∙ ap (λ (l : List Operation). length (head_bytes (head_in b.body)) + length (batch_bytes l)) earlier ∙ sym b.begins

batch_head : (last : Head) (before : List RowEntry) (bytes : List ℕ) (at place : ℕ) → BatchFails last before bytes at → HeadFails last bytes place → ⊥
batch_head last before bytes at place batch head = head_ok last bytes batch.head (batch_bytes batch.items ++ batch.rest) place batch.reads batch.rises head

orphan_head : (last : Head) (before : List RowEntry) (bytes : List ℕ) (at place : ℕ) → LeavesOrphan last before bytes at → HeadFails last bytes place → ⊥
orphan_head last before bytes at place left head = head_ok last bytes (head_in left.body) (batch_bytes left.body.items) place (headed bytes left.body left.body_is) left.rises head

orphan_batch : (last : Head) (before : List RowEntry) (bytes : List ℕ) (at place : ℕ) → LeavesOrphan last before bytes at → BatchFails last before bytes place → ⊥
orphan_batch last before bytes at place left batch = no_batch_fails last before bytes left.body left.after place left.body_is left.leads batch

damaged_once : (last : Head) (before : List RowEntry) (bytes : List ℕ) (at place : ℕ) → IsDamagedBody last before bytes at → IsDamagedBody last before bytes place → at ≡ place
damaged_once last before bytes at place (inl a) (inl b) = heads_once last bytes at place a b
damaged_once last before bytes at place (inl a) (inr (inl b)) = absurd (batch_head last before bytes place at b a)
damaged_once last before bytes at place (inl a) (inr (inr b)) = absurd (orphan_head last before bytes place at b a)
damaged_once last before bytes at place (inr (inl a)) (inl b) = absurd (batch_head last before bytes at place a b)
damaged_once last before bytes at place (inr (inl a)) (inr (inl b)) = batches_once last before bytes at place a b
damaged_once last before bytes at place (inr (inl a)) (inr (inr b)) = absurd (orphan_batch last before bytes place at b a)
damaged_once last before bytes at place (inr (inr a)) (inl b) = absurd (orphan_head last before bytes at place a b)
damaged_once last before bytes at place (inr (inr a)) (inr (inl b)) = absurd (orphan_batch last before bytes at place a b)
damaged_once last before bytes at place (inr (inr a)) (inr (inr b)) = orphans_once last before bytes at place a b

-- ---- all bodies

pub builds_one : (before : List RowEntry) (last : Head) (bodies : List (List ℕ)) (all other : List RowEntry) (head end : Head) → BuildsFrom before last bodies all head → BuildsFrom before last bodies other end → (all ≡ other) × (head ≡ end)
unfolding BuildsFrom
builds_one before last [] all other head end a b = (a.0 ∙ sym b.0, a.1 ∙ sym b.1)
builds_one before last (bytes ∷ bodies) all other head end (body, rows, next, builds) (body', rows', next', builds') =
    let same = next_one last before bytes body body' rows rows' next next' in
    builds_one rows (head_in body) bodies all other head end builds
    (subst (λ (rows : List RowEntry). BuildsFrom rows (head_in body) bodies other end) (sym same.rows) (subst (λ (operations : Operations). BuildsFrom rows' (head_in operations) bodies other end) (sym same.bodies) builds'))

pub not_both : (before : List RowEntry) (last : Head) (bodies : List (List ℕ)) (all : List RowEntry) (head : Head) (count place : ℕ) → BuildsFrom before last bodies all head → FailsFrom before last bodies count place → ⊥
unfolding BuildsFrom FailsFrom
not_both before last [] all head count place builds fails = fails
not_both before last (bytes ∷ bodies) all head zero place (body, rows, next, builds) fails = next_not_damaged last before bytes body rows place next fails
not_both before last (bytes ∷ bodies) all head (suc count) place (body, rows, next, builds) (body', rows', next', fails) =
    let same = next_one last before bytes body body' rows rows' next next' in
    not_both rows (head_in body) bodies all head count place builds
    (subst (λ (rows : List RowEntry). FailsFrom rows (head_in body) bodies count place) (sym same.rows) (subst (λ (operations : Operations). FailsFrom rows' (head_in operations) bodies count place) (sym same.bodies) fails))

pub fails_one : (before : List RowEntry) (last : Head) (bodies : List (List ℕ)) (count place other at : ℕ) → FailsFrom before last bodies count place → FailsFrom before last bodies other at → (count ≡ other) × (place ≡ at)
unfolding FailsFrom
fails_one before last [] count place other at a b = absurd a
fails_one before last (bytes ∷ bodies) zero place zero at a b = (refl, damaged_once last before bytes place at a b)
fails_one before last (bytes ∷ bodies) zero place (suc other) at a (body, rows, next, fails) = absurd (next_not_damaged last before bytes body rows place next a)
fails_one before last (bytes ∷ bodies) (suc count) place zero at (body, rows, next, fails) b = absurd (next_not_damaged last before bytes body rows at next b)
fails_one before last (bytes ∷ bodies) (suc count) place (suc other) at (body, rows, next, fails) (body', rows', next', fails') =
    let same = next_one last before bytes body body' rows rows' next next' in
    let later = fails_one rows (head_in body) bodies count place other at fails
    (subst (λ (rows : List RowEntry). FailsFrom rows (head_in body) bodies other at) (sym same.rows) (subst (λ (operations : Operations). FailsFrom rows' (head_in operations) bodies other at) (sym same.bodies) fails')) in
    (ap (λ (n : ℕ). suc n) later.0, later.1)

-- Rows that need another one, and that no operation put.
use Rattle.std.proofs.Common.{◌≡◌, ◌==◌, ◌&&◌, ◌||◌, ℕ, zero, suc, ◌-◌, ◌<◌, Bool, true, false, List, [], ◌∷◌, ◌++◌}
use Rattle.std.proofs.Common.{length, take, drop, get_or, Option, Some, None, IsSome, cond, refl, sym, ◌∙◌, ap, subst}
use Rattle.std.proofs.Common.{arith}
use Rattle.std.specs.Prelude.{not, map, MatchBool}
use mathlib.Core.Bool.{false≢true}
use Rattle.std.specs.List.{list_any, AllByRecursion}
use Rattle.std.proofs.lemmas.List.{take-append-drop, length-drop}
use Rattle.std.proofs.Math.Seq.{take-length}
use Rattle.std.specs.Ordering.{nat_cmp, is_eq, ordering_then}
use Rattle.std.specs.declared.cmp.Ordering.{Ordering}
use Rattle.std.specs.Cmp.Lexicographic.{slice_cmp}
use Rattle.std.specs.FinMap.{nat_cmp-IsAntisymmetric}
use Rattle.std.proofs.lemmas.Bool.{eq-eqb}
use Rattle.std.specs.declared.cmp.Ordering.TheVariants.{Less, Equal, Greater}
use Rattle.oz_rows.specs.declared.key.RowKey.{RowKey}
use Rattle.oz_rows.specs.declared.key.RowKey.TheVariants as keys
use Rattle.oz_rows.specs.declared.row.Row.{Row}
use Rattle.oz_rows.specs.declared.row.Row.TheVariants as rows
use Rattle.oz_rows.specs.declared.row.SnapshotState.TheVariants.{Live, Marked}
use Rattle.oz_rows.specs.declared.operation.Operation.{Operation}
use Rattle.oz_rows.specs.Rows.{kind_of}
use Rattle.oz_tables.specs.declared.built.body.Step.{Step}
use Rattle.oz_rows.specs.declared.entry.RowEntry.{RowEntry}
use Rattle.oz_rows.specs.RowMaps.{row_of, is_same, KeysRise}
use Rattle.oz_effects.specs.Build.{base_of, puts, LeavesOne, IsAtFault, NoneAtFault}
use Rattle.oz_tables.specs.built.Steps.{operations_of, FirstAtFault, is_needed, stands_on, is_left}
use Rattle.oz_effects.specs.Parts.{IsPart, part_order}
use Rattle.oz_rows.specs.laws.Order.{itself}
use Rattle.oz_rows.specs.laws.Same.{same_is_one}
use Rattle.oz_rows.specs.laws.Following.{found_over}
use Rattle.oz_rows.specs.laws.Splits.{parts_at}
use Rattle.oz_effects.specs.changes.laws.PartLists.{any_part}
use Rattle.oz_effects.specs.changes.Steps.{in_bucket}

pub any_map : {X Y : Type 0} (f : X → Y) (p : Y → Bool) (xs : List X) → list_any p (map f xs) ≡ list_any (λ x. p (f x)) xs
any_map f p [] = refl
any_map f p (x ∷ xs) = ap (λ (t : Bool). p (f x) || t) (any_map f p xs)

-- ---- one more step that is not at fault

operations_append : (a b : List Step) → operations_of (a ++ b) ≡ operations_of a ++ operations_of b
operations_append [] b = refl
operations_append (first ∷ a) b = ap (λ (items : List Operation). first.operation ∷ items) (operations_append a b)

-- before a place and behind it stand all of them
at_any_place : (steps : List Step) (j k : ℕ)
    → operations_of (take j steps) ++ operations_of (drop j steps) ≡ operations_of (take k steps) ++ operations_of (drop k steps)
at_any_place steps j k =
    sym (operations_append (take j steps) (drop j steps)) ∙ ap operations_of (take-append-drop j steps)
    ∙ ap operations_of (sym (take-append-drop k steps)) ∙ operations_append (take k steps) (drop k steps)

module _ (all : List RowEntry) (items : List Operation) where
  pub none_more : (steps : List Step) (k : ℕ) (step : Step) → k < length steps → step ≡ get_or steps k step
      → NoneAtFault all items (operations_of (take k steps)) (operations_of (drop k steps))
      → (IsAtFault all items (operations_of (drop (suc k) steps)) step.operation → ⊥)
      → NoneAtFault all items (operations_of (take (suc k) steps)) (operations_of (drop (suc k) steps))
  none_more [] k step lt it so_far here = absurd (omega arith)
  none_more (first ∷ steps) zero step lt it so_far here = (subst (λ (step : Step). IsAtFault all items (operations_of steps) step.operation → ⊥) it here, tt)
  none_more (first ∷ steps) (suc k) step lt it so_far here = (
    subst (λ (later : List Operation). IsAtFault all items later first.operation → ⊥) (at_any_place steps k (suc k)) so_far.0,
    none_more steps k step (omega arith) it so_far.1 here,
  )

pub rest_whole : (steps : List Step) (k : ℕ) → take (length steps - k) (drop k steps) ≡ drop k steps
rest_whole steps k = ap (λ (n : ℕ). take n (drop k steps)) (sym (length-drop k steps)) ∙ take-length (drop k steps)

here_and_on : (steps : List Step) (k : ℕ) (step : Step) → k < length steps → step ≡ get_or steps k step → drop k steps ≡ step ∷ drop (suc k) steps
here_and_on [] k step lt it = absurd (omega arith)
here_and_on (first ∷ steps) zero step lt it = ap (λ (other : Step). other ∷ steps) (sym it)
here_and_on (first ∷ steps) (suc k) step lt it = here_and_on steps k step (omega arith) it

pub first_found : (all : List RowEntry) (steps : List Step) (k : ℕ) (step : Step) → k < length steps → step ≡ get_or steps k step
    → NoneAtFault all (operations_of steps) (operations_of (take k steps)) (operations_of (drop k steps))
    → IsAtFault all (operations_of steps) (operations_of (drop (suc k) steps)) step.operation → FirstAtFault all steps step.left
first_found all steps k step lt it none fault = record {
  earlier = take k steps;
  step = step;
  later = drop (suc k) steps;
  parts = parts_at steps k step lt ∙ ap (λ (other : Step). take k steps ++ other ∷ drop (suc k) steps) (sym it);
  first = subst (λ (rest : List Step). NoneAtFault all (operations_of steps) (operations_of (take k steps)) (operations_of rest))
      (here_and_on steps k step lt it) none;
  at_fault = fault;
  left_is = refl;
}

-- ---- rows that stand among others

same_self : (key : RowKey) → is_same key key ≡ true
same_self key = ap is_eq (itself key)

split_and : (a b : Bool) → (a && b) ≡ true → (a ≡ true) × (b ≡ true)
split_and true b e = (refl, e)
split_and false b e = absurd (false≢true e)

not_true : (t : Bool) → not t ≡ true → t ≡ false
not_true false e = refl
not_true true e = absurd (false≢true e)

needed_is : (base : RowKey) (needed : Option RowKey) → is_needed base needed ≡ true → needed ≡ Some base
needed_is base None e = absurd (false≢true e)
needed_is base (Some needed) e = ap (λ (key : RowKey). Some key) (sym (same_is_one base needed e))

record Found (l : List RowEntry) (test : RowEntry → Bool) : Type 0 where
  entry : RowEntry
  stands : row_of l entry.key ≡ Some entry.row
  passes : test entry ≡ true

found : (l : List RowEntry) (test : RowEntry → Bool) → KeysRise l → list_any test l ≡ true → Found l test
found [] test rise e = absurd (false≢true e)
found (x ∷ l) test rise e = by (found l test rise.1) (test x) refl
  where
    by : (list_any test l ≡ true → Found l test) → (t : Bool) → test x ≡ t → Found (x ∷ l) test
    by behind true passes = record { entry = x; stands = ap (λ (t : Bool). cond t (Some x.row) (row_of l x.key)) (same_self x.key); passes = passes }
    by behind false fails =
        let later = behind (sym (ap (λ (t : Bool). t || list_any test l) fails) ∙ e) in
        let below = found_over x.key later.entry.key l rise.0 (subst IsSome (sym later.stands) refl) in
        record {
          entry = later.entry;
          stands = ap (λ (t : Bool). cond t (Some x.row) (row_of l later.entry.key)) (ap is_eq below) ∙ later.stands;
          passes = later.passes;
        }

abbrev entry_of : RowKey → Row → RowEntry
entry_of key row = record { key = key; row = row }

or_true : (t : Bool) → (t || true) ≡ true
or_true true = refl
or_true false = refl

some_is : (a b : Row) → Some a ≡ Some b → a ≡ b
some_is a b e = cc

found_again : (l : List RowEntry) (test : RowEntry → Bool) (key : RowKey) (row : Row) → row_of l key ≡ Some row → test (entry_of key row) ≡ true
    → list_any test l ≡ true
found_again [] test key row stands passes = cc
found_again (x ∷ l) test key row stands passes = by (λ here. found_again l test key row here passes) (is_same x.key key) refl
  where
    by : (row_of l key ≡ Some row → list_any test l ≡ true) → (t : Bool) → is_same x.key key ≡ t → list_any test (x ∷ l) ≡ true
    by behind true same =
        let is_key : x.key ≡ key = same_is_one x.key key same in
        let is_row : x.row ≡ row = some_is x.row row (sym (ap (λ (t : Bool). cond t (Some x.row) (row_of l key)) same) ∙ stands) in
        let is_entry : x ≡ entry_of key row = ap (λ (k : RowKey). entry_of k x.row) is_key ∙ ap (entry_of key) is_row in
        ap (λ (t : Bool). t || list_any test l) (ap test is_entry ∙ passes)
    by behind false other =
        let later = behind (sym (ap (λ (t : Bool). cond t (Some x.row) (row_of l key)) other) ∙ stands) in
        ap (λ (t : Bool). test x || t) later ∙ or_true (test x)

left_is_orphan : (l : List RowEntry) (items : List Operation) (base : RowKey) → KeysRise l → row_of l base ≡ None → list_any (is_left items base) l ≡ true
    → LeavesOne l items base
left_is_orphan l items base rise absent e =
    let it = found l (is_left items base) rise e in
    let both = split_and (stands_on base it.entry) (not (list_any (puts it.entry.key) items)) it.passes in (
      it.entry.key,
      record { row = it.entry.row; stands = it.stands; needs = needed_is base (base_of it.entry.key it.entry.row) both.0; absent = absent },
      not_true (list_any (puts it.entry.key) items) both.1,
    )

orphan_is_left : (l : List RowEntry) (items : List Operation) (base : RowKey) → LeavesOne l items base → list_any (is_left items base) l ≡ true
orphan_is_left l items base (key, orphan, unput) =
    found_again l (is_left items base) key orphan.row orphan.stands
    (ap (λ (t : Bool). t && not (list_any (puts key) items)) (ap (is_needed base) orphan.needs ∙ same_self base) ∙ ap not unput)

-- whether one is left is told by the rows
pub left_told : (l : List RowEntry) (items : List Operation) (base : RowKey) (t : Bool) → KeysRise l → row_of l base ≡ None
    → t ≡ list_any (is_left items base) l → MatchBool t (LeavesOne l items base) (LeavesOne l items base → ⊥)
left_told l items base true rise absent e = left_is_orphan l items base rise absent (sym e)
left_told l items base false rise absent e = λ leaves. false≢true (e ∙ orphan_is_left l items base leaves)

-- ---- which rows need a volume or a bucket

off_left : (t u : Bool) → t ≡ false → (t && u) ≡ false
off_left t u e = ap (λ (t : Bool). t && u) e

abbrev unput : List Operation → RowKey → Bool
unput items key = not (list_any (puts key) items)

on_volume : (items : List Operation) (volume : List ℕ) (key : RowKey) (row : Row) → is_eq (part_order ((2 ∷ []) ∷ volume ∷ []) key) ≡ false
    → (is_needed (keys.Volume volume) (base_of key row) && unput items key) ≡ false
on_volume items volume (keys.Bucket v b) row e = off_left _ _ e
on_volume items volume (keys.Volume v) row e = refl
on_volume items volume (keys.Key v b k) row e = refl
on_volume items volume (keys.Open v b k n) row e = refl
on_volume items volume (keys.Snapshot v b n) (rows.Snapshot name previous Live) e = refl
on_volume items volume (keys.Snapshot v b n) (rows.Snapshot name previous Marked) e = refl
on_volume items volume key row e = refl

pub volume_left : (l part : List RowEntry) (items : List Operation) (volume : List ℕ) → IsPart l ((2 ∷ []) ∷ volume ∷ []) part
    → list_any (is_left items (keys.Volume volume)) l ≡ list_any (is_left items (keys.Volume volume)) part
volume_left l part items volume is =
    any_part (is_left items (keys.Volume volume)) l ((2 ∷ []) ∷ volume ∷ []) part is (λ entry e. on_volume items volume entry.key entry.row e)

-- the rows of one kind alone
abbrev of_kind : ℕ → (RowEntry → Bool) → RowEntry → Bool
of_kind kind test entry = (kind_of entry.key == kind) && test entry

first_level : (a b : Ordering) → ordering_then a b ≡ Equal → a ≡ Equal
first_level Less b e = e
first_level Equal b e = refl
first_level Greater b e = e

kind_inside : (kind : ℕ) (volume bucket : List ℕ) (key : RowKey) → part_order (in_bucket kind volume bucket) key ≡ Equal → (kind_of key == kind) ≡ true
kind_inside kind volume bucket key e =
    let level = first_level (nat_cmp kind (kind_of key)) Equal (first_level (slice_cmp nat_cmp (kind ∷ []) (kind_of key ∷ [])) _ e) in
    eq-eqb (kind_of key) kind (sym (nat_cmp-IsAntisymmetric kind (kind_of key) level))

inside_kind : (kind : ℕ) (volume bucket : List ℕ) (test : RowEntry → Bool) (entry : RowEntry) → part_order (in_bucket kind volume bucket) entry.key ≡ Equal
    → test entry ≡ of_kind kind test entry
inside_kind kind volume bucket test entry e = sym (ap (λ (t : Bool). t && test entry) (kind_inside kind volume bucket entry.key e))

-- a row that needs the bucket, and that no operation put
abbrev on_bucket : List Operation → List ℕ → List ℕ → RowKey → Row → Bool
on_bucket items volume bucket key row = is_needed (keys.Bucket volume bucket) (base_of key row) && unput items key

module _ (items : List Operation) (volume bucket : List ℕ) where
  no_key : (key : RowKey) (row : Row) → is_eq (part_order (in_bucket 3 volume bucket) key) ≡ false
      → ((kind_of key == 3) && on_bucket items volume bucket key row) ≡ false
  no_key (keys.Key v b k) row e = off_left _ _ e
  no_key key row e = refl

  no_session : (key : RowKey) (row : Row) → is_eq (part_order (in_bucket 4 volume bucket) key) ≡ false
      → ((kind_of key == 4) && on_bucket items volume bucket key row) ≡ false
  no_session (keys.Open v b k n) row e = off_left _ _ e
  no_session key row e = refl

  no_snapshot : (key : RowKey) (row : Row) → is_eq (part_order (in_bucket 6 volume bucket) key) ≡ false
      → ((kind_of key == 6) && on_bucket items volume bucket key row) ≡ false
  no_snapshot (keys.Snapshot v b n) (rows.Snapshot name previous Live) e = off_left _ _ e
  no_snapshot key row e = refl

  or_none : (t : Bool) → t ≡ (t || false)
  or_none true = refl
  or_none false = refl

  of_three : (key : RowKey) (row : Row)
      → on_bucket items volume bucket key row
      ≡ (((kind_of key == 3) && on_bucket items volume bucket key row)
      || (((kind_of key == 4) && on_bucket items volume bucket key row) || ((kind_of key == 6) && on_bucket items volume bucket key row)))
  of_three (keys.Key v b k) row = or_none _
  of_three (keys.Open v b k n) row = or_none _
  of_three (keys.Snapshot v b n) row = refl
  of_three key row = refl

any_both : (p q : RowEntry → Bool) (l : List RowEntry) → list_any (λ entry. p entry || q entry) l ≡ (list_any p l || list_any q l)
any_both p q [] = refl
any_both p q (x ∷ l) = ap (λ (t : Bool). (p x || q x) || t) (any_both p q l) ∙ regroup (p x) (q x) (list_any p l) (list_any q l)
  where
    regroup : (a b c d : Bool) → ((a || b) || (c || d)) ≡ ((a || c) || (b || d))
    regroup true b c d = refl
    regroup false true true d = refl
    regroup false true false d = refl
    regroup false false c d = refl

any_same : (p q : RowEntry → Bool) → ((entry : RowEntry) → p entry ≡ q entry) → (l : List RowEntry) → list_any p l ≡ list_any q l
any_same p q same [] = refl
any_same p q same (x ∷ l) = ap (λ (t : Bool). t || list_any p l) (same x) ∙ ap (λ (t : Bool). q x || t) (any_same p q same l)

any_among : (P : RowEntry → Type 0) (p q : RowEntry → Bool) → ((entry : RowEntry) → P entry → p entry ≡ q entry) → (l : List RowEntry) → AllByRecursion P l
    → list_any p l ≡ list_any q l
any_among P p q same [] all = refl
any_among P p q same (x ∷ l) all = ap (λ (t : Bool). t || list_any p l) (same x all.0) ∙ ap (λ (t : Bool). q x || t) (any_among P p q same l all.1)

module _ (l : List RowEntry) (items : List Operation) (volume bucket : List ℕ) where
  one_kind : (kind : ℕ) (part : List RowEntry) → IsPart l (in_bucket kind volume bucket) part
      → ((entry : RowEntry) → is_eq (part_order (in_bucket kind volume bucket) entry.key) ≡ false
      → of_kind kind (is_left items (keys.Bucket volume bucket)) entry ≡ false)
      → list_any (of_kind kind (is_left items (keys.Bucket volume bucket))) l ≡ list_any (is_left items (keys.Bucket volume bucket)) part
  one_kind kind part is outside =
      any_part (of_kind kind (is_left items (keys.Bucket volume bucket))) l (in_bucket kind volume bucket) part is outside
      ∙ sym (any_among (λ (entry : RowEntry). part_order (in_bucket kind volume bucket) entry.key ≡ Equal) (is_left items (keys.Bucket volume bucket))
      (of_kind kind (is_left items (keys.Bucket volume bucket)))
      (λ entry e. inside_kind kind volume bucket (is_left items (keys.Bucket volume bucket)) entry e) part is.among)

  pub bucket_left : (own sessions snapshots : List RowEntry) → IsPart l (in_bucket 3 volume bucket) own → IsPart l (in_bucket 4 volume bucket) sessions
      → IsPart l (in_bucket 6 volume bucket) snapshots
      → list_any (is_left items (keys.Bucket volume bucket)) l
      ≡ (list_any (is_left items (keys.Bucket volume bucket)) own
      || (list_any (is_left items (keys.Bucket volume bucket)) sessions || list_any (is_left items (keys.Bucket volume bucket)) snapshots))
  bucket_left own sessions snapshots is_own are_sessions are_snapshots =
      let left = is_left items (keys.Bucket volume bucket) in
      let a = one_kind 3 own is_own (λ entry e. no_key items volume bucket entry.key entry.row e) in
      let b = one_kind 4 sessions are_sessions (λ entry e. no_session items volume bucket entry.key entry.row e) in
      let c = one_kind 6 snapshots are_snapshots (λ entry e. no_snapshot items volume bucket entry.key entry.row e) in
      any_same (is_left items (keys.Bucket volume bucket))
      (λ entry. of_kind 3 (is_left items (keys.Bucket volume bucket)) entry
      || (of_kind 4 (is_left items (keys.Bucket volume bucket)) entry || of_kind 6 (is_left items (keys.Bucket volume bucket)) entry))
      (λ entry. of_three items volume bucket entry.key entry.row) l
      ∙ any_both (of_kind 3 (is_left items (keys.Bucket volume bucket)))
      (λ entry. of_kind 4 (is_left items (keys.Bucket volume bucket)) entry || of_kind 6 (is_left items (keys.Bucket volume bucket)) entry) l
      ∙ ap (λ (t : Bool). list_any (of_kind 3 (is_left items (keys.Bucket volume bucket))) l || t)
      (any_both (of_kind 4 (is_left items (keys.Bucket volume bucket))) (of_kind 6 (is_left items (keys.Bucket volume bucket))) l)
      ∙ cc (a, b, c)

  pub content_left : (base : RowKey) (own sessions snapshots : List RowEntry) → base ≡ keys.Bucket volume bucket → IsPart l (in_bucket 3 volume bucket) own
      → IsPart l (in_bucket 4 volume bucket) sessions → IsPart l (in_bucket 6 volume bucket) snapshots
      → list_any (is_left items base) l
      ≡ (list_any (is_left items base) own || (list_any (is_left items base) sessions || list_any (is_left items base) snapshots))
  content_left base own sessions snapshots is_base is_own are_sessions are_snapshots =
      subst (λ (base : RowKey). list_any (is_left items base) l
      ≡ (list_any (is_left items base) own || (list_any (is_left items base) sessions || list_any (is_left items base) snapshots))) (sym is_base)
      (bucket_left own sessions snapshots is_own are_sessions are_snapshots)

pub all_told : (whole a b c x y z : Bool) → whole ≡ (a || (b || c)) → x ≡ a → y ≡ b → z ≡ c → ((x || y) || z) ≡ whole
all_told whole a b c x y z e is_a is_b is_c = ap (λ (t : Bool). (t || y) || z) is_a ∙ ap (λ (t : Bool). (a || t) || z) is_b
    ∙ ap (λ (t : Bool). (a || b) || t) is_c ∙ regroup a ∙ sym e
  where
    regroup : (a : Bool) → ((a || b) || c) ≡ (a || (b || c))
    regroup true = refl
    regroup false = refl

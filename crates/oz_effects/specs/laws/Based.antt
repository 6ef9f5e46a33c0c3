-- Where no operation of a body is at fault, each row has the one that it needs.
use Rattle.std.proofs.Common.{
  ◌≡◌,
  ◌==◌,
  ◌&&◌,
  ◌||◌,
  ℕ,
  ◌≤◌,
  Bool,
  true,
  false,
  List,
  [],
  ◌∷◌,
  ◌++◌,
  Option,
  Some,
  None,
  IsSome,
  cond,
  refl,
  sym,
  ◌∙◌,
  ap,
  subst,
  arith,
  is_eq,
}
use Rattle.std.specs.Prelude.{not, map, filter, is_some}
use mathlib.Core.Bool.{false≢true}
use Rattle.std.specs.List.{flat_map, list_any, AllByRecursion}
use Rattle.std.proofs.lemmas.List.Folds.{list_any-append}
use Rattle.oz_fields.specs.declared.block.Block.{Block}
use Rattle.oz_rows.specs.declared.key.RowKey.{RowKey}
use Rattle.oz_rows.specs.declared.key.RowKey.TheVariants as keys
use Rattle.oz_rows.specs.declared.row.Row.{Row}
use Rattle.oz_rows.specs.declared.row.Row.TheVariants as rows
use Rattle.oz_rows.specs.declared.row.SnapshotState.TheVariants.{Live}
use Rattle.oz_rows.specs.declared.operation.Change.{Change}
use Rattle.oz_rows.specs.declared.operation.Operation.{Operation}
use Rattle.oz_rows.specs.declared.operation.Operation.TheVariants.{Put, Remove, CopyKeys, MoveDeleted, DropKeys, DropOpen}
use Rattle.oz_rows.specs.Rows.{kind_of}
use Rattle.oz_rows.specs.declared.entry.RowEntry.{RowEntry}
use Rattle.oz_rows.specs.RowMaps.{row_of, row_after, is_same, put, gone, is_bucket}
use Rattle.oz_effects.specs.Effects.{Leads, operation_changes, copied, moved, dropped, closed, freed, is_in_a_key}
use Rattle.oz_effects.specs.Build.{base_of, puts, removes, IsOrphan, AllAreBased, IsAtFault, NoneAtFault}
use Rattle.oz_rows.specs.laws.Order.{itself}
use Rattle.oz_rows.specs.laws.Same.{same_is_one}

-- a change leaves a key as it is, or takes its row away
abbrev Keeps : RowKey → Change → Type 0
Keeps key change = is_same change.key key ≡ false

abbrev AllKeep : RowKey → List Change → Type 0
AllKeep key changes = AllByRecursion (Keeps key) changes

abbrev GivesNone : RowKey → Change → Type 0
GivesNone key change = is_same change.key key ≡ true → change.row ≡ None

abbrev NoneGiven : RowKey → List Change → Type 0
NoneGiven key changes = AllByRecursion (GivesNone key) changes

all_append : (P : Change → Type 0) (a b : List Change) → AllByRecursion P a → AllByRecursion P b → AllByRecursion P (a ++ b)
all_append P [] b p q = q
all_append P (x ∷ a) b p q = (p.0, all_append P a b p.1 q)

all_flat : (P : Change → Type 0) (f : RowEntry → List Change) → ((entry : RowEntry) → AllByRecursion P (f entry)) → (l : List RowEntry)
    → AllByRecursion P (flat_map f l)
all_flat P f each [] = tt
all_flat P f each (entry ∷ l) = all_append P (f entry) (flat_map f l) (each entry) (all_flat P f each l)

all_map : {X : Type 0} (P : Change → Type 0) (f : X → Change) → ((x : X) → P (f x)) → (l : List X) → AllByRecursion P (map f l)
all_map P f each [] = tt
all_map P f each (x ∷ l) = (each x, all_map P f each l)

kept : (changes : List Change) (key : RowKey) (row : Option Row) → AllKeep key changes → row_after changes key row ≡ row
kept [] key row all = refl
kept (change ∷ changes) key row all = ap (λ (t : Bool). row_after changes key (cond t change.row row)) all.0 ∙ kept changes key row all.1

gone_stays : (changes : List Change) (key : RowKey) → NoneGiven key changes → row_after changes key None ≡ None
gone_stays [] key all = refl
gone_stays (change ∷ changes) key all = by (is_same change.key key) refl ∙ gone_stays changes key all.1
  where
    by : (t : Bool) → is_same change.key key ≡ t → row_after changes key (cond (is_same change.key key) change.row None) ≡ row_after changes key None
    by true e = ap (λ (t : Bool). row_after changes key (cond t change.row None)) e ∙ ap (row_after changes key) (all.0 e)
    by false e = ap (λ (t : Bool). row_after changes key (cond t change.row None)) e

-- a row that stands after such changes stood before them
not_given : (changes : List Change) (key : RowKey) (before : Option Row) (row : Row) → NoneGiven key changes → row_after changes key before ≡ Some row
    → before ≡ Some row
not_given [] key before row all stands = stands
not_given (change ∷ changes) key before row all stands = by (not_given changes key before row all.1) (is_same change.key key) refl
  where
    by : (row_after changes key before ≡ Some row → before ≡ Some row) → (t : Bool) → is_same change.key key ≡ t → before ≡ Some row
    by behind true e =
        let none = gone_stays changes key all.1 in
        let here : row_after changes key None ≡ Some row = sym (ap (row_after changes key) (all.0 e))
        ∙ sym (ap (λ (t : Bool). row_after changes key (cond t change.row before)) e) ∙ stands in
        absurd (let clash : None ≡ Some row = sym none ∙ here in cc)
    by behind false e = behind (sym (ap (λ (t : Bool). row_after changes key (cond t change.row before)) e) ∙ stands)

-- ---- what operations other than Put and Remove change

abbrev change : RowKey → Option Row → Change
change key row = record { key = key; row = row }

-- the kinds of deleted, snapshot key and renamed rows
abbrev IsDerived : RowKey → Type 0
IsDerived key = (5 ≤ kind_of key) × (kind_of key ≡ 6 → ⊥)

abbrev pub IsWide : Operation → Type 0
IsWide (Put key row) = ⊥
IsWide (Remove key) = ⊥
IsWide operation = Unit {0}

module _ (P : Change → Type 0) (derived : (key : RowKey) (row : Option Row) → IsDerived key → P (change key row))
    (closes : (key : RowKey) → kind_of key ≡ 4 → P (change key None)) where
  if_so : (t : Bool) (changes : List Change) → AllByRecursion P changes → AllByRecursion P (cond t changes [])
  if_so true changes all = all
  if_so false changes all = tt

  if_not : (t : Bool) (changes : List Change) → AllByRecursion P changes → AllByRecursion P (cond t [] changes)
  if_not true changes all = tt
  if_not false changes all = all

  of_deleted : (volume bucket : List ℕ) (owner : ℕ) (key : List ℕ) (local : ℕ) (row : Option Row) → P (change (keys.Deleted volume bucket owner key local) row)
  of_deleted volume bucket owner key local row = derived (keys.Deleted volume bucket owner key local) row (omega arith, λ e. omega (arith, e))

  of_snapshot_key : (volume bucket : List ℕ) (number : ℕ) (key : List ℕ) (row : Option Row) → P (change (keys.SnapshotKey volume bucket number key) row)
  of_snapshot_key volume bucket number key row = derived (keys.SnapshotKey volume bucket number key) row (omega arith, λ e. omega (arith, e))

  of_renamed : (volume bucket : List ℕ) (owner local : ℕ) (row : Option Row) → P (change (keys.Renamed volume bucket owner local) row)
  of_renamed volume bucket owner local row = derived (keys.Renamed volume bucket owner local) row (omega arith, λ e. omega (arith, e))

  all_copied : (volume bucket : List ℕ) (number : ℕ) (key : RowKey) (row : Row) → AllByRecursion P (copied volume bucket number key row)
  all_copied volume bucket number (keys.Key v b k) (rows.Key made pieces) =
      if_so (is_bucket volume bucket v b) (put (keys.SnapshotKey volume bucket number k) (rows.SnapshotKey made pieces) ∷ [])
      (of_snapshot_key volume bucket number k (Some (rows.SnapshotKey made pieces)), tt)
  all_copied volume bucket number key row = tt

  all_moved : (all : List RowEntry) (volume bucket : List ℕ) (from to : ℕ) (key : RowKey) (row : Row)
      → AllByRecursion P (moved all volume bucket from to key row)
  all_moved all volume bucket from to (keys.Deleted v b owner k local) row =
      if_so (is_bucket volume bucket v b && owner == from)
      (gone (keys.Deleted volume bucket from k local) ∷ put (keys.Deleted volume bucket to k local) row ∷ [])
      (of_deleted volume bucket from k local None, (of_deleted volume bucket to k local (Some row), tt))
  all_moved all volume bucket from to (keys.Renamed v b owner local) row =
      let other : Bool = from == 0 && is_some (row_of all (keys.Renamed volume bucket to local)) in
      if_so (is_bucket volume bucket v b && owner == from)
      (gone (keys.Renamed volume bucket from local) ∷ cond other [] (put (keys.Renamed volume bucket to local) row ∷ [])) (
        of_renamed volume bucket from local None,
        if_not other (put (keys.Renamed volume bucket to local) row ∷ []) (of_renamed volume bucket to local (Some row), tt),
      )
  all_moved all volume bucket from to key row = tt

  all_dropped : (volume bucket : List ℕ) (number : ℕ) (key : RowKey) → AllByRecursion P (dropped volume bucket number key)
  all_dropped volume bucket number (keys.SnapshotKey v b s k) =
      if_so (is_bucket volume bucket v b && s == number) (gone (keys.SnapshotKey volume bucket number k) ∷ [])
      (of_snapshot_key volume bucket number k None, tt)
  all_dropped volume bucket number key = tt

  all_closed : (volume bucket : List ℕ) (key : RowKey) → AllByRecursion P (closed volume bucket key)
  all_closed volume bucket (keys.Open v b k n) =
      if_so (is_bucket volume bucket v b) (gone (keys.Open volume bucket k n) ∷ []) (closes (keys.Open volume bucket k n) refl, tt)
  all_closed volume bucket key = tt

  all_freed : (all : List RowEntry) (volume bucket : List ℕ) (key : RowKey) (row : Row) → AllByRecursion P (freed all volume bucket key row)
  all_freed all volume bucket (keys.Open v b k n) (rows.Open blocks) =
      if_so (is_bucket volume bucket v b)
      (map (λ (block : Block). put (keys.Deleted volume bucket 0 k block.local) (rows.Deleted (block ∷ [])))
      (filter (λ block. not (is_in_a_key all block)) blocks))
      (all_map P (λ (block : Block). put (keys.Deleted volume bucket 0 k block.local) (rows.Deleted (block ∷ [])))
      (λ block. of_deleted volume bucket 0 k block.local (Some (rows.Deleted (block ∷ [])))) (filter (λ block. not (is_in_a_key all block)) blocks))
  all_freed all volume bucket key row = tt

  wide_changes : (all : List RowEntry) (operation : Operation) → IsWide operation → AllByRecursion P (operation_changes all operation)
  wide_changes all (CopyKeys volume bucket number) wide =
      all_flat P (λ (entry : RowEntry). copied volume bucket number entry.key entry.row) (λ entry. all_copied volume bucket number entry.key entry.row) all
  wide_changes all (MoveDeleted volume bucket from to) wide =
      if_not (from == to) (flat_map (λ (entry : RowEntry). moved all volume bucket from to entry.key entry.row) all)
      (all_flat P (λ (entry : RowEntry). moved all volume bucket from to entry.key entry.row)
      (λ entry. all_moved all volume bucket from to entry.key entry.row) all)
  wide_changes all (DropKeys volume bucket number) wide =
      all_flat P (λ (entry : RowEntry). dropped volume bucket number entry.key) (λ entry. all_dropped volume bucket number entry.key) all
  wide_changes all (DropOpen volume bucket) wide =
      all_append P (flat_map (λ (entry : RowEntry). closed volume bucket entry.key) all)
      (flat_map (λ (entry : RowEntry). freed all volume bucket entry.key entry.row) all)
      (all_flat P (λ (entry : RowEntry). closed volume bucket entry.key) (λ entry. all_closed volume bucket entry.key) all)
      (all_flat P (λ (entry : RowEntry). freed all volume bucket entry.key entry.row) (λ entry. all_freed all volume bucket entry.key entry.row) all)
  wide_changes all operation wide = absurd wide

same_kind : (a b : RowKey) → is_same a b ≡ true → kind_of a ≡ kind_of b
same_kind a b e = ap kind_of (same_is_one a b e)

not_same : (a b : RowKey) → (kind_of a ≡ kind_of b → ⊥) → is_same a b ≡ false
not_same a b apart = by (is_same a b) refl
  where
    by : (t : Bool) → is_same a b ≡ t → is_same a b ≡ false
    by true e = absurd (apart (same_kind a b e))
    by false e = e

-- ---- rows that need another

needs_kind : (key : RowKey) (row : Row) (base : RowKey) → base_of key row ≡ Some base → IsDerived key → ⊥
needs_kind (keys.Bucket v b) row base e derived = omega (arith, derived.0)
needs_kind (keys.Key v b k) row base e derived = omega (arith, derived.0)
needs_kind (keys.Open v b k n) row base e derived = omega (arith, derived.0)
needs_kind (keys.Snapshot v b n) row base e derived = derived.1 refl
needs_kind (keys.Volume v) row base e derived = cc
needs_kind (keys.Deleted v b owner k local) row base e derived = cc
needs_kind (keys.SnapshotKey v b s k) row base e derived = cc
needs_kind (keys.Renamed v b owner local) row base e derived = cc
needs_kind (keys.Stripe s) row base e derived = cc

some_key : (a b : RowKey) → Some a ≡ Some b → a ≡ b
some_key a b e = cc

low : (a base : RowKey) → Some a ≡ Some base → kind_of a ≤ 2 → kind_of base ≤ 2
low a base e le = subst (λ (key : RowKey). kind_of key ≤ 2) (some_key a base e) le

base_kind : (key : RowKey) (row : Row) (base : RowKey) → base_of key row ≡ Some base → kind_of base ≤ 2
base_kind (keys.Bucket v b) row base e = low _ base e (omega arith)
base_kind (keys.Key v b k) row base e = low _ base e (omega arith)
base_kind (keys.Open v b k n) row base e = low _ base e (omega arith)
base_kind (keys.Snapshot v b n) (rows.Snapshot name previous Live) base e = low _ base e (omega arith)
base_kind key row base e = absurd cc

none_given : (all : List RowEntry) (operation : Operation) (key : RowKey) → (IsDerived key → ⊥) → puts key operation ≡ false
    → NoneGiven key (operation_changes all operation)
none_given all (Put other row) key underived e = ((λ same. absurd (false≢true (sym e ∙ same))), tt)
none_given all (Remove other) key underived e = ((λ same. refl), tt)
none_given all (CopyKeys volume bucket number) key underived e =
    wide_changes (GivesNone key) (λ a row derived same. absurd (underived (subst IsDerived (same_is_one a key same) derived))) (λ a kind same. refl) all
    (CopyKeys volume bucket number) tt
none_given all (MoveDeleted volume bucket from to) key underived e =
    wide_changes (GivesNone key) (λ a row derived same. absurd (underived (subst IsDerived (same_is_one a key same) derived))) (λ a kind same. refl) all
    (MoveDeleted volume bucket from to) tt
none_given all (DropKeys volume bucket number) key underived e =
    wide_changes (GivesNone key) (λ a row derived same. absurd (underived (subst IsDerived (same_is_one a key same) derived))) (λ a kind same. refl) all
    (DropKeys volume bucket number) tt
none_given all (DropOpen volume bucket) key underived e =
    wide_changes (GivesNone key) (λ a row derived same. absurd (underived (subst IsDerived (same_is_one a key same) derived))) (λ a kind same. refl) all
    (DropOpen volume bucket) tt

wide_keeps : (all : List RowEntry) (operation : Operation) (base : RowKey) → kind_of base ≤ 2 → IsWide operation
    → AllKeep base (operation_changes all operation)
wide_keeps all operation base le wide =
    wide_changes (Keeps base) (λ a row derived. not_same a base (λ e. omega (arith, e, derived.0, le)))
    (λ a kind. not_same a base (λ e. omega (arith, e, kind, le))) all operation wide

none_or : (a b : Bool) → (a || b) ≡ false → (a ≡ false) × (b ≡ false)
none_or true b e = absurd (false≢true (sym e))
none_or false b e = (refl, e)

-- a row that no operation put stood before
never_put : (before : List RowEntry) (items : List Operation) (after : List RowEntry) (key : RowKey) (row : Row) → (IsDerived key → ⊥)
    → Leads before items after → list_any (puts key) items ≡ false → row_of after key ≡ Some row → row_of before key ≡ Some row
unfolding Leads
never_put before [] after key row underived leads unput stands = ap (λ (rows : List RowEntry). row_of rows key) (sym leads) ∙ stands
never_put before (operation ∷ items) after key row underived (between, possible, becomes, leads) unput stands =
    let none = none_or (puts key operation) (list_any (puts key) items) unput in
    let later = never_put between items after key row underived leads none.1 stands in
    not_given (operation_changes before operation) key (row_of before key) row (none_given before operation key underived none.0)
    (sym (becomes.rows key) ∙ later)

is_there : (o : Option Row) → IsSome o → o ≡ None → ⊥
is_there o some none = false≢true (subst IsSome none some)

-- an operation that takes a base away removes it
takes : (before : List RowEntry) (operation : Operation) (base : RowKey) → kind_of base ≤ 2 → IsSome (row_of before base)
    → row_after (operation_changes before operation) base (row_of before base) ≡ None → operation ≡ Remove base
takes before (Put other row) base le there none = by (is_same other base) refl
  where
    by : (t : Bool) → is_same other base ≡ t → Put other row ≡ Remove base
    by true e = let here = sym (ap (λ (t : Bool). cond t (Some row) (row_of before base)) e) ∙ none in absurd cc
    by false e = absurd (is_there (row_of before base) there (sym (ap (λ (t : Bool). cond t (Some row) (row_of before base)) e) ∙ none))
takes before (Remove other) base le there none = by (is_same other base) refl
  where
    by : (t : Bool) → is_same other base ≡ t → Remove other ≡ Remove base
    by true e = ap Remove (same_is_one other base e)
    by false e = absurd (is_there (row_of before base) there (sym (ap (λ (t : Bool). cond t None (row_of before base)) e) ∙ none))
takes before (CopyKeys volume bucket number) base le there none =
    absurd (is_there (row_of before base) there
    (sym (kept (operation_changes before (CopyKeys volume bucket number)) base (row_of before base)
    (wide_keeps before (CopyKeys volume bucket number) base le tt)) ∙ none))
takes before (MoveDeleted volume bucket from to) base le there none =
    absurd (is_there (row_of before base) there
    (sym (kept (operation_changes before (MoveDeleted volume bucket from to)) base (row_of before base)
    (wide_keeps before (MoveDeleted volume bucket from to) base le tt)) ∙ none))
takes before (DropKeys volume bucket number) base le there none =
    absurd (is_there (row_of before base) there
    (sym (kept (operation_changes before (DropKeys volume bucket number)) base (row_of before base)
    (wide_keeps before (DropKeys volume bucket number) base le tt)) ∙ none))
takes before (DropOpen volume bucket) base le there none =
    absurd (is_there (row_of before base) there
    (sym (kept (operation_changes before (DropOpen volume bucket)) base (row_of before base) (wide_keeps before (DropOpen volume bucket) base le tt))
    ∙ none))

or_true : (a b : Bool) → b ≡ true → (a || b) ≡ true
or_true true b e = refl
or_true false b e = e

-- so a base that is gone was removed
removed : (before : List RowEntry) (items : List Operation) (after : List RowEntry) (base : RowKey) → kind_of base ≤ 2 → IsSome (row_of before base)
    → row_of after base ≡ None → Leads before items after → list_any (removes base) items ≡ true
unfolding Leads
removed before [] after base le there none leads =
    absurd (is_there (row_of before base) there (ap (λ (rows : List RowEntry). row_of rows base) (sym leads) ∙ none))
removed before (operation ∷ items) after base le there none (between, possible, becomes, leads) =
    by (λ still. removed between items after base le still none leads) (row_of between base) refl
  where
    by : (IsSome (row_of between base) → list_any (removes base) items ≡ true) → (o : Option Row) → row_of between base ≡ o
        → (removes base operation || list_any (removes base) items) ≡ true
    by later None e = ap (λ (t : Bool). t || list_any (removes base) items)
        (ap (removes base) (takes before operation base le there (sym (becomes.rows base) ∙ e)) ∙ ap is_eq (itself base))
    by later (Some row) e = or_true (removes base operation) (list_any (removes base) items) (later (subst IsSome (sym e) refl))

removes_it : (base : RowKey) (operation : Operation) → removes base operation ≡ true → operation ≡ Remove base
removes_it base (Remove other) e = ap Remove (same_is_one other base e)
removes_it base (Put other row) e = absurd (false≢true e)
removes_it base (CopyKeys volume bucket number) e = absurd (false≢true e)
removes_it base (MoveDeleted volume bucket from to) e = absurd (false≢true e)
removes_it base (DropKeys volume bucket number) e = absurd (false≢true e)
removes_it base (DropOpen volume bucket) e = absurd (false≢true e)

-- the last of those that remove a row isn't at fault
record LastRemoval (after : List RowEntry) (whole : List Operation) (base : RowKey) : Type 0 where
  later : List Operation
  none_later : list_any (removes base) later ≡ false
  not_at_fault : IsAtFault after whole later (Remove base) → ⊥

last_removal : (after : List RowEntry) (whole : List Operation) (base : RowKey) (items behind : List Operation) → NoneAtFault after whole items behind
    → list_any (removes base) behind ≡ false → list_any (removes base) items ≡ true → LastRemoval after whole base
last_removal after whole base [] behind none last e = absurd (false≢true e)
last_removal after whole base (operation ∷ items) behind none last e =
    by (last_removal after whole base items behind none.1 last) (list_any (removes base) items) refl
  where
    by : (list_any (removes base) items ≡ true → LastRemoval after whole base) → (t : Bool) → list_any (removes base) items ≡ t → LastRemoval after whole base
    by behind_it true more = behind_it more
    by behind_it false no_more = record {
      later = items ++ behind;
      none_later = list_any-append (removes base) items behind ∙ ap (λ (t : Bool). t || list_any (removes base) behind) no_more ∙ last;
      not_at_fault = subst (λ (operation : Operation). IsAtFault after whole (items ++ behind) operation → ⊥)
          (removes_it base operation (here (removes base operation) e)) none.0;
    }
      where
        here : (t : Bool) → (t || list_any (removes base) items) ≡ true → t ≡ true
        here true e = refl
        here false e = sym no_more ∙ e

module _ (after : List RowEntry) (whole : List Operation) (key : RowKey) where
  put_fault : (items behind : List Operation) → NoneAtFault after whole items behind → list_any (puts key) items ≡ true → (base : RowKey)
      → IsOrphan after key base → ⊥
  put_fault [] behind all e = absurd (false≢true e)
  put_fault (operation ∷ items) behind all e = by operation all.0 (put_fault items behind all.1) e
    where
      by : (operation : Operation) → (IsAtFault after whole (items ++ behind) operation → ⊥)
          → (list_any (puts key) items ≡ true → (base : RowKey) → IsOrphan after key base → ⊥) → (puts key operation || list_any (puts key) items) ≡ true
          → (base : RowKey) → IsOrphan after key base → ⊥
      by (Put other row) here later e = test (is_same other key) refl
        where
          test : (t : Bool) → is_same other key ≡ t → (base : RowKey) → IsOrphan after key base → ⊥
          test true same = λ base orphan. here (base, subst (λ (key : RowKey). IsOrphan after key base) (sym (same_is_one other key same)) orphan)
          test false same = later (sym (ap (λ (t : Bool). t || list_any (puts key) items) same) ∙ e)
      by (Remove other) here later e = later e
      by (CopyKeys volume bucket number) here later e = later e
      by (MoveDeleted volume bucket from to) here later e = later e
      by (DropKeys volume bucket number) here later e = later e
      by (DropOpen volume bucket) here later e = later e

pub based_after : (before : List RowEntry) (items : List Operation) (after : List RowEntry) → AllAreBased before → Leads before items after
    → NoneAtFault after items items [] → AllAreBased after
based_after before items after based leads none key base orphan = by (list_any (puts key) items) refl
  where
    stood : list_any (puts key) items ≡ false → row_of before key ≡ Some orphan.row
    stood unput = never_put before items after key orphan.row (needs_kind key orphan.row base orphan.needs) leads unput orphan.stands

    before_it : list_any (puts key) items ≡ false → (o : Option Row) → row_of before base ≡ o → ⊥
    before_it unput None e = based key base (record { row = orphan.row; stands = stood unput; needs = orphan.needs; absent = e })
    before_it unput (Some row) e =
        let last = last_removal after items base items [] none refl
        (removed before items after base (base_kind key orphan.row base orphan.needs) (subst IsSome (sym e) refl) orphan.absent leads) in
        last.not_at_fault ((key, orphan, unput), last.none_later)

    by : (t : Bool) → list_any (puts key) items ≡ t → ⊥
    by true e = put_fault after items key items [] none e base orphan
    by false e = before_it e (row_of before base) refl

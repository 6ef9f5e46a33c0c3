-- Operations of a stripe lead the rows of the store where they lead the stripe's.
use Rattle.std.proofs.Common.{
  ◌≡◌,
  ℕ,
  ◌==◌,
  Bool,
  true,
  false,
  not,
  ◌&&◌,
  List,
  [],
  ◌∷◌,
  ◌++◌,
  map,
  Option,
  None,
  Some,
  IsSome,
  is_some,
  cond,
  refl,
  sym,
  ◌∙◌,
  ap,
  subst,
}
use mathlib.Core.Bool.{false≢true}
use Rattle.std.proofs.lemmas.Bool.{eq-eqb}
use Rattle.std.proofs.lemmas.List.Concat.{flat_map-cons}
use Rattle.std.specs.List.{AllByRecursion, filter, flat_map}
use Rattle.oz_fields.specs.declared.block.Block.{Block}
use Rattle.oz_names.specs.Names.{stripe_of}
use Rattle.oz_rows.specs.declared.key.RowKey.{RowKey}
use Rattle.oz_rows.specs.declared.key.RowKey.TheVariants as keys
use Rattle.oz_rows.specs.declared.row.Row.{Row}
use Rattle.oz_rows.specs.declared.row.Row.TheVariants as rows
use Rattle.oz_rows.specs.declared.row.SnapshotState.TheVariants.{Live}
use Rattle.oz_rows.specs.declared.entry.RowEntry.{RowEntry}
use Rattle.oz_rows.specs.declared.operation.Change.{Change}
use Rattle.oz_rows.specs.declared.operation.Operation.{Operation}
use Rattle.oz_rows.specs.declared.operation.Operation.TheVariants.{Put, Remove, CopyKeys, MoveDeleted, DropKeys, DropOpen}
use Rattle.oz_rows.specs.RowMaps.{Rows, AreRows, row_of, row_after, row_after_one, is_same, is_bucket, put, gone, KeysRise, Becomes}
use Rattle.oz_rows.specs.laws.Changes.{become}
use Rattle.oz_rows.specs.laws.Same.{same_is_one}
use Rattle.oz_effects.specs.Effects.{copied, moved, dropped, closed, is_in_a_key, freed, operation_changes, IsPossible, Leads}
use Rattle.oz_effects.specs.Build.{base_of, AllAreBased}
use Rattle.oz_effects.specs.Batches.{IsBatchOf, ComesTo}
use Rattle.oz_sound.specs.stripes.Parts.{part_of, HasBucket, IsApart}
use Rattle.oz_sound.specs.stripes.Stripes.{stripe_of_key, is_own, only, stripe_of_operation, AreOf, ChangeOnly, AllApart}
use Rattle.oz_sound.specs.stripes.laws.Lists.{one_list, part_rises, row_of_part, in_part, out_of_part}
use Rattle.oz_sound.specs.stripes.laws.Changes.{sessions_drop_alike, keys_copy_alike, keys_drop_alike, rows_move_alike}

-- ---- what is changed is of the stripe

module _ (P : Change → Type 0) where
  both : (a b : List Change) → AllByRecursion P a → AllByRecursion P b → AllByRecursion P (a ++ b)
  both [] b first second = second
  both (change ∷ a) b first second = (first.0, both a b first.1 second)

  each_of : (f : RowEntry → List Change) → ((x : RowEntry) → AllByRecursion P (f x)) → (l : List RowEntry) → AllByRecursion P (flat_map f l)
  each_of f each [] = tt
  each_of f each (x ∷ l) = subst (AllByRecursion P) (sym (flat_map-cons f x l)) (both (f x) (flat_map f l) (each x) (each_of f each l))

  each_made : (f : Block → Change) → ((x : Block) → P (f x)) → (l : List Block) → AllByRecursion P (map f l)
  each_made f each [] = tt
  each_made f each (x ∷ l) = (each x, each_made f each l)

  where_so : (t : Bool) (l : List Change) → AllByRecursion P l → AllByRecursion P (cond t l [])
  where_so true l all = all
  where_so false l all = tt

module _ (stripe : ℕ) where
  abbrev IsOwn : Change → Type 0
  IsOwn change = stripe_of_key change.key ≡ stripe

  module _ (volume bucket : List ℕ) (own : stripe_of volume ≡ stripe) where
    has_bucket : HasBucket (is_own stripe) volume bucket
    has_bucket = record {
      keys_in = λ key. eq-eqb (stripe_of volume) stripe own;
      sessions = λ key number. eq-eqb (stripe_of volume) stripe own;
      deleted = λ owner local key. eq-eqb (stripe_of volume) stripe own;
      snapshot_keys = λ number key. eq-eqb (stripe_of volume) stripe own;
      renamed = λ owner local. eq-eqb (stripe_of volume) stripe own;
    }

    copies_own : (number : ℕ) (key : RowKey) (row : Row) → AllByRecursion IsOwn (copied volume bucket number key row)
    copies_own number (keys.Key of_volume of_bucket key) (rows.Key made pieces) = where_so IsOwn (is_bucket volume bucket of_volume of_bucket) _ (own, tt)
    copies_own number key row = tt

    drops_own : (number : ℕ) (key : RowKey) → AllByRecursion IsOwn (dropped volume bucket number key)
    drops_own number (keys.SnapshotKey of_volume of_bucket snapshot key) =
        where_so IsOwn (is_bucket volume bucket of_volume of_bucket && snapshot == number) _ (own, tt)
    drops_own number key = tt

    closes_own : (key : RowKey) → AllByRecursion IsOwn (closed volume bucket key)
    closes_own (keys.Open of_volume of_bucket key number) = where_so IsOwn (is_bucket volume bucket of_volume of_bucket) _ (own, tt)
    closes_own key = tt

    frees_own : (all : List RowEntry) (key : RowKey) (row : Row) → AllByRecursion IsOwn (freed all volume bucket key row)
    frees_own all (keys.Open of_volume of_bucket key number) (rows.Open blocks) =
        where_so IsOwn (is_bucket volume bucket of_volume of_bucket) _
        (each_made IsOwn (λ (block : Block). put (keys.Deleted volume bucket 0 key block.local) (rows.Deleted (block ∷ []))) (λ block. own)
        (filter (λ block. not (is_in_a_key all block)) blocks))
    frees_own all key row = tt

    renamed_own : (t : Bool) (to local : ℕ) (row : Row) → AllByRecursion IsOwn (cond t [] (put (keys.Renamed volume bucket to local) row ∷ []))
    renamed_own true to local row = tt
    renamed_own false to local row = (own, tt)

    moves_own : (all : List RowEntry) (from to : ℕ) (key : RowKey) (row : Row) → AllByRecursion IsOwn (moved all volume bucket from to key row)
    moves_own all from to (keys.Deleted of_volume of_bucket owner key local) row =
        where_so IsOwn (is_bucket volume bucket of_volume of_bucket && owner == from) _ (own, (own, tt))
    moves_own all from to (keys.Renamed of_volume of_bucket owner local) row =
        where_so IsOwn (is_bucket volume bucket of_volume of_bucket && owner == from) _
        (own, renamed_own (from == 0 && is_some (row_of all (keys.Renamed volume bucket to local))) to local row)
    moves_own all from to key row = tt

  changes_own : (all : List RowEntry) (operation : Operation) → stripe_of_operation operation ≡ stripe → AllByRecursion IsOwn (operation_changes all operation)
  changes_own all (Put key row) own = (own, tt)
  changes_own all (Remove key) own = (own, tt)
  changes_own all (CopyKeys volume bucket number) own =
      each_of IsOwn (λ (entry : RowEntry). copied volume bucket number entry.key entry.row) (λ x. copies_own volume bucket own number x.key x.row) all
  changes_own all (MoveDeleted volume bucket from to) own = by (from == to)
    where
      by : (t : Bool) → AllByRecursion IsOwn (cond t [] (flat_map (λ (entry : RowEntry). moved all volume bucket from to entry.key entry.row) all))
      by true = tt
      by false = each_of IsOwn (λ (entry : RowEntry). moved all volume bucket from to entry.key entry.row)
          (λ x. moves_own volume bucket own all from to x.key x.row) all
  changes_own all (DropKeys volume bucket number) own =
      each_of IsOwn (λ (entry : RowEntry). dropped volume bucket number entry.key) (λ x. drops_own volume bucket own number x.key) all
  changes_own all (DropOpen volume bucket) own =
      both IsOwn (flat_map (λ (entry : RowEntry). closed volume bucket entry.key) all)
      (flat_map (λ (entry : RowEntry). freed all volume bucket entry.key entry.row) all)
      (each_of IsOwn (λ (entry : RowEntry). closed volume bucket entry.key) (λ x. closes_own volume bucket own x.key) all)
      (each_of IsOwn (λ (entry : RowEntry). freed all volume bucket entry.key entry.row) (λ x. frees_own volume bucket own all x.key x.row) all)

  -- other rows stay
  rows_stay : (changes : List Change) → AllByRecursion IsOwn changes → (q : RowKey) → is_own stripe q ≡ false → (row : Option Row)
      → row_after changes q row ≡ row
  rows_stay [] all q outside row = refl
  rows_stay (change ∷ changes) all q outside row = ap (row_after changes q) (by (is_same change.key q) refl) ∙ rows_stay changes all.1 q outside row
    where
      by : (t : Bool) → is_same change.key q ≡ t → row_after_one change q row ≡ row
      by true e =
          let here = eq-eqb (stripe_of_key q) stripe (ap stripe_of_key (sym (same_is_one change.key q e)) ∙ all.0) in
          absurd (false≢true (sym outside ∙ here))
      by false e = ap (λ (t : Bool). cond t change.row row) e

  -- ---- one operation

  module _ (all : List RowEntry) (rise : KeysRise all) where
    changes_alike : (operation : Operation) → stripe_of_operation operation ≡ stripe
        → ((volume bucket : List ℕ) → operation ≡ DropOpen volume bucket → IsApart (is_own stripe) (row_of all) (row_of all) volume bucket)
        → operation_changes (part_of (is_own stripe) all) operation ≡ operation_changes all operation
    changes_alike (Put key row) own apart = refl
    changes_alike (Remove key) own apart = refl
    changes_alike (CopyKeys volume bucket number) own apart = keys_copy_alike (is_own stripe) volume bucket (has_bucket volume bucket own) all number
    changes_alike (MoveDeleted volume bucket from to) own apart = rows_move_alike (is_own stripe) volume bucket (has_bucket volume bucket own) all from to
    changes_alike (DropKeys volume bucket number) own apart = keys_drop_alike (is_own stripe) volume bucket (has_bucket volume bucket own) all number
    changes_alike (DropOpen volume bucket) own apart =
        sessions_drop_alike (is_own stripe) volume bucket (has_bucket volume bucket own) all rise (apart volume bucket refl)

    possible_alike : (operation : Operation) → stripe_of_operation operation ≡ stripe → IsPossible (part_of (is_own stripe) all) operation
        → IsPossible all operation
    possible_alike (Remove key) own possible = subst IsSome (in_part (is_own stripe) all key (eq-eqb (stripe_of_key key) stripe own)) possible
    possible_alike operation own possible = tt

    -- what is left of the stripe is the stripe's part of what is left of all
    left_alike : (operation : Operation) (between : List RowEntry) (whole : List RowEntry) → stripe_of_operation operation ≡ stripe
        → operation_changes (part_of (is_own stripe) all) operation ≡ operation_changes all operation
        → Becomes (part_of (is_own stripe) all) (operation_changes (part_of (is_own stripe) all) operation) between
        → Becomes all (operation_changes all operation) whole → between ≡ part_of (is_own stripe) whole
    left_alike operation between whole own same to_part to_whole =
        one_list between (part_of (is_own stripe) whole) to_part.in_order (part_rises (is_own stripe) whole to_whole.in_order)
        (λ q. by q (is_own stripe q) refl)
      where
        by : (q : RowKey) (t : Bool) → is_own stripe q ≡ t → row_of between q ≡ row_of (part_of (is_own stripe) whole) q
        by q true e =
            to_part.rows q ∙ ap (λ (changes : List Change). row_after changes q (row_of (part_of (is_own stripe) all) q)) same
            ∙ ap (row_after (operation_changes all operation) q) (in_part (is_own stripe) all q e)
            ∙ sym (to_whole.rows q) ∙ sym (in_part (is_own stripe) whole q e)
        by q false e =
            to_part.rows q ∙ rows_stay (operation_changes (part_of (is_own stripe) all) operation)
            (changes_own (part_of (is_own stripe) all) operation own) q e (row_of (part_of (is_own stripe) all) q)
            ∙ out_of_part (is_own stripe) all q e ∙ sym (out_of_part (is_own stripe) whole q e)

    outside_alike : (operation : Operation) (whole : List RowEntry) → stripe_of_operation operation ≡ stripe
        → Becomes all (operation_changes all operation) whole
        → (q : RowKey) → is_own stripe q ≡ false → row_of whole q ≡ row_of all q
    outside_alike operation whole own to_whole q e = to_whole.rows q
        ∙ rows_stay (operation_changes all operation) (changes_own all operation own) q e (row_of all q)

  -- ---- operations one after another

  record Whole (all : List RowEntry) (items : List Operation) (after : List RowEntry) : Type 0 where
    whole : List RowEntry
    leads : Leads all items whole
    is : after ≡ part_of (is_own stripe) whole
    outside : (q : RowKey) → is_own stripe q ≡ false → row_of whole q ≡ row_of all q

  -- where sessions are dropped, their blocks stand in no key of the others
  abbrev AreApart : Rows → List RowEntry → List Operation → Type 0
  AreApart others part items =
      (earlier later : List Operation) (volume bucket : List ℕ) (between : List RowEntry)
      → items ≡ earlier ++ DropOpen volume bucket ∷ later → Leads part earlier between → IsApart (is_own stripe) (row_of between) others volume bucket

  module _ (others : Rows) where
    within : (all : List RowEntry) → ((q : RowKey) → is_own stripe q ≡ false → row_of all q ≡ others q) → (volume bucket : List ℕ) {operation : Operation}
        → stripe_of_operation operation ≡ stripe → operation ≡ DropOpen volume bucket
        → IsApart (is_own stripe) (row_of (part_of (is_own stripe) all)) others volume bucket → IsApart (is_own stripe) (row_of all) (row_of all) volume bucket
    within all outside volume bucket {operation} own e apart = λ key number blocks block other row stands among away has.
        let inside = eq-eqb (stripe_of volume) stripe (ap stripe_of_operation (sym e) ∙ own) in
        apart key number blocks block other row (in_part (is_own stripe) all (keys.Open volume bucket key number) inside ∙ stands) among away
        (sym (outside other away) ∙ has)

    lead_whole : (items : List Operation) (all after : List RowEntry) → KeysRise all → ((q : RowKey) → is_own stripe q ≡ false → row_of all q ≡ others q)
        → AreOf stripe items → AreApart others (part_of (is_own stripe) all) items → Leads (part_of (is_own stripe) all) items after → Whole all items after
    unfolding Leads
    lead_whole [] all after rise outside own apart leads = record { whole = all; leads = refl; is = leads; outside = λ q e. refl }
    lead_whole (operation ∷ items) all after rise outside own apart leads =
        let here = λ (volume bucket : List ℕ) (e : operation ≡ DropOpen volume bucket).
        within all outside volume bucket own.0 e (apart [] items volume bucket (part_of (is_own stripe) all) (ap (λ (o : Operation). o ∷ items) e) refl) in
        let same = changes_alike all rise operation own.0 here in
        let made = become (operation_changes all operation) all rise in
        let left = left_alike all rise operation leads.0 made.0 own.0 same leads.2 made.1 in
        let stays = outside_alike all rise operation made.0 own.0 made.1 in
        let rest = lead_whole items made.0 after made.1.in_order (λ q e. stays q e ∙ outside q e) own.1
        (λ earlier later volume bucket between parts to. apart (operation ∷ earlier) later volume bucket between
        (ap (λ (l : List Operation). operation ∷ l) parts)
        (leads.0, leads.1, leads.2, subst (λ (l : List RowEntry). Leads l earlier between) (sym left) to))
        (subst (λ (l : List RowEntry). Leads l items after) left leads.3) in
        record {
          whole = rest.whole;
          leads = (made.0, possible_alike all rise operation own.0 leads.1, made.1, rest.leads);
          is = rest.is;
          outside = λ q e. rest.outside q e ∙ stays q e;
        }

  -- ---- a batch

  base_own : (key : RowKey) (row : Row) (base : RowKey) → base_of key row ≡ Some base → stripe_of_key base ≡ stripe_of_key key
  base_own key row base e = by key row e
    where
      stripe_or : Option RowKey → ℕ
      stripe_or None = 0
      stripe_or (Some key) = stripe_of_key key

      by : (key : RowKey) (row : Row) → base_of key row ≡ Some base → stripe_of_key base ≡ stripe_of_key key
      by (keys.Bucket volume bucket) row e = sym (ap stripe_or e)
      by (keys.Key volume bucket key) row e = sym (ap stripe_or e)
      by (keys.Open volume bucket key number) row e = sym (ap stripe_or e)
      by (keys.Snapshot volume bucket number) (rows.Snapshot name previous Live) e = sym (ap stripe_or e)
      by key row e = absurd cc

  base_in : (key : RowKey) (row : Row) (base : RowKey) (t : Bool) → base_of key row ≡ Some base → is_own stripe key ≡ t → is_own stripe base ≡ t
  base_in key row base t e own = ap (λ (n : ℕ). n == stripe) (base_own key row base e) ∙ own

  none_there : (row : Row) → Some row ≡ None → ⊥
  none_there row e = absurd cc

  part_based : (all : List RowEntry) → AllAreBased all → AllAreBased (part_of (is_own stripe) all)
  part_based all based key base orphan = by (is_own stripe key) refl
    where
      by : (t : Bool) → is_own stripe key ≡ t → ⊥
      by true e = based key base (record {
        row = orphan.row;
        stands = sym (in_part (is_own stripe) all key e) ∙ orphan.stands;
        needs = orphan.needs;
        absent = sym (in_part (is_own stripe) all base (base_in key orphan.row base true orphan.needs e)) ∙ orphan.absent;
      })
      by false e = none_there orphan.row (sym orphan.stands ∙ out_of_part (is_own stripe) all key e)

  whole_based : (all whole : List RowEntry) → ((q : RowKey) → is_own stripe q ≡ false → row_of whole q ≡ row_of all q) → AllAreBased all
      → AllAreBased (part_of (is_own stripe) whole) → AllAreBased whole
  whole_based all whole outside based part key base orphan = by (is_own stripe key) refl
    where
      by : (t : Bool) → is_own stripe key ≡ t → ⊥
      by true e = part key base (record {
        row = orphan.row;
        stands = in_part (is_own stripe) whole key e ∙ orphan.stands;
        needs = orphan.needs;
        absent = in_part (is_own stripe) whole base (base_in key orphan.row base true orphan.needs e) ∙ orphan.absent;
      })
      by false e = based key base (record {
        row = orphan.row;
        stands = sym (outside key e) ∙ orphan.stands;
        needs = orphan.needs;
        absent = sym (outside base (base_in key orphan.row base false orphan.needs e)) ∙ orphan.absent;
      })

  part_are : (rows : Rows) (all : List RowEntry) → AreRows all rows → AreRows (part_of (is_own stripe) all) (only stripe rows)
  part_are rows all are = record {
    in_order = part_rises (is_own stripe) all are.in_order;
    rows_are = λ q. row_of_part (is_own stripe) all q ∙ ap (λ (row : Option Row). cond (is_own stripe q) row None) (are.rows_are q);
  }

  whole_comes : (rows : Rows) (items : List Operation) (changes : List Change) (all : List RowEntry) → AreRows all rows → AllAreBased all
      → AreOf stripe items → ChangeOnly stripe changes → AllApart stripe rows items → ComesTo (part_of (is_own stripe) all) items changes
      → ComesTo all items changes
  whole_comes rows items changes all are based own only_own apart comes =
      let whole = lead_whole rows items all comes.after are.in_order (λ q e. are.rows_are q) own
      (λ earlier later volume bucket between parts to. apart earlier later volume bucket (part_of (is_own stripe) all) between parts
      (part_are rows all are) to) comes.leads in
      record {
        after = whole.whole;
        leads = whole.leads;
        based = whole_based all whole.whole whole.outside based (subst AllAreBased whole.is comes.based);
        rows_are = λ q. told whole q (is_own stripe q) refl;
      }
    where
      told : (whole : Whole all items comes.after) (q : RowKey) (t : Bool) → is_own stripe q ≡ t → row_of whole.whole q ≡ row_after changes q (row_of all q)
      told whole q true e =
          sym (in_part (is_own stripe) whole.whole q e) ∙ sym (ap (λ (l : List RowEntry). row_of l q) whole.is) ∙ comes.rows_are q
          ∙ ap (row_after changes q) (in_part (is_own stripe) all q e)
      told whole q false e = whole.outside q e ∙ sym (rows_stay changes only_own q e (row_of all q))

  pub batch_of_all : (rows : Rows) (bytes : List ℕ) (changes : List Change) (batch : IsBatchOf (only stripe rows) bytes changes)
      → AreOf stripe batch.items → ChangeOnly stripe changes → AllApart stripe rows batch.items → IsBatchOf rows bytes changes
  batch_of_all rows bytes changes batch own only_own apart = record {
    items = batch.items;
    fit = batch.fit;
    bytes_are = batch.bytes_are;
    comes = λ all are based. whole_comes rows batch.items changes all are based own only_own apart
        (batch.comes (part_of (is_own stripe) all) (part_are rows all are) (part_based all based));
  }

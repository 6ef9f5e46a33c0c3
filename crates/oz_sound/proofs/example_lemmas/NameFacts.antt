-- The tests on names tell the facts.
use Rattle.std.proofs.Common.{◌≡◌, ◌≢◌, ◌⊎◌, ◌&&◌, ◌||◌, ◌==◌, ◌<◌, ℕ, Bool, true, false, List, Some, IsSome, refl, sym, ◌∙◌, ap, subst, inl, inr, arith}
use Rattle.std.specs.Prelude.{not, nat_lt}
use mathlib.Core.Bool.{false≢true}
use Rattle.std.specs.List.{list_all, list_any}
use Rattle.std.proofs.lemmas.Bool.{eq-eqb}
use Rattle.std.proofs.lemmas.Bool.Decides.{nat_tests}
use Rattle.oz_fields.specs.declared.block.Block.{Block}
use Rattle.oz_rows.specs.declared.key.RowKey.{RowKey}
use Rattle.oz_rows.specs.declared.key.RowKey.TheVariants as keys
use Rattle.oz_rows.specs.declared.row.Row.{Row}
use Rattle.oz_rows.specs.declared.row.Row.TheVariants as values
use Rattle.oz_rows.specs.declared.row.SnapshotState.TheVariants.{Live}
use Rattle.oz_rows.specs.declared.entry.RowEntry.{RowEntry}
use Rattle.oz_rows.specs.RowMaps.{is_block, row_of, is_same, KeysRise}
use Rattle.oz_sound.specs.Sound.{StandsIn, SnapshotHas, ComesBehind, IsRename, IsNamedAnew, NamesAreSound, RenamesAreSound}
use Rattle.oz_sound.proofs.example_lemmas.Keys.{same_is_one, same_self}
use Rattle.oz_sound.proofs.example_lemmas.Lists.{split_and, split_or, if_so, not_so, some_item}
use Rattle.oz_sound.proofs.example_lemmas.Entries.{row_passes, own_row, found_row, is_there}
use Rattle.oz_sound.proofs.example_lemmas.Blocks.{each_block, block_passes, block_itself, eq_from}
use Rattle.oz_sound.proofs.example_lemmas.BlockFacts.{both_so, each_two, two_pass}
use Rattle.oz_sound.proofs.example_lemmas.Tests.{is_name, agree_on_name, is_in_no_snapshot, comes_behind, owner_in, is_renamed, is_not_after, is_a_rename, is_first, rename_has, renames_have, has_rename, names_anew, is_noted, agree_on_snapshot}

one_name_is : (name other : List ℕ) → is_name name other ≡ true → name ≡ other
one_name_is name other e = let same : keys.Volume name ≡ keys.Volume other = same_is_one (keys.Volume name) (keys.Volume other) e in cc

names_differ : (name other : List ℕ) → name ≢ other → is_name name other ≡ false
names_differ name other differ = by (is_name name other) refl
  where
    by : (t : Bool) → is_name name other ≡ t → t ≡ false
    by true e = absurd (differ (one_name_is name other e))
    by false e = refl

is_less : (a b : ℕ) → a < b → nat_lt a b ≡ true
is_less a b e = grind (arith, nat_tests)

less_is : (a b : ℕ) → nat_lt a b ≡ true → a < b
less_is a b e = grind (arith, nat_tests)

behind_is : (number owner : ℕ) → comes_behind number owner ≡ true → ComesBehind number owner
behind_is number owner e = by (split_or (owner == 0) (nat_lt number owner) e)
  where
    by : (owner == 0) ≡ true ⊎ (nat_lt number owner ≡ true) → ComesBehind number owner
    by (inl zero) = inl (eq_from owner 0 zero)
    by (inr less) = inr (less_is number owner less)

true_or : (a b : Bool) → b ≡ true → (a || b) ≡ true
true_or true b e = refl
true_or false b e = e

is_behind : (number owner : ℕ) → ComesBehind number owner → comes_behind number owner ≡ true
is_behind number owner (inl zero) = ap (λ (t : Bool). t || nat_lt number owner) (eq-eqb owner 0 zero)
is_behind number owner (inr less) = true_or (owner == 0) (nat_lt number owner) (is_less number owner less)

not_equal : (a b : ℕ) → a ≢ b → (a == b) ≡ false
not_equal a b differ = by (a == b) refl
  where
    by : (t : Bool) → (a == b) ≡ t → t ≡ false
    by true e = absurd (differ (eq_from a b e))
    by false e = refl

equal_not : (a b : ℕ) → (a == b) ≡ false → a ≢ b
equal_not a b e same = absurd (false≢true (sym e ∙ eq-eqb a b same))

-- a test that fails where it would pass
clash : {P : Type 0} (t : Bool) → t ≡ true → t ≡ false → P
clash t e f = absurd (false≢true (sym f ∙ e))

not_after : (owner other : ℕ) → is_not_after owner other ≡ true → other ≢ owner → (owner ≢ 0) × ComesBehind owner other
not_after owner other e differ = by (split_or (other == owner) (not (owner == 0) && comes_behind owner other) e)
  where
    by : (other == owner) ≡ true ⊎ ((not (owner == 0) && comes_behind owner other) ≡ true) → (owner ≢ 0) × ComesBehind owner other
    by (inl same) = absurd (differ (eq_from other owner same))
    by (inr so) = let parts = split_and (not (owner == 0)) (comes_behind owner other) so in (equal_not owner 0 (not_so _ parts.0), behind_is owner other parts.1)

after_fails : (owner other : ℕ) → (other ≢ owner → (owner ≢ 0) × ComesBehind owner other) → is_not_after owner other ≡ true
after_fails owner other first = by (other == owner) refl
  where
    by : (t : Bool) → (other == owner) ≡ t → (t || (not (owner == 0) && comes_behind owner other)) ≡ true
    by true e = refl
    by false e =
        let told = first (equal_not other owner e) in
        both_so (not (owner == 0)) (comes_behind owner other) (ap not (not_equal owner 0 told.0)) (is_behind owner other told.1)

renamed_row : (row : Row) → is_a_rename row ≡ true → (another : List ℕ) × (row ≡ values.Renamed another)
renamed_row (values.Renamed another) e = (another, refl)
renamed_row values.Volume e = absurd (false≢true e)
renamed_row values.Bucket e = absurd (false≢true e)
renamed_row (values.Key a b) e = absurd (false≢true e)
renamed_row (values.Open a) e = absurd (false≢true e)
renamed_row (values.Deleted a) e = absurd (false≢true e)
renamed_row (values.Snapshot a b c) e = absurd (false≢true e)
renamed_row (values.SnapshotKey a b) e = absurd (false≢true e)
renamed_row (values.Stripe a) e = absurd (false≢true e)

module _ (rows : List RowEntry) (rise : KeysRise rows) where
  pub one_name : each_two agree_on_name rows ≡ true → (volume bucket name another : List ℕ) (number : ℕ) (block : Block) → SnapshotHas (row_of rows) volume bucket number block name → SnapshotHas (row_of rows) volume bucket number block another → name ≡ another
  one_name all volume bucket name another number block here there =
      one_name_is name another (if_so _ _ (two_pass agree_on_name rows all block block (keys.SnapshotKey volume bucket number name) (keys.SnapshotKey volume bucket number another) here.stands there.stands)
      (both_so _ _ (block_itself block) (same_self (keys.SnapshotKey volume bucket number another))))

  pub open_name : each_two is_in_no_snapshot rows ≡ true → (volume bucket key name : List ℕ) (session number : ℕ) (block : Block) → StandsIn (row_of rows) block (keys.Open volume bucket key session) → SnapshotHas (row_of rows) volume bucket number block name → name ≡ key
  open_name all volume bucket key name session number block here there =
      clash _ (both_so _ true (block_itself block) refl) (not_so _ (two_pass is_in_no_snapshot rows all block block (keys.Open volume bucket key session) (keys.SnapshotKey volume bucket number name) here there.stands))

  -- the key and the row of an entry that is a renamed row of the block
  module _ (volume bucket : List ℕ) (number local : ℕ) where
    its_key : (key : RowKey) → is_renamed volume bucket number local key ≡ true → (key ≡ keys.Renamed volume bucket (owner_in key) local) × ComesBehind number (owner_in key)
    its_key key e =
        let parts = split_and (is_same key (keys.Renamed volume bucket (owner_in key) local)) (comes_behind number (owner_in key)) e in
        (same_is_one key (keys.Renamed volume bucket (owner_in key) local) parts.0, behind_is number (owner_in key) parts.1)

    is_its_key : (owner : ℕ) → ComesBehind number owner → is_renamed volume bucket number local (keys.Renamed volume bucket owner local) ≡ true
    is_its_key owner behind = both_so _ _ (same_self (keys.Renamed volume bucket owner local)) (is_behind number owner behind)

    -- a renamed row of the block comes before this owner's
    abbrev earlier : ℕ → Bool
    earlier owner = list_any (λ (entry : RowEntry). is_renamed volume bucket number local entry.key && not (is_not_after owner (owner_in entry.key))) rows

    pub has : (name : List ℕ) → list_all (λ (entry : RowEntry). rename_has rows volume bucket number name local entry.key entry.row) rows ≡ true → (owner : ℕ) (another : List ℕ) → IsRename (row_of rows) volume bucket number local owner another → another ≡ name
    has name all owner another is = by_name (split_or _ _ here)
      where
        here : ((not (is_renamed volume bucket number local (keys.Renamed volume bucket owner local)) || is_name another name) || earlier owner) ≡ true
        here = row_passes (rename_has rows volume bucket number name local) rows all (keys.Renamed volume bucket owner local) (values.Renamed another) is.row

        by_name : ((not (is_renamed volume bucket number local (keys.Renamed volume bucket owner local)) || is_name another name) ≡ true) ⊎ (earlier owner ≡ true) → another ≡ name
        by_name (inl so) = one_name_is another name (if_so _ _ so (is_its_key owner is.behind))
        by_name (inr so) =
            let found = some_item (λ (entry : RowEntry). is_renamed volume bucket number local entry.key && not (is_not_after owner (owner_in entry.key))) rows so in
            let entry = found.0 in
            let parts = split_and (is_renamed volume bucket number local entry.key) (not (is_not_after owner (owner_in entry.key))) found.2 in
            let its = its_key entry.key parts.0 in
            let some : IsSome (row_of rows (keys.Renamed volume bucket (owner_in entry.key) local)) = is_there _ entry.row (subst (λ (k : RowKey). row_of rows k ≡ Some entry.row) its.0 (own_row rows rise entry found.1)) in
            clash _ (after_fails owner (owner_in entry.key) (is.first (owner_in entry.key) its.1 some)) (not_so _ parts.1)

    pub found : has_rename rows volume bucket number local ≡ true → (owner : ℕ) × (name : List ℕ) × IsRename (row_of rows) volume bucket number local owner name
    found e =
        let some = some_item (λ (entry : RowEntry). is_a_rename entry.row && is_renamed volume bucket number local entry.key && is_first rows volume bucket number local (owner_in entry.key)) rows e in
        let entry = some.0 in
        let a = split_and (is_a_rename entry.row && is_renamed volume bucket number local entry.key) (is_first rows volume bucket number local (owner_in entry.key)) some.2 in
        let b = split_and (is_a_rename entry.row) (is_renamed volume bucket number local entry.key) a.0 in
        let its = its_key entry.key b.1 in
        let name = renamed_row entry.row b.0 in (
          owner_in entry.key,
          name.0,
          record {
            row = subst (λ (k : RowKey). row_of rows k ≡ Some entry.row) its.0 (own_row rows rise entry some.1) ∙ ap (λ (r : Row). Some r) name.1;
            behind = its.1;
            first = λ other behind there differ.
                let row = found_row (row_of rows (keys.Renamed volume bucket other local)) there in
                not_after (owner_in entry.key) other
                (if_so _ _ (row_passes (λ key row. not (is_renamed volume bucket number local key) || is_not_after (owner_in entry.key) (owner_in key)) rows a.1 (keys.Renamed volume bucket other local) row.0 row.1) (is_its_key other behind)) differ;
          },
        )

  pub renamed : each_block (renames_have rows) rows ≡ true → (volume bucket name another : List ℕ) (number owner : ℕ) (block : Block) → SnapshotHas (row_of rows) volume bucket number block name → IsRename (row_of rows) volume bucket number block.local owner another → another ≡ name
  renamed all volume bucket name another number owner block it is =
      has volume bucket number block.local name (block_passes (renames_have rows) rows all block (keys.SnapshotKey volume bucket number name) it.stands) owner another is

  pub noted : each_block (is_noted rows) rows ≡ true → (volume bucket name : List ℕ) (number : ℕ) (block : Block) → SnapshotHas (row_of rows) volume bucket number block name → IsNamedAnew (row_of rows) volume bucket number block name → (owner : ℕ) × (another : List ℕ) × IsRename (row_of rows) volume bucket number block.local owner another
  noted all volume bucket name number block it anew =
      by (split_or _ _ (block_passes (is_noted rows) rows all block (keys.SnapshotKey volume bucket number name) it.stands)) anew
    where
      by : (each_block (λ key twin. not (is_block block twin && names_anew rows number name key)) rows ≡ true) ⊎ (has_rename rows volume bucket number block.local ≡ true) → IsNamedAnew (row_of rows) volume bucket number block name → (owner : ℕ) × (another : List ℕ) × IsRename (row_of rows) volume bucket number block.local owner another
      by (inr so) anew = found volume bucket number block.local so
      by (inl none) (inl (later, another, less, other, differ)) =
          clash _ (both_so _ _ (block_itself block) (both_so _ _ (is_less number later less) (ap not (names_differ another name differ))))
          (not_so _ (block_passes (λ key twin. not (is_block block twin && names_anew rows number name key)) rows none block (keys.SnapshotKey volume bucket later another) other.stands))
      by (inl none) (inr (another, other, differ)) =
          clash _ (both_so _ _ (block_itself block) (ap not (names_differ another name differ)))
          (not_so _ (block_passes (λ key twin. not (is_block block twin && names_anew rows number name key)) rows none block (keys.Key volume bucket another) other))

  -- each two rows pass
  abbrev pub each_two_rows : Bool
  each_two_rows = list_all (λ (entry : RowEntry). list_all (λ (other : RowEntry). agree_on_snapshot entry.key entry.row other.key other.row) rows) rows

  pub one_snapshot : each_two_rows ≡ true → (volume bucket name : List ℕ) (number previous other before : ℕ) → row_of rows (keys.Snapshot volume bucket number) ≡ Some (values.Snapshot name previous Live) → row_of rows (keys.Snapshot volume bucket other) ≡ Some (values.Snapshot name before Live) → number ≡ other
  one_snapshot all volume bucket name number previous other before here there =
      eq_from number other (if_so _ _
      (row_passes (agree_on_snapshot (keys.Snapshot volume bucket number) (values.Snapshot name previous Live)) rows
      (row_passes (λ key row. list_all (λ (other : RowEntry). agree_on_snapshot key row other.key other.row) rows) rows all (keys.Snapshot volume bucket number) (values.Snapshot name previous Live) here)
      (keys.Snapshot volume bucket other) (values.Snapshot name before Live) there)
      (both_so _ _ (same_self (keys.Bucket volume bucket)) (same_self (keys.Volume name))))

  -- the tests on names
  pub record NamesPass : Type 0 where
    pub snapshots : each_two_rows ≡ true
    pub names : each_two agree_on_name rows ≡ true
    pub sessions : each_two is_in_no_snapshot rows ≡ true
    pub renames : each_block (renames_have rows) rows ≡ true
    pub notes : each_block (is_noted rows) rows ≡ true

  pub names_are_sound : NamesPass → NamesAreSound (row_of rows)
  names_are_sound pass = record {
    one_snapshot = one_snapshot pass.snapshots;
    one_name = one_name pass.names;
    open_name = open_name pass.sessions;
  }

  pub renames_are_sound : NamesPass → RenamesAreSound (row_of rows)
  renames_are_sound pass = record { renamed = renamed pass.renames; noted = noted pass.notes }

-- The pass down a bucket's snapshots tells whether a live one has a block of a key.
use Rattle.std.proofs.Common.{
  ◌≡◌,
  ◌≢◌,
  ◌⊎◌,
  ◌↔◌,
  inl,
  inr,
  ⊎_elim,
  ℕ,
  ◌<◌,
  ◌==◌,
  ◌&&◌,
  ◌||◌,
  Bool,
  true,
  false,
  List,
  [],
  ◌∷◌,
  Option,
  None,
  Some,
  IsSome,
  is_some,
  refl,
  sym,
  ◌∙◌,
  ap,
  subst,
  arith,
}
use mathlib.Core.Bool.{false≢true}
use Rattle.std.proofs.lemmas.Bool.Decides.{nat_tests}
use Rattle.std.specs.Cmp.Lexicographic.{same_text, other_text}
use Rattle.std.specs.List.{AllByRecursion, list_any}
use Rattle.oz_decision.specs.Meets.{AreInGrammar}
use Rattle.oz_decision.specs.Walking.{is_live}
use Rattle.oz_fields.specs.declared.block.Block.{Block}
use Rattle.oz_model.specs.Buckets.{is_same_name}
use Rattle.oz_reclaim.specs.Held.{AreNumbers, has_there, is_held, name_carried, name_or}
use Rattle.oz_rows.specs.declared.key.RowKey.TheVariants as keys
use Rattle.oz_rows.specs.declared.row.Row.{Row}
use Rattle.oz_rows.specs.declared.row.Row.TheVariants as rows
use Rattle.oz_rows.specs.declared.row.SnapshotState.TheVariants.{Live}
use Rattle.oz_rows.specs.Rows.{ValueFits}
use Rattle.oz_rows.specs.RowMaps.{Rows, is_block}
use Rattle.oz_sound.specs.Sound.{ComesBehind, IsRename, NumbersAreSound, RenamesAreSound, SnapshotHas, StandsIn, blocks_of}
use Rattle.oz_sound.specs.StandsFor.{NumbersRise, is_among}

-- ---- single rows

live_row : (o : Option Row) → is_live o ≡ true → (name : List ℕ) × (previous : ℕ) × (o ≡ Some (rows.Snapshot name previous Live))
live_row (Some (rows.Snapshot name previous Live)) e = (name, previous, refl)
live_row o e = absurd (false≢true e)

there_row : (block : Block) (o : Option Row) → has_there block o ≡ true → (row : Row) × (o ≡ Some row) × (list_any (is_block block) (blocks_of row) ≡ true)
there_row block None e = absurd (false≢true e)
there_row block (Some row) e = (row, refl, e)

both : (s t : Bool) → s && t ≡ true → (s ≡ true) × (t ≡ true)
both true t e = (refl, e)
both false t e = absurd (false≢true e)

either : (s t : Bool) → s || t ≡ true → (s ≡ true) ⊎ (t ≡ true)
either true t e = inl refl
either false t e = inr e

or_left : (s t : Bool) → s ≡ true → s || t ≡ true
or_left true t e = refl
or_left false t e = absurd (false≢true e)

or_right : (s t : Bool) → t ≡ true → s || t ≡ true
or_right true t e = refl
or_right false t e = e

name_of : (v b : List ℕ) (o l : ℕ) (row : Row) → ValueFits (keys.Renamed v b o l) row → (name : List ℕ) × (row ≡ rows.Renamed name)
name_of v b o l (rows.Renamed name) fits = (name, refl)
name_of v b o l row fits = absurd fits

one_number : (m n : ℕ) → (m == n) ≡ true → m ≡ n
one_number m n e = grind (arith, nat_tests, e)

number_itself : (m n : ℕ) → m ≡ n → (m == n) ≡ true
number_itself m n e = grind (arith, nat_tests, e)

-- what rises from a number
above_each : (n m : ℕ) (numbers : List ℕ) → AllByRecursion (λ other. n < other) numbers → is_among m numbers ≡ true → n < m
above_each n m [] above among = absurd (false≢true among)
above_each n m (x ∷ numbers) above among = by (x == m) refl among (above_each n m numbers above.1)
  where
    by : (t : Bool) → (x == m) ≡ t → t || is_among m numbers ≡ true → (is_among m numbers ≡ true → n < m) → n < m
    by true e among later = subst (λ y. n < y) (one_number x m e) above.0
    by false e among later = later among

module _ (all : Rows) (fit : AreInGrammar all) (sound : NumbersAreSound all) (v b k : List ℕ) (block : Block) where
  abbrev row_at : ℕ → Option Row
  row_at owner = all (keys.Renamed v b owner block.local)

  abbrev carried : List ℕ → List ℕ
  carried numbers = name_carried all v b block.local k numbers

  -- no renamed row is behind the number
  abbrev NoneBehind : ℕ → Type 0
  NoneBehind m = (owner : ℕ) → ComesBehind m owner → IsSome (row_at owner) → ⊥

  -- the name that is carried is that of the first rename behind a number, or the key's where there is none
  abbrev IsCarried : ℕ → List ℕ → Type 0
  IsCarried m name = ((owner : ℕ) × IsRename all v b m block.local owner name) ⊎ (NoneBehind m × (name ≡ k))

  -- the numbers behind one are those of all snapshots behind it
  abbrev AreBehind : ℕ → List ℕ → Type 0
  AreBehind m numbers = (number : ℕ) → m < number → IsSome (all (keys.Snapshot v b number)) → is_among number numbers ≡ true

  owner_there : (m owner : ℕ) → m < owner → IsSome (row_at owner) → IsSome (all (keys.Snapshot v b owner))
  owner_there m owner above some = sound.renamed v b owner block.local some (λ none. omega (arith, above, none))

  named : (owner : ℕ) (row : Row) → row_at owner ≡ Some row → (name : List ℕ) × (row ≡ rows.Renamed name)
  named owner row e = name_of v b owner block.local row (fit (keys.Renamed v b owner block.local) row e).1

  none_some : {P : Type 0} {o : Option Row} → o ≡ None → IsSome o → P
  none_some none some = absurd (false≢true (sym (ap is_some none) ∙ some))

  at_end : (m : ℕ) → AreBehind m [] → (o : Option Row) → row_at 0 ≡ o → IsCarried m (name_or o k)
  at_end m behind None e =
      inr (
        (λ owner behind_it some. ⊎_elim (λ zero. none_some (ap row_at zero ∙ e) some)
            (λ above. false≢true (behind owner above (owner_there m owner above some))) behind_it),
        refl,
      )
  at_end m behind (Some row) e =
      let its = named 0 row e in
      subst (λ (r : Row). IsCarried m (name_or (Some r) k)) (sym its.1) (inl (
        0,
        record {
          row = e ∙ ap Some its.1;
          behind = inl refl;
          first = λ other behind_it some apart. ⊎_elim (λ same. absurd (apart same))
              (λ above. absurd (false≢true (behind other above (owner_there m other above some)))) behind_it;
        },
      ))

  -- what is behind m and isn't x is behind x, where x is the first number behind m
  past : (m x : ℕ) (numbers : List ℕ) → AllByRecursion (λ other. x < other) numbers → AreBehind m (x ∷ numbers) → (owner : ℕ) → ComesBehind m owner
      → IsSome (row_at owner) → owner ≢ x → ComesBehind x owner
  past m x numbers rise behind owner (inl none) some apart = inl none
  past m x numbers rise behind owner (inr above) some apart = inr (by (x == owner) refl (behind owner above (owner_there m owner above some)))
    where
      by : (t : Bool) → (x == owner) ≡ t → t || is_among owner numbers ≡ true → x < owner
      by true e among = absurd (apart (sym (one_number x owner e)))
      by false e among = above_each x owner numbers rise among

  step : (m x : ℕ) (numbers : List ℕ) → m < x → AllByRecursion (λ other. x < other) numbers → AreBehind m (x ∷ numbers) → IsCarried x (carried numbers)
      → (o : Option Row) → row_at x ≡ o → IsCarried m (name_or o (carried numbers))
  step m x numbers lt rise behind is (Some row) e =
      let its = named x row e in
      subst (λ (r : Row). IsCarried m (name_or (Some r) (carried numbers))) (sym its.1) (inl (
        x,
        record {
          row = e ∙ ap Some its.1;
          behind = inr lt;
          first = λ other behind_it some apart. ((λ none. omega (arith, lt, none)), past m x numbers rise behind other behind_it some apart);
        },
      ))
  step m x numbers lt rise behind (inl (owner, rename)) None e = inl (
    owner,
    record {
      row = rename.row;
      behind = ⊎_elim (λ none. inl none) (λ above. inr (omega (arith, lt, above))) rename.behind;
      first = λ other behind_it some apart. rename.first other
          (past m x numbers rise behind other behind_it some (λ same. none_some (ap row_at same ∙ e) some)) some apart;
    },
  )
  step m x numbers lt rise behind (inr (none, same)) None e =
      inr ((λ owner behind_it some. none owner (past m x numbers rise behind owner behind_it some (λ here. none_some (ap row_at here ∙ e) some)) some), same)

  behind_later : (m x : ℕ) (numbers : List ℕ) → m < x → AreBehind m (x ∷ numbers) → AreBehind x numbers
  behind_later m x numbers lt behind number above some = by (x == number) refl (behind number (omega (arith, lt, above)) some)
    where
      by : (t : Bool) → (x == number) ≡ t → t || is_among number numbers ≡ true → is_among number numbers ≡ true
      by true e among = absurd (let same = one_number x number e in omega (arith, same, above))
      by false e among = among

  is_carried : (m : ℕ) (numbers : List ℕ) → AllByRecursion (λ other. m < other) numbers → NumbersRise numbers → AreBehind m numbers
      → IsCarried m (carried numbers)
  is_carried m [] above rise behind = at_end m behind (row_at 0) refl
  is_carried m (x ∷ numbers) above rise behind =
      step m x numbers above.0 rise.0 behind (is_carried x numbers rise.0 rise.1 (behind_later m x numbers above.0 behind)) (row_at x) refl

  -- ---- what is found is held

  found : (numbers : List ℕ) → is_held all v b block k numbers ≡ true → (number : ℕ) × (name : List ℕ) × SnapshotHas all v b number block name
  found [] e = absurd (false≢true e)
  found (x ∷ numbers) e = ⊎_elim
      (λ later. found numbers later)
      (λ here.
      let its = both (is_live (all (keys.Snapshot v b x))) _ here in
      let live = live_row (all (keys.Snapshot v b x)) its.0 in
      let row = there_row block (all (keys.SnapshotKey v b x (carried numbers))) its.1 in
      (x, carried numbers, record { live = live; stands = record { row = row.0; there = row.1; has = row.2 } }))
      (either (is_held all v b block k numbers) _ e)

  -- ---- what is held is found

  module _ (renames : RenamesAreSound all) (stands : StandsIn all block (keys.Key v b k)) where
    -- the name that is carried to a live snapshot that has the block is the one that it has there
    its_name : (x : ℕ) (name carried_name : List ℕ) → SnapshotHas all v b x block name → IsCarried x carried_name → carried_name ≡ name
    its_name x name other has (inl (owner, rename)) = renames.renamed v b name other x owner block has rename
    its_name x name other has (inr (none, same)) = same ∙ by (is_same_name k name) refl
      where
        by : (t : Bool) → is_same_name k name ≡ t → k ≡ name
        by true e = same_text k name (sym e)
        by false e = let noted =
            renames.noted v b name x block has (inr (k, stands, other_text k name (sym e))) in absurd (none noted.0 noted.2.behind (ap is_some noted.2.row))

    here : (x : ℕ) (name other : List ℕ) → SnapshotHas all v b x block name → other ≡ name
        → is_live (all (keys.Snapshot v b x)) && has_there block (all (keys.SnapshotKey v b x other)) ≡ true
    here x name other has same =
        (λ i. is_live (has.live.2 i) && has_there block (all (keys.SnapshotKey v b x (same i)))) ∙ ap (has_there block) has.stands.there ∙ has.stands.has

    -- a snapshot's number is one of these, or below all of them
    abbrev AreKnown : List ℕ → Type 0
    AreKnown numbers = (number : ℕ) → IsSome (all (keys.Snapshot v b number)) → (is_among number numbers ≡ true)
        ⊎ AllByRecursion (λ other. number < other) numbers

    behind_first : (x : ℕ) (numbers : List ℕ) → AreKnown (x ∷ numbers) → AreBehind x numbers
    behind_first x numbers known number above some =
        ⊎_elim (by (x == number) refl) (λ low. absurd (let under = low.0 in omega (arith, under, above))) (known number some)
      where
        by : (t : Bool) → (x == number) ≡ t → t || is_among number numbers ≡ true → is_among number numbers ≡ true
        by true e among = absurd (let same = one_number x number e in omega (arith, same, above))
        by false e among = among

    known_later : (x : ℕ) (numbers : List ℕ) → AllByRecursion (λ other. x < other) numbers → AreKnown (x ∷ numbers) → AreKnown numbers
    known_later x numbers rise known number some = ⊎_elim (by (x == number) refl) (λ low. inr low.1) (known number some)
      where
        by : (t : Bool) → (x == number) ≡ t → t || is_among number numbers ≡ true → (is_among number numbers ≡ true)
            ⊎ AllByRecursion (λ other. number < other) numbers
        by true e among = inr (subst (λ y. AllByRecursion (λ other. y < other) numbers) (one_number x number e) rise)
        by false e among = inl among

    holds : (numbers : List ℕ) → NumbersRise numbers → AreKnown numbers → (n : ℕ) (name : List ℕ) → is_among n numbers ≡ true
        → SnapshotHas all v b n block name → is_held all v b block k numbers ≡ true
    holds [] rise known n name among has = absurd (false≢true among)
    holds (x ∷ numbers) rise known n name among has =
        by (x == n) refl among (λ later. holds numbers rise.1 (known_later x numbers rise.0 known) n name later has)
      where
        by : (t : Bool) → (x == n) ≡ t → t || is_among n numbers ≡ true → (is_among n numbers ≡ true → is_held all v b block k numbers ≡ true)
            → is_held all v b block k (x ∷ numbers) ≡ true
        by true e among later =
            let its = subst (λ y. SnapshotHas all v b y block name) (sym (one_number x n e)) has in
            or_right (is_held all v b block k numbers) _
            (here x name (carried numbers) its (its_name x name (carried numbers) its
            (is_carried x numbers rise.0 rise.1 (behind_first x numbers known))))
        by false e among later = or_left (is_held all v b block k numbers) _ (later among)

    -- the pass tells exactly whether a live snapshot has a block of the key
    pub held_by_pass : (numbers : List ℕ) → AreNumbers all v b numbers
        → (is_held all v b block k numbers ≡ true) ↔ ((number : ℕ) × (name : List ℕ) × SnapshotHas all v b number block name)
    held_by_pass numbers are = (
      found numbers,
      λ held. holds numbers are.rise (λ number some. inl (are.every number some)) held.0 held.1
          (are.every held.0 (ap is_some held.2.live.2)) held.2,
    )

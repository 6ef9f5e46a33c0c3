-- Rows that changed in one bucket are sound where that bucket's rows are, alone.
use Rattle.std.proofs.Common.{
  ◌≡◌,
  ◌≢◌,
  ◌≤◌,
  ℕ,
  Bool,
  true,
  false,
  ◌&&◌,
  List,
  Option,
  None,
  Some,
  IsSome,
  is_some,
  cond,
  refl,
  sym,
  ◌∙◌,
  ap,
  subst,
  arith,
  inl,
  inr,
  ◌⊎◌,
}
use mathlib.Core.Bool.{false≢true}
use Rattle.std.proofs.lemmas.Option.{same_Some}
use Rattle.oz_fields.specs.declared.block.Block.{Block}
use Rattle.oz_names.specs.Names.{stripe_of}
use Rattle.oz_rows.specs.declared.key.RowKey.{RowKey}
use Rattle.oz_rows.specs.declared.key.RowKey.TheVariants as keys
use Rattle.oz_rows.specs.Rows.{kind_of}
use Rattle.oz_rows.specs.RowMaps.{Rows, is_bucket}
use Rattle.oz_sound.specs.Sound.{
  StandsIn,
  bucket_of_row,
  IsHome,
  IsUsing,
  SnapshotHas,
  AreTogether,
  IsRename,
  IsNamedAnew,
  BlocksAreSound,
  NamesAreSound,
  RenamesAreSound,
  NumbersAreSound,
  CountsAreSound,
  IsSoundButRenames,
}
use Rattle.oz_sound.specs.StandsFor.{IsLive, drawn_in}
use Rattle.oz_sound.specs.laws.BucketChanges.{is_name, one_name, itself, same_bucket}
use Rattle.oz_sound.specs.frames.Apart.{is_this, only_in, ChangedInOne}
use Rattle.oz_sound.specs.frames.Buckets.{IsOutside}
use Rattle.oz_sound.specs.frames.laws.Moving.{at_most}

abbrev path : List ℕ → List ℕ → List ℕ × List ℕ
path v b = (v, b)

none_apart : {A : Type 0} {a : A} → None ≡ Some a → ⊥
none_apart e = false≢true (ap is_some e)

-- the test of a bucket
this_is : (volume name v b : List ℕ) → is_bucket volume name v b ≡ true → Some (path v b) ≡ Some (path volume name)
this_is volume name v b e = by_tests (is_name v volume) refl (is_name b name) refl
  where
    whole : is_name v volume && is_name b name ≡ true
    whole = sym (same_bucket volume name v b) ∙ e

    by_tests : (t : Bool) → is_name v volume ≡ t → (s : Bool) → is_name b name ≡ s → Some (path v b) ≡ Some (path volume name)
    by_tests true f true g = λ i. Some (path (one_name v volume f i) (one_name b name g i))
    by_tests true f false g = absurd (false≢true (sym (ap (λ t. t && is_name b name) f ∙ g) ∙ whole))
    by_tests false f s g = absurd (false≢true (sym (ap (λ t. t && is_name b name) f) ∙ whole))

itself_bucket : (volume name : List ℕ) → is_bucket volume name volume name ≡ true
itself_bucket volume name = same_bucket volume name volume name ∙ ap (λ t. t && is_name name name) (itself volume) ∙ itself name

this_tested : (volume name : List ℕ) (o : Option (List ℕ × List ℕ)) → o ≡ Some (path volume name) → is_this volume name o ≡ true
this_tested volume name o e = ap (is_this volume name) e ∙ itself_bucket volume name

tested_this : (volume name : List ℕ) (o : Option (List ℕ × List ℕ)) → is_this volume name o ≡ true → o ≡ Some (path volume name)
tested_this volume name None e = absurd (false≢true e)
tested_this volume name (Some (v, b)) e = this_is volume name v b e

-- the rows of a bucket are those of others, and no fewer numbers were drawn
pub record IsLike (rows now : Rows) (v b : List ℕ) : Type 0 where
  pub same : (key : RowKey) → bucket_of_row key ≡ Some (path v b) → now key ≡ rows key
  pub drawn : (stripe : ℕ) → drawn_in (rows (keys.Stripe stripe)) ≤ drawn_in (now (keys.Stripe stripe))

module _ (rows now : Rows) (v b : List ℕ) (like : IsLike rows now v b) where
  stood : (block : Block) (key : RowKey) → bucket_of_row key ≡ Some (path v b) → StandsIn now block key → StandsIn rows block key
  stood block key of stands = record { row = stands.row; there = sym (like.same key of) ∙ stands.there; has = stands.has }

  stands_on : (block : Block) (key : RowKey) → bucket_of_row key ≡ Some (path v b) → StandsIn rows block key → StandsIn now block key
  stands_on block key of stands = record { row = stands.row; there = like.same key of ∙ stands.there; has = stands.has }

  lived : (n : ℕ) → IsLive now v b n → IsLive rows v b n
  lived n (name, previous, row) = (name, previous, sym (like.same (keys.Snapshot v b n) refl) ∙ row)

  lives_on : (n : ℕ) → IsLive rows v b n → IsLive now v b n
  lives_on n (name, previous, row) = (name, previous, like.same (keys.Snapshot v b n) refl ∙ row)

  had : (n : ℕ) (block : Block) (name : List ℕ) → SnapshotHas now v b n block name → SnapshotHas rows v b n block name
  had n block name has = record { live = lived n has.live; stands = stood block (keys.SnapshotKey v b n name) refl has.stands }

  has_on : (n : ℕ) (block : Block) (name : List ℕ) → SnapshotHas rows v b n block name → SnapshotHas now v b n block name
  has_on n block name has = record { live = lives_on n has.live; stands = stands_on block (keys.SnapshotKey v b n name) refl has.stands }

  there : (key : RowKey) → bucket_of_row key ≡ Some (path v b) → IsSome (now key) → IsSome (rows key)
  there key of some = subst IsSome (like.same key of) some

  there_on : (key : RowKey) → bucket_of_row key ≡ Some (path v b) → IsSome (rows key) → IsSome (now key)
  there_on key of some = subst IsSome (sym (like.same key of)) some

  together : (block other : Block) → AreTogether rows v b block other → AreTogether now v b block other
  together block other are n name has = let found = are n name (had n block name has) in (found.0, has_on n other found.0 found.1)

  used : (one : List ℕ × Option ℕ) → IsUsing now v b one → IsUsing rows v b one
  used (key, None) some = there (keys.Key v b key) refl some
  used (key, Some n) some = there (keys.Open v b key n) refl some

  renamed_on : (n local owner : ℕ) (name : List ℕ) → IsRename rows v b n local owner name → IsRename now v b n local owner name
  renamed_on n local owner name is = record {
    row = like.same (keys.Renamed v b owner local) refl ∙ is.row;
    behind = is.behind;
    first = λ other behind some apart. is.first other behind (there (keys.Renamed v b other local) refl some) apart;
  }

  was_renamed : (n local owner : ℕ) (name : List ℕ) → IsRename now v b n local owner name → IsRename rows v b n local owner name
  was_renamed n local owner name is = record {
    row = sym (like.same (keys.Renamed v b owner local) refl) ∙ is.row;
    behind = is.behind;
    first = λ other behind some apart. is.first other behind (there_on (keys.Renamed v b other local) refl some) apart;
  }

  was_named : (n : ℕ) (block : Block) (name : List ℕ) → IsNamedAnew now v b n block name → IsNamedAnew rows v b n block name
  was_named n block name (inl (later, another, rises, has, apart)) = inl (later, another, rises, had later block another has, apart)
  was_named n block name (inr (another, stands, apart)) = inr (another, stood block (keys.Key v b another) refl stands, apart)

-- cases on whether a key is a stripe's
by_stripe : (P : RowKey → Type 0) (key : RowKey) → ((s : ℕ) → P (keys.Stripe s)) → (kind_of key ≢ 9 → P key) → P key
by_stripe P (keys.Stripe s) stripe other = stripe s
by_stripe P (keys.Key v b k) stripe other = other (λ e. omega (arith, e))
by_stripe P (keys.Open v b k n) stripe other = other (λ e. omega (arith, e))
by_stripe P (keys.Deleted v b o k l) stripe other = other (λ e. omega (arith, e))
by_stripe P (keys.Volume v) stripe other = other (λ e. omega (arith, e))
by_stripe P (keys.Bucket v b) stripe other = other (λ e. omega (arith, e))
by_stripe P (keys.Snapshot v b n) stripe other = other (λ e. omega (arith, e))
by_stripe P (keys.SnapshotKey v b n k) stripe other = other (λ e. omega (arith, e))
by_stripe P (keys.Renamed v b o l) stripe other = other (λ e. omega (arith, e))

only_there : (volume name : List ℕ) (now : Rows) (key : RowKey) → bucket_of_row key ≡ Some (path volume name) → now key ≡ only_in volume name now key
only_there volume name now (keys.Stripe s) of = refl
only_there volume name now (keys.Volume v) of = absurd (none_apart of)
only_there volume name now (keys.Bucket v b) of = sym (ap (λ (t : Bool). cond t (now (keys.Bucket v b)) None) (this_tested volume name _ of))
only_there volume name now (keys.Key v b k) of = sym (ap (λ (t : Bool). cond t (now (keys.Key v b k)) None) (this_tested volume name _ of))
only_there volume name now (keys.Open v b k n) of = sym (ap (λ (t : Bool). cond t (now (keys.Open v b k n)) None) (this_tested volume name _ of))
only_there volume name now (keys.Deleted v b o k l) of = sym (ap (λ (t : Bool). cond t (now (keys.Deleted v b o k l)) None) (this_tested volume name _ of))
only_there volume name now (keys.Snapshot v b n) of = sym (ap (λ (t : Bool). cond t (now (keys.Snapshot v b n)) None) (this_tested volume name _ of))
only_there volume name now (keys.SnapshotKey v b n k) of = sym (ap (λ (t : Bool). cond t (now (keys.SnapshotKey v b n k)) None) (this_tested volume name _ of))
only_there volume name now (keys.Renamed v b o l) of = sym (ap (λ (t : Bool). cond t (now (keys.Renamed v b o l)) None) (this_tested volume name _ of))

module _ (all now : Rows) (volume name : List ℕ) (changed : ChangedInOne all now volume name) where
  abbrev only : Rows
  only = only_in volume name now

  like_only : (v b : List ℕ) → Some (path v b) ≡ Some (path volume name) → IsLike only now v b
  like_only v b same = record {
    same = λ key of. only_there volume name now key (of ∙ same);
    drawn = λ stripe. let n = drawn_in (now (keys.Stripe stripe)) in omega arith;
  }

  like_all : (v b : List ℕ) → (Some (path v b) ≡ Some (path volume name) → ⊥) → IsLike all now v b
  like_all v b other = record {
    same = λ key of. changed.outside key
        (record {
          other = λ same. other (sym of ∙ same);
          no_stripe = by_stripe (λ k. bucket_of_row k ≡ Some (path v b) → kind_of k ≢ 9) key (λ s of. absurd (none_apart of)) (λ kind of. kind) of;
        });
    drawn = changed.drawn;
  }

  -- the bucket's rows alone, or those from before, whichever a bucket's rows are like
  choose : {P : Type 0} (v b : List ℕ) → ((rows : Rows) → IsLike rows now v b → (rows ≡ only) ⊎ (rows ≡ all) → P) → P
  choose {P} v b go = by_test (is_bucket volume name v b) refl
    where
      by_test : (t : Bool) → is_bucket volume name v b ≡ t → P
      by_test true e = go only (like_only v b (this_is volume name v b e)) (inl refl)
      by_test false e = go all (like_all v b (λ same. false≢true (sym e ∙ this_tested volume name (Some (path v b)) same))) (inr refl)

  either : (P : Rows → Type 0) (rows : Rows) → P only → P all → (rows ≡ only) ⊎ (rows ≡ all) → P rows
  either P rows one other (inl is) = subst P (sym is) one
  either P rows one other (inr is) = subst P (sym is) other

  -- where a block stands now
  data Where (block : Block) (key : RowKey) : Type 0 where
    inside : bucket_of_row key ≡ Some (path volume name) → StandsIn only block key → Where block key
    elsewhere : IsOutside volume name key → StandsIn all block key → Where block key

  where_now : (block : Block) (key : RowKey) → StandsIn now block key → Where block key
  where_now block key stands = by_stripe (λ k. StandsIn now block k → Where block k) key
      (λ s stands. absurd (changed.bare s block stands))
      (λ kind stands. by_test (is_this volume name (bucket_of_row key)) refl kind stands)
      stands
    where
      by_test : (t : Bool) → is_this volume name (bucket_of_row key) ≡ t → kind_of key ≢ 9 → StandsIn now block key → Where block key
      by_test true e kind stands =
          let of = tested_this volume name (bucket_of_row key) e in
          inside of (record { row = stands.row; there = sym (only_there volume name now key of) ∙ stands.there; has = stands.has })
      by_test false e kind stands =
          let out : IsOutside volume name key =
          record { other = λ same. false≢true (sym e ∙ this_tested volume name (bucket_of_row key) same); no_stripe = kind } in
          elsewhere out (record { row = stands.row; there = sym (changed.outside key out) ∙ stands.there; has = stands.has })

  module _ (alone : IsSoundButRenames only) (sound : IsSoundButRenames all) where
    blocks_apart : (rows : Rows) → (rows ≡ only) ⊎ (rows ≡ all) → BlocksAreSound rows
    blocks_apart rows is = either BlocksAreSound rows alone.blocks sound.blocks is

    blocks_now : BlocksAreSound now
    blocks_now = record {
      one_bucket = λ block key other here there. by_two block block key other here there refl (λ of of'. of ∙ sym of')
          (λ one two. sound.blocks.one_bucket block key other one two);
      one_home = λ block key other home home' here there. one_home block key other home home' here there (where_now block key here)
          (where_now block other there);
      one_local = λ block twin key other here there e. one_local block twin key other here there e (where_now block key here) (where_now twin other there);
      kept = λ v b name n block has. choose v b (λ rows like is.
          let it = had rows now v b like n block name has in
          let found = (blocks_apart rows is).kept v b name n block it in
          let of = (blocks_apart rows is).one_bucket block found.0 (keys.SnapshotKey v b n name) found.2 it.stands in
          (found.0, found.1, stands_on rows now v b like block found.0 of found.2));
      deleted_together = λ v b key owner local block other here there. choose v b (λ rows like is.
          together rows now v b like block other
          ((blocks_apart rows is).deleted_together v b key owner local block other
          (stood rows now v b like block (keys.Deleted v b owner key local) refl here)
          (stood rows now v b like other (keys.Deleted v b owner key local) refl there)));
      key_together = λ v b key block other here there. choose v b (λ rows like is.
          together rows now v b like block other
          ((blocks_apart rows is).key_together v b key block other (stood rows now v b like block (keys.Key v b key) refl here)
          (stood rows now v b like other (keys.Key v b key) refl there)));
    }
      where
        clash : {P : Type 0} (block twin : Block) (key other : RowKey) → StandsIn now block key → bucket_of_row key ≡ Some (path volume name)
            → StandsIn all twin other → IsOutside volume name other → block.local ≡ twin.local → P
        clash block twin key other here of there out e = absurd (changed.apart block twin key other here of there out e)

        by_two : {P : Type 0} (block twin : Block) (key other : RowKey) → StandsIn now block key → StandsIn now twin other → block.local ≡ twin.local
            → (bucket_of_row key ≡ Some (path volume name) → bucket_of_row other ≡ Some (path volume name) → P)
            → (StandsIn all block key → StandsIn all twin other → P) → P
        by_two {P} block twin key other here there e in_one in_all = by (where_now block key here) (where_now twin other there)
          where
            by : Where block key → Where twin other → P
            by (inside of one) (inside of' two) = in_one of of'
            by (inside of one) (elsewhere out two) = clash block twin key other here of two out e
            by (elsewhere out one) (inside of two) = clash twin block other key there of one out (sym e)
            by (elsewhere out one) (elsewhere out' two) = in_all one two

        one_home : (block : Block) (key other : RowKey) → IsHome key → IsHome other → StandsIn now block key → StandsIn now block other → Where block key
            → Where block other → key ≡ other
        one_home block key other home home' here there (inside of one) (inside of' two) = alone.blocks.one_home block key other home home' one two
        one_home block key other home home' here there (inside of one) (elsewhere out two) = clash block block key other here of two out refl
        one_home block key other home home' here there (elsewhere out one) (inside of two) = clash block block other key there of one out refl
        one_home block key other home home' here there (elsewhere out one) (elsewhere out' two) = sound.blocks.one_home block key other home home' one two

        one_local : (block twin : Block) (key other : RowKey) → StandsIn now block key → StandsIn now twin other → block.local ≡ twin.local
            → Where block key → Where twin other → block ≡ twin
        one_local block twin key other here there e (inside of one) (inside of' two) = alone.blocks.one_local block twin key other one two e
        one_local block twin key other here there e (inside of one) (elsewhere out two) = clash block twin key other here of two out e
        one_local block twin key other here there e (elsewhere out one) (inside of two) = clash twin block other key there of one out (sym e)
        one_local block twin key other here there e (elsewhere out one) (elsewhere out' two) = sound.blocks.one_local block twin key other one two e

    names_now : NamesAreSound now
    names_now = record {
      one_snapshot = λ v b title n previous m before here there. choose v b (λ rows like is.
          (either NamesAreSound rows alone.names sound.names is).one_snapshot v b title n previous m before
          (sym (like.same (keys.Snapshot v b n) refl) ∙ here) (sym (like.same (keys.Snapshot v b m) refl) ∙ there));
      one_name = λ v b title another n block here there. choose v b (λ rows like is.
          (either NamesAreSound rows alone.names sound.names is).one_name v b title another n block (had rows now v b like n block title here)
          (had rows now v b like n block another there));
      open_name = λ v b key title session n block here there. choose v b (λ rows like is.
          (either NamesAreSound rows alone.names sound.names is).open_name v b key title session n block
          (stood rows now v b like block (keys.Open v b key session) refl here) (had rows now v b like n block title there));
    }

    numbers_apart : (rows : Rows) → (rows ≡ only) ⊎ (rows ≡ all) → NumbersAreSound rows
    numbers_apart rows is = either NumbersAreSound rows alone.numbers sound.numbers is

    numbers_now : NumbersAreSound now
    numbers_now = record {
      sessions = λ v b key n some. choose v b (λ rows like is.
          let before = (numbers_apart rows is).sessions v b key n (there rows now v b like (keys.Open v b key n) refl some) in
          let drawn = like.drawn (stripe_of v) in
          omega (arith, before, drawn));
      snapshots = λ v b n some. choose v b (λ rows like is.
          let before = (numbers_apart rows is).snapshots v b n (there rows now v b like (keys.Snapshot v b n) refl some) in
          let drawn = like.drawn (stripe_of v) in
          omega (arith, before, drawn));
      deleted = λ v b key owner local some apart. choose v b (λ rows like is.
          there_on rows now v b like (keys.Snapshot v b owner) refl
          ((numbers_apart rows is).deleted v b key owner local (there rows now v b like (keys.Deleted v b owner key local) refl some) apart));
      renamed = λ v b owner local some apart. choose v b (λ rows like is.
          there_on rows now v b like (keys.Snapshot v b owner) refl
          ((numbers_apart rows is).renamed v b owner local (there rows now v b like (keys.Renamed v b owner local) refl some) apart));
      snapshot_keys = λ v b key n some. choose v b (λ rows like is.
          there_on rows now v b like (keys.Snapshot v b n) refl
          ((numbers_apart rows is).snapshot_keys v b key n (there rows now v b like (keys.SnapshotKey v b n key) refl some)));
    }

    counts_apart : (rows : Rows) → (rows ≡ only) ⊎ (rows ≡ all) → CountsAreSound rows
    counts_apart rows is = either CountsAreSound rows alone.counts sound.counts is

    bucket_before : (v b : List ℕ) → IsSome (now (keys.Bucket v b)) → IsSome (all (keys.Bucket v b))
    bucket_before v b some = by_test (is_bucket volume name v b) refl
      where
        by_test : (t : Bool) → is_bucket volume name v b ≡ t → IsSome (all (keys.Bucket v b))
        by_test true e =
            let same = same_Some (path v b) (path volume name) (this_is volume name v b e) in
            subst (λ (p : List ℕ × List ℕ). IsSome (now (keys.Bucket p.0 p.1)) → IsSome (all (keys.Bucket p.0 p.1))) (sym same) changed.no_bucket_more some
        by_test false e =
            let like = like_all v b (λ same. false≢true (sym e ∙ this_tested volume name (Some (path v b)) same)) in
            there all now v b like (keys.Bucket v b) refl some

    counts_now : CountsAreSound now
    counts_now = record {
      buckets = λ v. at_most _ _ 1024 (bucket_before v) (sound.counts.buckets v);
      keys_and_sessions = λ v b. choose v b (λ rows like is. at_most _ _ 4096 (used rows now v b like) ((counts_apart rows is).keys_and_sessions v b));
      snapshots = λ v b. choose v b (λ rows like is. at_most _ _ 32 (lived rows now v b like) ((counts_apart rows is).snapshots v b));
      snapshot_keys = λ v b n live. choose v b
          (λ rows like is. at_most _ _ 4096 (λ key some. there rows now v b like (keys.SnapshotKey v b n key) refl some)
          ((counts_apart rows is).snapshot_keys v b n (lived rows now v b like n live)));
    }

    pub sound_apart : IsSoundButRenames now
    sound_apart = record { blocks = blocks_now; names = names_now; numbers = numbers_now; counts = counts_now }

  pub renames_apart : RenamesAreSound only → RenamesAreSound all → RenamesAreSound now
  renames_apart alone sound = record {
    renamed = λ v b title another n owner block has is_one. choose v b (λ rows like is.
        (either RenamesAreSound rows alone sound is).renamed v b title another n owner block (had rows now v b like n block title has)
        (was_renamed rows now v b like n block.local owner another is_one));
    noted = λ v b title n block has anew. choose v b (λ rows like is.
        let found = (either RenamesAreSound rows alone sound is).noted v b title n block (had rows now v b like n block title has)
        (was_named rows now v b like n block title anew) in
        (found.0, found.1, renamed_on rows now v b like n block.local found.0 found.1 found.2));
  }

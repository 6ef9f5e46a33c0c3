-- The parts of all rows show the namespace that these stand for.
use Rattle.std.proofs.Common.{◌≡◌, ◌+◌, ℕ, suc, Bool, true, false, ◌&&◌, T, List, [], ◌∷◌, length, map, None, Some, IsSome, cond, slice_get, refl, sym, ◌∙◌, ap, subst, arith}
use mathlib.Core.Bool.{false≢true}
use Rattle.std.specs.List.{AllByRecursion, fold}
use Rattle.std.specs.Cmp.Lexicographic.{slice_cmp}
use Rattle.std.specs.Ordering.{eq_by_cmp, nat_cmp}
use Rattle.std.specs.FinMap.{empty, entries, entries_sorted, find, from_entries, get, get-entries, get-from_entries, is_sorted, nat_cmp-IsAntisymmetric, slice_cmp-IsAntisymmetric}
use Rattle.std.specs.FinMap.Entries.{below_all}
use Rattle.std.proofs.lemmas.Cmp.{eq_by_cmp_equiv}
use Rattle.oz_cache.specs.Cache.{CacheView}
use Rattle.oz_namespace.specs.declared.namespace.Bucket.{Bucket}
use Rattle.oz_namespace.specs.declared.namespace.Namespace.{Namespace}
use Rattle.oz_namespace.specs.Namespace.{ByName}
use Rattle.oz_rows.specs.declared.entry.RowEntry.{RowEntry}
use Rattle.oz_rows.specs.declared.key.RowKey.{RowKey}
use Rattle.oz_rows.specs.declared.key.RowKey.TheVariants as keys
use Rattle.oz_rows.specs.declared.row.Row.{Row}
use Rattle.oz_rows.specs.Order.{key_order}
use Rattle.oz_rows.specs.RowMaps.{IsBelow, KeysRise, Rows, is_same, row_of}
use Rattle.oz_rows.specs.laws.Order.{equal_from_test, key_order_total, less_from_test}
use Rattle.oz_rows.specs.laws.Same.{same_is_one}
use Rattle.oz_sound.specs.StandsFor.{StandsFor}
use Rattle.oz_loaded.specs.standing.Made.{buckets_made, entered, volume_in}
use Rattle.oz_loaded.specs.standing.Shown.{entry_of, in_order, namespace_shown, row_under, with_volumes}
use Rattle.oz_loaded.specs.standing.Standing.{AddsVolumes, AreStripesOf, VolumeIs}
use Rattle.oz_loaded.proofs.standing_lemmas.OneBucket.{volume_is}
use Rattle.oz_loaded.proofs.standing_lemmas.Stands.{the_one}
use Rattle.oz_loaded.proofs.standing_lemmas.Striped.{BelowAre, all_below, all_drawn, none_below, one_more}
use Rattle.oz_loaded.proofs.standing_lemmas.Walking.{here, none, other}

-- ---- rows in order

first : (a b : Bool) → T (a && b) → a ≡ true
first true b p = refl
first false b p = absurd p

second : (a b : Bool) → T (a && b) → T b
second true b p = p
second false b p = absurd p

above_all : (key : RowKey) (es : List (RowKey × Row)) → T (below_all key_order key es) → AllByRecursion (λ (entry : RowEntry). IsBelow key entry.key) (map entry_of es)
above_all key [] below = tt
above_all key (e ∷ es) below = (less_from_test (key_order key e.0) (first _ _ below), above_all key es (second _ _ below))

is_so : (b : Bool) → b ≡ true → T b
is_so b e = subst T (sym e) tt

rise : (es : List (RowKey × Row)) → T (is_sorted key_order es) → KeysRise (map entry_of es)
rise [] sorted = tt
rise (e ∷ es) sorted = (above_all e.0 es (is_so _ (first _ _ sorted)), rise es (second _ _ sorted))

turned_test : (a b : RowKey) → is_same a b ≡ eq_by_cmp key_order b a
turned_test a b = (eq_by_cmp_equiv key_order_total).symm a b

found_so : (es : List (RowKey × Row)) (key : RowKey) → row_of (map entry_of es) key ≡ find key_order key es
found_so [] key = refl
found_so (e ∷ es) key = λ i. cond (turned_test e.0 key i) (Some e.1) (found_so es key i)

found_in : (all : List RowEntry) (key : RowKey) → row_of all key ≡ find key_order key (map row_under all)
found_in [] key = refl
found_in (x ∷ all) key = λ i. cond (turned_test x.key key i) (Some x.row) (found_in all key i)

in_order_rises : (all : List RowEntry) → KeysRise (in_order all)
in_order_rises all = rise (entries (from_entries {R = key_order} (map row_under all))) (entries_sorted (from_entries {R = key_order} (map row_under all)))

same_rows : (all : List RowEntry) (key : RowKey) → row_of (in_order all) key ≡ row_of all key
same_rows all key =
    let made = from_entries {R = key_order} (map row_under all) in
    found_so (entries made) key ∙ sym (get-entries made key) ∙ get-from_entries key_order_total (map row_under all) key ∙ sym (found_in all key)

-- ---- the volumes of a part

module _ (all : List RowEntry) where
  abbrev Volumes : Type 0
  Volumes = ByName (ByName Bucket)

  abbrev one : Volumes → RowEntry → Volumes
  one made entry = entered made (volume_in all entry.key)

  one_name : (v w : List ℕ) → eq_by_cmp (slice_cmp nat_cmp) v w ≡ true → v ≡ w
  one_name v w e = slice_cmp-IsAntisymmetric nat_cmp-IsAntisymmetric v w (equal_from_test (slice_cmp nat_cmp v w) e)

  -- a volume that has a row is there from its row on
  Is : Volumes → List ℕ → Type 0
  Is made v = get made v ≡ Some (buckets_made all v)

  came : (made : Volumes) (key : RowKey) (v : List ℕ) → IsSome (row_of all (keys.Volume v)) → key ≡ keys.Volume v → Is (entered made (volume_in all key)) v
  unfolding Is
  came made key v some e = ap (λ (key : RowKey). get (entered made (volume_in all key)) v) e ∙ here all made v some

  stays : (made : Volumes) (key : RowKey) (v : List ℕ) → IsSome (row_of all (keys.Volume v)) → Is made v → Is (entered made (volume_in all key)) v
  unfolding Is
  stays made (keys.Volume w) v some is = by (eq_by_cmp (slice_cmp nat_cmp) v w) refl
    where
      by : (t : Bool) → eq_by_cmp (slice_cmp nat_cmp) v w ≡ t → Is (entered made (volume_in all (keys.Volume w))) v
      by true same = came made (keys.Volume w) v some (ap keys.Volume (sym (one_name v w same)))
      by false apart = other all made w v apart ∙ is
  stays made key v some is = is

  all_stay : (made : Volumes) (l : List RowEntry) (v : List ℕ) → IsSome (row_of all (keys.Volume v)) → Is made v → Is (fold one made l) v
  all_stay made [] v some is = is
  all_stay made (x ∷ l) v some is = all_stay (one made x) l v some (stays made x.key v some is)

  there : (made : Volumes) (l : List RowEntry) (v : List ℕ) → IsSome (row_of all (keys.Volume v)) → IsSome (row_of l (keys.Volume v)) → Is (fold one made l) v
  there made [] v some has = absurd (false≢true has)
  there made (x ∷ l) v some has = by (is_same x.key (keys.Volume v)) refl (there (one made x) l v some)
    where
      by : (t : Bool) → is_same x.key (keys.Volume v) ≡ t → (IsSome (row_of l (keys.Volume v)) → Is (fold one (one made x) l) v) → Is (fold one (one made x) l) v
      by true same later = all_stay (one made x) l v some (came made x.key v some (same_is_one x.key (keys.Volume v) same))
      by false apart later = later (subst IsSome (ap (λ (t : Bool). cond t (Some x.row) (row_of l (keys.Volume v))) apart) has)

  -- a volume that has none is as it was
  untouched : (made : Volumes) (key : RowKey) (v : List ℕ) → row_of all (keys.Volume v) ≡ None → get (entered made (volume_in all key)) v ≡ get made v
  untouched made (keys.Volume w) v gone = by (eq_by_cmp (slice_cmp nat_cmp) v w) refl
    where
      by : (t : Bool) → eq_by_cmp (slice_cmp nat_cmp) v w ≡ t → get (entered made (volume_in all (keys.Volume w))) v ≡ get made v
      by true same = none all made w v (ap (λ (w : List ℕ). row_of all (keys.Volume w)) (sym (one_name v w same)) ∙ gone)
      by false apart = other all made w v apart
  untouched made key v gone = refl

  all_untouched : (made : Volumes) (l : List RowEntry) (v : List ℕ) → row_of all (keys.Volume v) ≡ None → get (fold one made l) v ≡ get made v
  all_untouched made [] v gone = refl
  all_untouched made (x ∷ l) v gone = all_untouched (one made x) l v gone ∙ untouched made x.key v gone

  adds : (before : Volumes) → KeysRise all → AddsVolumes (row_of all) before (with_volumes all before)
  unfolding Is
  adds before rise = record {
    here = λ v some. subst (VolumeIs (row_of all) v) (sym (there before all v some some)) (volume_is all rise v some);
    others = λ v gone. all_untouched before all v gone;
  }

-- ---- the volumes of all parts

module _ (all : Rows) (parts : List CacheView) (are : AreStripesOf all parts) where
  abbrev more : ByName (ByName Bucket) → CacheView → ByName (ByName Bucket)
  more made part = with_volumes (in_order part.durable.rows) made

  one_part : (stripe : ℕ) (part : CacheView) (made : ByName (ByName Bucket)) → slice_get parts stripe ≡ Some part → BelowAre all stripe made → BelowAre all (stripe + 1) (more made part)
  one_part stripe part made is =
      let rows = in_order part.durable.rows in
      one_more all (row_of rows) stripe made (more made part) (λ key. same_rows part.durable.rows key ∙ are.each stripe part is key) (adds rows made (in_order_rises part.durable.rows))

  -- the parts from a stripe on
  from_on : (stripe : ℕ) (l : List CacheView) (made : ByName (ByName Bucket)) → ((n : ℕ) → slice_get l n ≡ slice_get parts (stripe + n)) → BelowAre all stripe made → BelowAre all (stripe + length l) (fold more made l)
  from_on stripe [] made behind below = subst (λ n. BelowAre all n made) (omega arith) below
  from_on stripe (part ∷ l) made behind below =
      subst (λ n. BelowAre all n (fold more (more made part) l)) (omega arith)
      (from_on (stripe + 1) l (more made part) (λ n. behind (suc n) ∙ ap (slice_get parts) (omega arith))
      (one_part stripe part made (ap (slice_get parts) (omega arith) ∙ sym (behind 0)) below))

  pub shows : (namespace : Namespace) → StandsFor all namespace → namespace_shown parts ≡ namespace
  unfolding namespace_shown
  shows namespace stands =
      let made = fold more empty parts in
      let whole : BelowAre all (0 + length parts) made = from_on 0 parts empty (λ n. ap (slice_get parts) (omega arith)) (none_below all) in
      the_one all namespace (namespace_shown parts) stands (all_below all made (subst (λ n. BelowAre all n made) (omega (arith, are.sixteen)) whole)) (all_drawn all parts are)

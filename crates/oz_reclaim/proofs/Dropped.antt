-- What becomes of rows where a marked snapshot that owns nothing goes with its keys.
use Rattle.std.proofs.Common.{◌≡◌, ◌⊎◌, inl, inr, ⊎_elim, ℕ, ◌==◌, ◌&&◌, Bool, true, false, List, [], ◌∷◌, ◌++◌, Option, None, Some, IsSome, is_some, cond, refl, sym, ◌∙◌, ap, subst}
use mathlib.Core.Bool.{false≢true}
use Rattle.std.specs.List.{flat_map}
use Rattle.oz_decision.specs.Meets.{AreInGrammar}
use Rattle.oz_effects.specs.Effects.{dropped, operation_changes}
use Rattle.oz_reclaim.specs.Moves.{DeletedMove, IsSteady, RenamesStay}
use Rattle.oz_reclaim.specs.Work.{is_marked, IsMarked, OwnsRow}
use Rattle.oz_reclaim.proofs.Between.{front, back, both, same_number, number_itself, same_bucket, bucket_itself, is_that_bucket}
use Rattle.oz_reclaim.proofs.Touched.{changed, rows_join, apart, key_itself, Leaves, untouched, touched}
use Rattle.oz_rows.specs.declared.entry.RowEntry.{RowEntry}
use Rattle.oz_rows.specs.declared.key.RowKey.{RowKey}
use Rattle.oz_rows.specs.declared.key.RowKey.TheVariants as keys
use Rattle.oz_rows.specs.declared.operation.Change.{Change}
use Rattle.oz_rows.specs.declared.operation.Operation.TheVariants.{DropKeys}
use Rattle.oz_rows.specs.declared.row.Row.{Row}
use Rattle.oz_rows.specs.RowMaps.{Rows, KeysRise, gone, is_bucket, is_same, row_after, row_of, after_changes}
use Rattle.oz_rows.specs.laws.Same.{same_is_one}
use Rattle.oz_sound.specs.Sound.{IsSoundButRenames}
use Rattle.oz_sound.specs.StandsFor.{IsLive}

no_row : Option Row
no_row = None

module _ (v b : List ℕ) (n : ℕ) where
  -- a key of the snapshot
  is_own : RowKey → Bool
  is_own (keys.SnapshotKey w c m k) = is_bucket v b w c && m == n
  is_own key = false

  own_key : is_bucket v b v b && n == n ≡ true
  own_key = both (is_bucket v b v b) (n == n) (bucket_itself v b) (number_itself n)

  abbrev drop : RowEntry → List Change
  drop entry = dropped v b n entry.key

  leaves : (q : RowKey) → is_own q ≡ false → (entry : RowEntry) → Leaves drop q entry
  unfolding is_own
  leaves q not entry row = by entry.key
    where
      by : (key : RowKey) → row_after (dropped v b n key) q row ≡ row
      by (keys.SnapshotKey w c m k) = by_test (is_bucket v b w c && m == n)
        where
          by_test : (t : Bool) → row_after (cond t (gone (keys.SnapshotKey v b n k) ∷ []) []) q row ≡ row
          by_test true = ap (λ (t : Bool). cond t None row) (apart (keys.SnapshotKey v b n k) q (λ e. false≢true (sym not ∙ ap is_own (sym e) ∙ own_key)))
          by_test false = refl
      by key = refl

  module _ (entries : List RowEntry) (rise : KeysRise entries) where
    abbrev all : Rows
    all = row_of entries

    abbrev pub changes : List Change
    changes = operation_changes entries (DropKeys v b n) ++ gone (keys.Snapshot v b n) ∷ []

    abbrev pub now : Rows
    now = after_changes changes all

    in_turn : (q : RowKey) → now q ≡ cond (is_same (keys.Snapshot v b n) q) None (row_after (flat_map drop entries) q (all q))
    in_turn q = rows_join (flat_map drop entries) (gone (keys.Snapshot v b n) ∷ []) q (all q)

    pub row_gone : now (keys.Snapshot v b n) ≡ None
    row_gone = in_turn (keys.Snapshot v b n) ∙ ap (λ (t : Bool). cond t None (row_after (flat_map drop entries) (keys.Snapshot v b n) (all (keys.Snapshot v b n)))) (key_itself (keys.Snapshot v b n))

    other_stays : (q : RowKey) → is_own q ≡ false → is_same (keys.Snapshot v b n) q ≡ false → now q ≡ all q
    other_stays q not differ = in_turn q ∙ ap (λ (t : Bool). cond t None (row_after (flat_map drop entries) q (all q))) differ ∙ untouched drop q (leaves q not) entries (all q)

    key_gone : (k : List ℕ) → now (keys.SnapshotKey v b n k) ≡ None
    unfolding no_row
    key_gone k = in_turn (keys.SnapshotKey v b n k) ∙ touched drop (keys.SnapshotKey v b n k) (keys.SnapshotKey v b n k) (λ r. no_row) others its entries rise (all (keys.SnapshotKey v b n k)) ∙ by (all (keys.SnapshotKey v b n k))
      where
        by : (o : Option Row) → changed (λ r. no_row) o o ≡ None
        by None = refl
        by (Some r) = refl

        its : (entry : RowEntry) → entry.key ≡ keys.SnapshotKey v b n k → (row : Option Row) → row_after (drop entry) (keys.SnapshotKey v b n k) row ≡ no_row
        its entry same row =
            ap (λ key. row_after (dropped v b n key) (keys.SnapshotKey v b n k) row) same
            ∙ ap (λ (t : Bool). row_after (cond t (gone (keys.SnapshotKey v b n k) ∷ []) []) (keys.SnapshotKey v b n k) row) (own_key)
            ∙ ap (λ (t : Bool). cond t None row) (key_itself (keys.SnapshotKey v b n k))

        others : (entry : RowEntry) → is_same entry.key (keys.SnapshotKey v b n k) ≡ false → Leaves drop (keys.SnapshotKey v b n k) entry
        others entry differ row = by_key entry.key differ
          where
            by_key : (key : RowKey) → is_same key (keys.SnapshotKey v b n k) ≡ false → row_after (dropped v b n key) (keys.SnapshotKey v b n k) row ≡ row
            by_key (keys.SnapshotKey w c m q) differ = by_test (is_bucket v b w c && m == n) refl
              where
                by_test : (t : Bool) → is_bucket v b w c && m == n ≡ t → row_after (cond t (gone (keys.SnapshotKey v b n q) ∷ []) []) (keys.SnapshotKey v b n k) row ≡ row
                by_test true e =
                    let same = same_bucket v b w c (front (is_bucket v b w c) _ e) in
                    let number = same_number m n (back (is_bucket v b w c) _ e) in
                    ap (λ (t : Bool). cond t None row) ((λ i. is_same (keys.SnapshotKey (same.volume i) (same.bucket i) (sym number i) q) (keys.SnapshotKey v b n k)) ∙ differ)
                by_test false e = refl
            by_key key differ = refl

    module _ (sound : IsSoundButRenames all) (marked : IsMarked all v b n) (owns_nothing : OwnsRow all v b n → ⊥) where
      not_live : (w c : List ℕ) (m : ℕ) → IsLive all w c m → is_same (keys.Snapshot v b n) (keys.Snapshot w c m) ≡ false
      not_live w c m live = apart (keys.Snapshot v b n) (keys.Snapshot w c m) (λ e. false≢true (sym (ap is_marked (ap all e ∙ live.2)) ∙ marked))

      snapshot_stays : (w c : List ℕ) (m : ℕ) → IsSome (now (keys.Snapshot w c m)) → now (keys.Snapshot w c m) ≡ all (keys.Snapshot w c m)
      unfolding is_own
      snapshot_stays w c m there = by (is_same (keys.Snapshot v b n) (keys.Snapshot w c m)) refl
        where
          by : (t : Bool) → is_same (keys.Snapshot v b n) (keys.Snapshot w c m) ≡ t → now (keys.Snapshot w c m) ≡ all (keys.Snapshot w c m)
          by true e = absurd (false≢true (sym (ap is_some row_gone) ∙ ap (λ key. is_some (now key)) (same_is_one (keys.Snapshot v b n) (keys.Snapshot w c m) e) ∙ there))
          by false e = other_stays (keys.Snapshot w c m) refl e

      not_its : (w c k : List ℕ) (m : ℕ) → IsSome (now (keys.SnapshotKey w c m k)) → is_own (keys.SnapshotKey w c m k) ≡ false
      unfolding is_own
      not_its w c k m there = by (is_bucket v b w c && m == n) refl
        where
          by : (t : Bool) → is_bucket v b w c && m == n ≡ t → is_bucket v b w c && m == n ≡ false
          by false e = e
          by true e =
              let same = same_bucket v b w c (front (is_bucket v b w c) _ e) in
              let number = same_number m n (back (is_bucket v b w c) _ e) in
              absurd (false≢true (sym (ap is_some (key_gone k)) ∙ ap is_some (λ i. now (keys.SnapshotKey (same.volume i) (same.bucket i) (sym number i) k)) ∙ there))

      -- a snapshot that is another
      another : (w c : List ℕ) (m : ℕ) → ((w ≡ v) × (c ≡ b) × (m ≡ n) → ⊥) → now (keys.Snapshot w c m) ≡ all (keys.Snapshot w c m)
      unfolding is_own
      another w c m differ = other_stays (keys.Snapshot w c m) refl (apart (keys.Snapshot v b n) (keys.Snapshot w c m) (λ e. differ (parts e)))
        where
          parts : keys.Snapshot v b n ≡ keys.Snapshot w c m → (w ≡ v) × (c ≡ b) × (m ≡ n)
          parts e = let volume : w ≡ v = cc in let bucket : c ≡ b = cc in let number : m ≡ n = cc in (volume, bucket, number)

      steady_stays : (key : RowKey) → IsSteady key → now key ≡ all key
      unfolding is_own
      steady_stays (keys.Volume w) steady = other_stays (keys.Volume w) refl refl
      steady_stays (keys.Bucket w c) steady = other_stays (keys.Bucket w c) refl refl
      steady_stays (keys.Key w c k) steady = other_stays (keys.Key w c k) refl refl
      steady_stays (keys.Open w c k m) steady = other_stays (keys.Open w c k m) refl refl
      steady_stays (keys.Stripe s) steady = other_stays (keys.Stripe s) refl refl
      steady_stays key steady = absurd steady

      pub deleted_stays : (w c k : List ℕ) (o l : ℕ) → now (keys.Deleted w c o k l) ≡ all (keys.Deleted w c o k l)
      unfolding is_own
      deleted_stays w c k o l = other_stays (keys.Deleted w c o k l) refl refl

      pub renamed_stays : RenamesStay all now
      unfolding is_own
      renamed_stays w c o l = other_stays (keys.Renamed w c o l) refl refl

      live_stays : (w c : List ℕ) (m : ℕ) → IsLive now w c m → now (keys.Snapshot w c m) ≡ all (keys.Snapshot w c m)
      live_stays w c m live = snapshot_stays w c m (ap is_some live.2)

      pub moves : DeletedMove all now
      unfolding is_own
      moves = record {
        steady = steady_stays;
        snapshots = λ w c m there. subst IsSome (snapshot_stays w c m there) there;
        live = live_stays;
        live_keys = λ w c k m live. other_stays (keys.SnapshotKey w c m k) (not_own w c k m (snapshot_stays w c m (ap is_some live.2)) live) refl;
        snapshot_keys = λ w c k m row there.
            let same = other_stays (keys.SnapshotKey w c m k) (not_its w c k m (ap is_some there)) refl in
            (sym same ∙ there, owner_there w c k m (not_its w c k m (ap is_some there)) (ap is_some (sym same ∙ there)));
        owner_now = λ w c o. o;
        came = λ w c k o l row there. (o, refl, sym (deleted_stays w c k o l) ∙ there);
        stays = λ w c k o l row there. inl (deleted_stays w c k o l ∙ there);
        deleted_owners = λ w c k o l there some.
            let was = subst IsSome (deleted_stays w c k o l) there in
            subst IsSome (sym (another w c o (λ same. owns_nothing (inl (k, l, subst IsSome (λ i. all (keys.Deleted (same.0 i) (same.1 i) (same.2 i) k l)) was))))) (sound.numbers.deleted w c k o l was some);
        renamed_owners = λ w c o l there some.
            let was = subst IsSome (renamed_stays w c o l) there in
            subst IsSome (sym (another w c o (λ same. owns_nothing (inr (l, subst IsSome (λ i. all (keys.Renamed (same.0 i) (same.1 i) (same.2 i) l)) was))))) (sound.numbers.renamed w c o l was some);
      }
        where
          not_own : (w c k : List ℕ) (m : ℕ) → now (keys.Snapshot w c m) ≡ all (keys.Snapshot w c m) → IsLive now w c m → is_bucket v b w c && m == n ≡ false
          not_own w c k m same live = by (is_bucket v b w c && m == n) refl
            where
              by : (t : Bool) → is_bucket v b w c && m == n ≡ t → is_bucket v b w c && m == n ≡ false
              by false e = e
              by true e =
                  let bucket = same_bucket v b w c (front (is_bucket v b w c) _ e) in
                  let number = same_number m n (back (is_bucket v b w c) _ e) in
                  absurd (false≢true (sym (ap is_some row_gone) ∙ ap is_some (λ i. now (keys.Snapshot (bucket.volume i) (bucket.bucket i) (sym number i))) ∙ ap is_some live.2))

          owner_there : (w c k : List ℕ) (m : ℕ) → is_bucket v b w c && m == n ≡ false → IsSome (all (keys.SnapshotKey w c m k)) → IsSome (now (keys.Snapshot w c m))
          owner_there w c k m not there = subst IsSome (sym (another w c m (λ same. false≢true (sym not ∙ both (is_bucket v b w c) (m == n) (is_that_bucket v b w c (sym same.0) (sym same.1)) (ap (λ x. x == n) same.2 ∙ number_itself n))))) (sound.numbers.snapshot_keys w c k m there)

      pub live_still : (w c : List ℕ) (m : ℕ) → IsLive all w c m → IsLive now w c m
      unfolding is_own
      live_still w c m live = (live.0, live.1, other_stays (keys.Snapshot w c m) refl (not_live w c m live) ∙ live.2)

    -- the row of a key is as it was, or it went
    either : (q : RowKey) → (now q ≡ all q) ⊎ (now q ≡ None)
    unfolding is_own
    either (keys.SnapshotKey w c m k) = by (is_bucket v b w c && m == n) refl
      where
        by : (t : Bool) → is_bucket v b w c && m == n ≡ t → (now (keys.SnapshotKey w c m k) ≡ all (keys.SnapshotKey w c m k)) ⊎ (now (keys.SnapshotKey w c m k) ≡ None)
        by false e = inl (other_stays (keys.SnapshotKey w c m k) e refl)
        by true e =
            let same = same_bucket v b w c (front (is_bucket v b w c) _ e) in
            let number = same_number m n (back (is_bucket v b w c) _ e) in
            inr ((λ i. now (keys.SnapshotKey (sym same.volume i) (sym same.bucket i) (number i) k)) ∙ key_gone k)
    either (keys.Snapshot w c m) = by (is_same (keys.Snapshot v b n) (keys.Snapshot w c m)) refl
      where
        by : (t : Bool) → is_same (keys.Snapshot v b n) (keys.Snapshot w c m) ≡ t → (now (keys.Snapshot w c m) ≡ all (keys.Snapshot w c m)) ⊎ (now (keys.Snapshot w c m) ≡ None)
        by false e = inl (other_stays (keys.Snapshot w c m) refl e)
        by true e = inr (ap now (sym (same_is_one (keys.Snapshot v b n) (keys.Snapshot w c m) e)) ∙ row_gone)
    either (keys.Volume w) = inl (other_stays (keys.Volume w) refl refl)
    either (keys.Bucket w c) = inl (other_stays (keys.Bucket w c) refl refl)
    either (keys.Key w c k) = inl (other_stays (keys.Key w c k) refl refl)
    either (keys.Open w c k m) = inl (other_stays (keys.Open w c k m) refl refl)
    either (keys.Deleted w c o k l) = inl (other_stays (keys.Deleted w c o k l) refl refl)
    either (keys.Renamed w c o l) = inl (other_stays (keys.Renamed w c o l) refl refl)
    either (keys.Stripe s) = inl (other_stays (keys.Stripe s) refl refl)

    pub fit_now : AreInGrammar all → AreInGrammar now
    fit_now fit q row there = ⊎_elim (λ same. fit q row (sym same ∙ there)) (λ none. absurd (false≢true (sym (ap is_some none) ∙ ap is_some there))) (either q)

    -- the snapshot's row is still there where its keys have gone
    pub still_there : after_changes (operation_changes entries (DropKeys v b n)) all (keys.Snapshot v b n) ≡ all (keys.Snapshot v b n)
    unfolding is_own
    still_there = untouched drop (keys.Snapshot v b n) (leaves (keys.Snapshot v b n) refl) entries (all (keys.Snapshot v b n))

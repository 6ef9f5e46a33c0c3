-- What becomes of rows where the deleted and renamed rows of one owner go to another.
use Rattle.std.proofs.Common.{◌≡◌, ◌≢◌, ◌⊎◌, inl, inr, ⊎_elim, ℕ, ◌==◌, ◌&&◌, Bool, true, false, List, [], ◌∷◌, Option, None, Some, is_some, cond, refl, sym, ◌∙◌, ap}
use mathlib.Core.Bool.{false≢true}
use Rattle.std.specs.List.{flat_map}
use Rattle.oz_effects.specs.Effects.{moved, operation_changes}
use Rattle.oz_reclaim.proofs.Between.{front, back, both, same_number, number_itself, same_bucket, is_that_bucket}
use Rattle.oz_reclaim.proofs.Touched.{apart, changed, key_itself, Leaves, untouched, touched}
use Rattle.oz_rows.specs.declared.entry.RowEntry.{RowEntry}
use Rattle.oz_rows.specs.declared.key.RowKey.{RowKey}
use Rattle.oz_rows.specs.declared.key.RowKey.TheVariants as keys
use Rattle.oz_rows.specs.declared.operation.Change.{Change}
use Rattle.oz_rows.specs.declared.operation.Operation.TheVariants.{MoveDeleted}
use Rattle.oz_rows.specs.declared.row.Row.{Row}
use Rattle.oz_rows.specs.RowMaps.{Rows, KeysRise, gone, put, is_bucket, is_same, row_after, row_of, after_changes}

pub no_row : Option Row
no_row = None

-- ---- rows of a family of keys, each with an owner, go from one owner to another

module _ {A : Type 0} (key_at : ℕ → A → RowKey) (from to : ℕ) (give : RowKey → Row → List Change)
    (one_owner : (o p : ℕ) (a c : A) → key_at o a ≡ key_at p c → o ≡ p) (one_rest : (o p : ℕ) (a c : A) → key_at o a ≡ key_at p c → a ≡ c) where
  -- what an entry gives: its row goes over, or no row of the family changes
  abbrev pub Gives : RowKey → Row → Type 0
  Gives key r =
      ((a : A) × (key ≡ key_at from a) × ((q : RowKey) (row : Option Row) → row_after (give key r) q row ≡ cond (is_same (key_at to a) q) (Some r) (cond (is_same (key_at from a) q) None row)))
      ⊎ ((o : ℕ) (a : A) → ((row : Option Row) → row_after (give key r) (key_at o a) row ≡ row) × (key ≡ key_at from a → ⊥))

  module _ (differ : from ≢ to) (gives : (key : RowKey) (r : Row) → Gives key r) where
    abbrev each : RowEntry → List Change
    each entry = give entry.key entry.row

    not_to : (a c : A) → is_same (key_at to a) (key_at from c) ≡ false
    not_to a c = apart (key_at to a) (key_at from c) (λ e. differ (sym (one_owner to from a c e)))

    not_from : (a c : A) → is_same (key_at from a) (key_at to c) ≡ false
    not_from a c = apart (key_at from a) (key_at to c) (λ e. differ (one_owner from to a c e))

    pub goes : (l : List RowEntry) → KeysRise l → (a : A) (row : Option Row) → row_after (flat_map each l) (key_at from a) row ≡ changed (λ r. no_row) (row_of l (key_at from a)) row
    unfolding no_row
    goes l rise a row = touched each (key_at from a) (key_at from a) (λ r. no_row) others its l rise row
      where
        its : (entry : RowEntry) → entry.key ≡ key_at from a → (row : Option Row) → row_after (each entry) (key_at from a) row ≡ no_row
        its entry same row = ⊎_elim
            (λ it.
            it.2 (key_at from a) row
            ∙ ap (λ (t : Bool). cond t (Some entry.row) (cond (is_same (key_at from it.0) (key_at from a)) None row)) (not_to it.0 a)
            ∙ ap (λ (t : Bool). cond t None row) (ap (λ key. is_same key (key_at from a)) (sym it.1 ∙ same) ∙ key_itself (key_at from a)))
            (λ none. absurd ((none from a).1 same))
            (gives entry.key entry.row)

        others : (entry : RowEntry) → is_same entry.key (key_at from a) ≡ false → Leaves each (key_at from a) entry
        others entry not row = ⊎_elim
            (λ it.
            it.2 (key_at from a) row
            ∙ ap (λ (t : Bool). cond t (Some entry.row) (cond (is_same (key_at from it.0) (key_at from a)) None row)) (not_to it.0 a)
            ∙ ap (λ (t : Bool). cond t None row) (ap (λ key. is_same key (key_at from a)) (sym it.1) ∙ not))
            (λ none. (none from a).0 row)
            (gives entry.key entry.row)

    pub comes : (l : List RowEntry) → KeysRise l → (a : A) (row : Option Row) → row_after (flat_map each l) (key_at to a) row ≡ changed (λ r. Some r) (row_of l (key_at from a)) row
    comes l rise a row = touched each (key_at to a) (key_at from a) (λ r. Some r) others its l rise row
      where
        its : (entry : RowEntry) → entry.key ≡ key_at from a → (row : Option Row) → row_after (each entry) (key_at to a) row ≡ Some entry.row
        its entry same row = ⊎_elim
            (λ it.
            it.2 (key_at to a) row
            ∙ ap (λ (t : Bool). cond t (Some entry.row) (cond (is_same (key_at from it.0) (key_at to a)) None row))
            (ap (λ c. is_same (key_at to c) (key_at to a)) (one_rest from from it.0 a (sym it.1 ∙ same)) ∙ key_itself (key_at to a)))
            (λ none. absurd ((none from a).1 same))
            (gives entry.key entry.row)

        others : (entry : RowEntry) → is_same entry.key (key_at from a) ≡ false → Leaves each (key_at to a) entry
        others entry not row = ⊎_elim
            (λ it.
            it.2 (key_at to a) row
            ∙ ap (λ (t : Bool). cond t (Some entry.row) (cond (is_same (key_at from it.0) (key_at to a)) None row))
            (apart (key_at to it.0) (key_at to a) (λ e. false≢true (sym not ∙ ap (λ key. is_same key (key_at from a)) (it.1 ∙ ap (key_at from) (one_rest to to it.0 a e)) ∙ key_itself (key_at from a))))
            ∙ ap (λ (t : Bool). cond t None row) (not_from it.0 a))
            (λ none. (none to a).0 row)
            (gives entry.key entry.row)

-- ---- the deleted rows and the renamed rows of a bucket

module _ (v b : List ℕ) where
  abbrev pub deleted_at : ℕ → List ℕ × ℕ → RowKey
  deleted_at o a = keys.Deleted v b o a.0 a.1

  abbrev pub renamed_at : ℕ → ℕ → RowKey
  renamed_at o l = keys.Renamed v b o l

  deleted_owner : (o p : ℕ) (a c : List ℕ × ℕ) → deleted_at o a ≡ deleted_at p c → o ≡ p
  deleted_owner o p a c e = cc

  deleted_rest : (o p : ℕ) (a c : List ℕ × ℕ) → deleted_at o a ≡ deleted_at p c → a ≡ c
  deleted_rest o p a c e = let key : a.0 ≡ c.0 = cc in let local : a.1 ≡ c.1 = cc in λ i. (key i, local i)

  renamed_owner : (o p : ℕ) (a c : ℕ) → renamed_at o a ≡ renamed_at p c → o ≡ p
  renamed_owner o p a c e = cc

  renamed_rest : (o p : ℕ) (a c : ℕ) → renamed_at o a ≡ renamed_at p c → a ≡ c
  renamed_rest o p a c e = cc

  -- rows of the first owner go over, where none of them stays behind
  module _ (from to : ℕ) (differ : from ≢ to) (entries : List RowEntry) (rise : KeysRise entries) (none_stays : (l : ℕ) → from == 0 && is_some (row_of entries (keys.Renamed v b to l)) ≡ false) where
    abbrev give : RowKey → Row → List Change
    give key r = moved entries v b from to key r

    not_same : (from == to) ≡ false
    not_same = by (from == to) refl
      where
        by : (t : Bool) → (from == to) ≡ t → t ≡ false
        by false e = refl
        by true e = absurd (differ (same_number from to e))

    is_its : (w c : List ℕ) (o : ℕ) → v ≡ w → b ≡ c → o ≡ from → is_bucket v b w c && o == from ≡ true
    is_its w c o volume bucket owner = both (is_bucket v b w c) (o == from) (is_that_bucket v b w c volume bucket) (ap (λ x. x == from) owner ∙ number_itself from)

    abbrev moves_to : RowKey → RowKey → Row → List Change
    moves_to old new r = gone old ∷ put new r ∷ []

    deleted_gives : (key : RowKey) (r : Row) → Gives deleted_at from to give deleted_owner deleted_rest key r
    deleted_gives (keys.Deleted w c o k l) r = by (is_bucket v b w c && o == from) refl
      where
        by : (t : Bool) → is_bucket v b w c && o == from ≡ t → Gives deleted_at from to give deleted_owner deleted_rest (keys.Deleted w c o k l) r
        by true e =
            let same = same_bucket v b w c (front (is_bucket v b w c) _ e) in
            let number = same_number o from (back (is_bucket v b w c) _ e) in
            inl ((k, l), (λ i. keys.Deleted (sym same.volume i) (sym same.bucket i) (number i) k l), λ q row. ap (λ (t : Bool). row_after (cond t (moves_to (keys.Deleted v b from k l) (keys.Deleted v b to k l) r) []) q row) e)
        by false e = inr (λ p a. (
          (λ row. ap (λ (t : Bool). row_after (cond t (moves_to (keys.Deleted v b from k l) (keys.Deleted v b to k l) r) []) (deleted_at p a) row) e),
          λ same. let volume : v ≡ w = cc in let bucket : b ≡ c = cc in let owner : o ≡ from = cc in false≢true (sym e ∙ is_its w c o volume bucket owner),
        ))
    deleted_gives (keys.Renamed w c o l) r = inr (λ p a. ((λ row. by (is_bucket v b w c && o == from) (from == 0 && is_some (row_of entries (keys.Renamed v b to l))) p a row), λ same. absurd (cc)))
      where
        by : (s t : Bool) (p : ℕ) (a : List ℕ × ℕ) (row : Option Row) → row_after (cond s (gone (keys.Renamed v b from l) ∷ cond t [] (put (keys.Renamed v b to l) r ∷ [])) []) (deleted_at p a) row ≡ row
        by true true p a row = refl
        by true false p a row = refl
        by false t p a row = refl
    deleted_gives key r = inr (λ p a. ((λ row. refl), λ same. absurd (cc)))

    renamed_gives : (key : RowKey) (r : Row) → Gives renamed_at from to give renamed_owner renamed_rest key r
    renamed_gives (keys.Renamed w c o l) r = by (is_bucket v b w c && o == from) refl
      where
        list : Bool → Bool → List Change
        list s t = cond s (gone (keys.Renamed v b from l) ∷ cond t [] (put (keys.Renamed v b to l) r ∷ [])) []

        by : (t : Bool) → is_bucket v b w c && o == from ≡ t → Gives renamed_at from to give renamed_owner renamed_rest (keys.Renamed w c o l) r
        by true e =
            let same = same_bucket v b w c (front (is_bucket v b w c) _ e) in
            let number = same_number o from (back (is_bucket v b w c) _ e) in
            inl (l, (λ i. keys.Renamed (sym same.volume i) (sym same.bucket i) (number i) l), λ q row. ap (λ (t : Bool). row_after (list t (from == 0 && is_some (row_of entries (keys.Renamed v b to l)))) q row) e ∙ ap (λ (t : Bool). row_after (list true t) q row) (none_stays l))
        by false e = inr (λ p a. (
          (λ row. ap (λ (t : Bool). row_after (list t (from == 0 && is_some (row_of entries (keys.Renamed v b to l)))) (renamed_at p a) row) e),
          λ same. let volume : v ≡ w = cc in let bucket : b ≡ c = cc in let owner : o ≡ from = cc in false≢true (sym e ∙ is_its w c o volume bucket owner),
        ))
    renamed_gives (keys.Deleted w c o k l) r = inr (λ p a. ((λ row. by (is_bucket v b w c && o == from) p a row), λ same. absurd (cc)))
      where
        by : (s : Bool) (p a : ℕ) (row : Option Row) → row_after (cond s (moves_to (keys.Deleted v b from k l) (keys.Deleted v b to k l) r) []) (renamed_at p a) row ≡ row
        by true p a row = refl
        by false p a row = refl
    renamed_gives key r = inr (λ p a. ((λ row. refl), λ same. absurd (cc)))

    abbrev all : Rows
    all = row_of entries

    abbrev pub now : Rows
    now = after_changes (operation_changes entries (MoveDeleted v b from to)) all

    abbrev each_gives : RowEntry → List Change
    each_gives entry = give entry.key entry.row

    in_turn : (q : RowKey) → now q ≡ row_after (flat_map each_gives entries) q (all q)
    in_turn q = ap (λ (t : Bool). row_after (cond t [] (flat_map each_gives entries)) q (all q)) not_same

    none_left : (o : Option Row) → changed (λ r. no_row) o o ≡ None
    unfolding no_row
    none_left None = refl
    none_left (Some r) = refl

    pub deleted_gone : (k : List ℕ) (l : ℕ) → now (keys.Deleted v b from k l) ≡ None
    deleted_gone k l = in_turn (keys.Deleted v b from k l) ∙ goes deleted_at from to give deleted_owner deleted_rest differ deleted_gives entries rise (k, l) (all (keys.Deleted v b from k l)) ∙ none_left (all (keys.Deleted v b from k l))

    pub deleted_comes : (k : List ℕ) (l : ℕ) → now (keys.Deleted v b to k l) ≡ changed (λ r. Some r) (all (keys.Deleted v b from k l)) (all (keys.Deleted v b to k l))
    deleted_comes k l = in_turn (keys.Deleted v b to k l) ∙ comes deleted_at from to give deleted_owner deleted_rest differ deleted_gives entries rise (k, l) (all (keys.Deleted v b to k l))

    pub renamed_gone : (l : ℕ) → now (keys.Renamed v b from l) ≡ None
    renamed_gone l = in_turn (keys.Renamed v b from l) ∙ goes renamed_at from to give renamed_owner renamed_rest differ renamed_gives entries rise l (all (keys.Renamed v b from l)) ∙ none_left (all (keys.Renamed v b from l))

    pub renamed_comes : (l : ℕ) → now (keys.Renamed v b to l) ≡ changed (λ r. Some r) (all (keys.Renamed v b from l)) (all (keys.Renamed v b to l))
    renamed_comes l = in_turn (keys.Renamed v b to l) ∙ comes renamed_at from to give renamed_owner renamed_rest differ renamed_gives entries rise l (all (keys.Renamed v b to l))

    -- a row of neither owner in this bucket
    pub record Aside (q : RowKey) : Type 0 where
      pub deleted : (o : ℕ) → ((o ≡ from) ⊎ (o ≡ to)) → (k : List ℕ) (l : ℕ) → keys.Deleted v b o k l ≡ q → ⊥
      pub renamed : (o : ℕ) → ((o ≡ from) ⊎ (o ≡ to)) → (l : ℕ) → keys.Renamed v b o l ≡ q → ⊥

    pub stays : (q : RowKey) → Aside q → now q ≡ all q
    stays q aside = in_turn q ∙ untouched each_gives q (λ entry row. leaves entry.key entry.row row) entries (all q)
      where
        passed : (old new : RowKey) (r : Row) (row : Option Row) → (old ≡ q → ⊥) → (new ≡ q → ⊥) → row_after (moves_to old new r) q row ≡ row
        passed old new r row not_old not_new =
            ap (λ (t : Bool). cond t (Some r) (cond (is_same old q) None row)) (apart new q not_new) ∙ ap (λ (t : Bool). cond t None row) (apart old q not_old)

        leaves : (key : RowKey) (r : Row) (row : Option Row) → row_after (give key r) q row ≡ row
        leaves (keys.Deleted w c o k l) r row = by (is_bucket v b w c && o == from)
          where
            by : (t : Bool) → row_after (cond t (moves_to (keys.Deleted v b from k l) (keys.Deleted v b to k l) r) []) q row ≡ row
            by true = passed (keys.Deleted v b from k l) (keys.Deleted v b to k l) r row (aside.deleted from (inl refl) k l) (aside.deleted to (inr refl) k l)
            by false = refl
        leaves (keys.Renamed w c o l) r row = by (is_bucket v b w c && o == from) (from == 0 && is_some (row_of entries (keys.Renamed v b to l)))
          where
            by : (s t : Bool) → row_after (cond s (gone (keys.Renamed v b from l) ∷ cond t [] (put (keys.Renamed v b to l) r ∷ [])) []) q row ≡ row
            by true true = ap (λ (t : Bool). cond t None row) (apart (keys.Renamed v b from l) q (aside.renamed from (inl refl) l))
            by true false = passed (keys.Renamed v b from l) (keys.Renamed v b to l) r row (aside.renamed from (inl refl) l) (aside.renamed to (inr refl) l)
            by false t = refl
        leaves key r row = refl

-- What the end of a bucket's sessions makes of rows: each open row goes, and each block of one that stands in no key row
-- gets a deleted row.
use Rattle.std.proofs.Common.{◌≡◌, ℕ, Bool, true, false, not, ◌||◌, List, [], ◌∷◌, ◌++◌, map, filter, Option, None, Some, is_some, cond, refl, sym, ◌∙◌, ap, subst, inl, inr, ◌⊎◌}
use mathlib.Core.Bool.{false≢true}
use Rattle.std.proofs.lemmas.Option.{same_Some}
use Rattle.std.specs.List.{AllByRecursion, flat_map, list_any}
use Rattle.oz_effects.specs.Effects.{closed, freed, is_in_a_key, operation_changes}
use Rattle.oz_fields.specs.declared.block.Block.{Block}
use Rattle.oz_rows.specs.declared.entry.RowEntry.{RowEntry}
use Rattle.oz_rows.specs.declared.key.RowKey.{RowKey}
use Rattle.oz_rows.specs.declared.key.RowKey.TheVariants as keys
use Rattle.oz_rows.specs.declared.operation.Change.{Change}
use Rattle.oz_rows.specs.declared.operation.Operation.TheVariants.{DropOpen}
use Rattle.oz_rows.specs.declared.row.Row.{Row}
use Rattle.oz_rows.specs.declared.row.Row.TheVariants as rows
use Rattle.oz_rows.specs.RowMaps.{Rows, KeysRise, is_bucket, is_block, is_same, put, gone, row_of, row_after, after_changes}
use Rattle.oz_rows.specs.laws.Same.{same_is_one}
use Rattle.oz_sound.specs.stripes.laws.Changes.{one_bucket}
use Rattle.oz_sound.specs.stripes.laws.Lists.{each_found}
use Rattle.oz_decision.specs.laws.SessionRows.{all_append}
use Rattle.oz_decision.specs.laws.Shown.{key_itself}
use Rattle.oz_decision.specs.laws.Versions.{one_block, block_itself}

some_apart : {A : Type 0} {a : A} → Some a ≡ None → ⊥
some_apart e = false≢true (sym (ap is_some e))

rows_join : (a c : List Change) (q : RowKey) (row : Option Row) → row_after (a ++ c) q row ≡ row_after c q (row_after a q row)
rows_join [] c q row = refl
rows_join (change ∷ a) c q row = rows_join a c q _

abbrev no_row : Option Row
no_row = None

none_either : (t : Bool) → cond t no_row no_row ≡ no_row
none_either true = refl
none_either false = refl

-- each block of a list is among its blocks
among_more : (first : Block) (blocks l : List Block) → AllByRecursion (λ (block : Block). list_any (is_block block) blocks ≡ true) l → AllByRecursion (λ (block : Block). list_any (is_block block) (first ∷ blocks) ≡ true) l
among_more first blocks [] among = tt
among_more first blocks (block ∷ l) among = (by (is_block block first), among_more first blocks l among.1)
  where
    by : (t : Bool) → t || list_any (is_block block) blocks ≡ true
    by true = refl
    by false = among.0

each_among : (blocks : List Block) → AllByRecursion (λ (block : Block). list_any (is_block block) blocks ≡ true) blocks
each_among [] = tt
each_among (block ∷ blocks) =
    (ap (λ (t : Bool). t || list_any (is_block block) blocks) (block_itself block), among_more block blocks blocks (each_among blocks))

kept : (P : Block → Type 0) (test : Block → Bool) (l : List Block) → AllByRecursion P l → AllByRecursion P (filter test l)
kept P test [] all = tt
kept P test (x ∷ l) all = by (test x) (kept P test l all.1)
  where
    by : (t : Bool) → AllByRecursion P (filter test l) → AllByRecursion P (cond t (x ∷ filter test l) (filter test l))
    by true later = (all.0, later)
    by false later = later

first_part : {A : Type 0} (P : A → Type 0) (a b : List A) → AllByRecursion P (a ++ b) → AllByRecursion P a
first_part P [] b all = tt
first_part P (x ∷ a) b all = (all.0, first_part P a b all.1)

second_part : {A : Type 0} (P : A → Type 0) (a b : List A) → AllByRecursion P (a ++ b) → AllByRecursion P b
second_part P [] b all = all
second_part P (x ∷ a) b all = second_part P a b all.1

module _ (v b : List ℕ) where
  bucket_itself : is_bucket v b v b ≡ true
  bucket_itself = key_itself (keys.Bucket v b)

  abbrev close : RowEntry → List Change
  close entry = closed v b entry.key

  -- an open row of the bucket
  abbrev is_session : RowKey → Bool
  is_session (keys.Open w c k m) = is_bucket v b w c
  is_session key = false

  none_closed : (key q : RowKey) → row_after (closed v b key) q no_row ≡ no_row
  none_closed (keys.Open w c k m) q = by (is_bucket v b w c)
    where
      by : (s : Bool) → row_after (cond s (gone (keys.Open v b k m) ∷ []) []) q no_row ≡ no_row
      by true = none_either (is_same (keys.Open v b k m) q)
      by false = refl
  none_closed key q = refl

  none_stays : (l : List RowEntry) (q : RowKey) → row_after (flat_map close l) q None ≡ None
  none_stays [] q = refl
  none_stays (entry ∷ l) q = rows_join (close entry) (flat_map close l) q None ∙ ap (row_after (flat_map close l) q) (none_closed entry.key q) ∙ none_stays l q

  -- a row of another key is as it was
  apart_closed : (key q : RowKey) (row : Option Row) → is_same key q ≡ false → row_after (closed v b key) q row ≡ row
  apart_closed (keys.Open w c k m) q row e = by (is_bucket v b w c) refl
    where
      by : (s : Bool) → is_bucket v b w c ≡ s → row_after (cond s (gone (keys.Open v b k m) ∷ []) []) q row ≡ row
      by true f =
          let same = one_bucket v b w c f in
          ap (λ (t : Bool). cond t None row) ((λ i. is_same (keys.Open (same.0 i) (same.1 i) k m) q) ∙ e)
      by false f = refl
  apart_closed key q row e = refl

  no_session : (key q : RowKey) (row : Option Row) → is_session q ≡ false → row_after (closed v b key) q row ≡ row
  no_session (keys.Open w c k m) q row e = by (is_bucket v b w c) (is_same (keys.Open v b k m) q) refl
    where
      by : (s t : Bool) → is_same (keys.Open v b k m) q ≡ t → row_after (cond s (gone (keys.Open v b k m) ∷ []) []) q row ≡ row
      by true true f = absurd (false≢true (sym e ∙ ap is_session (sym (same_is_one (keys.Open v b k m) q f)) ∙ bucket_itself))
      by true false f = ap (λ (t : Bool). cond t None row) f
      by false t f = refl
  no_session key q row e = refl

  others_stay : (l : List RowEntry) (q : RowKey) (row : Option Row) → is_session q ≡ false → row_after (flat_map close l) q row ≡ row
  others_stay [] q row e = refl
  others_stay (entry ∷ l) q row e = rows_join (close entry) (flat_map close l) q row ∙ ap (row_after (flat_map close l) q) (no_session entry.key q row e) ∙ others_stay l q row e

  session_goes : (l : List RowEntry) (k : List ℕ) (m : ℕ) → row_after (flat_map close l) (keys.Open v b k m) (row_of l (keys.Open v b k m)) ≡ None
  session_goes [] k m = refl
  session_goes (entry ∷ l) k m = rows_join (close entry) (flat_map close l) (keys.Open v b k m) (row_of (entry ∷ l) (keys.Open v b k m)) ∙ by_test (is_same entry.key (keys.Open v b k m)) refl (session_goes l k m)
    where
      gone_here : (row : Option Row) → row_after (closed v b (keys.Open v b k m)) (keys.Open v b k m) row ≡ None
      gone_here row = ap (λ (s : Bool). row_after (cond s (gone (keys.Open v b k m) ∷ []) []) (keys.Open v b k m) row) bucket_itself ∙ ap (λ (t : Bool). cond t None row) (key_itself (keys.Open v b k m))

      by_test : (t : Bool) → is_same entry.key (keys.Open v b k m) ≡ t → row_after (flat_map close l) (keys.Open v b k m) (row_of l (keys.Open v b k m)) ≡ None → row_after (flat_map close l) (keys.Open v b k m) (row_after (close entry) (keys.Open v b k m) (cond (is_same entry.key (keys.Open v b k m)) (Some entry.row) (row_of l (keys.Open v b k m)))) ≡ None
      by_test true e later =
          ap (λ key. row_after (flat_map close l) (keys.Open v b k m) (row_after (closed v b key) (keys.Open v b k m) (cond (is_same entry.key (keys.Open v b k m)) (Some entry.row) (row_of l (keys.Open v b k m))))) (same_is_one entry.key (keys.Open v b k m) e)
          ∙ ap (row_after (flat_map close l) (keys.Open v b k m)) (gone_here (cond (is_same entry.key (keys.Open v b k m)) (Some entry.row) (row_of l (keys.Open v b k m))))
          ∙ none_stays l (keys.Open v b k m)
      by_test false e later =
          ap (λ (t : Bool). row_after (flat_map close l) (keys.Open v b k m) (row_after (close entry) (keys.Open v b k m) (cond t (Some entry.row) (row_of l (keys.Open v b k m))))) e
          ∙ ap (row_after (flat_map close l) (keys.Open v b k m)) (apart_closed entry.key (keys.Open v b k m) (row_of l (keys.Open v b k m)) e)
          ∙ later

  module _ (entries : List RowEntry) (rise : KeysRise entries) where
    abbrev all : Rows
    all = row_of entries

    abbrev pub now : Rows
    now = after_changes (operation_changes entries (DropOpen v b)) all

    abbrev free : RowEntry → List Change
    free entry = freed entries v b entry.key entry.row

    abbrev closings : List Change
    closings = flat_map close entries

    abbrev freeings : List Change
    freeings = flat_map free entries

    -- the deleted row of a block of a session
    pub record IsFreed (change : Change) : Type 0 where
      pub key : List ℕ
      pub number : ℕ
      pub blocks : List Block
      pub block : Block
      pub session : all (keys.Open v b key number) ≡ Some (rows.Open blocks)
      pub has : list_any (is_block block) blocks ≡ true
      pub is : change ≡ put (keys.Deleted v b 0 key block.local) (rows.Deleted (block ∷ []))

    abbrev freed_row : List ℕ → Block → Change
    freed_row k block = put (keys.Deleted v b 0 k block.local) (rows.Deleted (block ∷ []))

    blocks_freed : (k : List ℕ) (m : ℕ) (blocks : List Block) → all (keys.Open v b k m) ≡ Some (rows.Open blocks) → (l : List Block) → AllByRecursion (λ (block : Block). list_any (is_block block) blocks ≡ true) l → AllByRecursion IsFreed (map (freed_row k) l)
    blocks_freed k m blocks session [] among = tt
    blocks_freed k m blocks session (block ∷ l) among =
        (record { key = k; number = m; blocks = blocks; block = block; session = session; has = among.0; is = refl }, blocks_freed k m blocks session l among.1)

    abbrev test : Block → Bool
    test block = not (is_in_a_key entries block)

    row_freed : (key : RowKey) (row : Row) → all key ≡ Some row → AllByRecursion IsFreed (freed entries v b key row)
    row_freed (keys.Open w c k m) (rows.Open blocks) e = by (is_bucket v b w c) refl
      where
        by : (s : Bool) → is_bucket v b w c ≡ s → AllByRecursion IsFreed (cond s (map (freed_row k) (filter test blocks)) [])
        by true f =
            let same = one_bucket v b w c f in
            let session : all (keys.Open v b k m) ≡ Some (rows.Open blocks) = (λ i. all (keys.Open (same.0 i) (same.1 i) k m)) ∙ e in
            blocks_freed k m blocks session (filter test blocks) (kept (λ (block : Block). list_any (is_block block) blocks ≡ true) test blocks (each_among blocks))
        by false f = tt
    row_freed key row e = tt

    all_freed : (l : List RowEntry) → AllByRecursion (λ (x : RowEntry). all x.key ≡ Some x.row) l → AllByRecursion IsFreed (flat_map free l)
    all_freed [] found = tt
    all_freed (x ∷ l) found = all_append IsFreed (free x) (flat_map free l) (row_freed x.key x.row found.0) (all_freed l found.1)

    abbrev Apart : RowKey → List Change → Type 0
    Apart q changes = AllByRecursion (λ (change : Change). is_same change.key q ≡ false) changes

    -- the row of a key is that of one of these changes
    pub record IsOneOf (q : RowKey) (row : Option Row) : Type 0 where
      pub change : Change
      pub freed : IsFreed change
      pub same : change.key ≡ q
      pub row_is : row ≡ change.row

    after_freeings : (changes : List Change) → AllByRecursion IsFreed changes → (q : RowKey) (row : Option Row) → (Apart q changes × (row_after changes q row ≡ row)) ⊎ IsOneOf q (row_after changes q row)
    after_freeings [] each q row = inl (tt, refl)
    after_freeings (change ∷ changes) each q row = elim (after_freeings changes each.1 q (cond (is_same change.key q) change.row row)) [
      | inr one ↦ inr one
      | inl same ↦ by_test (is_same change.key q) refl same
    ]
      where
        by_test : (t : Bool) → is_same change.key q ≡ t → Apart q changes × (row_after changes q (cond (is_same change.key q) change.row row) ≡ cond (is_same change.key q) change.row row)
            → (Apart q (change ∷ changes) × (row_after (change ∷ changes) q row ≡ row)) ⊎ IsOneOf q (row_after (change ∷ changes) q row)
        by_test true e same = inr (record { change = change; freed = each.0; same = same_is_one change.key q e; row_is = same.1 ∙ ap (λ (t : Bool). cond t change.row row) e })
        by_test false e same = inl ((e, same.0), same.1 ∙ ap (λ (t : Bool). cond t change.row row) e)

    -- what a row is now
    pub data Now (q : RowKey) : Type 0 where
      is_gone : (k : List ℕ) (m : ℕ) → q ≡ keys.Open v b k m → now q ≡ None → Now q
      is_freed : IsOneOf q (now q) → Now q
      is_same_row : now q ≡ all q → Now q

    abbrev Then : RowKey → Type 0
    Then q = (Apart q freeings × (now q ≡ row_after closings q (all q))) ⊎ IsOneOf q (now q)

    in_turn : (q : RowKey) → Then q
    in_turn q = subst (λ (row : Option Row). (Apart q freeings × (row ≡ row_after closings q (all q))) ⊎ IsOneOf q row) (sym (rows_join closings freeings q (all q))) (after_freeings freeings (all_freed entries (each_found entries rise)) q (row_after closings q (all q)))

    session_now : (w c k : List ℕ) (m : ℕ) → Then (keys.Open w c k m) → Now (keys.Open w c k m)
    session_now w c k m (inr one) = is_freed one
    session_now w c k m (inl stays) = by (is_bucket v b w c) refl
      where
        by : (s : Bool) → is_bucket v b w c ≡ s → Now (keys.Open w c k m)
        by true e =
            let same = one_bucket v b w c e in
            is_gone k m (λ i. keys.Open (sym same.0 i) (sym same.1 i) k m) (stays.1 ∙ (λ i. row_after closings (keys.Open (sym same.0 i) (sym same.1 i) k m) (all (keys.Open (sym same.0 i) (sym same.1 i) k m))) ∙ session_goes entries k m)
        by false e = is_same_row (stays.1 ∙ others_stay entries (keys.Open w c k m) (all (keys.Open w c k m)) e)

    other_now : (q : RowKey) → is_session q ≡ false → Then q → Now q
    other_now q e (inr one) = is_freed one
    other_now q e (inl stays) = is_same_row (stays.1 ∙ others_stay entries q (all q) e)

    pub row_now : (q : RowKey) → Now q
    row_now (keys.Open w c k m) = session_now w c k m (in_turn (keys.Open w c k m))
    row_now (keys.Volume w) = other_now (keys.Volume w) refl (in_turn (keys.Volume w))
    row_now (keys.Bucket w c) = other_now (keys.Bucket w c) refl (in_turn (keys.Bucket w c))
    row_now (keys.Key w c k) = other_now (keys.Key w c k) refl (in_turn (keys.Key w c k))
    row_now (keys.Deleted w c o k l) = other_now (keys.Deleted w c o k l) refl (in_turn (keys.Deleted w c o k l))
    row_now (keys.Snapshot w c n) = other_now (keys.Snapshot w c n) refl (in_turn (keys.Snapshot w c n))
    row_now (keys.SnapshotKey w c n k) = other_now (keys.SnapshotKey w c n k) refl (in_turn (keys.SnapshotKey w c n k))
    row_now (keys.Renamed w c o l) = other_now (keys.Renamed w c o l) refl (in_turn (keys.Renamed w c o l))
    row_now (keys.Stripe s) = other_now (keys.Stripe s) refl (in_turn (keys.Stripe s))

    pub session_gone : (k : List ℕ) (m : ℕ) → now (keys.Open v b k m) ≡ None
    session_gone k m = elim (in_turn (keys.Open v b k m)) [
      | inr one ↦ absurd (let place : keys.Deleted v b 0 one.freed.key one.freed.block.local ≡ keys.Open v b k m = sym (ap (λ (change : Change). change.key) one.freed.is) ∙ one.same in cc)
      | inl stays ↦ stays.1 ∙ session_goes entries k m
    ]

    -- a block of a session that stands in no key gets its row
    among_freed : (k : List ℕ) (block : Block) → test block ≡ true → (blocks : List Block) → list_any (is_block block) blocks ≡ true → Apart (keys.Deleted v b 0 k block.local) (map (freed_row k) (filter test blocks)) → ⊥
    among_freed k block free [] has apart = false≢true has
    among_freed k block free (x ∷ blocks) has apart = by_block (is_block block x) refl (among_freed k block free blocks) has
      where
        later : (t : Bool) → (Apart (keys.Deleted v b 0 k block.local) (map (freed_row k) (filter test blocks)) → ⊥) → Apart (keys.Deleted v b 0 k block.local) (map (freed_row k) (cond t (x ∷ filter test blocks) (filter test blocks))) → ⊥
        later true rest apart = rest apart.1
        later false rest apart = rest apart

        by_block : (t : Bool) → is_block block x ≡ t → (list_any (is_block block) blocks ≡ true → Apart (keys.Deleted v b 0 k block.local) (map (freed_row k) (filter test blocks)) → ⊥) → t || list_any (is_block block) blocks ≡ true → ⊥
        by_block true e rest has =
            let same = one_block block x e in
            let passes : test x ≡ true = ap test (sym same) ∙ free in
            let here = subst (λ (t : Bool). Apart (keys.Deleted v b 0 k block.local) (map (freed_row k) (cond t (x ∷ filter test blocks) (filter test blocks)))) passes apart in
            false≢true (sym here.0 ∙ (λ i. is_same (keys.Deleted v b 0 k (sym same i).local) (keys.Deleted v b 0 k block.local)) ∙ key_itself (keys.Deleted v b 0 k block.local))
        by_block false e rest has = later (test x) (rest has) apart

    not_apart : (k : List ℕ) (m : ℕ) (blocks : List Block) (block : Block) → test block ≡ true → list_any (is_block block) blocks ≡ true → (l : List RowEntry) → row_of l (keys.Open v b k m) ≡ Some (rows.Open blocks) → Apart (keys.Deleted v b 0 k block.local) (flat_map free l) → ⊥
    not_apart k m blocks block passes has [] e apart = some_apart (sym e)
    not_apart k m blocks block passes has (x ∷ l) e apart = by_test (is_same x.key (keys.Open v b k m)) refl e (not_apart k m blocks block passes has l)
      where
        by_test : (t : Bool) → is_same x.key (keys.Open v b k m) ≡ t → cond t (Some x.row) (row_of l (keys.Open v b k m)) ≡ Some (rows.Open blocks) → (row_of l (keys.Open v b k m) ≡ Some (rows.Open blocks) → Apart (keys.Deleted v b 0 k block.local) (flat_map free l) → ⊥) → ⊥
        by_test true f e later =
            let here = first_part (λ (change : Change). is_same change.key (keys.Deleted v b 0 k block.local) ≡ false) (free x) (flat_map free l) apart in
            let row = same_Some x.row (rows.Open blocks) e in
            let there = subst (Apart (keys.Deleted v b 0 k block.local)) (λ i. freed entries v b (same_is_one x.key (keys.Open v b k m) f i) (row i)) here in
            among_freed k block passes blocks has (subst (λ (s : Bool). Apart (keys.Deleted v b 0 k block.local) (cond s (map (freed_row k) (filter test blocks)) [])) bucket_itself there)
        by_test false f e later = later e (second_part (λ (change : Change). is_same change.key (keys.Deleted v b 0 k block.local) ≡ false) (free x) (flat_map free l) apart)

    pub block_freed : (k : List ℕ) (m : ℕ) (blocks : List Block) (block : Block) → all (keys.Open v b k m) ≡ Some (rows.Open blocks) → list_any (is_block block) blocks ≡ true → is_in_a_key entries block ≡ false → IsOneOf (keys.Deleted v b 0 k block.local) (now (keys.Deleted v b 0 k block.local))
    block_freed k m blocks block session has nowhere = elim (in_turn (keys.Deleted v b 0 k block.local)) [
      | inr one ↦ one
      | inl stays ↦ absurd (not_apart k m blocks block (ap not nowhere) has entries session stays.0)
    ]

    -- where the bucket has no session nothing changes
    module _ (none : (k : List ℕ) (m : ℕ) (row : Row) → all (keys.Open v b k m) ≡ Some row → ⊥) where
      none_to_close : (key : RowKey) (row : Row) → all key ≡ Some row → closed v b key ≡ []
      none_to_close (keys.Open w c k m) row e = by (is_bucket v b w c) refl
        where
          by : (s : Bool) → is_bucket v b w c ≡ s → cond s (gone (keys.Open v b k m) ∷ []) [] ≡ []
          by true f = let same = one_bucket v b w c f in absurd (none k m row ((λ i. all (keys.Open (same.0 i) (same.1 i) k m)) ∙ e))
          by false f = refl
      none_to_close key row e = refl

      none_to_free : (key : RowKey) (row : Row) → all key ≡ Some row → freed entries v b key row ≡ []
      none_to_free (keys.Open w c k m) (rows.Open blocks) e = by (is_bucket v b w c) refl
        where
          by : (s : Bool) → is_bucket v b w c ≡ s → cond s (map (freed_row k) (filter test blocks)) [] ≡ []
          by true f = let same = one_bucket v b w c f in absurd (none k m (rows.Open blocks) ((λ i. all (keys.Open (same.0 i) (same.1 i) k m)) ∙ e))
          by false f = refl
      none_to_free key row e = refl

      none_of : (f : RowEntry → List Change) → ((x : RowEntry) → all x.key ≡ Some x.row → f x ≡ []) → (l : List RowEntry) → AllByRecursion (λ (x : RowEntry). all x.key ≡ Some x.row) l → flat_map f l ≡ []
      none_of f empty [] found = refl
      none_of f empty (x ∷ l) found = ap (λ (changes : List Change). changes ++ flat_map f l) (empty x found.0) ∙ none_of f empty l found.1

      pub nothing_changes : operation_changes entries (DropOpen v b) ≡ []
      nothing_changes =
          ap (λ (changes : List Change). changes ++ freeings) (none_of close (λ x e. none_to_close x.key x.row e) entries (each_found entries rise))
          ∙ none_of free (λ x e. none_to_free x.key x.row e) entries (each_found entries rise)

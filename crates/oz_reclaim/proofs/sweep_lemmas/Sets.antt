-- Sets of buckets that go, and sets that stay right.
use Rattle.std.proofs.Common.{◌≡◌, ◌↔◌, ◌⊎◌, inl, inr, ⊎_elim, ℕ, Bool, true, false, ◌||◌, List, [], ◌∷◌, ◌++◌, Option, None, Some, IfSome, cond, refl, sym, ◌∙◌, ap, subst}
use mathlib.Core.Bool.{false≢true}
use Rattle.std.specs.BTreeSet.{BTreeSet}
use Rattle.oz_effects.specs.changes.Steps.{holds}
use Rattle.oz_fields.specs.declared.block.Block.{Block}
use Rattle.oz_reclaim.specs.declared.sweep.notes.Note.{Note}
use Rattle.oz_reclaim.specs.sweep.Filing.{Forgets, ForgetsOf, Loses}
use Rattle.oz_reclaim.specs.sweep.Kept.{AreKept, AreRight, AreRightBut, IsKept, Sets, set_of}
use Rattle.oz_reclaim.specs.sweep.Notes.{is_snapshot_of}
use Rattle.oz_reclaim.proofs.Between.{is_that_bucket, same_bucket}
use Rattle.oz_reclaim.proofs.sweep_lemmas.Notes.{touches_more}
use Rattle.oz_rows.specs.declared.key.RowKey.{RowKey}
use Rattle.oz_rows.specs.declared.key.RowKey.TheVariants as keys
use Rattle.oz_rows.specs.Order.{key_order}
use Rattle.oz_rows.specs.RowMaps.{Rows, is_bucket, is_same}
use Rattle.oz_sorted.specs.Sorted.{value_of}

-- two buckets are the same or not whichever is named first
apart : (v b w c : List ℕ) → is_bucket w c v b ≡ false → is_bucket v b w c ≡ false
apart v b w c e = by (is_bucket v b w c) refl
  where
    by : (t : Bool) → is_bucket v b w c ≡ t → is_bucket v b w c ≡ false
    by false f = f
    by true f =
        let same = same_bucket v b w c f in
        absurd (false≢true (sym e ∙ is_that_bucket w c v b (sym same.volume) (sym same.bucket)))

-- the set of one bucket goes
pub gone_of : (old new : Sets) (key : RowKey) (w c : List ℕ) (n : ℕ) → key ≡ keys.Bucket w c
    → ((other : RowKey) → value_of key_order new other ≡ cond (is_same key other) None (value_of key_order old other))
    → ForgetsOf (keys.Snapshot w c n) old new
gone_of old new key w c n is values = λ v b. by v b (is_bucket w c v b) refl
  where
    told : (v b : List ℕ) → set_of new v b ≡ cond (is_bucket w c v b) None (set_of old v b)
    told v b = values (keys.Bucket v b) ∙ ap (λ (k : RowKey). cond (is_same k (keys.Bucket v b)) None (set_of old v b)) is

    by : (v b : List ℕ) (t : Bool) → is_bucket w c v b ≡ t → (set_of new v b ≡ None) ⊎ ((set_of new v b ≡ set_of old v b) × (is_bucket v b w c ≡ false))
    by v b true e = inl (told v b ∙ ap (λ (t : Bool). cond t None (set_of old v b)) e)
    by v b false e = inr (told v b ∙ ap (λ (t : Bool). cond t None (set_of old v b)) e, apart v b w c e)

pub forgotten_is_lost : (key : RowKey) (old new : Sets) → ForgetsOf key old new → Loses old new
forgotten_is_lost key old new forgets = λ v b. ⊎_elim inl (λ same. inr same.0) (forgets v b)

pub all_lost : (notes : List Note) (old new : Sets) → Forgets notes old new → Loses old new
all_lost notes old new forgets = λ v b. ⊎_elim inl (λ same. inr same.0) (forgets v b)

pub lost_more : (a b c : Sets) → Loses a b → Loses b c → Loses a c
lost_more a b c first second = λ v w. ⊎_elim inl (λ same. ⊎_elim (λ none. inl (same ∙ none)) (λ before. inr (same ∙ before)) (first v w)) (second v w)

pub forgets_more : (notes : List Note) (note : Note) (a b c : Sets) → Forgets notes a b → ForgetsOf note.key b c → Forgets (notes ++ note ∷ []) a c
forgets_more notes note a b c first second = λ v w.
    ⊎_elim inl
    (λ same. ⊎_elim
    (λ none. inl (same.0 ∙ none))
    (λ before. inr (same.0 ∙ before.0, touches_more notes note v w ∙ ap (λ (t : Bool). t || is_snapshot_of v w note.key) before.1 ∙ same.1))
    (first v w))
    (second v w)

-- no set is wrong that isn't there
absent : (all : Rows) (v b : List ℕ) (o : Option (BTreeSet Block)) → o ≡ None → IfSome o (AreKept all v b)
absent all v b o e = subst (λ (o : Option (BTreeSet Block)). IfSome o (AreKept all v b)) (sym e) tt

-- where all go that may be wrong, the others are right
pub rest_is_right : (notes : List Note) (all : Rows) (old new : Sets) → AreRightBut notes all old → Forgets notes old new → AreRight all new
rest_is_right notes all old new right forgets = λ v b. ⊎_elim
    (absent all v b (set_of new v b))
    (λ same. subst (λ (o : Option (BTreeSet Block)). IfSome o (AreKept all v b)) (sym same.0) (right v b same.1))
    (forgets v b)

-- sets that go take no wrong ones in
pub lost_is_right : (notes : List Note) (all : Rows) (old new : Sets) → AreRightBut notes all old → Loses old new → AreRightBut notes all new
lost_is_right notes all old new right loses = λ v b untouched. ⊎_elim
    (absent all v b (set_of new v b))
    (λ same. subst (λ (o : Option (BTreeSet Block)). IfSome o (AreKept all v b)) (sym same) (right v b untouched))
    (loses v b)

-- a set that comes is right, and so are the others
pub one_more_set : (all : Rows) (old new : Sets) (key : RowKey) (w c : List ℕ) (set : BTreeSet Block) → key ≡ keys.Bucket w c → AreKept all w c set
    → ((other : RowKey) → value_of key_order new other ≡ cond (is_same key other) (Some set) (value_of key_order old other))
    → AreRight all old → AreRight all new
one_more_set all old new key w c set is kept values right = λ v b. by v b (is_bucket w c v b) refl
  where
    told : (v b : List ℕ) → set_of new v b ≡ cond (is_bucket w c v b) (Some set) (set_of old v b)
    told v b = values (keys.Bucket v b) ∙ ap (λ (k : RowKey). cond (is_same k (keys.Bucket v b)) (Some set) (set_of old v b)) is

    by : (v b : List ℕ) (t : Bool) → is_bucket w c v b ≡ t → IfSome (set_of new v b) (AreKept all v b)
    by v b true e =
        let same = same_bucket w c v b e in
        let here = subst (λ (x : List ℕ). AreKept all x b set) same.volume (subst (λ (y : List ℕ). AreKept all w y set) same.bucket kept) in
        subst (λ (o : Option (BTreeSet Block)). IfSome o (AreKept all v b)) (sym (told v b ∙ ap (λ (t : Bool). cond t (Some set) (set_of old v b)) e)) here
    by v b false e = subst (λ (o : Option (BTreeSet Block)). IfSome o (AreKept all v b)) (sym (told v b ∙ ap (λ (t : Bool). cond t (Some set) (set_of old v b)) e)) (right v b)

-- a set that is right tells of each block whether it is kept
pub held_is : (all : Rows) (sets : Sets) (v b : List ℕ) (key : RowKey) (set : BTreeSet Block) (block : Block) (t : Bool) → key ≡ keys.Bucket v b → Some set ≡ value_of key_order sets key
    → t ≡ holds set block → AreRight all sets → (t ≡ true) ↔ IsKept all v b block
held_is all sets v b key set block t is there told right =
    let at : set_of sets v b ≡ Some set = ap (value_of key_order sets) (sym is) ∙ sym there in
    let kept = subst (λ (o : Option (BTreeSet Block)). IfSome o (AreKept all v b)) at (right v b) in
    (λ e. (kept block).0 (sym told ∙ e), λ it. told ∙ (kept block).1 it)

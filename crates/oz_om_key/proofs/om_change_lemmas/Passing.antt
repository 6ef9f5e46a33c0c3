-- Snapshots that are left out tell nothing of the blocks of a key.
use Rattle.std.proofs.Common.{◌≡◌, inl, inr, ℕ, zero, suc, ◌+◌, ◌-◌, ◌<◌, ◌≤◌, ◌==◌, ◌&&◌, ◌||◌, not, nat_le, nat_lt, Bool, true, false, List, [], ◌∷◌, ◌++◌, length, take, drop, drop-cons, max, min, get_or, append-nil, append_assoc, Option, None, Some, IsSome, is_some, cond, refl, sym, ◌∙◌, ap, subst, arith}
use mathlib.Core.Bool.{false≢true}
use Rattle.std.proofs.lemmas.Bool.Decides.{nat_tests}
use Rattle.std.proofs.lemmas.List.{drop_all, map-append, take-append-drop, take_more}
use Rattle.std.specs.Bool.{OnFalse}
use Rattle.std.specs.Cmp.Lexicographic.{slice_cmp}
use Rattle.std.specs.List.{AllByRecursion}
use Rattle.std.specs.Ordering.{nat_cmp, is_eq, ordering_then}
use Rattle.std.specs.declared.cmp.Ordering.{Ordering}
use Rattle.std.specs.declared.cmp.Ordering.TheVariants.{Less, Equal, Greater}
use Rattle.oz_decision.specs.Walking.{is_live}
use Rattle.oz_fields.specs.declared.block.Block.{Block}
use Rattle.oz_fields.specs.declared.block.Piece.{Piece}
use Rattle.oz_model.specs.Buckets.{is_same_name}
use Rattle.oz_model.specs.Reach.{blocks_of}
use Rattle.oz_om_key.specs.declared.om_change.passing.Span.{Span}
use Rattle.oz_om_key.specs.om_change.Noting.{is_wanted, note, noted}
use Rattle.oz_om_key.specs.om_change.Passing.{HasNoneRenamed, IsHeldAlike, IsInSpan, IsLiveIn, has_its_name, is_within}
use Rattle.oz_om_key.proofs.om_change_lemmas.Noted.{begins}
use Rattle.oz_om_key.proofs.om_change_lemmas.Passed.{found_below}
use Rattle.oz_om_key.proofs.om_change_lemmas.Walked.{below_numbers, both_tied, itself, numbers_below, not_less, squeeze, tied}
use Rattle.oz_reclaim.specs.Held.{has_there, is_held, name_carried, name_or}
use Rattle.oz_rows.specs.declared.key.RowKey.{RowKey}
use Rattle.oz_rows.specs.declared.key.RowKey.TheVariants as keys
use Rattle.oz_rows.specs.declared.operation.Change.{Change}
use Rattle.oz_rows.specs.declared.row.Row.{Row}
use Rattle.oz_rows.specs.Order.{key_order}
use Rattle.oz_rows.specs.Rows.{kind_of}
use Rattle.oz_rows.specs.RowMaps.{Rows, HasNoNext, IsAbove, IsBelow, IsNext}
use Rattle.oz_rows.specs.laws.Order.{above_below}
use Rattle.oz_rows.specs.laws.Same.{same_is_one}

-- ---- what is kept of the numbers

-- the first so many, and of the others those whose snapshot has a row of the key's name
abbrev pub kept_of : Rows → List ℕ → List ℕ → List ℕ → ℕ → List ℕ → List ℕ
kept_of all v b k below [] = []
kept_of all v b k zero (number ∷ numbers) = cond (has_its_name all v b k number) (number ∷ kept_of all v b k zero numbers) (kept_of all v b k zero numbers)
kept_of all v b k (suc below) (number ∷ numbers) = number ∷ kept_of all v b k below numbers

module _ (all : Rows) (v b k : List ℕ) (block : Block) where
  abbrev IsUnnamed : ℕ → Type 0
  IsUnnamed number = all (keys.Renamed v b number block.local) ≡ None

  -- a pass over these carries the same name as one over those, and finds the same
  record TellsAlike (few many : List ℕ) : Type 0 where
    held : is_held all v b block k few ≡ is_held all v b block k many
    carried : name_carried all v b block.local k few ≡ name_carried all v b block.local k many

  both : (number : ℕ) (few many : List ℕ) → TellsAlike few many → TellsAlike (number ∷ few) (number ∷ many)
  both number few many alike = record {
    held = ap (λ (t : Bool). t || (is_live (all (keys.Snapshot v b number)) && has_there block (all (keys.SnapshotKey v b number (name_carried all v b block.local k few))))) alike.held
        ∙ ap (λ (name : List ℕ). is_held all v b block k many || (is_live (all (keys.Snapshot v b number)) && has_there block (all (keys.SnapshotKey v b number name)))) alike.carried;
    carried = ap (name_or (all (keys.Renamed v b number block.local))) alike.carried;
  }

  module _ (none : all (keys.Renamed v b 0 block.local) ≡ None) where
    its_own : (numbers : List ℕ) → AllByRecursion IsUnnamed numbers → name_carried all v b block.local k numbers ≡ k
    its_own [] unnamed = ap (λ o. name_or o k) none
    its_own (number ∷ numbers) unnamed = ap (λ o. name_or o (name_carried all v b block.local k numbers)) unnamed.0 ∙ its_own numbers unnamed.1

    nothing_there : (t l : Bool) (o : Option Row) → is_some o ≡ false → t ≡ t || (l && has_there block o)
    nothing_there true l o e = refl
    nothing_there false true None e = refl
    nothing_there false true (Some row) e = absurd (false≢true (sym e))
    nothing_there false false o e = refl

    left_out : (numbers : List ℕ) → AllByRecursion IsUnnamed numbers → TellsAlike (kept_of all v b k zero numbers) numbers
    left_out [] unnamed = record { held = refl; carried = refl }
    left_out (number ∷ numbers) unnamed = by (has_its_name all v b k number) refl (left_out numbers unnamed.1)
      where
        by : (t : Bool) → has_its_name all v b k number ≡ t → TellsAlike (kept_of all v b k zero numbers) numbers
            → TellsAlike (cond t (number ∷ kept_of all v b k zero numbers) (kept_of all v b k zero numbers)) (number ∷ numbers)
        by true e alike = both number (kept_of all v b k zero numbers) numbers alike
        by false e alike = record {
          held = alike.held ∙ nothing_there (is_held all v b block k numbers) (is_live (all (keys.Snapshot v b number))) (all (keys.SnapshotKey v b number (name_carried all v b block.local k numbers)))
              (ap (λ (name : List ℕ). is_some (all (keys.SnapshotKey v b number name))) (its_own numbers unnamed.1) ∙ e);
          carried = alike.carried ∙ sym (ap (λ o. name_or o (name_carried all v b block.local k numbers)) unnamed.0);
        }

    kept_tells : (below : ℕ) (numbers : List ℕ) → AllByRecursion IsUnnamed (drop below numbers) → TellsAlike (kept_of all v b k below numbers) numbers
    kept_tells below [] unnamed = record { held = refl; carried = refl }
    kept_tells zero (number ∷ numbers) unnamed = left_out (number ∷ numbers) unnamed
    kept_tells (suc below) (number ∷ numbers) unnamed = both number (kept_of all v b k below numbers) numbers (kept_tells below numbers unnamed)

module _ (all : Rows) (v b k : List ℕ) (span : Span) where
  unnamed_all : (block : Block) → IsInSpan span block → (numbers : List ℕ) → AllByRecursion (HasNoneRenamed all v b span) numbers → AllByRecursion (IsUnnamed all v b k block) numbers
  unnamed_all block within [] none = tt
  unnamed_all block within (number ∷ numbers) none = (none.0 block.local within.least within.greatest, unnamed_all block within numbers none.1)

  -- the blocks in the span are told alike
  pub all_alike : (below : ℕ) (numbers : List ℕ) → AllByRecursion (HasNoneRenamed all v b span) (drop below numbers)
      → (blocks : List Block) → AllByRecursion (IsInSpan span) blocks
      → AllByRecursion (IsHeldAlike all v b k numbers (kept_of all v b k below numbers)) blocks
  all_alike below numbers none [] within = tt
  all_alike below numbers none (block ∷ blocks) within = (
    λ own. let alike = kept_tells all v b k block own below numbers (unnamed_all block within.0 (drop below numbers) none) in alike.held,
    all_alike below numbers none blocks within.1,
  )

-- ---- the newest snapshot alone

module _ (all : Rows) (v b k : List ℕ) (block : Block) (none : all (keys.Renamed v b 0 block.local) ≡ None) where
  -- a live snapshot that is the last of them has the block under the key's name
  held_last : (number : ℕ) → IsLiveIn all v b k number block → is_held all v b block k (number ∷ []) ≡ true
  held_last number it =
      ap (λ (name : List ℕ). is_live (all (keys.Snapshot v b number)) && has_there block (all (keys.SnapshotKey v b number name))) (ap (λ o. name_or o k) none) ∙ it

  held_whole : (front : List ℕ) (number : ℕ) → IsLiveIn all v b k number block → is_held all v b block k (front ++ number ∷ []) ≡ true
  held_whole [] number it = held_last number it
  held_whole (first ∷ front) number it = found_below all v b k block first (front ++ number ∷ []) (held_whole front number it)

pub last_alike : (all : Rows) (v b k front numbers : List ℕ) (number : ℕ) → numbers ≡ front ++ number ∷ []
    → (blocks : List Block) → AllByRecursion (IsLiveIn all v b k number) blocks → AllByRecursion (IsHeldAlike all v b k numbers (number ∷ [])) blocks
last_alike all v b k front numbers number are [] live = tt
last_alike all v b k front numbers number are (block ∷ blocks) live = (
  λ own. held_last all v b k block own number live.0
      ∙ sym (ap (λ (l : List ℕ). is_held all v b block k l) are ∙ held_whole all v b k block own front number live.0),
  last_alike all v b k front numbers number are blocks live.1,
)

-- a list is what is before its last, and its last
pub last_of : (numbers : List ℕ) (n : ℕ) → n < length numbers → length numbers ≤ suc n → numbers ≡ take n numbers ++ get_or numbers n 0 ∷ []
last_of numbers n lt le =
    sym (take-append-drop n numbers) ∙ ap (λ (l : List ℕ). take n numbers ++ l) (drop-cons numbers n 0 lt ∙ ap (λ (l : List ℕ). get_or numbers n 0 ∷ l) (drop_all (suc n) numbers le))

pub both_so : (s t : Bool) → s ≡ true → t ≡ true → s && t ≡ true
both_so s t e f = ap (λ (u : Bool). u && t) e ∙ f

-- ---- one number after another

module _ (all : Rows) (v b k : List ℕ) where
  -- whether a number is kept at its place
  pub kept_on : (below i number : ℕ) (numbers : List ℕ) (t : Bool) → t ≡ nat_lt i below || has_its_name all v b k number
      → kept_of all v b k (below - i) (number ∷ numbers) ≡ cond t (number ∷ kept_of all v b k (below - (i + 1)) numbers) (kept_of all v b k (below - (i + 1)) numbers)
  kept_on below i number numbers t e = by (nat_lt i below) refl
    where
      two : (n m : ℕ) (l : List ℕ) → n ≡ m → kept_of all v b k n l ≡ kept_of all v b k m l
      two n m l same = ap (λ n. kept_of all v b k n l) same

      by : (s : Bool) → nat_lt i below ≡ s → kept_of all v b k (below - i) (number ∷ numbers) ≡ cond t (number ∷ kept_of all v b k (below - (i + 1)) numbers) (kept_of all v b k (below - (i + 1)) numbers)
      by true f =
          two (below - i) (suc (below - (i + 1))) (number ∷ numbers) (grind (arith, nat_tests, f))
          ∙ ap (λ (t : Bool). cond t (number ∷ kept_of all v b k (below - (i + 1)) numbers) (kept_of all v b k (below - (i + 1)) numbers)) (sym (e ∙ ap (λ (s : Bool). s || has_its_name all v b k number) f))
      by false f =
          two (below - i) 0 (number ∷ numbers) (grind (arith, nat_tests, f))
          ∙ ap (λ (n : ℕ). cond (has_its_name all v b k number) (number ∷ kept_of all v b k n numbers) (kept_of all v b k n numbers)) (grind (arith, nat_tests, f))
          ∙ ap (λ (t : Bool). cond t (number ∷ kept_of all v b k (below - (i + 1)) numbers) (kept_of all v b k (below - (i + 1)) numbers)) (sym (e ∙ ap (λ (s : Bool). s || has_its_name all v b k number) f))

  -- what is kept so far and what will be, a number further on
  pub next_kept : (below i : ℕ) (numbers kept more whole : List ℕ) → i < length numbers → (t : Bool) → t ≡ nat_lt i below || has_its_name all v b k (get_or numbers i 0)
      → more ≡ cond t (kept ++ get_or numbers i 0 ∷ []) kept
      → kept ++ kept_of all v b k (below - i) (drop i numbers) ≡ whole → more ++ kept_of all v b k (below - (i + 1)) (drop (i + 1) numbers) ≡ whole
  next_kept below i numbers kept more whole lt t e is so_far =
      ap (λ (l : List ℕ). l ++ rest) is ∙ by t ∙ ap (λ (l : List ℕ). kept ++ l) (sym (kept_on below i number (drop (i + 1) numbers) t e)) ∙ ap (λ (l : List ℕ). kept ++ kept_of all v b k (below - i) l) (sym at) ∙ so_far
    where
      number : ℕ
      number = get_or numbers i 0

      rest : List ℕ
      rest = kept_of all v b k (below - (i + 1)) (drop (i + 1) numbers)

      at : drop i numbers ≡ number ∷ drop (i + 1) numbers
      at = let next : suc i ≡ i + 1 = omega arith in drop-cons numbers i 0 lt ∙ ap (λ n. get_or numbers i 0 ∷ drop n numbers) next

      by : (t : Bool) → cond t (kept ++ number ∷ []) kept ++ rest ≡ kept ++ cond t (number ∷ rest) rest
      by true = append_assoc kept (number ∷ []) rest
      by false = refl

  pub in_the_end : (below i : ℕ) (numbers kept whole : List ℕ) → length numbers ≤ i → kept ++ kept_of all v b k (below - i) (drop i numbers) ≡ whole → kept ≡ whole
  in_the_end below i numbers kept whole le so_far = sym (append-nil kept) ∙ ap (λ (l : List ℕ). kept ++ kept_of all v b k (below - i) l) (sym (drop_all i numbers le)) ∙ so_far

-- ---- the span of blocks

module _ (one other : Span) (least : other.least ≤ one.least) (greatest : one.greatest ≤ other.greatest) where
  wider : (blocks : List Block) → AllByRecursion (IsInSpan one) blocks → AllByRecursion (IsInSpan other) blocks
  wider [] within = tt
  wider (block ∷ blocks) within = (
    record {
      least = let le = within.0.least in omega (arith, least, le);
      greatest = let le = within.0.greatest in omega (arith, greatest, le);
    },
    wider blocks within.1,
  )

  pub one_wider : (blocks : List Block) (block : Block) → IsInSpan other block → AllByRecursion (IsInSpan one) blocks → AllByRecursion (IsInSpan other) (blocks ++ block ∷ [])
  one_wider [] block its within = (its, tt)
  one_wider (first ∷ blocks) block its within = (
    record {
      least = let le = within.0.least in omega (arith, least, le);
      greatest = let le = within.0.greatest in omega (arith, greatest, le);
    },
    one_wider blocks block its within.1,
  )

-- a block more, and the span that has it too
pub span_on : (span : Span) (block : Block) (least greatest : ℕ) → least ≡ min span.least block.local → greatest ≡ max span.greatest block.local
    → (blocks : List Block) → AllByRecursion (IsInSpan span) blocks → AllByRecursion (IsInSpan (record { least = least; greatest = greatest })) (blocks ++ block ∷ [])
span_on span block least greatest low high blocks within =
    one_wider span (record { least = least; greatest = greatest }) (omega (arith, low)) (omega (arith, high)) blocks block
    (record { least = omega (arith, low); greatest = omega (arith, high) }) within

pub blocks_more : (pieces : List Piece) (i : ℕ) (d : Piece) → i < length pieces → blocks_of (take (i + 1) pieces) ≡ blocks_of (take i pieces) ++ (get_or pieces i d).block ∷ []
blocks_more pieces i d lt = ap blocks_of (take_more pieces i d lt) ∙ map-append (λ (piece : Piece). piece.block) (take i pieces) (get_or pieces i d ∷ [])

pub on_false : (t : Bool) (P : Type 0) → (t ≡ false → P) → OnFalse t P
on_false true P it = tt
on_false false P it = it refl

-- ---- what is noted by those that are kept

module _ (all : Rows) (v b k numbers kept : List ℕ) where
  wanted_alike : (block : Block) → IsHeldAlike all v b k numbers kept block → is_wanted all v b k kept block ≡ is_wanted all v b k numbers block
  wanted_alike block alike = by (all (keys.Renamed v b 0 block.local)) refl
    where
      by : (o : Option Row) → all (keys.Renamed v b 0 block.local) ≡ o → is_wanted all v b k kept block ≡ is_wanted all v b k numbers block
      by None e = ap (λ (t : Bool). not (is_some (all (keys.Renamed v b 0 block.local))) && t) (alike e)
      by (Some row) e = named (ap is_some e)
        where
          named : is_some (all (keys.Renamed v b 0 block.local)) ≡ true → is_wanted all v b k kept block ≡ is_wanted all v b k numbers block
          named f = ap (λ (t : Bool). not t && is_held all v b block k kept) f ∙ sym (ap (λ (t : Bool). not t && is_held all v b block k numbers) f)

  pub noted_alike : (blocks : List Block) → AllByRecursion (IsHeldAlike all v b k numbers kept) blocks → noted all v b k kept blocks ≡ noted all v b k numbers blocks
  noted_alike [] alike = refl
  noted_alike (block ∷ blocks) alike =
      begins all v b k kept block blocks
      ∙ ap (λ (t : Bool). cond t (note v b k block ∷ noted all v b k kept blocks) (noted all v b k kept blocks)) (wanted_alike block alike.0)
      ∙ ap (λ (l : List Change). cond (is_wanted all v b k numbers block) (note v b k block ∷ l) l) (noted_alike blocks alike.1)
      ∙ sym (begins all v b k numbers block blocks)

-- ---- the next renamed row

module _ (all : Rows) (v b : List ℕ) (number before greatest : ℕ) where
  abbrev at : ℕ → RowKey
  at local = keys.Renamed v b number local

  fields_tied : (o : Ordering) → ordering_then (slice_cmp nat_cmp v v) (ordering_then (slice_cmp nat_cmp b b)
      (ordering_then (slice_cmp nat_cmp (number ∷ []) (number ∷ [])) o)) ≡ o
  fields_tied o = both_tied v b _ ∙ ap (λ p. ordering_then p o) (tied (number ∷ []))

  pub is_below : (local : ℕ) → before < local → IsBelow (at before) (at local)
  is_below local lt = fields_tied _ ∙ below_numbers before local lt

  pub no_next : HasNoNext all (at before) → (local : ℕ) → before < local → all (at local) ≡ None
  no_next none local lt = by (all (at local)) refl
    where
      by : (o : Option Row) → all (at local) ≡ o → all (at local) ≡ None
      by None e = e
      by (Some row) e = absurd (none (at local) (record { has_row = ap is_some e; same_kind = refl; above = is_below local lt }))

  -- a row that stands between two of the snapshot's is one of the snapshot's
  between : (w c : List ℕ) (owner other local : ℕ) → IsBelow (at before) (keys.Renamed w c owner other) → IsBelow (keys.Renamed w c owner other) (at local)
      → (keys.Renamed w c owner other ≡ at other) × (other < local)
  between w c owner other local low high =
      let first = squeeze v w _ _ low high in
      let second = squeeze b c _ _ first.low first.high in
      let third = squeeze (number ∷ []) (owner ∷ []) _ _ second.low second.high in
      let same : number ≡ owner = cc third.same in
      ((λ i. keys.Renamed (sym first.same i) (sym second.same i) (sym same i) other), numbers_below other local third.high)

  within_its : (other : ℕ) → other ≤ greatest → is_within v b number greatest (at other) ≡ true
  within_its other le =
      ap (λ (t : Bool). t && is_same_name b b && number == number && nat_le other greatest) (itself v)
      ∙ ap (λ (t : Bool). t && number == number && nat_le other greatest) (itself b)
      ∙ grind (arith, nat_tests, le)

  module _ (key : RowKey) (row : Row) (next : IsNext all (at before) key row) (beyond : is_within v b number greatest key ≡ false) where
    not_its : (other : ℕ) → other ≤ greatest → key ≡ at other → ⊥
    not_its other le e = false≢true (sym beyond ∙ ap (is_within v b number greatest) e ∙ within_its other le)

    apart : (key : RowKey) → kind_of key ≡ 8 → IsBelow (at before) key → ((other : ℕ) → other ≤ greatest → key ≡ at other → ⊥)
        → (local : ℕ) → local ≤ greatest → IsBelow key (at local) → ⊥
    apart (keys.Renamed w c owner other) kind low not local le high =
        let it = between w c owner other local low high in
        let lt = it.1 in
        not other (omega (arith, lt, le)) it.0
    apart key kind low not local le high = absurd (omega (arith, kind))

    is_none : (local : ℕ) → before < local → local ≤ greatest → IsSome (all (at local)) → (o : Ordering) → key_order key (at local) ≡ o → ⊥
    is_none local lt le some Less e = apart key next.is_above.same_kind next.is_above.above not_its local le e
    is_none local lt le some Equal e = not_its local le (same_is_one key (at local) (ap is_eq e))
    is_none local lt le some Greater e =
        next.least (at local) (record { has_row = some; same_kind = refl; above = is_below local lt }) (above_below key (at local) e)

    pub next_beyond : (local : ℕ) → before < local → local ≤ greatest → all (at local) ≡ None
    next_beyond local lt le = by (all (at local)) refl
      where
        by : (o : Option Row) → all (at local) ≡ o → all (at local) ≡ None
        by None e = e
        by (Some row) e = absurd (is_none local lt le (ap is_some e) (key_order key (at local)) refl)

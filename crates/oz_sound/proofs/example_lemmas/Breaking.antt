-- Batches that would break sound rows aren't moves of blocks.
use Rattle.std.proofs.Common.{◌≡◌, ◌≢◌, ℕ, zero, suc, ◌<◌, ◌≤◌, ◌/◌, ◌%◌, Bool, true, false, List, [], ◌∷◌, length, Option, None, Some, is_some, IsSome, inl, inr, cond, refl, sym, ◌∙◌, ap, subst, arith}
use Rattle.std.proofs.lemmas.Bool.{cases_lt}
use Rattle.std.specs.List.{AllByRecursion}
use Rattle.std.specs.Ordering.{is_eq}
use mathlib.Core.Bool.{false≢true}
use Rattle.oz_fields.specs.declared.block.Block.{Block}
use Rattle.oz_sound.specs.frames.Moves.{BlocksMove}
use Rattle.oz_rows.specs.declared.key.RowKey.{RowKey}
use Rattle.oz_rows.specs.declared.key.RowKey.TheVariants as keys
use Rattle.oz_rows.specs.declared.row.Row.TheVariants as values
use Rattle.oz_rows.specs.declared.row.Row.{Row}
use Rattle.oz_rows.specs.Counts.{AllDiffer}
use Rattle.oz_rows.specs.laws.Order.{itself}
use Rattle.oz_rows.specs.RowMaps.{Rows, row_of, row_after, after_changes, is_same}
use Rattle.oz_names.specs.declared.limits.TheConstants.{MOST_KEYS}
use Rattle.oz_sound.specs.Sound.{StandsIn, IsHome, IsUsing}
use Rattle.oz_sound.specs.example.Example.{rows, home, photos, cat, elk, block, cat_now}
use Rattle.oz_sound.specs.example.Steps.{crowding, key_named, forgetting, standing_twice, undrawn}
use Rattle.oz_sound.proofs.example_lemmas.SoundRows.{rows_are_sound}

abbrev all : Rows
all = row_of rows

abbrev old : RowKey
old = keys.Key home photos cat

-- the block 7 stands in `cat`
it_stands : StandsIn all (block 1 7) old
unfolding rows
it_stands = record { row = values.Key 9 cat_now; there = refl; has = refl }

gone_or_there : {A : Type 0} (a : A) → None ≡ Some a → ⊥
gone_or_there a e = false≢true (ap is_some e)

module _ (granted : Option Block) where
  pub lost : BlocksMove all (after_changes forgetting all) granted → ⊥
  lost moved =
      let now = moved.none_lost (block 1 7) (record { key = old; home = tt; here = it_stands }) in
      by_test now.key (is_same old now.key) refl now.home now.here
    where
      stood : (key : RowKey) → is_same old key ≡ false → StandsIn (after_changes forgetting all) (block 1 7) key → StandsIn all (block 1 7) key
      stood key apart here = record { row = here.row; there = sym (ap (λ (t : Bool). cond t None (all key)) apart) ∙ here.there; has = here.has }

      by_test : (key : RowKey) (t : Bool) → is_same old key ≡ t → IsHome key → StandsIn (after_changes forgetting all) (block 1 7) key → ⊥
      by_test key true e home here = gone_or_there here.row (sym (ap (λ (t : Bool). cond t None (all key)) e) ∙ here.there)
      by_test key false e home here =
          let same = rows_are_sound.blocks.one_home (block 1 7) old key tt home it_stands (stood key e here) in
          false≢true (sym e ∙ ap (is_same old) (sym same))

  twice_here : StandsIn (after_changes standing_twice all) (block 1 7) old
  unfolding rows
  twice_here = record { row = values.Key 9 cat_now; there = refl; has = refl }

  twice_there : StandsIn (after_changes standing_twice all) (block 1 7) (keys.Deleted home photos 0 cat 7)
  twice_there = record { row = values.Deleted (block 1 7 ∷ []); there = refl; has = refl }

  pub twice : BlocksMove all (after_changes standing_twice all) granted → ⊥
  twice moved = let same = moved.one_home (block 1 7) old (keys.Deleted home photos 0 cat 7) tt tt twice_here twice_there in false≢true (ap is_key same)
    where
      is_key : RowKey → Bool
      is_key (keys.Deleted v b o k l) = true
      is_key key = false

  pub number : BlocksMove all (after_changes undrawn all) granted → ⊥
  unfolding rows
  number moved = let few = moved.sessions home photos elk 13 refl in omega (arith, few)

-- ---- more keys than a bucket may have

stays_some : (changes : ℕ) (key : RowKey) (row : Option Row) → IsSome row → IsSome (row_after (crowding changes) key row)
stays_some zero key row some = some
stays_some (suc n) key row some = by_test (is_same (keys.Key home photos (key_named n)) key) (stays_some n key (Some (values.Key n [])) refl) (stays_some n key row some)
  where
    by_test : (t : Bool) → IsSome (row_after (crowding n) key (Some (values.Key n []))) → IsSome (row_after (crowding n) key row) → IsSome (row_after (crowding n) key (cond t (Some (values.Key n [])) row))
    by_test true newer before = newer
    by_test false newer before = before

came_in : (n k : ℕ) (row : Option Row) → k < n → IsSome (row_after (crowding n) (keys.Key home photos (key_named k)) row)
came_in zero k row lt = absurd (omega arith)
came_in (suc n) k row lt = elim (cases_lt k n) [
  | inl less ↦ came_in n k _ less
  | inr last ↦ subst (λ (k : ℕ). IsSome (row_after (crowding (suc n)) (keys.Key home photos (key_named k)) row)) (the_last last) (newest n row)
]
  where
    the_last : n ≤ k → n ≡ k
    the_last le = omega arith

    newest : (n : ℕ) (row : Option Row) → IsSome (row_after (crowding (suc n)) (keys.Key home photos (key_named n)) row)
    newest n row =
        let key = keys.Key home photos (key_named n) in
        subst (λ (t : Bool). IsSome (row_after (crowding n) key (cond t (Some (values.Key n [])) row))) (sym (ap is_eq (itself key))) (stays_some n key (Some (values.Key n [])) refl)

used : ℕ → List (List ℕ × Option ℕ)
used zero = []
used (suc n) = (key_named n, None) ∷ used n

so_many : (n : ℕ) → length (used n) ≡ n
unfolding used
so_many zero = refl
so_many (suc n) = ap suc (so_many n)

named_apart : (n k : ℕ) → k < n → key_named n ≢ key_named k
named_apart n k lt e =
    let whole : n / 64 ≡ k / 64 = ap first e in
    let rest : n % 64 ≡ k % 64 = ap second e in
    omega (arith, whole, rest)
  where
    first : List ℕ → ℕ
    first [] = 0
    first (x ∷ l) = x

    second : List ℕ → ℕ
    second [] = 0
    second (x ∷ l) = first l

differ_from : (n k : ℕ) → k ≤ n → AllByRecursion (λ (other : List ℕ × Option ℕ). (key_named n, None) ≢ other) (used k)
unfolding used
differ_from n zero le = tt
differ_from n (suc k) le = (λ same. named_apart n k (omega arith) (ap (λ (item : List ℕ × Option ℕ). item.0) same), differ_from n k (omega arith))

all_differ : (n : ℕ) → AllDiffer (used n)
unfolding used
all_differ zero = tt
all_differ (suc n) = (differ_from n n (omega arith), all_differ n)

module _ (n : ℕ) where
  now : Rows
  now = after_changes (crowding n) all

  all_used : (k : ℕ) → k ≤ n → AllByRecursion (IsUsing now home photos) (used k)
  unfolding used now
  all_used zero le = tt
  all_used (suc k) le = (came_in n k (all (keys.Key home photos (key_named k))) (omega arith), all_used k (omega arith))

  pub count : (granted : Option Block) → MOST_KEYS < n → BlocksMove all (after_changes (crowding n) all) granted → ⊥
  unfolding now
  count granted lt moved =
      let few = moved.few home photos (used n) (all_differ n) (all_used n (omega arith)) in
      omega (arith, so_many n, few, lt)

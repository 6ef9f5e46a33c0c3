-- What one chunk more makes of those that were written of its block, and of those of others.
use Rattle.std.proofs.Common.{
  ◌≡◌,
  ℕ,
  ◌+◌,
  ◌-◌,
  ◌*◌,
  ◌/◌,
  ◌<◌,
  ◌≤◌,
  eqb,
  ltb,
  min,
  Bool,
  true,
  false,
  cond,
  not,
  ◌&&◌,
  List,
  [],
  ◌∷◌,
  ◌++◌,
  length,
  filter,
  refl,
  sym,
  ap,
  subst,
  ◌∙◌,
  arith,
  suc,
  eqb-true,
  ltb-true,
  eq-eqb,
  lt-ltb,
  le-ltb,
}
use Rattle.std.specs.List.{AllByRecursion}
use Rattle.std.proofs.lemmas.Bool.{false≢true, false_from_ne_true, and_parts, and_from, and_left, not-true, cond-true, cond-false}
use Rattle.oz_entries.specs.Node.{chunk_count, is_same_block}
use Rattle.oz_entries.specs.laws.Blocks.{same_block, itself}
use Rattle.oz_fields.specs.declared.block.Block.{Block}
use Rattle.oz_block.specs.declared.shelf.written.Written.{Written}
use Rattle.oz_block.specs.shelf.Written.{is_of, is_at, is_behind, inserted, with_written, written_of, written_besides, written_elsewhere, makes, makes_from}

-- ---- what chunks make

-- a chunk stands in its place, where so many bytes are left
abbrev pub fits : ℕ → ℕ → Written → Bool
fits place left one = (ltb 0 left && eqb one.place place) && eqb one.size (min left 16384)

fits_true : (place left : ℕ) (one : Written) → 0 < left → one.place ≡ place → one.size ≡ min left 16384 → fits place left one ≡ true
fits_true place left one some at size =
    and_from (ltb 0 left && eqb one.place place) (eqb one.size (min left 16384))
    (and_from (ltb 0 left) (eqb one.place place) (lt-ltb 0 left some) (eq-eqb one.place place at)) (eq-eqb one.size (min left 16384) size)

fits_parts : (place left : ℕ) (one : Written) → fits place left one ≡ true → (0 < left) × (one.place ≡ place) × (one.size ≡ min left 16384)
fits_parts place left one is =
    let outer = and_parts (ltb 0 left && eqb one.place place) (eqb one.size (min left 16384)) is in
    let inner = and_parts (ltb 0 left) (eqb one.place place) outer.0 in
    (ltb-true 0 left inner.0, eqb-true one.place place inner.1, eqb-true one.size (min left 16384) outer.1)

-- they are as many as so many bytes take
from_count : (written : List Written) (place size : ℕ) → makes_from place size written ≡ true → length written ≡ chunk_count size
unfolding makes_from
from_count [] place size is = let none : size ≡ 0 = eqb-true size 0 is in sym (ap chunk_count none)
from_count (one ∷ written) place size is =
    let both = and_parts (fits place size one) (makes_from (place + 1) (size - 16384) written) is in
    more (length written) size (fits_parts place size one both.0).0 (from_count written (place + 1) (size - 16384) both.1)
  where
    more : (count size : ℕ) → 0 < size → count ≡ (size - 16384 + 16383) / 16384 → suc count ≡ (size + 16383) / 16384
    more count size some is = omega (arith, some, is)

pub makes_count : (written : List Written) (block : Block) (size : ℕ) → makes written block size ≡ true → length (written_of block written) ≡ chunk_count size
makes_count written block size is = from_count (written_of block written) 0 size is

-- they fill their places, and one stands behind them
from_push : (written : List Written) (place size count : ℕ) (one : Written) → makes_from place size written ≡ true → size ≡ length written * 16384
    → one.place ≡ place + length written → one.size ≡ count → 0 < count → count ≤ 16384 → makes_from place (size + count) (written ++ one ∷ []) ≡ true
unfolding makes_from
from_push [] place size count one is whole at has some small =
    let none : size ≡ 0 = omega (arith, whole) in
    and_from (fits place (size + count) one) (eqb (size + count - 16384) 0)
    (fits_true place (size + count) one (omega (arith, some)) (omega (arith, at)) (omega (arith, none, has, small)))
    (eq-eqb (size + count - 16384) 0 (omega (arith, none, small)))
from_push (first ∷ written) place size count one is whole at has some small =
    let both = and_parts (fits place size first) (makes_from (place + 1) (size - 16384) written) is in
    let front = fits_parts place size first both.0 in
    let many : 16384 ≤ size = omega (arith, whole) in
    let less : size - 16384 ≡ length written * 16384 = omega (arith, whole) in
    let rest = from_push written (place + 1) (size - 16384) count one both.1 less (omega (arith, at)) has some small in
    let same : size - 16384 + count ≡ size + count - 16384 = omega (arith, many) in
    and_from (fits place (size + count) first) (makes_from (place + 1) (size + count - 16384) (written ++ one ∷ []))
    (fits_true place (size + count) first (omega (arith, some)) front.1 (omega (arith, front.2, many)))
    (ap (λ (n : ℕ). makes_from (place + 1) n (written ++ one ∷ [])) (sym same) ∙ rest)

-- their places are below a bound
abbrev pub AreBelow : ℕ → List Written → Type 0
AreBelow bound written = AllByRecursion (λ (one : Written). one.place < bound) written

from_below : (written : List Written) (place size bound : ℕ) → makes_from place size written ≡ true → place + length written ≤ bound → AreBelow bound written
unfolding makes_from
from_below [] place size bound is all = tt
from_below (one ∷ written) place size bound is all =
    let both = and_parts (fits place size one) (makes_from (place + 1) (size - 16384) written) is in
    (omega (arith, (fits_parts place size one both.0).1, all), from_below written (place + 1) (size - 16384) bound both.1 (omega (arith, all)))

full_places : (count place size : ℕ) → count ≡ (size + 16383) / 16384 → size ≡ place * 16384 → count ≡ place
full_places count place size is whole = omega (arith, is, whole)

-- ---- what passes a test

-- it passes another test before
pub within : (wider test : Written → Bool) → ((one : Written) → test one ≡ true → wider one ≡ true) → (written : List Written)
    → filter test (filter wider written) ≡ filter test written
within wider test are [] = refl
within wider test are (one ∷ written) = by (wider one) refl (within wider test are written)
  where
    by : (b : Bool) → b ≡ wider one → filter test (filter wider written) ≡ filter test written
        → filter test (cond b (one ∷ filter wider written) (filter wider written)) ≡ filter test (one ∷ written)
    by true is rest = ap (λ (l : List Written). cond (test one) (one ∷ l) l) rest
    by false is rest = rest
        ∙ sym (cond-false (test one) (one ∷ filter test written) (filter test written)
        (false_from_ne_true (test one) (λ passes. false≢true (is ∙ are one passes))))

-- nothing passes that another test leaves
pub none_pass : (first test : Written → Bool) → ((one : Written) → first one ≡ true → test one ≡ false) → (written : List Written)
    → filter test (filter first written) ≡ []
none_pass first test are [] = refl
none_pass first test are (one ∷ written) = by (first one) refl (none_pass first test are written)
  where
    by : (b : Bool) → b ≡ first one → filter test (filter first written) ≡ [] → filter test (cond b (one ∷ filter first written) (filter first written)) ≡ []
    by false is rest = rest
    by true is rest = cond-false (test one) (one ∷ filter test (filter first written)) (filter test (filter first written)) (are one (sym is)) ∙ rest

-- one more doesn't
pub without_one : (test : Written → Bool) (written : List Written) (one : Written) → test one ≡ false → filter test (inserted written one) ≡ filter test written
without_one test [] one none = cond-false (test one) (one ∷ []) [] none
without_one test (first ∷ written) one none = by (is_behind first one) (without_one test written one none)
  where
    by : (b : Bool) → filter test (inserted written one) ≡ filter test written
        → filter test (cond b (one ∷ first ∷ written) (first ∷ inserted written one)) ≡ filter test (first ∷ written)
    by true rest = cond-false (test one) (one ∷ filter test (first ∷ written)) (filter test (first ∷ written)) none
    by false rest = ap (λ (l : List Written). cond (test first) (first ∷ l) l) rest

-- ---- those of its block

-- it comes behind those in lower places
last_one : (written : List Written) (one : Written) → AreBelow one.place (written_of one.block written)
    → written_of one.block (inserted written one) ≡ written_of one.block written ++ one ∷ []
last_one [] one below = cond-true (is_of one.block one) (one ∷ []) [] (itself one.block)
last_one (first ∷ written) one below = by (is_of one.block first) refl below (last_one written one)
  where
    more : List Written
    more = written_of one.block (inserted written one)

    by : (b : Bool) → b ≡ is_of one.block first → AreBelow one.place (cond b (first ∷ written_of one.block written) (written_of one.block written))
        → (AreBelow one.place (written_of one.block written) → more ≡ written_of one.block written ++ one ∷ [])
        → written_of one.block (cond (b && ltb one.place first.place) (one ∷ first ∷ written) (first ∷ inserted written one))
        ≡ cond b (first ∷ written_of one.block written) (written_of one.block written) ++ one ∷ []
    by false is low rest = cond-false (is_of one.block first) (first ∷ more) more (sym is) ∙ rest low
    by true is low rest =
        ap (λ (b : Bool). written_of one.block (cond b (one ∷ first ∷ written) (first ∷ inserted written one)))
        (le-ltb one.place first.place (omega (arith, low.0)))
        ∙ (cond-true (is_of one.block first) (first ∷ more) more (sym is) ∙ ap (λ (l : List Written). first ∷ l) (rest low.1))

-- none of them had its place
none_at : (written : List Written) (block : Block) (place : ℕ) → AreBelow place (written_of block written)
    → written_of block (written_elsewhere block place written) ≡ written_of block written
none_at [] block place below = refl
none_at (one ∷ written) block place below = by (is_of block one) refl below (none_at written block place)
  where
    left : List Written
    left = written_elsewhere block place written

    by : (b : Bool) → b ≡ is_of block one → AreBelow place (cond b (one ∷ written_of block written) (written_of block written))
        → (AreBelow place (written_of block written) → written_of block left ≡ written_of block written)
        → written_of block (cond (not (b && eqb one.place place)) (one ∷ left) left) ≡ cond b (one ∷ written_of block written) (written_of block written)
    by false is low rest = cond-false (is_of block one) (one ∷ written_of block left) (written_of block left) (sym is) ∙ rest low
    by true is low rest =
        let apart : eqb one.place place ≡ false =
        false_from_ne_true (eqb one.place place) (λ same. absurd (omega (arith, low.0, eqb-true one.place place same))) in
        ap (λ (b : Bool). written_of block (cond (not b) (one ∷ left) left)) apart
        ∙ (cond-true (is_of block one) (one ∷ written_of block left) (written_of block left) (sym is) ∙ ap (λ (l : List Written). one ∷ l) (rest low.1))

-- the next one of those that make whole slots
pub next_written : (written : List Written) (one : Written) (size : ℕ) → makes written one.block size ≡ true → size ≡ one.place * 16384
    → written_of one.block (with_written written one) ≡ written_of one.block written ++ one ∷ []
next_written written one size is whole =
    let count = full_places (length (written_of one.block written)) one.place size (makes_count written one.block size is) whole in
    let below = from_below (written_of one.block written) 0 size one.place is (omega (arith, count)) in
    let same = none_at written one.block one.place below in
    last_one (written_elsewhere one.block one.place written) one (subst (AreBelow one.place) (sym same) below) ∙ ap (λ (l : List Written). l ++ one ∷ []) same

pub next_count : (written : List Written) (one : Written) (size : ℕ) → makes written one.block size ≡ true → size ≡ one.place * 16384
    → length (written_of one.block written) ≡ one.place
next_count written one size is whole = full_places (length (written_of one.block written)) one.place size (makes_count written one.block size is) whole

pub next_makes : (written : List Written) (one : Written) (size : ℕ) → makes written one.block size ≡ true → size ≡ one.place * 16384 → 0 < one.size
    → one.size ≤ 16384 → makes (with_written written one) one.block (size + one.size) ≡ true
next_makes written one size is whole some small =
    let count = next_count written one size is whole in
    ap (makes_from 0 (size + one.size)) (next_written written one size is whole)
    ∙ from_push (written_of one.block written) 0 size one.size one is (omega (arith, whole, count)) (omega (arith, count)) refl some small

-- ---- those of other blocks

apart_of : (one : Written) (block other : Block) → is_same_block block other ≡ false → is_of other one ≡ true → is_of block one ≡ false
apart_of one block other apart is =
    let same : one.block ≡ other = same_block one.block other is in
    false_from_ne_true (is_of block one)
    (λ also. false≢true (sym apart ∙ (ap (λ (b : Block). is_same_block b other) (sym (same_block one.block block also)) ∙ is)))

pub others_written : (written : List Written) (one : Written) (block : Block) → is_same_block one.block block ≡ false
    → written_of block (with_written written one) ≡ written_of block written
others_written written one block apart =
    without_one (is_of block) (written_elsewhere one.block one.place written) one apart
    ∙ within (λ other. not (is_at one.block one.place other)) (is_of block)
    (λ other is. ap not (and_left (is_of one.block other) (eqb other.place one.place) (apart_of other one.block block apart is))) written

pub besides_written : (written : List Written) (one : Written) → written_besides one.block (with_written written one) ≡ written_besides one.block written
besides_written written one =
    without_one (λ other. not (is_of one.block other)) (written_elsewhere one.block one.place written) one (ap not (itself one.block))
    ∙ within (λ other. not (is_at one.block one.place other)) (λ other. not (is_of one.block other))
    (λ other is. ap not (and_left (is_of one.block other) (eqb other.place one.place) (not-true (is_of one.block other) is))) written

-- ---- once those of a block are gone

pub none_left : (block : Block) (written : List Written) → written_of block (written_besides block written) ≡ []
none_left block written = none_pass (λ one. not (is_of block one)) (is_of block) (λ one is. not-true (is_of block one) is) written

pub besides_again : (block : Block) (written : List Written) → written_besides block (written_besides block written) ≡ written_besides block written
besides_again block written = within (λ one. not (is_of block one)) (λ one. not (is_of block one)) (λ one is. is) written

pub others_left : (block other : Block) (written : List Written) → is_same_block block other ≡ false
    → written_of other (written_besides block written) ≡ written_of other written
others_left block other written apart = within (λ one. not (is_of block one)) (is_of other) (λ one is. ap not (apart_of one block other apart is)) written

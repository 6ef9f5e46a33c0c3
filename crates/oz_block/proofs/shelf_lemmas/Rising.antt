-- The chunks of a block rise by their places, and each place has one.
use Rattle.std.proofs.Common.{◌≡◌, ℕ, ◌+◌, ◌≤◌, eqb, ltb, Bool, true, false, cond, not, ◌&&◌, List, [], ◌∷◌, filter, refl, sym, ap, subst, ◌∙◌, arith, eqb-true, ltb-true, ltb-false}
use Rattle.std.proofs.lemmas.Bool.{false≢true, false_from_ne_true, and_parts, and_from, not-true, cond-true, cond-false, eqb-false}
use Rattle.oz_entries.specs.Node.{is_same_block}
use Rattle.oz_entries.specs.laws.Blocks.{same_block, itself}
use Rattle.oz_fields.specs.declared.block.Block.{Block}
use Rattle.oz_block.specs.declared.shelf.written.Written.{Written}
use Rattle.oz_block.specs.shelf.Written.{AreRising, RiseFrom, is_of, is_at, is_behind, inserted, with_written, written_of, written_besides, written_elsewhere}
use Rattle.oz_block.specs.shelf.laws.Written.{within, without_one, none_pass, others_written}

-- ---- the chunk in a place

-- one that passes, among others that don't
with_one : (test : Written → Bool) (written : List Written) (one : Written) → test one ≡ true → filter test written ≡ [] → filter test (inserted written one) ≡ one ∷ []
with_one test [] one passes none = cond-true (test one) (one ∷ []) [] passes
with_one test (first ∷ written) one passes none = by (test first) refl none (is_behind first one) (with_one test written one passes)
  where
    more : List Written
    more = filter test (inserted written one)

    by : (t : Bool) → t ≡ test first → cond t (first ∷ filter test written) (filter test written) ≡ [] → (b : Bool) → (filter test written ≡ [] → more ≡ one ∷ []) → filter test (cond b (one ∷ first ∷ written) (first ∷ inserted written one)) ≡ one ∷ []
    by true is never b rest = absurd cc
    by false is empty true rest =
        cond-true (test one) (one ∷ filter test (first ∷ written)) (filter test (first ∷ written)) passes
        ∙ ap (λ (l : List Written). one ∷ l) (cond-false (test first) (first ∷ filter test written) (filter test written) (sym is) ∙ empty)
    by false is empty false rest = cond-false (test first) (first ∷ more) more (sym is) ∙ rest empty

pub own_place : (written : List Written) (one : Written) → filter (is_at one.block one.place) (with_written written one) ≡ one ∷ []
own_place written one =
    with_one (is_at one.block one.place) (written_elsewhere one.block one.place written) one (and_from (is_of one.block one) (eqb one.place one.place) (itself one.block) (search arith))
    (none_pass (λ other. not (is_at one.block one.place other)) (is_at one.block one.place) (λ other is. not-true (is_at one.block one.place other) is) written)

pub other_place : (written : List Written) (one : Written) (block : Block) (place : ℕ) → is_at block place one ≡ false → filter (is_at block place) (with_written written one) ≡ filter (is_at block place) written
other_place written one block place apart =
    without_one (is_at block place) (written_elsewhere one.block one.place written) one apart
    ∙ within (λ other. not (is_at one.block one.place other)) (is_at block place) (λ other is. ap not (false_from_ne_true (is_at one.block one.place other) (λ also. false≢true (sym apart ∙ same other is also)))) written
  where
    same : (other : Written) → is_at block place other ≡ true → is_at one.block one.place other ≡ true → is_at block place one ≡ true
    same other is also =
        let here = and_parts (is_of block other) (eqb other.place place) is in
        let there = and_parts (is_of one.block other) (eqb other.place one.place) also in
        let blocks : other.block ≡ one.block = same_block other.block one.block there.0 in
        let places : other.place ≡ one.place = eqb-true other.place one.place there.1 in
        and_from (is_of block one) (eqb one.place place) (ap (λ (b : Block). is_same_block b block) (sym blocks) ∙ here.0) (ap (λ (n : ℕ). eqb n place) (sym places) ∙ here.1)

-- ---- their order

lower : (least less : ℕ) (written : List Written) → less ≤ least → RiseFrom least written → RiseFrom less written
lower least less [] low rise = tt
lower least less (one ∷ written) low rise = (omega (arith, low, rise.0), rise.1)

-- some of them rise too
fewer_rise : (first test : Written → Bool) (least : ℕ) (written : List Written) → RiseFrom least (filter test written) → RiseFrom least (filter test (filter first written))
fewer_rise first test least [] rise = tt
fewer_rise first test least (one ∷ written) rise = by (test one) refl (first one) rise (λ l. fewer_rise first test l written)
  where
    left : List Written
    left = filter test (filter first written)

    all : List Written
    all = filter test written

    by : (t : Bool) → t ≡ test one → (f : Bool) → RiseFrom least (cond t (one ∷ all) all) → ((l : ℕ) → RiseFrom l all → RiseFrom l left) → RiseFrom least (filter test (cond f (one ∷ filter first written) (filter first written)))
    by t is false rise rest = without t rise
      where
        without : (t : Bool) → RiseFrom least (cond t (one ∷ all) all) → RiseFrom least left
        without false rise = rest least rise
        without true rise = lower (one.place + 1) least left (omega (arith, rise.0)) (rest (one.place + 1) rise.1)
    by false is true rise rest = subst (RiseFrom least) (sym (cond-false (test one) (one ∷ left) left (sym is))) (rest least rise)
    by true is true rise rest = subst (RiseFrom least) (sym (cond-true (test one) (one ∷ left) left (sym is))) (rise.0, rest (one.place + 1) rise.1)

-- one more rises among those that are in other places
one_rises : (written : List Written) (one : Written) (least : ℕ) → least ≤ one.place → filter (is_at one.block one.place) written ≡ [] → RiseFrom least (written_of one.block written) → RiseFrom least (written_of one.block (inserted written one))
one_rises [] one least low none rise = subst (RiseFrom least) (sym (cond-true (is_of one.block one) (one ∷ []) [] (itself one.block))) (low, tt)
one_rises (first ∷ written) one least low none rise = by (is_of one.block first) refl (eqb first.place one.place) refl (ltb one.place first.place) refl none rise (λ l. one_rises written one l)
  where
    own : List Written
    own = written_of one.block written

    more : List Written
    more = written_of one.block (inserted written one)

    rest_at : List Written
    rest_at = filter (is_at one.block one.place) written

    by : (o : Bool) → o ≡ is_of one.block first → (e : Bool) → e ≡ eqb first.place one.place → (b : Bool) → b ≡ ltb one.place first.place → cond (o && e) (first ∷ rest_at) rest_at ≡ [] → RiseFrom least (cond o (first ∷ own) own) → ((l : ℕ) → l ≤ one.place → rest_at ≡ [] → RiseFrom l own → RiseFrom l more)
        → RiseFrom least (written_of one.block (cond (o && b) (one ∷ first ∷ written) (first ∷ inserted written one)))
    by false is e same b before none rise rest = subst (RiseFrom least) (sym (cond-false (is_of one.block first) (first ∷ more) more (sym is))) (rest least low none rise)
    by true is true same b before never rise rest = absurd cc
    by true is false same true before none rise rest =
        subst (RiseFrom least) (sym (cond-true (is_of one.block one) (one ∷ written_of one.block (first ∷ written)) (written_of one.block (first ∷ written)) (itself one.block) ∙ ap (λ (l : List Written). one ∷ l) (cond-true (is_of one.block first) (first ∷ own) own (sym is))))
        (low, (omega (arith, ltb-true one.place first.place (sym before)), rise.1))
    by true is false same false before none rise rest =
        let above : first.place + 1 ≤ one.place = next first.place one.place (ltb-false one.place first.place (sym before)) (eqb-false first.place one.place (sym same)) in
        subst (RiseFrom least) (sym (cond-true (is_of one.block first) (first ∷ more) more (sym is))) (rise.0, rest (first.place + 1) above none rise.1)
      where
        next : (a b : ℕ) → a ≤ b → (a ≡ b → ⊥) → a + 1 ≤ b
        next a b low apart = omega (arith, low, apart)

pub more_rise : (written : List Written) (one : Written) → AreRising written → AreRising (with_written written one)
more_rise written one rise block = by (is_same_block one.block block) refl
  where
    by : (b : Bool) → b ≡ is_same_block one.block block → RiseFrom 0 (written_of block (with_written written one))
    by false is = subst (RiseFrom 0) (sym (others_written written one block (sym is))) (rise block)
    by true is = subst (λ (b : Block). RiseFrom 0 (written_of b (with_written written one))) (same_block one.block block (sym is)) (one_rises (written_elsewhere one.block one.place written) one 0 (omega arith) (none_pass (λ other. not (is_at one.block one.place other)) (is_at one.block one.place) (λ other passes. not-true (is_at one.block one.place other) passes) written) (fewer_rise (λ other. not (is_at one.block one.place other)) (is_of one.block) 0 written (rise one.block)))

pub left_rise : (written : List Written) (block : Block) → AreRising written → AreRising (written_besides block written)
left_rise written block rise other = fewer_rise (λ one. not (is_of block one)) (is_of other) 0 written (rise other)

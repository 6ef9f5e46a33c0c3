-- How far the slots of chunks were set free.
use Rattle.std.proofs.Common.{◌≡◌, ℕ, ◌+◌, ◌<◌, ◌≤◌, eqb, ◌||◌, ◌&&◌, Bool, true, false, cond, List, [], ◌∷◌, ◌++◌, length, take, filter, get_or, refl, sym, ap, ◌∙◌, arith}
use Rattle.std.proofs.lemmas.Bool.{false≢true}
use Rattle.std.proofs.lemmas.List.{take_more, take_all}
use Rattle.oz_chunk.specs.Taken.{is_taken}
use Rattle.oz_entries.specs.Held.{any_in}
use Rattle.oz_block.specs.declared.shelf.written.Written.{Written}
use Rattle.oz_block.specs.shelf.Written.{chunks_in}
use Rattle.oz_block.specs.shelf.laws.FreeSlots.{or_assoc}

-- the slots of those that pass are free
pub record Frees {D : Type 0} (test : Written → Bool) (disk now : D) (before after : List Bool) (written : List Written) : Type 0 where
  pub disk_same : now ≡ disk
  pub free : (s : ℕ) → is_taken after s ≡ cond (any_in (chunks_in (filter test written)) s) false (is_taken before s)

pub frees_none : {D : Type 0} (test : Written → Bool) (disk : D) (before : List Bool) → Frees test disk disk before before []
frees_none test disk before = record { disk_same = refl; free = λ s. refl }

turned : (x y : ℕ) → eqb x y ≡ eqb y x
turned x y = grind arith

any_push : (test : Written → Bool) (written : List Written) (one : Written) (s : ℕ) → any_in (chunks_in (filter test (written ++ one ∷ []))) s ≡ (any_in (chunks_in (filter test written)) s || (test one && eqb one.chunk.slot s))
any_push test [] one s = by (test one) (eqb one.chunk.slot s) refl
  where
    by : (b e : Bool) → e ≡ eqb one.chunk.slot s → any_in (chunks_in (cond b (one ∷ []) [])) s ≡ (b && eqb one.chunk.slot s)
    by false e is = refl
    by true true is = ap (λ (t : Bool). t || false) (sym is) ∙ is
    by true false is = ap (λ (t : Bool). t || false) (sym is) ∙ is
any_push test (first ∷ written) one s = by (test first) (any_push test written one s)
  where
    last : Bool
    last = test one && eqb one.chunk.slot s

    more : List Written
    more = filter test (written ++ one ∷ [])

    by : (b : Bool) → any_in (chunks_in more) s ≡ (any_in (chunks_in (filter test written)) s || last) → any_in (chunks_in (cond b (first ∷ more) more)) s ≡ (any_in (chunks_in (cond b (first ∷ filter test written) (filter test written))) s || last)
    by false rest = rest
    by true rest = ap (λ (b : Bool). eqb first.chunk.slot s || b) rest ∙ sym (or_assoc (eqb first.chunk.slot s) (any_in (chunks_in (filter test written)) s) last)

pub frees_more : {D : Type 0} (test : Written → Bool) (disk between now : D) (before middle after : List Bool) (written : List Written) (i : ℕ) (d : Written) → Frees test disk between before middle (take i written) → i < length written → ((s : ℕ) → is_taken after s ≡ cond (test (get_or written i d) && eqb s (get_or written i d).chunk.slot) false (is_taken middle s)) → now ≡ between
    → Frees test disk now before after (take (i + 1) written)
frees_more test disk between now before middle after written i d frees less marks same = let one = get_or written i d in record {
  disk_same = same ∙ frees.disk_same;
  free = λ s.
      let any : any_in (chunks_in (filter test (take (i + 1) written))) s ≡ (any_in (chunks_in (filter test (take i written))) s || (test one && eqb one.chunk.slot s)) =
      ap (λ (l : List Written). any_in (chunks_in (filter test l)) s) (take_more written i d less) ∙ any_push test (take i written) one s in
      marks s
      ∙ (ap (λ (b : Bool). cond (test one && eqb s one.chunk.slot) false b) (frees.free s)
      ∙ (both (any_in (chunks_in (filter test (take i written))) s) (test one) (eqb s one.chunk.slot) (eqb one.chunk.slot s) (is_taken before s) (turned s one.chunk.slot) ∙ ap (λ (b : Bool). cond b false (is_taken before s)) (sym any)));
} where
  both : (a m e f t : Bool) → e ≡ f → cond (m && e) false (cond a false t) ≡ cond (a || (m && f)) false t
  both true true true f t same = refl
  both true true false f t same = refl
  both true false e f t same = refl
  both false false e f t same = refl
  both false true true true t same = refl
  both false true false false t same = refl
  both false true true false t same = absurd (false≢true (sym same))
  both false true false true t same = absurd (false≢true same)

pub frees_all : {D : Type 0} (test : Written → Bool) (disk now : D) (before after : List Bool) (written : List Written) (i : ℕ) → Frees test disk now before after (take i written) → length written ≤ i → (s : ℕ) → is_taken after s ≡ cond (any_in (chunks_in (filter test written)) s) false (is_taken before s)
frees_all test disk now before after written i frees whole s = frees.free s ∙ ap (λ (l : List Written). cond (any_in (chunks_in (filter test l)) s) false (is_taken before s)) (take_all i written whole)

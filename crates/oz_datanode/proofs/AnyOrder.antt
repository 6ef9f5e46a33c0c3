-- Chunks that were written in any order, each with its part of some bytes, make these bytes.
use Rattle.std.proofs.Common.{◌≡◌, inl, inr, ℕ, ◌+◌, ◌-◌, ◌*◌, ◌<◌, eqb, eqb-true, eq-eqb, ltb, ltb-true, min, Bool, true, false, cond, ◌&&◌, List, [], ◌∷◌, ◌++◌, length, filter, take, drop, drop-drop, drop_of_length-le, take-append-drop, length-take, length-drop, Option, None, Some, IfSome, refl, sym, ap, ◌∙◌, subst, arith}
use Rattle.std.specs.List.{AllByRecursion}
use Rattle.std.proofs.lemmas.Bool.{false≢true, and_parts, and_from, or_cases}
use Rattle.sha2.specs.Sha256.{sha256}
use Rattle.oz_chunk.specs.Slots.{IsWithin}
use Rattle.oz_entries.specs.Held.{any_in}
use Rattle.oz_fields.specs.declared.block.Block.{Block}
use Rattle.oz_block.specs.declared.shelf.written.Written.{Written}
use Rattle.oz_block.specs.shelf.Written.{chunks_in, is_at, is_of, makes, makes_from, row_of, written_of}
use Rattle.oz_datanode.specs.Pairs.{Has, HaveDigests, part_of, parts_of}
use Rattle.oz_datanode.specs.Writing.{HasPart, intact}

-- ---- what is alone among those that pass

none_pass : (test : Written → Bool) (written : List Written) → filter test written ≡ [] → AllByRecursion (λ one. test one ≡ true → ⊥) written
none_pass test [] none = tt
none_pass test (one ∷ written) none = by (test one) refl none (none_pass test written)
  where
    by : (t : Bool) → t ≡ test one → cond t (one ∷ filter test written) (filter test written) ≡ [] → (filter test written ≡ [] → AllByRecursion (λ one. test one ≡ true → ⊥) written) → AllByRecursion (λ one. test one ≡ true → ⊥) (one ∷ written)
    by true is never rest = absurd cc
    by false is empty rest = (λ passes. false≢true (is ∙ passes), rest empty)

-- each that passes is that one
abbrev AreThis : (Written → Bool) → Written → List Written → Type 0
AreThis test this written = AllByRecursion (λ one. test one ≡ true → one ≡ this) written

alone : (test : Written → Bool) (this : Written) (written : List Written) → filter test written ≡ this ∷ [] → AreThis test this written
alone test this [] never = absurd cc
alone test this (one ∷ written) is = by (test one) refl is (none_pass test written) (alone test this written)
  where
    same : one ∷ filter test written ≡ this ∷ [] → one ≡ this
    same e = cc

    left : one ∷ filter test written ≡ this ∷ [] → filter test written ≡ []
    left e = cc

    weaker : (xs : List Written) → AllByRecursion (λ one. test one ≡ true → ⊥) xs → AreThis test this xs
    weaker [] all = tt
    weaker (x ∷ xs) all = (λ passes. absurd (all.0 passes), weaker xs all.1)

    by : (t : Bool) → t ≡ test one → cond t (one ∷ filter test written) (filter test written) ≡ this ∷ [] → (filter test written ≡ [] → AllByRecursion (λ one. test one ≡ true → ⊥) written) → (filter test written ≡ this ∷ [] → AreThis test this written) → AreThis test this (one ∷ written)
    by true is e none rest = (λ passes. same e, weaker written (none (left e)))
    by false is e none rest = (λ passes. absurd (false≢true (is ∙ passes)), rest e)

-- what holds of all holds of those that pass, and each of these passes
all_of : (P : Written → Type 0) (test : Written → Bool) (written : List Written) → AllByRecursion P written → AllByRecursion P (filter test written)
all_of P test [] all = tt
all_of P test (one ∷ written) all = by (test one) (all_of P test written all.1)
  where
    by : (t : Bool) → AllByRecursion P (filter test written) → AllByRecursion P (cond t (one ∷ filter test written) (filter test written))
    by true rest = (all.0, rest)
    by false rest = rest

they_pass : (test : Written → Bool) (written : List Written) → AllByRecursion (λ one. test one ≡ true) (filter test written)
they_pass test [] = tt
they_pass test (one ∷ written) = by (test one) refl (they_pass test written)
  where
    by : (t : Bool) → t ≡ test one → AllByRecursion (λ one. test one ≡ true) (filter test written) → AllByRecursion (λ one. test one ≡ true) (cond t (one ∷ filter test written) (filter test written))
    by true is rest = (sym is, rest)
    by false is rest = rest

-- ---- from a place on

abbrev piece : ℕ → List ℕ → List ℕ
piece place bytes = take 16384 (drop (place * 16384) bytes)

-- what is known of a chunk: where it stands, and its digest
record IsPart (bytes : List ℕ) (disk : List ℕ) (one : Written) : Type 0 where
  within : IsWithin one.chunk.slot disk
  is : part_of (length bytes) one.chunk disk ≡ bytes
  digest : one.chunk.digest ≡ sha256 bytes

-- each chunk has its part, whichever place it is in
abbrev ArePartsOf : List ℕ → List ℕ → List Written → Type 0
ArePartsOf bytes disk written =
    (place : ℕ) → place * 16384 < length bytes → AllByRecursion (λ (one : Written). one.place ≡ place → IsPart (piece place bytes) disk one) written

record Makes (size : ℕ) (bytes : List ℕ) (disk : List ℕ) (written : List Written) : Type 0 where
  within : (slot : ℕ) → any_in (chunks_in written) slot ≡ true → IsWithin slot disk
  joined : parts_of size (chunks_in written) disk ≡ bytes
  digests : HaveDigests size (chunks_in written) disk

fits_parts : (place size : ℕ) (one : Written) (rest : Bool) → ((ltb 0 size && eqb one.place place) && eqb one.size (min size 16384) && rest) ≡ true → (0 < size) × (one.place ≡ place) × (rest ≡ true)
fits_parts place size one rest is =
    let all = and_parts ((ltb 0 size && eqb one.place place) && eqb one.size (min size 16384)) rest is in
    let front = and_parts (ltb 0 size && eqb one.place place) (eqb one.size (min size 16384)) all.0 in
    let first = and_parts (ltb 0 size) (eqb one.place place) front.0 in
    (ltb-true 0 size first.0, eqb-true one.place place first.1, all.1)

made_from : (written : List Written) (place size : ℕ) (bytes disk : List ℕ) → makes_from place size written ≡ true → size ≡ length bytes - place * 16384 → ArePartsOf bytes disk written → Makes size (drop (place * 16384) bytes) disk written
unfolding makes_from parts_of HaveDigests
made_from [] place size bytes disk is rest parts =
    let none : size ≡ 0 = eqb-true size 0 is in
    record {
      within = λ slot has. absurd (false≢true has);
      joined = sym (drop_of_length-le bytes (omega (arith, rest, none)));
      digests = tt;
    }
made_from (one ∷ written) place size bytes disk is rest parts =
    let fit = fits_parts place size one (makes_from (place + 1) (size - 16384) written) is in
    let here : place * 16384 < length bytes = omega (arith, fit.0, rest) in
    let part = (parts place here).0 fit.1 in
    let later = made_from written (place + 1) (size - 16384) bytes disk fit.2 (omega (arith, rest)) (λ p less. (parts p less).1) in
    let left = drop (place * 16384) bytes in
    let long : length (piece place bytes) ≡ min 16384 size = length-take 16384 left ∙ ap (min 16384) (length-drop (place * 16384) bytes ∙ sym rest) in
    let short : min (length (piece place bytes)) 16384 ≡ min size 16384 = omega (arith, long) in
    let own : part_of size one.chunk disk ≡ piece place bytes = ap (λ (n : ℕ). take (one.chunk.slot * 16384 + n - one.chunk.slot * 16384) (drop (one.chunk.slot * 16384) disk)) (sym short) ∙ part.is in
    let behind : drop ((place + 1) * 16384) bytes ≡ drop 16384 left = ap (λ (n : ℕ). drop n bytes) (next place) ∙ sym (drop-drop 16384 (place * 16384) bytes) in
    record {
      within = λ slot has. elim (or_cases (eqb one.chunk.slot slot) (any_in (chunks_in written) slot) has) [
        | inl same ↦ subst (λ (n : ℕ). IsWithin n disk) (eqb-true one.chunk.slot slot same) part.within
        | inr other ↦ later.within slot other
      ];
      joined =
          ap (λ (l : List ℕ). l ++ parts_of (size - 16384) (chunks_in written) disk) own
          ∙ (ap (λ (l : List ℕ). piece place bytes ++ l) (later.joined ∙ behind) ∙ take-append-drop 16384 left);
      digests = (part.digest ∙ ap sha256 (sym own), later.digests);
    }
  where
    next : (p : ℕ) → (p + 1) * 16384 ≡ p * 16384 + 16384
    next p = omega arith

-- ---- a block

pub parts_make : (block : Block) (bytes : List ℕ) (written : List Written) (told : Option (List ℕ)) → makes written block (length bytes) ≡ true → ((place : ℕ) → place * 16384 < length bytes → HasPart block place (take 16384 (drop (place * 16384) bytes)) written told) → IfSome told (Has (intact bytes) (row_of written block (length bytes)))
parts_make block bytes written None is parts = tt
parts_make block bytes written (Some disk) is parts =
    let all = made_from (written_of block written) 0 (length bytes) bytes disk is (omega arith) each in
    record { within = all.within; bytes = all.joined; digests = λ are. all.digests }
  where
    at : (place : ℕ) (less : place * 16384 < length bytes) (ones : List Written) → AllByRecursion (λ one. is_of block one ≡ true) ones → AreThis (is_at block place) (record { block = block; place = place; size = length (piece place bytes); chunk = (parts place less).chunk }) ones → AllByRecursion (λ (one : Written). one.place ≡ place → IsPart (piece place bytes) disk one) ones
    at place less [] are this = tt
    at place less (one ∷ ones) are this = (
      λ same. subst (IsPart (piece place bytes) disk) (sym (this.0 (and_from (is_of block one) (eqb one.place place) are.0 (eq-eqb one.place place same)))) (record {
        within = (parts place less).has.0;
        is = (parts place less).has.1;
        digest = (parts place less).digest;
      }),
      at place less ones are.1 this.1,
    )

    each : ArePartsOf bytes disk (written_of block written)
    each place less =
        let this : Written = record { block = block; place = place; size = length (piece place bytes); chunk = (parts place less).chunk } in
        at place less (written_of block written) (they_pass (is_of block) written) (all_of (λ one. is_at block place one ≡ true → one ≡ this) (is_of block) written (alone (is_at block place) this written (parts place less).listed))

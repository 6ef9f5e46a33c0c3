-- Members one after the other.
use Rattle.std.proofs.Common.{◌≡◌, inl, inr, ℕ, ◌+◌, ◌<◌, List, [], ◌∷◌, ◌++◌, length, get_or, take, drop, Option, None, Some, refl, sym, ap, ◌∙◌, subst, arith, add-one, drop-cons}
use Rattle.std.proofs.lemmas.List.{take-append-drop}
use Rattle.oz_core.specs.declared.event.PutRefusal.{PutRefusal}
use Rattle.oz_datanode.specs.Datanode.{State}
use Rattle.oz_world.specs.Disk.{Images}
use Rattle.oz_replicas.specs.Notes.{Subject}
use Rattle.oz_replicas.specs.Reading.{Gave, IsFirstGiven}
use Rattle.oz_replicas.specs.Writing.{Answered, AllAnswered, StopsShort}
use Rattle.oz_replicas.specs.declared.note.Note.{Note}

module _ {D K N : Type 0} (told : D → Option (List ℕ)) (clock : D → ℕ) (image : D → Images) (faults : D → ℕ) (stands : K → State D → Type 0) (noted : N → List Note → N → Type 0) (knows : N → K → Type 0) (subject : Subject) where
  -- all three answered
  pub all_three : (members : List ℕ) (one two three : Option PutRefusal) (start first second third : N) → length members ≡ 3 → Answered told clock image faults stands noted knows subject (get_or members 0 0) one start first → Answered told clock image faults stands noted knows subject (get_or members 1 0) two first second → Answered told clock image faults stands noted knows subject (get_or members 2 0) three second third
      → AllAnswered told clock image faults stands noted knows subject members (one ∷ two ∷ three ∷ []) start third
  all_three [] one two three start first second third count a b c = absurd (omega (arith, count))
  all_three (x ∷ []) one two three start first second third count a b c = absurd (omega (arith, count))
  all_three (x ∷ y ∷ []) one two three start first second third count a b c = absurd (omega (arith, count))
  all_three (x ∷ y ∷ z ∷ []) one two three start first second third count a b c = (first, (a, (second, (b, (third, (c, refl))))))
  all_three (x ∷ y ∷ z ∷ w ∷ more) one two three start first second third count a b c = absurd (omega (arith, count))

  -- one did, and the second had no memory
  pub short_one : (members : List ℕ) (one : Option PutRefusal) (start first after : N) → length members ≡ 3 → Answered told clock image faults stands noted knows subject (get_or members 0 0) one start first → noted first [] after → StopsShort told clock image faults stands noted knows subject members start after
  short_one [] one start first after count a none = absurd (omega (arith, count))
  short_one (x ∷ more) one start first after count a none = record {
    answers = one ∷ [];
    fewer = omega (arith, count);
    reached = first;
    all = (first, (a, refl));
    none = none;
  }

  -- two did, and the third had none
  pub short_two : (members : List ℕ) (one two : Option PutRefusal) (start first second after : N) → length members ≡ 3 → Answered told clock image faults stands noted knows subject (get_or members 0 0) one start first → Answered told clock image faults stands noted knows subject (get_or members 1 0) two first second → noted second [] after
      → StopsShort told clock image faults stands noted knows subject members start after
  short_two [] one two start first second after count a b none = absurd (omega (arith, count))
  short_two (x ∷ []) one two start first second after count a b none = absurd (omega (arith, count))
  short_two (x ∷ y ∷ more) one two start first second after count a b none = record {
    answers = one ∷ two ∷ [];
    fewer = omega (arith, count);
    reached = second;
    all = (first, (a, (second, (b, refl))));
    none = none;
  }

module _ {D K N : Type 0} (told : D → Option (List ℕ)) (clock : D → ℕ) (image : D → Images) (faults : D → ℕ) (stands : K → State D → Type 0) (noted : N → List Note → N → Type 0) (knows : N → K → Type 0) (subject : Subject) where
  -- one more gave none
  pub first_more : (members : List ℕ) (size dn : ℕ) (start now next : N) → IsFirstGiven told clock image faults stands noted knows subject size members None start now → Gave told clock image faults stands noted knows subject size dn None now next → IsFirstGiven told clock image faults stands noted knows subject size (members ++ dn ∷ []) None start next
  first_more [] size dn start now next none gave = inr (next, (subst (λ (n : N). Gave told clock image faults stands noted knows subject size dn None n next) none.1 gave, (refl, refl)))
  first_more (x ∷ members) size dn start now next (inl found) gave = absurd (never found.0 found.1.0)
    where
      never : (bytes : List ℕ) → ◌≡◌ {A = Option (List ℕ)} None (Some bytes) → ⊥
      never bytes is = cc
  first_more (x ∷ members) size dn start now next (inr none) gave = inr (none.0, (none.1.0, first_more members size dn none.0 now next none.1.1 gave))

  -- and the next one gave these bytes
  pub first_found : (members : List ℕ) (size dn : ℕ) (rest bytes : List ℕ) (start now next : N) → IsFirstGiven told clock image faults stands noted knows subject size members None start now → Gave told clock image faults stands noted knows subject size dn (Some bytes) now next → IsFirstGiven told clock image faults stands noted knows subject size (members ++ dn ∷ rest) (Some bytes) start next
  first_found [] size dn rest bytes start now next none gave = inl (bytes, (refl, subst (λ (n : N). Gave told clock image faults stands noted knows subject size dn (Some bytes) n next) none.1 gave))
  first_found (x ∷ members) size dn rest bytes start now next (inl found) gave = absurd (never found.0 found.1.0)
    where
      never : (bytes : List ℕ) → ◌≡◌ {A = Option (List ℕ)} None (Some bytes) → ⊥
      never bytes is = cc
  first_found (x ∷ members) size dn rest bytes start now next (inr none) gave = inr (none.0, (none.1.0, first_found members size dn rest bytes none.0 now next none.1.1 gave))

-- a list around one of its places
pub cut_at : (l : List ℕ) (i : ℕ) → i < length l → l ≡ take i l ++ (get_or l i 0 ∷ drop (i + 1) l)
cut_at l i within = sym (take-append-drop i l) ∙ ap (λ (rest : List ℕ). take i l ++ rest) (drop-cons l i 0 within ∙ ap (λ (n : ℕ). get_or l i 0 ∷ drop n l) (sym (add-one i)))

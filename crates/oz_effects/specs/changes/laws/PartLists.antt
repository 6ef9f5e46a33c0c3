-- What is made of all rows is made of those that begin with the right fields.
use Rattle.std.proofs.Common.{◌≡◌, ◌||◌, ℕ, Bool, true, false, List, [], ◌∷◌, ◌++◌, refl, sym, ◌∙◌, ap}
use Rattle.std.specs.List.{flat_map, list_any, AllByRecursion}
use Rattle.std.proofs.lemmas.List.{append-nil}
use Rattle.std.proofs.lemmas.List.Concat.{flat_map-append, flat_map-cons}
use Rattle.std.proofs.lemmas.List.Folds.{list_any-append}
use Rattle.std.specs.Ordering.{is_eq}
use Rattle.std.specs.declared.cmp.Ordering.{Ordering}
use Rattle.std.specs.declared.cmp.Ordering.TheVariants.{Less, Equal, Greater}
use Rattle.oz_rows.specs.declared.operation.Change.{Change}
use Rattle.oz_rows.specs.declared.entry.RowEntry.{RowEntry}
use Rattle.oz_effects.specs.Parts.{IsPart, part_order}

pub flat_each : (f g : RowEntry → List Change) → ((entry : RowEntry) → f entry ≡ g entry) → (l : List RowEntry) → flat_map f l ≡ flat_map g l
flat_each f g same [] = refl
flat_each f g same (entry ∷ l) = flat_map-cons f entry l ∙ ap (λ (changes : List Change). changes ++ flat_map f l) (same entry)
    ∙ ap (λ (changes : List Change). g entry ++ changes) (flat_each f g same l) ∙ sym (flat_map-cons g entry l)

module _ (P : RowEntry → Type 0) (f g : RowEntry → List Change) (same : (entry : RowEntry) → P entry → f entry ≡ g entry) where
  pub flat_same : (l : List RowEntry) → AllByRecursion P l → flat_map f l ≡ flat_map g l
  flat_same [] all = refl
  flat_same (entry ∷ l) all = flat_map-cons f entry l ∙ ap (λ (changes : List Change). changes ++ flat_map f l) (same entry all.0)
      ∙ ap (λ (changes : List Change). g entry ++ changes) (flat_same l all.1) ∙ sym (flat_map-cons g entry l)

module _ (P : RowEntry → Type 0) (f : RowEntry → List Change) (nothing : (entry : RowEntry) → P entry → f entry ≡ []) where
  pub flat_none : (l : List RowEntry) → AllByRecursion P l → flat_map f l ≡ []
  flat_none [] all = refl
  flat_none (entry ∷ l) all = flat_map-cons f entry l ∙ ap (λ (changes : List Change). changes ++ flat_map f l) (nothing entry all.0) ∙ flat_none l all.1

module _ (P : RowEntry → Type 0) (test : RowEntry → Bool) (fails : (entry : RowEntry) → P entry → test entry ≡ false) where
  pub any_none : (l : List RowEntry) → AllByRecursion P l → list_any test l ≡ false
  any_none [] all = refl
  any_none (entry ∷ l) all = ap (λ (t : Bool). t || list_any test l) (fails entry all.0) ∙ any_none l all.1

abbrev pub to_key : List (List ℕ) → Ordering → RowEntry → Type 0
to_key front order entry = part_order front entry.key ≡ order

three : (f : RowEntry → List Change) (a b c : List RowEntry) → flat_map f (a ++ (b ++ c)) ≡ flat_map f a ++ (flat_map f b ++ flat_map f c)
three f a b c = flat_map-append f a (b ++ c) ∙ ap (λ (changes : List Change). flat_map f a ++ changes) (flat_map-append f b c)

-- only rows of the part give something
pub flat_part : (f : RowEntry → List Change) (all : List RowEntry) (front : List (List ℕ)) (part : List RowEntry) → IsPart all front part
    → ((entry : RowEntry) → is_eq (part_order front entry.key) ≡ false → f entry ≡ []) → flat_map f all ≡ flat_map f part
flat_part f all front part is outside =
    ap (flat_map f) is.parts
    ∙ three f is.lower part is.greater
    ∙ ap (λ (changes : List Change). changes ++ (flat_map f part ++ flat_map f is.greater))
    (flat_none (to_key front Greater) f (λ entry e. outside entry (ap is_eq e)) is.lower is.before)
    ∙ ap (λ (changes : List Change). flat_map f part ++ changes) (flat_none (to_key front Less) f (λ entry e. outside entry (ap is_eq e)) is.greater is.behind)
    ∙ append-nil (flat_map f part)

pub any_part : (test : RowEntry → Bool) (all : List RowEntry) (front : List (List ℕ)) (part : List RowEntry) → IsPart all front part
    → ((entry : RowEntry) → is_eq (part_order front entry.key) ≡ false → test entry ≡ false) → list_any test all ≡ list_any test part
any_part test all front part is outside =
    ap (list_any test) is.parts
    ∙ list_any-append test is.lower (part ++ is.greater)
    ∙ ap (λ (t : Bool). t || list_any test (part ++ is.greater))
    (any_none (to_key front Greater) test (λ entry e. outside entry (ap is_eq e)) is.lower is.before)
    ∙ list_any-append test part is.greater
    ∙ ap (λ (t : Bool). list_any test part || t) (any_none (to_key front Less) test (λ entry e. outside entry (ap is_eq e)) is.greater is.behind)
    ∙ or_false (list_any test part)
  where
    or_false : (t : Bool) → (t || false) ≡ t
    or_false true = refl
    or_false false = refl

-- Rows of two parts give something. Those of the first and before it give nothing of what the second gives.
module _ (f second : RowEntry → List Change) (all : List RowEntry) (front later : List (List ℕ)) (part other : List RowEntry) (is : IsPart all front part)
    (is_later : IsPart all later other)
    (none_before : (entry : RowEntry) → part_order front entry.key ≡ Greater → f entry ≡ [])
    (not_before : (entry : RowEntry) → part_order front entry.key ≡ Greater → second entry ≡ [])
    (not_here : (entry : RowEntry) → part_order front entry.key ≡ Equal → second entry ≡ [])
    (behind : (entry : RowEntry) → part_order front entry.key ≡ Less → f entry ≡ second entry)
    (outside : (entry : RowEntry) → is_eq (part_order later entry.key) ≡ false → second entry ≡ [])
    (inside : (entry : RowEntry) → part_order later entry.key ≡ Equal → f entry ≡ second entry) where
  rest_second : flat_map second all ≡ flat_map second is.greater
  rest_second =
      ap (flat_map second) is.parts
      ∙ three second is.lower part is.greater
      ∙ ap (λ (changes : List Change). changes ++ (flat_map second part ++ flat_map second is.greater))
      (flat_none (to_key front Greater) second not_before is.lower is.before)
      ∙ ap (λ (changes : List Change). changes ++ flat_map second is.greater) (flat_none (to_key front Equal) second not_here part is.among)

  pub flat_parts : flat_map f all ≡ flat_map f part ++ flat_map f other
  flat_parts =
      ap (flat_map f) is.parts
      ∙ three f is.lower part is.greater
      ∙ ap (λ (changes : List Change). changes ++ (flat_map f part ++ flat_map f is.greater))
      (flat_none (to_key front Greater) f none_before is.lower is.before)
      ∙ ap (λ (changes : List Change). flat_map f part ++ changes)
      (flat_same (to_key front Less) f second behind is.greater is.behind
      ∙ sym rest_second
      ∙ flat_part second all later other is_later outside
      ∙ sym (flat_same (to_key later Equal) f second inside other is_later.among))

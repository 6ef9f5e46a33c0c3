-- Readings that belong to a spelling, one field after the other.
use Rattle.std.proofs.Common.{◌≡◌, ℕ, Bool, true, false, cond, List, [], ◌++◌, length, Option, None, Some, Result, Ok}
use Rattle.std.proofs.Common.{Err, refl, sym, ap, subst, ◌∙◌, append_assoc}
use Rattle.oz_fields.specs.Field.{AreBytes, IsField}
use Rattle.oz_fields.specs.laws.Bytes.{AreBytes-behind}
use Rattle.oz_rows.specs.Reading.{goes_on, ◌>>=◌, done, kept, field}

-- what is spelled is read back, whatever follows it, and what is read fits and stands there in its spelling
pub record IsRead {A : Type 0} (Fits : A → Type 0) (spelling : A → List ℕ) (read : List ℕ → Result (A × List ℕ) ℕ) : Type 0 where
  pub reads_back : (value : A) (rest : List ℕ) → Fits value → read (spelling value ++ rest) ≡ Ok (value, rest)
  pub one_spelling : (bytes : List ℕ) (value : A) (rest : List ℕ) → AreBytes bytes → read bytes ≡ Ok (value, rest) → Fits value
      × (bytes ≡ spelling value ++ rest)

-- the same under another name of what fits
pub fits_as : {A : Type 0} (Fits Other : A → Type 0) (spelling : A → List ℕ) (read : List ℕ → Result (A × List ℕ) ℕ)
    → ((value : A) → Fits value → Other value) → ((value : A) → Other value → Fits value) → IsRead Fits spelling read → IsRead Other spelling read
fits_as Fits Other spelling read there back is = record {
  reads_back = λ value rest fits. is.reads_back value rest (back value fits);
  one_spelling = λ bytes value rest fit e. let found = is.one_spelling bytes value rest fit e in (there value found.0, found.1);
}

pub kept-found : {A : Type 0} (rule : A → Bool) (left : ℕ) (found : A × List ℕ) → rule found.0 ≡ true → kept rule left (Some found) ≡ Ok found
kept-found {A} rule left found passes = ap (λ (b : Bool). cond b (Ok found) (Err left)) passes

passed : {A : Type 0} (b : Bool) (left : ℕ) (found other : A) → cond b (Ok found) (Err left) ≡ Ok other → (b ≡ true) × (found ≡ other)
passed true left found other e = (refl, cc)
passed false left found other e = absurd cc

kept-is : {A : Type 0} (rule : A → Bool) (left : ℕ) (read : Option (A × List ℕ)) (other : A × List ℕ) → kept rule left read ≡ Ok other
    → (rule other.0 ≡ true) × (read ≡ Some other)
kept-is rule left None other e = absurd cc
kept-is {A} rule left (Some found) other e =
    let through = passed (rule found.0) left found other e in
    (subst (λ (x : A × List ℕ). rule x.0 ≡ true) through.1 through.0, ap (λ (x : A × List ℕ). Some x) through.1)

-- a field with a rule
pub field_reads : {A : Type 0} (Fits : A → Type 0) (spelling : A → List ℕ) (read : List ℕ → Option (A × List ℕ)) (rule : A → Bool)
    → IsField Fits spelling read → IsRead (λ value. Fits value × (rule value ≡ true)) spelling (field read rule)
field_reads {A} Fits spelling read rule is = record {
  reads_back = λ value rest fits.
      ap (λ (found : Option (A × List ℕ)). kept rule (length (spelling value ++ rest)) found) (is.reads_back value rest fits.0)
      ∙ kept-found rule (length (spelling value ++ rest)) (value, rest) fits.1;
  one_spelling = λ bytes value rest fit e.
      let found = kept-is rule (length bytes) (read bytes) (value, rest) e in
      let spelled = is.one_spelling bytes value rest fit found.1 in
      ((spelled.0, found.0), spelled.1);
}

-- what is found behind a front that was read before
pub record Finds {C : Type 0} (Fits : C → Type 0) (spelling : C → List ℕ) (front : List ℕ) (read : List ℕ → Result (C × List ℕ) ℕ) : Type 0 where
  pub found : (bytes : List ℕ) (value : C) (rest : List ℕ) → AreBytes bytes → read bytes ≡ Ok (value, rest) → Fits value
      × (front ++ bytes ≡ spelling value ++ rest)

pub finds_done : {C : Type 0} {Fits : C → Type 0} {spelling : C → List ℕ} {front : List ℕ} {value : C} → Fits value → front ≡ spelling value
    → Finds Fits spelling front (done value)
finds_done {C = C} {Fits = Fits} {spelling = spelling} {front = front} {value = value} fits is = record {
  found = λ bytes other rest fit e.
      subst (λ (read : C × List ℕ). Fits read.0 × (front ++ bytes ≡ spelling read.0 ++ read.1)) (same (value, bytes) (other, rest) e)
      (fits, ap (λ (text : List ℕ). text ++ bytes) is);
} where
  same : (made found : C × List ℕ) → done made.0 made.1 ≡ Ok found → made ≡ found
  same made found e = cc

went_on : {A B : Type 0} (read : Result (A × List ℕ) ℕ) (next : A → List ℕ → Result (B × List ℕ) ℕ) (found : B × List ℕ) → goes_on read next ≡ Ok found
    → (x : A × List ℕ) × (read ≡ Ok x) × (next x.0 x.1 ≡ Ok found)
went_on (Ok x) next found e = (x, refl, e)
went_on (Err left) next found e = absurd cc

pub finds_then : {A C : Type 0} {Part : A → Type 0} {part : A → List ℕ} {read : List ℕ → Result (A × List ℕ) ℕ} {Fits : C → Type 0} {spelling : C
    → List ℕ} {front : List ℕ} {next : A → List ℕ → Result (C × List ℕ) ℕ}
    → IsRead Part part read → ((x : A) → Part x → Finds Fits spelling (front ++ part x) (next x)) → Finds Fits spelling front (read >>= next)
finds_then {part = part} {read = read} {front = front} {next = next} is further = record {
  found = λ bytes value rest fit e.
      let first = went_on (read bytes) next (value, rest) e in
      let spelled = is.one_spelling bytes first.0.0 first.0.1 fit first.1 in
      let all = (further first.0.0 spelled.0).found first.0.1 value rest (AreBytes-behind bytes (part first.0.0) first.0.1 fit spelled.1) first.2 in
      (all.0, ap (λ (text : List ℕ). front ++ text) spelled.1 ∙ sym (append_assoc front (part first.0.0) first.0.1) ∙ all.1);
}

pub finds_either : {C : Type 0} {Fits : C → Type 0} {spelling : C → List ℕ} {front : List ℕ} (test : Bool) {here there : List ℕ → Result (C × List ℕ) ℕ}
    → (test ≡ true → Finds Fits spelling front here) → (test ≡ false → Finds Fits spelling front there) → Finds Fits spelling front (cond test here there)
finds_either true first second = first refl
finds_either false first second = second refl

-- a reading that ends what was begun
pub finds_last : {C : Type 0} {Part : C → Type 0} {part : C → List ℕ} {read : List ℕ → Result (C × List ℕ) ℕ} {Fits : C → Type 0} {spelling : C
    → List ℕ} {front : List ℕ}
    → IsRead Part part read → ((x : C) → Part x → Fits x × (front ++ part x ≡ spelling x)) → Finds Fits spelling front read
finds_last {part = part} {front = front} is further = record {
  found = λ bytes value rest fit e.
      let spelled = is.one_spelling bytes value rest fit e in
      let all = further value spelled.0 in
      (all.0, ap (λ (text : List ℕ). front ++ text) spelled.1 ∙ sym (append_assoc front (part value) rest) ∙ ap (λ (text : List ℕ). text ++ rest) all.1);
}

pub finds_none : {C : Type 0} {Fits : C → Type 0} {spelling : C → List ℕ} {front : List ℕ} {left : ℕ} → Finds Fits spelling front (λ bytes. Err left)
finds_none = record { found = λ bytes value rest fit e. absurd cc }

-- what is read back from its text, whatever follows
pub record Backs {C : Type 0} (read : List ℕ → Result (C × List ℕ) ℕ) (text : List ℕ) (value : C) : Type 0 where
  pub back : (rest : List ℕ) → read (text ++ rest) ≡ Ok (value, rest)

pub backs_done : {C : Type 0} {value : C} → Backs (done value) [] value
backs_done = record { back = λ rest. refl }

pub backs_last : {C : Type 0} {Part : C → Type 0} {part : C → List ℕ} {read : List ℕ → Result (C × List ℕ) ℕ} (x : C) → IsRead Part part read → Part x
    → Backs read (part x) x
backs_last x is fits = record { back = λ rest. is.reads_back x rest fits }

pub backs_then : {A C : Type 0} {Part : A → Type 0} {part : A → List ℕ} {read : List ℕ → Result (A × List ℕ) ℕ} (next : A → List ℕ → Result (C × List ℕ) ℕ)
    (x : A) {text : List ℕ} {value : C}
    → IsRead Part part read → Part x → Backs (next x) text value → Backs (read >>= next) (part x ++ text) value
backs_then {A = A} {C = C} {part = part} {read = read} next x {text = text} is fits further = record {
  back = λ rest.
      ap (λ (bytes : List ℕ). goes_on (read bytes) next) (append_assoc (part x) text rest)
      ∙ ap (λ (found : Result (A × List ℕ) ℕ). goes_on found next) (is.reads_back x (text ++ rest) fits) ∙ further.back rest;
}

pub backs_as : {C : Type 0} {read : List ℕ → Result (C × List ℕ) ℕ} {text other : List ℕ} {value : C} → text ≡ other → Backs read text value
    → Backs read other value
backs_as {read = read} {value = value} is backs = subst (λ (t : List ℕ). Backs read t value) is backs

-- a reading that finds, and reads back
pub is_read : {C : Type 0} {Fits : C → Type 0} {spelling : C → List ℕ} {read : List ℕ → Result (C × List ℕ) ℕ} → Finds Fits spelling [] read
    → ((value : C) → Fits value → Backs read (spelling value) value) → IsRead Fits spelling read
is_read finds backs = record {
  reads_back = λ value rest fits. (backs value fits).back rest;
  one_spelling = λ bytes value rest fit e. finds.found bytes value rest fit e;
}

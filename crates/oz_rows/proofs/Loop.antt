-- Reading items one after the other, as a loop does.
use Rattle.std.proofs.Common.{◌≡◌, ℕ, suc, ◌-◌, ◌+◌, ◌≤◌, ◌<◌, List, [], ◌∷◌, ◌++◌, Result, Ok, Err, refl, sym, ap, ◌∙◌, append_assoc, arith}
use Rattle.std.proofs.lemmas.List.{append-nil}
use Rattle.oz_rows.specs.declared.fault.ReadFault.{ReadFault}
use Rattle.oz_rows.specs.declared.fault.ReadFault.TheVariants as faults
use Rattle.oz_rows.specs.Reading.{goes_on, done, with_front, items_at, ReadFails}

-- the items that are read behind one more
abbrev behind : {A : Type 0} → List A → A → Result (List A × List ℕ) ℕ → Result (List A × List ℕ) ℕ
behind front x read = goes_on (goes_on read (λ others. done (x ∷ others))) (λ others. done (front ++ others))

regroup : {A : Type 0} (front : List A) (x : A) (read : Result (List A × List ℕ) ℕ) → behind front x read ≡ goes_on read (λ others. done ((front ++ x ∷ []) ++ others))
regroup {A} front x (Ok found) = ap (λ (items : List A). Ok (items, found.1)) (simp append_assoc)
regroup front x (Err left) = refl

pub one_more : {A : Type 0} (item : List ℕ → Result (A × List ℕ) ℕ) (front : List A) (count i : ℕ) (bytes : List ℕ) (x : A) (after : List ℕ) (total : Result (List A × List ℕ) ℕ) → i < count → item bytes ≡ Ok (x, after)
    → with_front front (items_at item (count - i)) bytes ≡ total → with_front (front ++ x ∷ []) (items_at item (count - (i + 1))) after ≡ total
unfolding items_at
one_more item front count i bytes x after total below here so_far =
    let left : count - i ≡ suc (count - (i + 1)) = omega arith in
    let one : with_front front (items_at item (count - i)) bytes ≡ with_front (front ++ x ∷ []) (items_at item (count - (i + 1))) after = rw (left, here) (regroup front x (items_at item (count - (i + 1)) after)) in
    sym one ∙ so_far

pub stops : {A : Type 0} (item : List ℕ → Result (A × List ℕ) ℕ) (fault : ReadFault) (front : List A) (count i : ℕ) (bytes : List ℕ) (total : Result (List A × List ℕ) ℕ) → i < count → ReadFails fault (item bytes)
    → with_front front (items_at item (count - i)) bytes ≡ total → ReadFails fault total
unfolding items_at
stops item faults.OutOfMemory front count i bytes total below here so_far = tt
stops item (faults.Left far) front count i bytes total below here so_far =
    let left : count - i ≡ suc (count - (i + 1)) = omega arith in
    let one : with_front front (items_at item (count - i)) bytes ≡ Err far = rw (left, here) refl in
    sym so_far ∙ one

pub is_done : {A : Type 0} (item : List ℕ → Result (A × List ℕ) ℕ) (front : List A) (count i : ℕ) (bytes : List ℕ) (total : Result (List A × List ℕ) ℕ) → count ≤ i → with_front front (items_at item (count - i)) bytes ≡ total → total ≡ Ok (front, bytes)
unfolding items_at
is_done {A} item front count i bytes total past so_far =
    let none : count - i ≡ 0 = omega arith in
    let one : with_front front (items_at item (count - i)) bytes ≡ Ok (front, bytes) = rw none (ap (λ (items : List A). Ok (items, bytes)) (append-nil front)) in
    sym so_far ∙ one

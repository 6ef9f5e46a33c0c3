-- Reading items one after the other, as a loop does.
use Rattle.std.proofs.Common.{◌≡◌, ℕ, suc, ◌-◌, ◌+◌, ◌≤◌, ◌<◌, List, [], ◌∷◌, ◌++◌, Result, Ok, Err, refl, sym, ◌∙◌, arith}
use Rattle.oz_rows.specs.declared.fault.ReadFault.{ReadFault}
use Rattle.oz_rows.specs.declared.fault.ReadFault.TheVariants as faults
use Rattle.oz_rows.specs.Reading.{ReadFails}
use Rattle.oz_entries.specs.Reading.{each_at}

pub one_more : {A : Type 0} (item : List A → List ℕ → Result (A × List ℕ) ℕ) (front : List A) (count i : ℕ) (bytes : List ℕ) (x : A) (after : List ℕ) (total : Result (List A × List ℕ) ℕ) → i < count → item front bytes ≡ Ok (x, after)
    → each_at item front (count - i) bytes ≡ total → each_at item (front ++ x ∷ []) (count - (i + 1)) after ≡ total
unfolding each_at
one_more item front count i bytes x after total below here so_far =
    let left : count - i ≡ suc (count - (i + 1)) = omega arith in
    let one : each_at item front (count - i) bytes ≡ each_at item (front ++ x ∷ []) (count - (i + 1)) after = rw (left, here) refl in
    sym one ∙ so_far

pub stops : {A : Type 0} (item : List A → List ℕ → Result (A × List ℕ) ℕ) (fault : ReadFault) (front : List A) (count i : ℕ) (bytes : List ℕ) (total : Result (List A × List ℕ) ℕ) → i < count → ReadFails fault (item front bytes)
    → each_at item front (count - i) bytes ≡ total → ReadFails fault total
unfolding each_at
stops item faults.OutOfMemory front count i bytes total below here so_far = tt
stops item (faults.Left far) front count i bytes total below here so_far =
    let left : count - i ≡ suc (count - (i + 1)) = omega arith in
    let one : each_at item front (count - i) bytes ≡ Err far = rw (left, here) refl in
    sym so_far ∙ one

pub is_done : {A : Type 0} (item : List A → List ℕ → Result (A × List ℕ) ℕ) (front : List A) (count i : ℕ) (bytes : List ℕ) (total : Result (List A × List ℕ) ℕ) → count ≤ i → each_at item front (count - i) bytes ≡ total → total ≡ Ok (front, bytes)
unfolding each_at
is_done item front count i bytes total past so_far =
    let none : count - i ≡ 0 = omega arith in
    let one : each_at item front (count - i) bytes ≡ Ok (front, bytes) = rw none refl in
    sym so_far ∙ one

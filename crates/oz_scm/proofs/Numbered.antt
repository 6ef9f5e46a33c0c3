-- Reading ids one after the other, as a loop does.
use Rattle.std.proofs.Common.{◌≡◌, ℕ, suc, ◌-◌, ◌+◌, ◌≤◌, ◌<◌, true, List, [], ◌∷◌, ◌++◌, Result, Ok, Err, refl, sym, ◌∙◌, arith}
use Rattle.oz_fields.specs.Number.{u64_at}
use Rattle.oz_scm.specs.declared.grants.fault.ReadFault.{ReadFault}
use Rattle.oz_scm.specs.declared.grants.fault.ReadFault.TheVariants as faults
use Rattle.oz_scm.specs.grants.Reading.{field, numbers_at}
use Rattle.oz_scm.specs.grants.Steps.{ReadFails}

pub one_more : (front : List ℕ) (count i : ℕ) (bytes : List ℕ) (x : ℕ) (after : List ℕ) (total : Result (List ℕ × List ℕ) ℕ) → i < count → field u64_at (λ number. true) bytes ≡ Ok (x, after)
    → numbers_at front (count - i) bytes ≡ total → numbers_at (front ++ x ∷ []) (count - (i + 1)) after ≡ total
unfolding numbers_at
one_more front count i bytes x after total below here so_far =
    let left : count - i ≡ suc (count - (i + 1)) = omega arith in
    let one : numbers_at front (count - i) bytes ≡ numbers_at (front ++ x ∷ []) (count - (i + 1)) after = rw (left, here) refl in
    sym one ∙ so_far

pub stops : (fault : ReadFault) (front : List ℕ) (count i : ℕ) (bytes : List ℕ) (total : Result (List ℕ × List ℕ) ℕ) → i < count → ReadFails fault (field u64_at (λ number. true) bytes)
    → numbers_at front (count - i) bytes ≡ total → ReadFails fault total
unfolding numbers_at
stops faults.OutOfMemory front count i bytes total below here so_far = tt
stops (faults.Left far) front count i bytes total below here so_far =
    let left : count - i ≡ suc (count - (i + 1)) = omega arith in
    let one : numbers_at front (count - i) bytes ≡ Err far = rw (left, here) refl in
    sym so_far ∙ one

pub is_done : (front : List ℕ) (count i : ℕ) (bytes : List ℕ) (total : Result (List ℕ × List ℕ) ℕ) → count ≤ i → numbers_at front (count - i) bytes ≡ total → total ≡ Ok (front, bytes)
unfolding numbers_at
is_done front count i bytes total past so_far =
    let none : count - i ≡ 0 = omega arith in
    let one : numbers_at front (count - i) bytes ≡ Ok (front, bytes) = rw none refl in
    sym so_far ∙ one

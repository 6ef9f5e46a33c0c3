-- The bodies that the bytes of a journal show.
use Rattle.std.proofs.Common.{◌≡◌, ◌≢◌, inl, inr, ℕ, zero, suc, ◌==◌, ◌<◌, ◌≤◌, ◌^◌, Bool, true, false, List, [], ◌∷◌, ◌++◌, length, drop, Option, None, Some, IfSome, IsSome, cond, refl, sym, ◌∙◌, ap, arith, append_assoc, length-append}
use Rattle.std.proofs.lemmas.Bool.{ne_eqb, false≢true}
use Rattle.std.proofs.lemmas.List.{take_at, drop_at}
use Rattle.oz_fields.specs.Number.{number_at, u32_bytes, u32_at}
use Rattle.oz_fields.specs.laws.Numbers.{u32_field}
use Rattle.oz_journal.specs.Grammar.{HaveSizes, IsJournal, records, sized}
use Rattle.oz_running.specs.disk_run.Shown.{and_further, bodies_at, bodies_shown, body_in, record_at}

-- a body behind its length is read back
read_body : (body rest : List ℕ) → length body < 2 ^ 32 → body_in (u32_at (sized body ++ rest)) ≡ Some (body, rest)
read_body body rest small =
    ap body_in (ap u32_at (append_assoc (u32_bytes (length body)) body rest) ∙ u32_field.reads_back (length body) (body ++ rest) small)
    ∙ (ap (λ (l : List ℕ). Some (l, drop (length body) (body ++ rest))) (take_at body rest (length body) refl)
    ∙ ap (λ (l : List ℕ). Some (body, l)) (drop_at body rest (length body) refl))

closed_gate : (gate : ℕ) (rest : List ℕ) → gate ≢ 1 → record_at (gate ∷ rest) ≡ None
closed_gate gate rest closed = ap (λ t. cond t (body_in (u32_at rest)) None) (ne_eqb gate 1 closed)

read_all : (most : ℕ) (bodies : List (List ℕ)) (gate : ℕ) (rest : List ℕ) → HaveSizes bodies → gate ≢ 1 → length bodies < most
    → bodies_at most (records bodies ++ gate ∷ rest) ≡ bodies
unfolding records bodies_at
read_all zero bodies gate rest sizes closed within = absurd (omega (arith, within))
read_all (suc most) [] gate rest sizes closed within = ap (λ o. and_further o (λ l. bodies_at most l)) (closed_gate gate rest closed)
read_all (suc most) (body ∷ bodies) gate rest sizes closed within =
    let behind = records bodies ++ gate ∷ rest in
    ap (λ o. and_further o (λ l. bodies_at most l)) (ap (λ l. body_in (u32_at l)) (append_assoc (sized body) (records bodies) (gate ∷ rest)) ∙ read_body body behind sizes.0)
    ∙ ap (λ (l : List (List ℕ)). body ∷ l) (read_all most bodies gate rest sizes.1 closed (omega (arith, within)))

-- there are no more bodies than bytes
fewer : (bodies : List (List ℕ)) → length bodies ≤ length (records bodies)
unfolding records
fewer [] = omega arith
fewer (body ∷ bodies) = let rest = fewer bodies in omega (arith, rest, length-append (sized body) (records bodies))

-- at most one byte shows none
few_bytes : (bytes : List ℕ) → length bytes ≤ 1 → bodies_at (length bytes) bytes ≡ []
unfolding bodies_at number_at
few_bytes [] few = refl
few_bytes (gate ∷ []) few = by (gate == 1)
  where
    by : (t : Bool) → and_further (cond t (body_in (u32_at [])) None) (λ l. bodies_at 0 l) ≡ []
    by true = refl
    by false = refl
few_bytes (gate ∷ second ∷ rest) few = absurd (omega (arith, few))

pub journal_shows : (bytes : List ℕ) (bodies : List (List ℕ)) → IsJournal bytes bodies → bodies_shown (Some bytes) ≡ bodies
journal_shows bytes bodies (inl few) = few_bytes bytes few.0 ∙ sym few.1
journal_shows bytes bodies (inr many) =
    let parts = many.1.parts in
    let count : length bodies < length bytes =
    omega (arith, fewer bodies, ap length parts, length-append (records bodies) (many.1.gate ∷ many.1.rest)) in
    ap (bodies_at (length bytes)) parts ∙ read_all (length bytes) bodies many.1.gate many.1.rest many.1.sizes many.1.closed count

-- where a disk tells a journal of bodies, those are shown
pub told_shows : (told : Option (List ℕ)) (bodies : List (List ℕ)) → IsSome told → IfSome told (λ bytes. IsJournal bytes bodies) → bodies_shown told ≡ bodies
told_shows None bodies some journal = absurd (false≢true some)
told_shows (Some bytes) bodies some journal = journal_shows bytes bodies journal

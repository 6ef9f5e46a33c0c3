-- A head before batches, and a batch behind others.
use Rattle.std.proofs.Common.{◌≡◌, ◌⊎◌, ℕ, ◌+◌, ◌-◌, ◌≤◌, List, [], ◌∷◌, ◌++◌, length, take, drop, set, replicate, Result, refl, sym, ap, ◌∙◌, subst, ⊎_elim, arith, append_assoc, length-append, length-take, length-drop, length-set}
use Rattle.std.proofs.lemmas.List.{take_more_set, take_all, drop_all, drop_at, drop-drop, drop-set-lt, drop-append-le, append-nil, length-replicate}
use Rattle.std.proofs.Math.Seq.{take-append-add}
use Rattle.byteorder.specs.Endian.{big_bytes}
use borrow.Rule.Slice.PartMut.{put_mid, mid_of}
use Rattle.oz_fields.specs.Number.{u64_bytes}
use Rattle.oz_journal.specs.batches.Body.{body_bytes}
use Rattle.oz_journal.specs.batches.Waiting.{framed_batches}
use Rattle.oz_journal.specs.Appends.{Appends}
use Rattle.oz_journal.specs.Journal.{body_of}
use Rattle.oz_world.specs.Disk.{Seen}

length-u64_bytes : (n : ℕ) → length (u64_bytes n) ≡ 8
unfolding u64_bytes
length-u64_bytes n = refl

-- a frame in its parts
body_in : (old framed : List ℕ) (index : ℕ) → 14 ≤ length old → framed ≡ (take 4 old ++ 1 ∷ []) ++ (u64_bytes index ++ drop 13 old) → body_of framed ≡ body_bytes index (framed_batches old)
body_in old framed index long is =
    let u = u64_bytes index in
    let eight = length-u64_bytes index in
    let rest = length-drop 13 old in
    let parts : framed ≡ take 4 old ++ (1 ∷ (u ++ drop 13 old)) = is ∙ append_assoc (take 4 old) (1 ∷ []) (u ++ drop 13 old) in
    let four : length (take 4 old) ≡ 4 = omega (arith, length-take 4 old) in
    let behind : drop 4 framed ≡ (1 ∷ u) ++ drop 13 old = ap (λ (l : List ℕ). drop 4 l) parts ∙ drop_at (take 4 old) (1 ∷ (u ++ drop 13 old)) 4 four in
    let size : length framed - 5 ≡ length (1 ∷ u) + (length old - 14) =
    omega (arith, ap length parts, length-append (take 4 old) (1 ∷ (u ++ drop 13 old)), length-append u (drop 13 old), eight, rest, four) in
    ap (λ (l : List ℕ). take (length framed - 5) l) behind ∙ (ap (λ (n : ℕ). take n ((1 ∷ u) ++ drop 13 old)) size ∙ take-append-add (1 ∷ u) (drop 13 old) (length old - 14))

pub head_put : (old buf : List ℕ) (index : ℕ) → 14 ≤ length old → buf ≡ big_bytes 8 index ++ drop 8 (mid_of 5 (length (set old 4 1) - 5) (set old 4 1)) → body_of (put_mid 5 (length (set old 4 1) - 5) (set old 4 1) buf) ≡ body_bytes index (framed_batches old)
unfolding u64_bytes
head_put old buf index long is =
    let new = set old 4 1 in
    let size = length-set old 4 1 in
    let front : take 5 new ≡ take 4 old ++ 1 ∷ [] = take_more_set old 4 1 (omega (arith, long)) in
    let none : drop (length new - 5) (drop 5 new) ≡ [] = drop_all (length new - 5) (drop 5 new) (omega (arith, length-drop 5 new)) in
    let whole : mid_of 5 (length new - 5) new ≡ drop 5 new = take_all (length new - 5) (drop 5 new) (omega (arith, length-drop 5 new)) in
    let rest : drop 8 (mid_of 5 (length new - 5) new) ≡ drop 13 old = ap (λ (l : List ℕ). drop 8 l) whole ∙ (drop-drop 8 5 new ∙ drop-set-lt 13 old 4 1 (omega arith)) in
    body_in old (put_mid 5 (length new - 5) new buf) index long
    (ap (λ (l : List ℕ). l ++ (buf ++ drop (length new - 5) (drop 5 new))) front
    ∙ (ap (λ (l : List ℕ). (take 4 old ++ 1 ∷ []) ++ (buf ++ l)) none
    ∙ ap (λ (l : List ℕ). (take 4 old ++ 1 ∷ []) ++ l) (append-nil buf ∙ (is ∙ ap (λ (l : List ℕ). u64_bytes index ++ l) rest))))

-- the batches of a frame that isn't closed yet
pub behind_front : (framed batch : List ℕ) → 14 ≤ length framed → drop 13 (framed ++ batch) ≡ drop 13 framed ++ batch
behind_front framed batch long = drop-append-le 13 framed batch (omega (arith, long))

-- and of one that was closed
pub closed : (framed : List ℕ) → 14 ≤ length framed → framed_batches (framed ++ 0 ∷ []) ≡ drop 13 framed
closed framed long =
    let size : length (framed ++ 0 ∷ []) - 14 ≡ length (drop 13 framed) + 0 = omega (arith, length-append framed (0 ∷ []), length-drop 13 framed) in
    ap (λ (l : List ℕ). take (length (framed ++ 0 ∷ []) - 14) l) (behind_front framed (0 ∷ []) long)
    ∙ (ap (λ (n : ℕ). take n (drop 13 framed ++ 0 ∷ [])) size ∙ (take-append-add (drop 13 framed) (0 ∷ []) 0 ∙ append-nil (drop 13 framed)))

-- there are batches, so the frame is there
pub is_there : (framed : List ℕ) → (framed ≡ []) ⊎ (14 ≤ length framed) → (drop 13 framed ≡ [] → ⊥) → 14 ≤ length framed
is_there framed shape some = ⊎_elim (λ (none : framed ≡ []). absurd (some (ap (λ (l : List ℕ). drop 13 l) none))) (λ (long : 14 ≤ length framed). long) shape

-- a body by another name
pub appends_as : {T E : Type 0} (one other : List ℕ) (before after : Seen) (result : Result T E) → one ≡ other → Appends one before after result → Appends other before after result
appends_as one other before after result is adds = subst (λ (l : List ℕ). Appends l before after result) is adds

-- a batch behind others, or behind the front that comes before the first
pub put_first : (framed front batch new : List ℕ) → framed ≡ [] → front ≡ framed ++ replicate 13 0 → new ≡ front ++ batch → drop 13 new ≡ drop 13 framed ++ batch
put_first framed front batch new none zeros is =
    let all : new ≡ replicate 13 0 ++ batch = is ∙ ap (λ (l : List ℕ). l ++ batch) (zeros ∙ ap (λ (l : List ℕ). l ++ replicate 13 0) none) in
    ap (λ (l : List ℕ). drop 13 l) all ∙ (drop_at (replicate 13 0) batch 13 (length-replicate {A = ℕ} 13 0) ∙ ap (λ (l : List ℕ). drop 13 l ++ batch) (sym none))

pub put_behind : (framed batch new : List ℕ) → (framed ≡ []) ⊎ (14 ≤ length framed) → (length framed ≡ 0 → ⊥) → new ≡ framed ++ batch → drop 13 new ≡ drop 13 framed ++ batch
put_behind framed batch new shape some is =
    let long : 14 ≤ length framed = ⊎_elim (λ (none : framed ≡ []). absurd (some (ap length none))) (λ (l : 14 ≤ length framed). l) shape in
    ap (λ (l : List ℕ). drop 13 l) is ∙ behind_front framed batch long

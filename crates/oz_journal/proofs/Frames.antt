-- A body with its length before it and a gate behind it.
use Rattle.std.proofs.Common.{◌≡◌, ℕ, ◌+◌, ◌-◌, ◌^◌, ◌<◌, ◌≤◌, List, [], ◌∷◌, ◌++◌, length, take, drop, set, get_or, Some, false, ltb, sym, ◌∙◌, ap, arith, append_assoc, length-append, length-take, length-drop, take-append-drop}
use Rattle.std.proofs.lemmas.Bool.{le-ltb}
use Rattle.std.proofs.lemmas.List.{set_at, drop_more, drop_all}
use Rattle.std.specs.Int.{w32, from_be_bytes}
use Rattle.byteorder.specs.Endian.{big_number, big_bytes}
use Rattle.oz_fields.specs.Field.{AreBytes}
use Rattle.oz_fields.specs.Number.{u32_bytes, u32_at, number_at}
use Rattle.oz_fields.specs.laws.Numbers.{u32_field}
use Rattle.oz_journal.specs.Grammar.{sized}
use Rattle.oz_journal.specs.Journal.{body_of}
use Rattle.oz_journal.proofs.Records.{length-u32_bytes}

-- what was read of the first four bytes
pub read_size : (behind front : List ℕ) (size : ℕ) → 4 ≤ length behind → front ≡ take 4 behind → size ≡ big_number 4 front → u32_at behind ≡ Some (size, drop 4 behind)
unfolding number_at
read_size behind front size long is read =
    let enough : ltb (length behind) 4 ≡ false = le-ltb _ _ long in
    let number : big_number 4 front ≡ from_be_bytes w32 front = omega arith in
    let same : size ≡ from_be_bytes w32 (take 4 behind) = read ∙ number ∙ ap (λ (l : List ℕ). from_be_bytes w32 l) is in
    rw enough (ap (λ (n : ℕ). Some (n, drop 4 behind)) (sym same))

-- so many bytes behind it are the body
pub found_body : (behind rest body after : List ℕ) (size : ℕ) → AreBytes behind → u32_at behind ≡ Some (size, rest) → size ≤ length rest → body ≡ take size rest → after ≡ drop size rest → (length body < 2 ^ 32) × (behind ≡ sized body ++ after)
found_body behind rest body after size are read enough is follows =
    let spelled = u32_field.one_spelling behind size rest are read in
    let count : length body ≡ size = omega (arith, ap length is, length-take size rest) in
    let whole : rest ≡ body ++ after = sym (take-append-drop size rest) ∙ (ap (λ (l : List ℕ). l ++ drop size rest) (sym is) ∙ ap (λ (l : List ℕ). body ++ l) (sym follows)) in (
      omega (arith, spelled.0, count),
      spelled.1 ∙ (ap (λ (l : List ℕ). u32_bytes size ++ l) whole ∙ (ap (λ (n : ℕ). u32_bytes n ++ (body ++ after)) (sym count) ∙ sym (append_assoc (u32_bytes (length body)) body after))),
    )

-- the last byte of a frame is its gate
pub framed_is : (old new : List ℕ) → 5 ≤ length old → new ≡ big_bytes 4 (length old - 1 - 4) ++ drop 4 old → set new (length old - 1) 0 ≡ sized (body_of old) ++ 0 ∷ []
unfolding u32_bytes
framed_is old new long is =
    let count = length old - 5 in
    let body = body_of old in
    let behind = length-drop 4 old in
    let size : length body ≡ count = omega (arith, length-take count (drop 4 old), behind) in
    let last : drop count (drop 4 old) ≡ get_or (drop 4 old) count 0 ∷ [] =
    drop_more (drop 4 old) count 0 (omega (arith, behind)) ∙ ap (λ (l : List ℕ). get_or (drop 4 old) count 0 ∷ l) (drop_all (count + 1) (drop 4 old) (omega (arith, behind))) in
    let whole : drop 4 old ≡ body ++ get_or (drop 4 old) count 0 ∷ [] = sym (take-append-drop count (drop 4 old)) ∙ ap (λ (l : List ℕ). body ++ l) last in
    let number : length old - 1 - 4 ≡ length body = omega (arith, size) in
    let parts : new ≡ sized body ++ get_or (drop 4 old) count 0 ∷ [] =
    is ∙ (ap (λ (n : ℕ). u32_bytes n ++ drop 4 old) number ∙ (ap (λ (l : List ℕ). u32_bytes (length body) ++ l) whole ∙ sym (append_assoc (u32_bytes (length body)) body (get_or (drop 4 old) count 0 ∷ [])))) in
    ap (λ (l : List ℕ). set l (length old - 1) 0) parts ∙ set_at (sized body) (get_or (drop 4 old) count 0) [] 0 (length old - 1) (omega (arith, length-append (u32_bytes (length body)) body, length-u32_bytes (length body), size))

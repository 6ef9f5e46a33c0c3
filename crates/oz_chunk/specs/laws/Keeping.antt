-- What stands in the slots of a disk that is written to.
use Rattle.std.proofs.Common.{
  ◌≡◌,
  inl,
  inr,
  ℕ,
  Bool,
  false,
  ◌+◌,
  ◌-◌,
  ◌*◌,
  ◌≤◌,
  List,
  ◌++◌,
  length,
  take,
  drop,
  replicate,
  refl,
  sym,
  ◌∙◌,
  ap,
  subst,
  arith,
  length-append,
  length-take,
  append_assoc,
}
use Rattle.std.proofs.lemmas.Bool.{cases_lt, false≢true}
use Rattle.std.proofs.lemmas.List.{take_at, drop_at, length-replicate}
use Rattle.oz_world.specs.Disk.{overwritten, Torn, Same, Images}
use Rattle.oz_world.specs.Moments.{Spans, LeavesOnly}
use Rattle.oz_world.specs.laws.Moments.{spans_then}
use Rattle.oz_world.specs.laws.Partial.{torn_keeps_before, torn_keeps_past}
use Rattle.oz_chunk.specs.Slots.{start_of, slot_bytes, padded, IsWithin, Keeps}

pub length-padded : (chunk : List ℕ) → length chunk ≤ 16384 → length (padded chunk) ≡ 16384
length-padded chunk small =
    let zeros = length-replicate {A = ℕ} (16384 - length chunk) 0 in
    omega (arith, small, length-append chunk (replicate (16384 - length chunk) 0), zeros)

-- what was written to a slot stands in it
pub stands : (slot : ℕ) (chunk bytes : List ℕ) → start_of slot ≤ length bytes → length chunk ≤ 16384
    → IsWithin slot (overwritten (start_of slot) (padded chunk) bytes) × (slot_bytes slot (overwritten (start_of slot) (padded chunk) bytes) ≡ padded chunk)
stands slot chunk bytes there small =
    let filling = padded chunk in
    let size : length filling ≡ 16384 = length-padded chunk small in
    let pos : ℕ = slot * 16384 in
    let front : length (take pos bytes) ≡ pos = omega (arith, there, length-take pos bytes) in
    let back = drop (pos + length filling) bytes in
    let all : overwritten pos filling bytes ≡ take pos bytes ++ (filling ++ back) = append_assoc (take pos bytes) filling back in
    let count : pos + 16384 - pos ≡ 16384 = omega arith in (
      omega (arith, ap length all, length-append (take pos bytes) (filling ++ back), length-append filling back, front, size),
      ap (λ (n : ℕ). take n (drop pos (overwritten pos filling bytes))) count
          ∙ (ap (λ (l : List ℕ). take 16384 (drop pos l)) all
          ∙ (ap (λ (l : List ℕ). take 16384 l) (drop_at (take pos bytes) (filling ++ back) pos front) ∙ take_at filling back 16384 size)),
    )

pub begins : (chunk : List ℕ) → take (length chunk) (padded chunk) ≡ chunk
begins chunk = take_at chunk (replicate (16384 - length chunk) 0) (length chunk) refl

-- a slot stands wholly before or wholly behind another one
pub torn_keeps : (kept : ℕ → Bool) (slot : ℕ) (before after : List ℕ) → kept slot ≡ false → Torn (start_of slot) 16384 before after → Keeps kept before after
torn_keeps kept slot before after apart torn other is_kept within = (
  omega (arith, within, torn.no_shorter),
  elim (cases_lt other slot) [
    | inl lower ↦ torn_keeps_before (slot * 16384) 16384 (other * 16384) (other * 16384 + 16384) before after torn (omega (arith, lower)) within
    | inr higher ↦ elim (cases_lt slot other) [
      | inl above ↦ torn_keeps_past (slot * 16384) 16384 (other * 16384) (other * 16384 + 16384) before after torn (omega (arith, above))
      | inr same ↦ let e : other ≡ slot = omega (arith, higher, same) in absurd (false≢true (sym apart ∙ (ap kept (sym e) ∙ is_kept)))
    ]
  ],
)

pub keeps_same : (kept : ℕ → Bool) (bytes : List ℕ) → Keeps kept bytes bytes
keeps_same kept bytes slot is_kept within = (within, refl)

pub keeps_then : (kept : ℕ → Bool) (first second third : List ℕ) → Keeps kept first second → Keeps kept second third → Keeps kept first third
keeps_then kept first second third one two slot is_kept within =
    let between = one slot is_kept within in
    let last = two slot is_kept between.0 in
    (last.0, last.1 ∙ between.1)

pub write_spans : (kept : ℕ → Bool) (slot from to : ℕ) (old new : Images) → kept slot ≡ false → Spans (Torn (start_of slot) 16384) from to old new
    → Spans (Keeps kept) from to old new
write_spans kept slot from to old new other spans = record {
  elapses = spans.elapses;
  made = λ t after past by h.
      let found = spans.made t after past by h in
      (found.0, found.1, torn_keeps kept slot found.0 after other found.2);
}

pub still_spans : (kept : ℕ → Bool) (from to : ℕ) (old new : Images) → Spans Same from to old new → Spans (Keeps kept) from to old new
still_spans kept from to old new spans = record {
  elapses = spans.elapses;
  made = λ t after past by h.
      let found = spans.made t after past by h in
      (found.0, found.1, subst (λ (l : List ℕ). Keeps kept found.0 l) (sym found.2) (keeps_same kept found.0));
}

pub many_spans : (kept : ℕ → Bool) (from between to : ℕ) (old middle new : Images) → Spans (Keeps kept) from between old middle
    → Spans (Keeps kept) between to middle new → Spans (Keeps kept) from to old new
many_spans kept from between to old middle new =
    spans_then (Keeps kept) (Keeps kept) (Keeps kept) from between to old middle new (λ x y h. h) (λ x y h. h) (keeps_then kept)

pub images_keep : (kept : ℕ → Bool) (bytes : List ℕ) (from to : ℕ) (old new : Images) → LeavesOnly (Keeps kept bytes) from from old
    → Spans (Keeps kept) from to old new → LeavesOnly (Keeps kept bytes) from to new
images_keep kept bytes from to old new first spans t left since by h = elim (cases_lt from t) [
  | inl later ↦
      let found = spans.made t left later by h in
      keeps_then kept bytes found.0 left (first from found.0 (omega arith) (omega arith) found.1) found.2
  | inr now ↦
      let same : t ≡ from = omega (arith, now, since) in
      first from left (omega arith) (omega arith) ((spans.elapses.kept from left (omega arith)).0 (subst (λ (n : ℕ). new n left) same h))
]

-- Writes and cuts that were done in part.
use Rattle.std.proofs.Common.{replicate, ◌-◌, subst, ◌≡◌, inl, inr, ℕ, ◌+◌, ◌≤◌, min, List, [], ◌++◌, length, take}
use Rattle.std.proofs.Common.{drop, slice_range, refl, sym, ◌∙◌, ap, arith, length-append, length-take, length-drop}
use Rattle.std.proofs.Common.{append_assoc}
use Rattle.std.proofs.lemmas.Bool.{cases_lt}
use Rattle.std.proofs.lemmas.List.{take_all, drop_all, take_at, drop_at, append-nil, length-replicate, drop-drop}
use Rattle.std.proofs.lemmas.List.{drop-take, take-take}
use Rattle.oz_world.specs.Record.{padded}
use Rattle.oz_world.specs.Disk.{Torn, CutShort, overwritten}

min_front : (n : ℕ) (bytes : List ℕ) → take (min n (length bytes)) bytes ≡ take n bytes
min_front n bytes = elim (cases_lt (length bytes) n) [
  | inl short ↦
      let whole : min n (length bytes) ≡ length bytes = omega arith in
      ap (λ (k : ℕ). take k bytes) whole ∙ (take_all (length bytes) bytes (omega arith) ∙ sym (take_all n bytes (omega arith)))
  | inr long ↦ let same : min n (length bytes) ≡ n = omega arith in ap (λ (k : ℕ). take k bytes) same
]

-- nothing was done
pub torn_none : (pos count : ℕ) (bytes : List ℕ) → Torn pos count bytes bytes
torn_none pos count bytes = record {
  front = min_front pos bytes;
  back = refl;
  no_shorter = omega arith;
  no_longer = omega arith;
}

pub cut_none : (size : ℕ) (bytes : List ℕ) → CutShort size bytes bytes
cut_none size bytes = record {
  front = min_front size bytes;
  no_shorter = omega arith;
  no_longer = omega arith;
}

-- all was done
pub torn_whole : (pos : ℕ) (others bytes : List ℕ) → Torn pos (length others) bytes (overwritten pos others bytes)
torn_whole pos others bytes =
    let front_size = length-take pos bytes in
    let both_size = length-append (take pos bytes) others in
    let back_size = length-drop (pos + length others) bytes in
    let all_size = length-append (take pos bytes ++ others) (drop (pos + length others) bytes) in
    record {
      front =
          ap (λ (l : List ℕ). take (min pos (length bytes)) l) (append_assoc (take pos bytes) others (drop (pos + length others) bytes))
          ∙ take_at (take pos bytes) (others ++ drop (pos + length others) bytes) (min pos (length bytes)) front_size;
      back = elim (cases_lt (length bytes) pos) [
        | inl past ↦ drop_all (pos + length others) (overwritten pos others bytes) (omega arith) ∙ sym (drop_all (pos + length others) bytes (omega arith))
        | inr within ↦ drop_at (take pos bytes ++ others) (drop (pos + length others) bytes) (pos + length others) (omega arith)
      ];
      no_shorter = omega arith;
      no_longer = omega arith;
    }

-- a part of it was done
torn_wider : (pos count more : ℕ) (before after : List ℕ) → count ≤ more → Torn pos count before after
    → Torn pos more before after
torn_wider pos count more before after le torn = record {
  front = torn.front;
  back =
      let skip : pos + more ≡ (pos + count) + (more - count) = omega arith in
      ap (λ (k : ℕ). drop k after) skip
      ∙ (sym (drop-drop (more - count) (pos + count) after)
      ∙ (ap (λ (l : List ℕ). drop (more - count) l) torn.back
      ∙ (drop-drop (more - count) (pos + count) before ∙ ap (λ (k : ℕ). drop k before) (sym skip))));
  no_shorter = torn.no_shorter;
  no_longer = omega (arith, torn.no_longer);
}

pub torn_half : (pos count : ℕ) (others bytes : List ℕ) → length others ≤ count
    → Torn pos count bytes (overwritten pos others (padded pos bytes))
torn_half pos count others bytes le = elim (cases_lt (length bytes) pos) [
  | inl past ↦
      let zeros : length (replicate {A = ℕ} (pos - length bytes) 0) ≡ pos - length bytes = length-replicate {A = ℕ} (pos - length bytes) 0 in
      let padded_size = length-append bytes (replicate (pos - length bytes) 0) in
      let front_all : take pos (padded pos bytes) ≡ padded pos bytes = take_all pos (padded pos bytes) (omega arith) in
      let none : drop (pos + length others) (padded pos bytes) ≡ [] = drop_all (pos + length others) (padded pos bytes) (omega arith) in
      let is : overwritten pos others (padded pos bytes) ≡ bytes ++ (replicate (pos - length bytes) 0 ++ others) =
      ap (λ (l : List ℕ). l ++ others ++ drop (pos + length others) (padded pos bytes)) front_all
      ∙ (ap (λ (l : List ℕ). padded pos bytes ++ others ++ l) none
      ∙ (append-nil (padded pos bytes ++ others) ∙ append_assoc bytes (replicate (pos - length bytes) 0) others)) in
      let size = length-append bytes (replicate (pos - length bytes) 0 ++ others) in
      let behind_size = length-append (replicate (pos - length bytes) 0) others in
      subst (λ (l : List ℕ). Torn pos count bytes l) (sym is) (record {
        front = take_at bytes (replicate (pos - length bytes) 0 ++ others) (min pos (length bytes)) (omega arith) ∙ sym (take_all pos bytes (omega arith));
        back = drop_all (pos + count) (bytes ++ (replicate (pos - length bytes) 0 ++ others)) (omega arith) ∙ sym (drop_all (pos + count) bytes (omega arith));
        no_shorter = omega arith;
        no_longer = omega arith;
      })
  | inr within ↦
      let no_zeros : pos - length bytes ≡ 0 = omega arith in
      let same : padded pos bytes ≡ bytes = ap (λ (k : ℕ). bytes ++ replicate k 0) no_zeros ∙ append-nil bytes in
      subst (λ (l : List ℕ). Torn pos count bytes (overwritten pos others l)) (sym same)
      (torn_wider pos (length others) count bytes (overwritten pos others bytes) le (torn_whole pos others bytes))
]

pub cut_whole : (size : ℕ) (bytes : List ℕ) → CutShort size bytes (take size bytes)
cut_whole size bytes =
    let front_size = length-take size bytes in
    record {
      front = take_all (min size (length bytes)) (take size bytes) (omega arith);
      no_shorter = omega arith;
      no_longer = omega arith;
    }

-- the same prefix, and a stretch within it
range_within : (from to least : ℕ) (before after : List ℕ) → to ≤ least → take least after ≡ take least before
    → slice_range after from to ≡ slice_range before from to
range_within from to least before after le same = elim (cases_lt to from) [
  | inl none ↦
      let count : to - from ≡ 0 = omega arith in
      ap (λ (n : ℕ). take n (drop from after)) count ∙ sym (ap (λ (n : ℕ). take n (drop from before)) count)
  | inr some ↦
      let prefix : take (from + (to - from)) after ≡ take (from + (to - from)) before =
      sym (take-take (from + (to - from)) least after (omega arith))
      ∙ (ap (λ (l : List ℕ). take (from + (to - from)) l) same ∙ take-take (from + (to - from)) least before (omega arith)) in
      sym (drop-take from (to - from) after) ∙ (ap (λ (l : List ℕ). drop from l) prefix ∙ drop-take from (to - from) before)
]

-- the same rest, and a stretch within it
range_past : (from to least : ℕ) (before after : List ℕ) → least ≤ from → drop least after ≡ drop least before
    → slice_range after from to ≡ slice_range before from to
range_past from to least before after le same =
    let skip : from ≡ least + (from - least) = omega arith in
    let rest : drop from after ≡ drop from before =
    ap (λ (n : ℕ). drop n after) skip
    ∙ (sym (drop-drop (from - least) least after)
    ∙ (ap (λ (l : List ℕ). drop (from - least) l) same ∙ (drop-drop (from - least) least before ∙ sym (ap (λ (n : ℕ). drop n before) skip)))) in
    ap (λ (l : List ℕ). take (to - from) l) rest

-- what stands before a write that was done in part stays
pub torn_keeps_before : (pos count from to : ℕ) (before after : List ℕ) → Torn pos count before after → to ≤ pos
    → to ≤ length before → slice_range after from to ≡ slice_range before from to
torn_keeps_before pos count from to before after torn le within =
    range_within from to (min pos (length before)) before after (omega arith) (torn.front ∙ sym (min_front pos before))

-- and so does what stands past it
pub torn_keeps_past : (pos count from to : ℕ) (before after : List ℕ) → Torn pos count before after
    → pos + count ≤ from → slice_range after from to ≡ slice_range before from to
torn_keeps_past pos count from to before after torn le = range_past from to (pos + count) before after le torn.back

-- what stands before a cut that was done in part stays
pub cut_keeps : (size from to : ℕ) (before after : List ℕ) → CutShort size before after → to ≤ size
    → to ≤ length before → slice_range after from to ≡ slice_range before from to
cut_keeps size from to before after short le within =
    range_within from to (min size (length before)) before after (omega arith) (short.front ∙ sym (min_front size before))

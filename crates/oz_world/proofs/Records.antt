-- What a record stands for when an entry is added.
use Rattle.std.proofs.Common.{⊎_elim, zero, suc, ◌-◌, drop, get_or, ◌/◌, take, length-take, ◌≡◌, ℕ, ◌+◌, ◌<◌, ◌≤◌, Bool, true, false, List, [], ◌∷◌, ◌++◌, length, refl, sym, ◌∙◌, ap, subst, arith, nat_le, nat_lt, if◌then◌else◌}
use Rattle.std.specs.List.{list_all}
use Rattle.std.proofs.lemmas.Bool.{and_parts, and_from, leb-true, ltb-true, ltb-false, le-leb, lt-leb, cases_Bool, cond-true, cond-false}
use Rattle.std.proofs.lemmas.Bool.Decides.{nat_tests}
use Rattle.std.proofs.lemmas.List.Elements.{filter-append}
use Rattle.std.proofs.lemmas.List.Folds.{list_all-append}
use Rattle.std.proofs.lemmas.List.{append-nil, drop_more, drop_all}
use Rattle.oz_world.specs.Disk.{Same, Ticks, LeavesEach, IsStable}
use Rattle.oz_world.specs.declared.history.Change.{Change}
use Rattle.oz_world.specs.declared.history.Change.TheVariants.{Write, Cut, Sync}
use Rattle.oz_world.specs.declared.history.TimedChange.{TimedChange}
use Rattle.oz_world.specs.Record.{done, MayLeave, images, until, images_since, is_sync, synced_count, left_by, none_of, half_of}
use Rattle.oz_world.specs.inner.Contents.{contents, step_of}
use Rattle.oz_world.specs.laws.Present.{AreBy, all_done, until_all}
use Rattle.oz_world.specs.laws.Partial.{torn_none, cut_none, torn_half, cut_whole}

pub contents-push : (bytes : List ℕ) (entries : List TimedChange) (entry : TimedChange) → contents bytes (entries ++ entry ∷ []) ≡ done entry.change (contents bytes entries)
unfolding contents
contents-push bytes [] entry = refl
contents-push bytes (e ∷ entries) entry = contents-push (done e.change bytes) entries entry

pub images-push : (bytes : List ℕ) (might : List ℕ → Type 0) (entries : List TimedChange) (entry : TimedChange) (left : List ℕ) → images bytes might (entries ++ entry ∷ []) left → MayLeave entry.change (contents bytes entries) (images bytes might entries) left
unfolding contents images
images-push bytes might [] entry left h = h
images-push bytes might (e ∷ entries) entry left h = images-push (done e.change bytes) (MayLeave e.change bytes might) entries entry left h

-- whatever a stop may leave after a change came by a step from what it might have left
pub left_by_step : (change : Change) (bytes : List ℕ) (might : List ℕ → Type 0) (left : List ℕ) → might bytes → MayLeave change bytes might left → (before : List ℕ) × might before × step_of change before left
left_by_step (Write pos others) bytes might left now h = h
left_by_step (Cut size) bytes might left now h = h
left_by_step Sync bytes might left now h = (bytes, now, h)

pub by_later : (now later : ℕ) (entries : List TimedChange) → now ≤ later → AreBy now entries → AreBy later entries
by_later now later [] le h = refl
by_later now later (e ∷ entries) le h =
    let parts = and_parts (nat_le e.moment now) (list_all (λ (entry : TimedChange). nat_le entry.moment now) entries) h in
    let first : e.moment ≤ now = leb-true _ _ parts.0 in
    and_from _ _ (le-leb e.moment later (omega arith)) (by_later now later entries le parts.1)

pub by_push : (now : ℕ) (entries : List TimedChange) (entry : TimedChange) → AreBy now entries → entry.moment ≡ now + 1 → AreBy (now + 1) (entries ++ entry ∷ [])
by_push now entries entry by is =
    list_all-append (λ (e : TimedChange). nat_le e.moment (now + 1)) entries (entry ∷ []) ∙ and_from _ _ (by_later now (now + 1) entries (omega arith) by) (and_from _ _ (le-leb entry.moment (now + 1) (omega arith)) refl)

pub until_before : (t : ℕ) (entries : List TimedChange) (entry : TimedChange) → t < entry.moment → until t (entries ++ entry ∷ []) ≡ until t entries
until_before t entries entry lt =
    filter-append (λ (e : TimedChange). nat_le e.moment t) entries (entry ∷ []) ∙ (ap (λ (l : List TimedChange). until t entries ++ l) (cond-false (nat_le entry.moment t) (entry ∷ []) [] (lt-leb entry.moment t lt)) ∙ append-nil (until t entries))

-- a moment passes
pub ticks_pass : (first : List ℕ) (entries : List TimedChange) (now : ℕ) → AreBy now entries → Ticks Same now (now + 1) (images_since first entries) (images_since first entries)
ticks_pass first entries now by = record {
  later = refl;
  kept = λ t bytes le. (λ h. h, λ h. h);
  made = λ after h.
      let same : until (now + 1) entries ≡ until now entries = until_all (now + 1) entries (by_later now (now + 1) entries (omega arith) by) ∙ sym (until_all now entries by) in
      (after, subst (λ (l : List TimedChange). images first (λ left. left ≡ first) l after) same h, refl);
}

-- a change is made
pub ticks_push : (first : List ℕ) (entries : List TimedChange) (entry : TimedChange) (now : ℕ) → AreBy now entries → entry.moment ≡ now + 1 → Ticks (step_of entry.change) now (now + 1) (images_since first entries) (images_since first (entries ++ entry ∷ []))
ticks_push first entries entry now by is = record {
  later = refl;
  kept = λ t bytes le.
      let same = until_before t entries entry (omega arith) in (
        subst (λ (l : List TimedChange). images first (λ left. left ≡ first) l bytes) same,
        subst (λ (l : List TimedChange). images first (λ left. left ≡ first) l bytes) (sym same),
      );
  made = λ after h.
      let all : images first (λ left. left ≡ first) (entries ++ entry ∷ []) after =
      subst (λ (l : List TimedChange). images first (λ left. left ≡ first) l after) (until_all (now + 1) (entries ++ entry ∷ []) (by_push now entries entry by is)) h in
      let step = left_by_step entry.change (contents first entries) (images first (λ left. left ≡ first) entries) after (all_done first (λ left. left ≡ first) entries refl) (images-push first (λ left. left ≡ first) entries entry after all) in
      (step.0, subst (λ (l : List TimedChange). images first (λ left. left ≡ first) l step.0) (sym (until_all now entries by)) step.1, step.2);
}

-- a sync is recorded
pub stable_push : (first : List ℕ) (entries : List TimedChange) (entry : TimedChange) (now : ℕ) → AreBy now entries → entry.moment ≡ now + 1 → entry.change ≡ Sync → IsStable (images_since first (entries ++ entry ∷ [])) (now + 1) (contents first entries)
stable_push first entries entry now by is sync left h =
    let all : images first (λ left. left ≡ first) (entries ++ entry ∷ []) left =
    subst (λ (l : List TimedChange). images first (λ left. left ≡ first) l left) (until_all (now + 1) (entries ++ entry ∷ []) (by_push now entries entry by is)) h in
    subst (λ (change : Change). MayLeave change (contents first entries) (images first (λ left. left ≡ first) entries) left) sync (images-push first (λ left. left ≡ first) entries entry left all)

pub synced_count-push_change : (entries : List TimedChange) (entry : TimedChange) → is_sync entry.change ≡ false → synced_count (entries ++ entry ∷ []) ≡ synced_count entries
unfolding synced_count
synced_count-push_change [] entry other = grind (arith, nat_tests)
synced_count-push_change (e ∷ entries) entry other =
    ap (λ (n : ℕ). if nat_lt 0 n then n + 1 else if is_sync e.change then 1 else 0) (synced_count-push_change entries entry other)

pub synced_count-push_sync : (entries : List TimedChange) (entry : TimedChange) → is_sync entry.change ≡ true → synced_count (entries ++ entry ∷ []) ≡ length entries + 1
unfolding synced_count
synced_count-push_sync [] entry sync = grind (arith, nat_tests)
synced_count-push_sync (e ∷ entries) entry sync =
    let more = synced_count-push_sync entries entry sync in
    grind (arith, nat_tests)

-- each change's part may be all that a stop in its middle leaves of it
abbrev pub IsPart : (Change → List ℕ → List ℕ) → Type 0
IsPart part = (change : Change) (bytes : List ℕ) → step_of change bytes (part change bytes)

pub none_is_part : IsPart none_of
none_is_part (Write pos others) bytes = torn_none pos (length others.items) bytes
none_is_part (Cut size) bytes = cut_none size bytes
none_is_part Sync bytes = refl

pub half_is_part : IsPart half_of
half_is_part (Write pos others) bytes = torn_half pos (length others.items) (take (length others.items / 2) others.items) bytes (omega (arith, length-take (length others.items / 2) others.items))
half_is_part (Cut size) bytes = cut_whole size bytes
half_is_part Sync bytes = refl

-- a sync counts for the entries before it too
synced_more : (entry : TimedChange) (entries : List TimedChange) → nat_lt 0 (synced_count entries) ≡ true → nat_lt 0 (synced_count (entry ∷ entries)) ≡ true
unfolding synced_count
synced_more entry entries synced = grind (arith, nat_tests)

synced_first : (entry : TimedChange) (entries : List TimedChange) → nat_lt 0 (synced_count entries) ≡ false → nat_lt 0 (synced_count (entry ∷ entries)) ≡ is_sync entry.change
unfolding synced_count
synced_first entry entries later =
    ap (λ (n : ℕ). nat_lt 0 n) (cond-false (nat_lt 0 (synced_count entries)) (synced_count entries + 1) (if is_sync entry.change then 1 else 0) later) ∙ one_or_none (is_sync entry.change)
  where
    one_or_none : (b : Bool) → nat_lt 0 (if b then 1 else 0) ≡ b
    one_or_none true = refl
    one_or_none false = refl

part_done : (part : Change → List ℕ → List ℕ) (change : Change) (bytes : List ℕ) (might : List ℕ → Type 0) (left : List ℕ) → IsPart part → (is_sync change ≡ true → left ≡ bytes) → (is_sync change ≡ false → might left) → MayLeave change bytes might (part change left)
part_done part (Write pos others) bytes might left is_part whole some = (left, some refl, is_part (Write pos others) left)
part_done part (Cut size) bytes might left is_part whole some = (left, some refl, is_part (Cut size) left)
part_done part Sync bytes might left is_part whole some = is_part Sync left ∙ whole refl

-- what is left by parts is among what a stop may leave
pub left_by_image : (part : Change → List ℕ → List ℕ) (bytes : List ℕ) (might : List ℕ → Type 0) (entries : List TimedChange) (left : List ℕ) → IsPart part → (nat_lt 0 (synced_count entries) ≡ true → left ≡ bytes) → (nat_lt 0 (synced_count entries) ≡ false → might left) → images bytes might entries (left_by part left entries)
unfolding images left_by synced_count
left_by_image part bytes might [] left is_part whole some = some refl
left_by_image part bytes might (entry ∷ entries) left is_part whole some =
    let later = nat_lt 0 (synced_count entries) in
    left_by_image part (done entry.change bytes) (MayLeave entry.change bytes might) entries (if later then done entry.change left else part entry.change left) is_part
    (λ h. cond-true later (done entry.change left) (part entry.change left) h ∙ ap (done entry.change) (whole (synced_more entry entries h)))
    (λ h.
    subst (MayLeave entry.change bytes might) (sym (cond-false later (done entry.change left) (part entry.change left) h))
    (part_done part entry.change bytes might left is_part (λ s. whole (synced_first entry entries h ∙ s)) (λ s. some (synced_first entry entries h ∙ s))))

-- one entry further on in a replay
synced_rest : (entry : TimedChange) (entries : List TimedChange) → synced_count entries ≡ synced_count (entry ∷ entries) - 1
unfolding synced_count
synced_rest entry entries = first_or_more (synced_count entries) (is_sync entry.change)
  where
    first_or_more : (n : ℕ) (b : Bool) → n ≡ (if nat_lt 0 n then n + 1 else if b then 1 else 0) - 1
    first_or_more zero true = refl
    first_or_more zero false = refl
    first_or_more (suc n) b = grind (arith, nat_tests)

pub replay_synced : (entries : List TimedChange) (i synced : ℕ) (entry : TimedChange) → i < length entries → entry ≡ get_or entries i entry → synced_count (drop i entries) ≡ synced → synced_count (drop (i + 1) entries) ≡ synced - 1
replay_synced entries i synced entry lt is counted =
    let next : drop i entries ≡ entry ∷ drop (i + 1) entries = drop_more entries i entry lt ∙ ap (λ (e : TimedChange). e ∷ drop (i + 1) entries) (sym is) in
    synced_rest entry (drop (i + 1) entries) ∙ ap (λ (n : ℕ). n - 1) (ap synced_count (sym next) ∙ counted)

pub replay_left : (part : Change → List ℕ → List ℕ) (entries : List TimedChange) (i synced : ℕ) (entry : TimedChange) (left next last : List ℕ) → i < length entries → entry ≡ get_or entries i entry → synced_count (drop i entries) ≡ synced
    → left_by part left (drop i entries) ≡ last → (1 < synced → next ≡ done entry.change left) → (synced ≤ 1 → next ≡ part entry.change left) → left_by part next (drop (i + 1) entries) ≡ last
unfolding left_by
replay_left part entries i synced entry left next last lt is counted so_far whole some =
    let later = nat_lt 0 (synced_count (drop (i + 1) entries)) in
    let fewer = replay_synced entries i synced entry lt is counted in
    let step : left_by part left (drop i entries) ≡ left_by part (if later then done entry.change left else part entry.change left) (drop (i + 1) entries) =
    ap (left_by part left) (drop_more entries i entry lt ∙ ap (λ (e : TimedChange). e ∷ drop (i + 1) entries) (sym is)) in
    let new : next ≡ (if later then done entry.change left else part entry.change left) = ⊎_elim
    (λ (h : later ≡ true). let some_left = ltb-true _ _ h in whole (omega (arith, fewer, some_left)) ∙ sym (cond-true later (done entry.change left) (part entry.change left) h))
    (λ (h : later ≡ false). let none_left = ltb-false _ _ h in some (omega (arith, fewer, none_left)) ∙ sym (cond-false later (done entry.change left) (part entry.change left) h))
    (cases_Bool later) in
    ap (λ (l : List ℕ). left_by part l (drop (i + 1) entries)) new ∙ (sym step ∙ so_far)

-- a replay ends where no entry is left
pub left_by_end : (part : Change → List ℕ → List ℕ) (entries : List TimedChange) (i : ℕ) (left last : List ℕ) → length entries ≤ i → left_by part left (drop i entries) ≡ last → left ≡ last
unfolding left_by
left_by_end part entries i left last le so_far = sym (ap (left_by part left) (drop_all i entries le)) ∙ so_far

-- and what it gives is an image of the present moment
pub left_by_now : (half : Bool) (first : List ℕ) (entries : List TimedChange) (now : ℕ) → AreBy now entries → images_since first entries now (left_by (if half then half_of else none_of) first entries)
left_by_now half first entries now by =
    let part : IsPart (if half then half_of else none_of) = either half in
    subst (λ (l : List TimedChange). images first (λ left. left ≡ first) l (left_by (if half then half_of else none_of) first entries)) (sym (until_all now entries by))
    (left_by_image (if half then half_of else none_of) first (λ left. left ≡ first) entries first part (λ _. refl) (λ _. refl))
  where
    either : (half : Bool) → IsPart (if half then half_of else none_of)
    either true = half_is_part
    either false = none_is_part

-- what a stop may leave after one more change
images-after : (bytes : List ℕ) (might : List ℕ → Type 0) (entries : List TimedChange) (entry : TimedChange) (left : List ℕ) → MayLeave entry.change (contents bytes entries) (images bytes might entries) left → images bytes might (entries ++ entry ∷ []) left
unfolding contents images
images-after bytes might [] entry left h = h
images-after bytes might (e ∷ entries) entry left h = images-after (done e.change bytes) (MayLeave e.change bytes might) entries entry left h

-- a write or a cut may leave whatever comes by its step from what might have been left before
by_step : (change : Change) (bytes : List ℕ) (might : List ℕ → Type 0) (before left : List ℕ) → is_sync change ≡ false → might before → step_of change before left → MayLeave change bytes might left
by_step (Write pos others) bytes might before left no_sync h step = (before, h, step)
by_step (Cut size) bytes might before left no_sync h step = (before, h, step)
by_step Sync bytes might before left no_sync h step = absurd cc

-- where a moment passes, a stop may still leave what it might
pub still_left : (first : List ℕ) (entries : List TimedChange) (now : ℕ) → AreBy now entries → LeavesEach Same now (now + 1) (images_since first entries) (images_since first entries)
still_left first entries now by bytes after h same =
    let all : until now entries ≡ until (now + 1) entries = until_all now entries by ∙ sym (until_all (now + 1) entries (by_later now (now + 1) entries (omega arith) by)) in
    subst (λ (l : List TimedChange). images first (λ left. left ≡ first) l after) all (subst (λ (l : List ℕ). images_since first entries now l) (sym same) h)

-- where a write or a cut is recorded, a stop may leave any part of it
pub left_in_part : (first : List ℕ) (entries : List TimedChange) (entry : TimedChange) (now : ℕ) → AreBy now entries → entry.moment ≡ now + 1 → is_sync entry.change ≡ false → LeavesEach (step_of entry.change) now (now + 1) (images_since first entries) (images_since first (entries ++ entry ∷ []))
left_in_part first entries entry now by is no_sync bytes after h step =
    let before : images first (λ left. left ≡ first) entries bytes = subst (λ (l : List TimedChange). images first (λ left. left ≡ first) l bytes) (until_all now entries by) h in
    let change = by_step entry.change (contents first entries) (images first (λ left. left ≡ first) entries) bytes after no_sync before step in
    subst (λ (l : List TimedChange). images first (λ left. left ≡ first) l after) (sym (until_all (now + 1) (entries ++ entry ∷ []) (by_push now entries entry by is)))
    (images-after first (λ left. left ≡ first) entries entry after change)

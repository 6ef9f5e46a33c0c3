-- Batches of changes in a row.
use Rattle.std.proofs.Common.{◌≡◌, ℕ, ◌≤◌, ◌<◌, nat_le, nat_lt, Bool, true, false, List, [], ◌∷◌, ◌++◌, Option, cond, refl, sym, ◌∙◌, ap, subst, append_assoc, arith}
use Rattle.std.proofs.lemmas.Bool.Decides.{nat_tests}
use Rattle.std.specs.List.{AllByRecursion}
use Rattle.oz_cache.specs.Cache.{batched_changes, batch_of, epoch_after, up_to, later}
use Rattle.oz_cache.specs.Waiting.{EpochsRise}
use Rattle.oz_cache.specs.declared.batch.Batch.{Batch}
use Rattle.oz_rows.specs.declared.key.RowKey.{RowKey}
use Rattle.oz_rows.specs.declared.row.Row.{Row}
use Rattle.oz_rows.specs.declared.operation.Change.{Change}
use Rattle.oz_rows.specs.RowMaps.{row_after, row_after_one}

pub batched-append : (a b : List Batch) → batched_changes (a ++ b) ≡ batched_changes a ++ batched_changes b
batched-append [] b = refl
batched-append (x ∷ a) b =
    ap (λ l. x.changes ++ l) (batched-append a b) ∙ sym (append_assoc x.changes (batched_changes a) (batched_changes b))

pub row_after-append : (a b : List Change) (key : RowKey) (row : Option Row) → row_after (a ++ b) key row ≡ row_after b key (row_after a key row)
row_after-append [] b key row = refl
row_after-append (x ∷ a) b key row = row_after-append a b key (row_after_one x key row)

-- the row of a key after some batches and then others
pub after_both : (a b : List Batch) (key : RowKey) (row : Option Row) → row_after (batched_changes (a ++ b)) key row ≡ row_after (batched_changes b) key (row_after (batched_changes a) key row)
after_both a b key row =
    ap (λ l. row_after l key row) (batched-append a b) ∙ row_after-append (batched_changes a) (batched_changes b) key row

abbrev pub AllUpTo : ℕ → List Batch → Type 0
AllUpTo epoch batches = AllByRecursion (λ (batch : Batch). batch.epoch ≤ epoch) batches

abbrev pub AllBelow : ℕ → List Batch → Type 0
AllBelow epoch batches = AllByRecursion (λ (batch : Batch). batch.epoch < epoch) batches

pub up_to_both : (epoch : ℕ) (a b : List Batch) → AllUpTo epoch a → AllUpTo epoch b → AllUpTo epoch (a ++ b)
up_to_both epoch [] b first second = second
up_to_both epoch (x ∷ a) b first second = (first.0, up_to_both epoch a b first.1 second)

pub up_to_more : (epoch more : ℕ) (l : List Batch) → epoch ≤ more → AllUpTo epoch l → AllUpTo more l
up_to_more epoch more [] le all = tt
up_to_more epoch more (x ∷ l) le all =
    let first = all.0 in
    (omega arith, up_to_more epoch more l le all.1)

-- the last epoch of batches up to one is up to it
pub last_up_to : (epoch before : ℕ) (l : List Batch) → before ≤ epoch → AllUpTo epoch l → epoch_after before l ≤ epoch
last_up_to epoch before [] le all = le
last_up_to epoch before (x ∷ l) le all = last_up_to epoch x.epoch l all.0 all.1

-- the last of rising epochs is the greatest
last_above : (before : ℕ) (l : List Batch) → EpochsRise before l → before ≤ epoch_after before l
last_above before [] rise = omega arith
last_above before (x ∷ l) rise =
    let first = rise.0 in
    let last = last_above x.epoch l rise.1 in
    omega (arith, first, last)

pub rising_below : (epoch before others : ℕ) (l : List Batch) → EpochsRise before l → epoch_after others l < epoch → AllBelow epoch l
rising_below epoch before others [] rise last = tt
rising_below epoch before others (x ∷ l) rise last =
    let greatest = last_above x.epoch l rise.1 in
    (omega (arith, greatest, last), rising_below epoch x.epoch x.epoch l rise.1 last)

-- one more batch
pub rise_more : (before epoch : ℕ) (l : List Batch) (changes : List Change) → EpochsRise before l → before < epoch → AllBelow epoch l → EpochsRise before (l ++ batch_of epoch changes ∷ [])
rise_more before epoch [] changes rise lt all = (lt, tt)
rise_more before epoch (x ∷ l) changes rise lt all = (rise.0, rise_more x.epoch epoch l changes rise.1 all.0 all.1)

-- rising batches are parted at an epoch
pub record IsParted (epoch : ℕ) (l : List Batch) : Type 0 where
  pub parts : up_to epoch l ++ later epoch l ≡ l
  pub first : AllUpTo epoch (up_to epoch l)
  pub rest : EpochsRise epoch (later epoch l)

is_later : (a b : ℕ) → nat_le a b ≡ false → nat_lt b a ≡ true
is_later a b e = grind (arith, nat_tests, e)

not_later : (a b : ℕ) → nat_le a b ≡ true → nat_lt b a ≡ false
not_later a b e = grind (arith, nat_tests, e)

is_up_to : (a b : ℕ) → nat_le a b ≡ true → a ≤ b
is_up_to a b e = grind (arith, nat_tests, e)

is_above : (a b : ℕ) → nat_le a b ≡ false → b < a
is_above a b e = grind (arith, nat_tests, e)

not_up_to : (a b : ℕ) → b < a → nat_le a b ≡ false
not_up_to a b lt = grind (arith, nat_tests, lt)

-- behind a later batch all are later
none_up_to : (epoch before : ℕ) (l : List Batch) → EpochsRise before l → epoch ≤ before → up_to epoch l ≡ []
none_up_to epoch before [] rise le = refl
none_up_to epoch before (x ∷ l) rise le =
    let above = rise.0 in
    ap (λ (t : Bool). cond t (x ∷ up_to epoch l) (up_to epoch l)) (not_up_to x.epoch epoch (omega arith)) ∙ none_up_to epoch x.epoch l rise.1 (omega arith)

all_later : (epoch before : ℕ) (l : List Batch) → EpochsRise before l → epoch ≤ before → later epoch l ≡ l
all_later epoch before [] rise le = refl
all_later epoch before (x ∷ l) rise le =
    let above = rise.0 in
    ap (λ (t : Bool). cond t (x ∷ later epoch l) (later epoch l)) (is_later x.epoch epoch (not_up_to x.epoch epoch (omega arith))) ∙ ap (λ l. x ∷ l) (all_later epoch x.epoch l rise.1 (omega arith))

pub parted : (epoch before : ℕ) (l : List Batch) → EpochsRise before l → IsParted epoch l
parted epoch before [] rise = record { parts = refl; first = tt; rest = tt }
parted epoch before (x ∷ l) rise = by (nat_le x.epoch epoch) refl (parted epoch x.epoch l rise.1)
  where
    by : (t : Bool) → nat_le x.epoch epoch ≡ t → IsParted epoch l → IsParted epoch (x ∷ l)
    by true due others =
        let front : up_to epoch (x ∷ l) ≡ x ∷ up_to epoch l = ap (λ (t : Bool). cond t (x ∷ up_to epoch l) (up_to epoch l)) due in
        let back : later epoch (x ∷ l) ≡ later epoch l = ap (λ (t : Bool). cond t (x ∷ later epoch l) (later epoch l)) (not_later x.epoch epoch due) in record {
          parts = ap (λ a. a ++ later epoch (x ∷ l)) front ∙ ap (λ b. x ∷ (up_to epoch l ++ b)) back ∙ ap (λ l. x ∷ l) others.parts;
          first = subst (AllUpTo epoch) (sym front) (is_up_to x.epoch epoch due, others.first);
          rest = subst (EpochsRise epoch) (sym back) others.rest;
        }
    by false due others =
        let above : epoch < x.epoch = is_above x.epoch epoch due in
        let front : up_to epoch (x ∷ l) ≡ [] = ap (λ (t : Bool). cond t (x ∷ up_to epoch l) (up_to epoch l)) due ∙ none_up_to epoch x.epoch l rise.1 (omega arith) in
        let back : later epoch (x ∷ l) ≡ x ∷ l =
        ap (λ (t : Bool). cond t (x ∷ later epoch l) (later epoch l)) (is_later x.epoch epoch due) ∙ ap (λ l. x ∷ l) (all_later epoch x.epoch l rise.1 (omega arith)) in record {
          parts = ap (λ a. a ++ later epoch (x ∷ l)) front ∙ back;
          first = subst (AllUpTo epoch) (sym front) tt;
          rest = subst (EpochsRise epoch) (sym back) (above, rise.1);
        }

-- Batches and their epochs.
use Rattle.std.proofs.Common.{◌≡◌, ℕ, zero, suc, ◌+◌, ◌<◌, ◌≤◌, Bool, true, false, List, [], ◌∷◌, ◌++◌, length, take, drop, get_or, nat_lt, nat_le, Option, cond, refl, sym, ◌∙◌, ap, append_assoc, arith}
use mathlib.Core.Bool.{false≢true}
use Rattle.std.proofs.lemmas.Bool.Decides.{nat_tests}
use Rattle.oz_rows.specs.declared.key.RowKey.{RowKey}
use Rattle.oz_rows.specs.declared.row.Row.{Row}
use Rattle.oz_rows.specs.declared.operation.Change.{Change}
use Rattle.oz_rows.specs.RowMaps.{row_after, row_after_one}
use Rattle.oz_cache.specs.declared.batch.Batch.{Batch}
use Rattle.oz_cache.specs.Cache.{batched_changes, epoch_after, up_to, later}
use Rattle.oz_cache.specs.Waiting.{EpochsRise, starts_by}

pub batched_changes-append : (a b : List Batch) → batched_changes (a ++ b) ≡ batched_changes a ++ batched_changes b
batched_changes-append [] b = refl
batched_changes-append (x ∷ a) b = ap (λ l. x.changes ++ l) (batched_changes-append a b) ∙ sym (append_assoc x.changes (batched_changes a) (batched_changes b))

pub epoch_after-append : (before : ℕ) (a b : List Batch) → epoch_after before (a ++ b) ≡ epoch_after (epoch_after before a) b
epoch_after-append before [] b = refl
epoch_after-append before (x ∷ a) b = epoch_after-append x.epoch a b

pub row_after-append : (a b : List Change) (key : RowKey) (row : Option Row) → row_after (a ++ b) key row ≡ row_after b key (row_after a key row)
row_after-append [] b key row = refl
row_after-append (x ∷ a) b key row = row_after-append a b key (row_after_one x key row)

pub rise-append : (before : ℕ) (a b : List Batch) → EpochsRise before a → EpochsRise (epoch_after before a) b → EpochsRise before (a ++ b)
rise-append before [] b front back = back
rise-append before (x ∷ a) b front back = (front.0, rise-append x.epoch a b front.1 back)

-- there are at most as many batches as epochs
pub few : (before : ℕ) (l : List Batch) → EpochsRise before l → before + length l ≤ epoch_after before l
few before [] rise = omega arith
few before (x ∷ l) rise = omega (arith, few x.epoch l rise.1, rise.0)

pub last_of : (before : ℕ) (l : List Batch) (d : Batch) (n : ℕ) → length l ≡ suc n → (get_or l n d).epoch ≡ epoch_after before l
last_of before [] d n len = absurd (omega arith)
last_of before (x ∷ []) d zero len = refl
last_of before (x ∷ []) d (suc n) len = absurd (omega arith)
last_of before (x ∷ y ∷ l) d zero len = absurd (omega arith)
last_of before (x ∷ y ∷ l) d (suc n) len = last_of x.epoch (y ∷ l) d n (omega arith)

-- a batch that waits and is due goes down first
pub record TakesFirst (epoch : ℕ) (l : List Batch) : Type 0 where
  pub some : 0 < length l
  pub front : up_to epoch l ≡ take 1 l ++ up_to epoch (drop 1 l)
  pub rest : later epoch l ≡ later epoch (drop 1 l)

not_later : (a b : ℕ) → nat_le a b ≡ true → nat_lt b a ≡ false
not_later a b e = grind (arith, nat_tests, e)

is_later : (a b : ℕ) → nat_le a b ≡ false → nat_lt b a ≡ true
is_later a b e = grind (arith, nat_tests, e)

pub takes_first : (epoch : ℕ) (l : List Batch) → starts_by epoch l ≡ true → TakesFirst epoch l
takes_first epoch [] due = absurd (false≢true due)
takes_first epoch (x ∷ l) due = record {
  some = omega arith;
  front = ap (λ (t : Bool). cond t (x ∷ up_to epoch l) (up_to epoch l)) due;
  rest = ap (λ (t : Bool). cond t (x ∷ later epoch l) (later epoch l)) (not_later x.epoch epoch due);
}

-- behind a later batch all are later
pub record AllLater (epoch : ℕ) (l : List Batch) : Type 0 where
  pub front : up_to epoch l ≡ []
  pub rest : later epoch l ≡ l

pub rest_later : (epoch before : ℕ) (l : List Batch) → EpochsRise before l → epoch ≤ before → AllLater epoch l
rest_later epoch before [] rise le = record { front = refl; rest = refl }
rest_later epoch before (x ∷ l) rise le =
    let others = rest_later epoch x.epoch l rise.1 (omega (arith, rise.0)) in
    let not_due : nat_le x.epoch epoch ≡ false = grind (arith, nat_tests, rise.0) in
    record {
      front = ap (λ (t : Bool). cond t (x ∷ up_to epoch l) (up_to epoch l)) not_due ∙ others.front;
      rest = ap (λ (t : Bool). cond t (x ∷ later epoch l) (later epoch l)) (is_later x.epoch epoch not_due) ∙ ap (λ l. x ∷ l) others.rest;
    }

pub all_later : (epoch before : ℕ) (l : List Batch) → EpochsRise before l → starts_by epoch l ≡ false → AllLater epoch l
all_later epoch before [] rise due = record { front = refl; rest = refl }
all_later epoch before (x ∷ l) rise due =
    let others = rest_later epoch x.epoch l rise.1 (grind (arith, nat_tests, due)) in
    record {
      front = ap (λ (t : Bool). cond t (x ∷ up_to epoch l) (up_to epoch l)) due ∙ others.front;
      rest = ap (λ (t : Bool). cond t (x ∷ later epoch l) (later epoch l)) (is_later x.epoch epoch due) ∙ ap (λ l. x ∷ l) others.rest;
    }

module _ (epoch : ℕ) (l : List Batch) (first : TakesFirst epoch l) where
  pub first_rows : (key : RowKey) (row : Option Row) → row_after (batched_changes (up_to epoch (drop 1 l))) key (row_after (batched_changes (take 1 l)) key row) ≡ row_after (batched_changes (up_to epoch l)) key row
  first_rows key row =
      sym (row_after-append (batched_changes (take 1 l)) (batched_changes (up_to epoch (drop 1 l))) key row)
      ∙ ap (λ changes. row_after changes key row) (sym (batched_changes-append (take 1 l) (up_to epoch (drop 1 l))) ∙ ap batched_changes (sym first.front))

  pub first_epoch : (before : ℕ) → epoch_after (epoch_after before (take 1 l)) (up_to epoch (drop 1 l)) ≡ epoch_after before (up_to epoch l)
  first_epoch before = sym (epoch_after-append before (take 1 l) (up_to epoch (drop 1 l))) ∙ ap (epoch_after before) (sym first.front)

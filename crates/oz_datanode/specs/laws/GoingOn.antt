-- Disks that go on, and how often they have failed then.
use Rattle.std.proofs.Common.{◌≡◌, ◌⊎◌, inl, inr, ℕ, ◌+◌, ◌-◌, ◌^◌, ◌≤◌, min, List, Option, sym, ap, ◌∙◌, arith}
use Rattle.oz_world.specs.Disk.{TellsAsBefore}
use Rattle.oz_world.specs.Faults.{Rose}
use Rattle.oz_datanode.specs.Datanode.{State, DisksGoOn, meta_of, slots_of, count_of}

-- ---- counts

-- a count rose from one that isn't below an earlier one
pub rose_since : (first before after : ℕ) → first ≤ before → Rose before after → Rose first after
rose_since first before after least risen = omega (arith, least, risen)

-- a count rose to one that isn't above a later one
pub rose_until : (before after last : ℕ) → Rose before after → after ≤ last → Rose before last
rose_until before after last risen most = omega (arith, risen, most)

both_never_fall : (most a b c d : ℕ) → a ≤ c → b ≤ d → min (a + b) most ≤ min (c + d) most
both_never_fall most a b c d first second = omega (arith, first, second)

one_rose : (most a b c d : ℕ) → b ≤ d → min (a + 1) most ≤ c → min (min (a + b) most + 1) most ≤ min (c + d) most
one_rose most a b c d second risen = omega (arith, second, risen)

other_rose : (most a b c d : ℕ) → a ≤ c → min (b + 1) most ≤ d → min (min (a + b) most + 1) most ≤ min (c + d) most
other_rose most a b c d first risen = omega (arith, first, risen)

-- ---- what is told

told_as : (before after : Option (List ℕ)) → after ≡ before → TellsAsBefore before after
told_as before after same = (λ none. same ∙ none, λ none. sym same ∙ none)

told_then : (one two three : Option (List ℕ)) → TellsAsBefore one two → TellsAsBefore two three → TellsAsBefore one three
told_then one two three first second = (λ none. second.0 (first.0 none), λ none. first.1 (second.1 none))

module _ {D : Type 0} (told : D → Option (List ℕ)) (faults : D → ℕ) where
  -- neither disk was called
  pub disks_stay : (old new : State D) → meta_of new ≡ meta_of old → slots_of new ≡ slots_of old → DisksGoOn told faults old new
  disks_stay old new meta slots =
      let first : faults (meta_of new) ≡ faults (meta_of old) = ap faults meta in
      let second : faults (slots_of new) ≡ faults (slots_of old) = ap faults slots in record {
        meta_tells = told_as (told (meta_of old)) (told (meta_of new)) (ap told meta);
        slots_tell = told_as (told (slots_of old)) (told (slots_of new)) (ap told slots);
        meta_never_falls = omega (arith, first);
        slots_never_fall = omega (arith, second);
      }

  pub disks_same : (old new : State D) → new ≡ old → DisksGoOn told faults old new
  disks_same old new same = disks_stay old new (ap (λ (n : State D). meta_of n) same) (ap (λ (n : State D). slots_of n) same)

  pub go_on_then : (one two three : State D) → DisksGoOn told faults one two → DisksGoOn told faults two three → DisksGoOn told faults one three
  go_on_then one two three first second = record {
    meta_tells = told_then (told (meta_of one)) (told (meta_of two)) (told (meta_of three)) first.meta_tells second.meta_tells;
    slots_tell = told_then (told (slots_of one)) (told (slots_of two)) (told (slots_of three)) first.slots_tell second.slots_tell;
    meta_never_falls = omega (arith, first.meta_never_falls, second.meta_never_falls);
    slots_never_fall = omega (arith, first.slots_never_fall, second.slots_never_fall);
  }

  pub count_never_falls : (old new : State D) → DisksGoOn told faults old new → count_of faults old ≤ count_of faults new
  count_never_falls old new goes =
      both_never_fall (2 ^ 64 - 1) (faults (meta_of old)) (faults (slots_of old)) (faults (meta_of new))
      (faults (slots_of new)) goes.meta_never_falls goes.slots_never_fall

  pub count_rose : (old new : State D) → DisksGoOn told faults old new → Rose (faults (meta_of old)) (faults (meta_of new))
      ⊎ Rose (faults (slots_of old)) (faults (slots_of new)) → Rose (count_of faults old) (count_of faults new)
  count_rose old new goes (inl meta) =
      one_rose (2 ^ 64 - 1) (faults (meta_of old)) (faults (slots_of old)) (faults (meta_of new)) (faults (slots_of new)) goes.slots_never_fall meta
  count_rose old new goes (inr slots) =
      other_rose (2 ^ 64 - 1) (faults (meta_of old)) (faults (slots_of old)) (faults (meta_of new)) (faults (slots_of new)) goes.meta_never_falls slots

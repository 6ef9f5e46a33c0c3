-- What a read gives is what a stop may leave.
use Rattle.std.specs.Prelude.{◌≡◌, ℕ, nat_le, true, List, [], ◌∷◌, Some, refl}
use Rattle.std.specs.List.{list_all}
use Rattle.std.proofs.Common.{sym, ◌∙◌, ap, subst}
use Rattle.std.proofs.lemmas.Bool.{and_parts, cond-true}
use Rattle.oz_world.specs.declared.history.Change.{Change}
use Rattle.oz_world.specs.declared.history.Change.TheVariants.{Write, Cut, Sync}
use Rattle.oz_world.specs.declared.history.TimedChange.{TimedChange}
use Rattle.oz_world.specs.declared.memory_disk.MemoryDisk.{MemoryDisk}
use Rattle.oz_world.specs.laws.Partial.{torn_whole, cut_whole}
use Rattle.oz_world.specs.MemoryDisk.{disk_bytes, disk_clock, disk_images}
use Rattle.oz_world.specs.Record.{done, MayLeave, images, images_since, until}
use Rattle.oz_world.specs.inner.Contents.{contents}

-- all entries are of this moment or an earlier one
abbrev pub AreBy : ℕ → List TimedChange → Type 0
AreBy now entries = list_all (λ (entry : TimedChange). nat_le entry.moment now) entries ≡ true

-- what a read gives is among what a stop may leave
pub all_done : (bytes : List ℕ) (might : List ℕ → Type 0) (entries : List TimedChange) → might bytes
    → images bytes might entries (contents bytes entries)
unfolding contents images
all_done bytes might [] h = h
all_done bytes might (e ∷ entries) h = all_done (done e.change bytes) (MayLeave e.change bytes might) entries (change_done e.change bytes might h)
  where
    change_done : (change : Change) (bytes : List ℕ) (might : List ℕ → Type 0) → might bytes
        → MayLeave change bytes might (done change bytes)
    change_done (Write pos others) bytes might h = (bytes, h, torn_whole pos others.items bytes)
    change_done (Cut size) bytes might h = (bytes, h, cut_whole size bytes)
    change_done Sync bytes might h = refl

pub until_all : (now : ℕ) (entries : List TimedChange) → AreBy now entries → until now entries ≡ entries
until_all now [] by = refl
until_all now (e ∷ entries) by =
    let parts = and_parts (nat_le e.moment now) (list_all (λ (entry : TimedChange). nat_le entry.moment now) entries) by in
    cond-true (nat_le e.moment now) (e ∷ until now entries) (until now entries) parts.0 ∙ ap (λ (l : List TimedChange). e ∷ l) (until_all now entries parts.1)

-- at the present moment
pub present : (first : List ℕ) (entries : List TimedChange) (now : ℕ) (bytes : List ℕ) → AreBy now entries
    → bytes ≡ contents first entries → images_since first entries now bytes
present first entries now bytes by is =
    subst (λ (l : List ℕ). images_since first entries now l) (sym is)
    (subst (λ (l : List TimedChange). images first (λ left. left ≡ first) l (contents first entries)) (sym (until_all now entries by))
    (all_done first (λ left. left ≡ first) entries refl))

-- what a read gives is among what a stop at this moment may leave
pub disk_present : (disk : MemoryDisk) (bytes : List ℕ) → Some (disk_bytes disk) ≡ Some bytes
    → disk_images disk (disk_clock disk) bytes
disk_present disk bytes is =
    let same : bytes ≡ disk_bytes disk = cc is in
    present disk.history.first.items disk.history.entries.items disk.history.clock bytes disk.history.past (same ∙ disk.recorded)

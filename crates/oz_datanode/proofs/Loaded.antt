-- What a stop leaves of the journal's disk, where the disk comes back from the blocks that were loaded.
use Rattle.std.proofs.Common.{◌≡◌, ℕ, List, Option, IfSome, IsSomeAnd, sym, subst}
use Rattle.oz_journal.specs.Load.{IsLoadable, IsLeftAlone}
use Rattle.oz_world.specs.Disk.{Images}
use Rattle.oz_world.specs.Moments.{Spans}

pub moments_of : {D : Type 0} (told : D → Option (List ℕ)) (clock : D → ℕ) (image : D → Images) (disk loaded after : D) → after ≡ loaded
    → IfSome (told disk) (λ bytes. IsLoadable bytes (image disk (clock disk)) → Spans IsLeftAlone (clock disk) (clock loaded) (image disk) (image loaded))
    → IfSome (told disk) (λ bytes. IsLoadable bytes (image disk (clock disk)) → Spans IsLeftAlone (clock disk) (clock after) (image disk) (image after))
moments_of {D} told clock image disk loaded after same =
    subst (λ (d : D). IfSome (told disk) (λ bytes. IsLoadable bytes (image disk (clock disk)) → Spans IsLeftAlone (clock disk) (clock d) (image disk) (image d))) (sym same)

pub loadable_of : {D : Type 0} (told : D → Option (List ℕ)) (clock : D → ℕ) (image : D → Images) (disk loaded after : D) → after ≡ loaded
    → IfSome (told disk) (λ bytes. IsLoadable bytes (image disk (clock disk)) → IsSomeAnd (told loaded) (λ left. IsLoadable left (image loaded (clock loaded))))
    → IfSome (told disk) (λ bytes. IsLoadable bytes (image disk (clock disk)) → IsSomeAnd (told after) (λ left. IsLoadable left (image after (clock after))))
loadable_of {D} told clock image disk loaded after same =
    subst (λ (d : D). IfSome (told disk) (λ bytes. IsLoadable bytes (image disk (clock disk)) → IsSomeAnd (told d) (λ left. IsLoadable left (image d (clock d))))) (sym same)

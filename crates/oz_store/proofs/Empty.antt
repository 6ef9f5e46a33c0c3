-- Where there is nothing, all is sound.
use Rattle.std.proofs.Common.{◌≡◌, true, ⊎_elim, ℕ, List, [], ◌∷◌, Option, None, Some, arith}
use Rattle.oz_core.specs.Contents.{OpeningBytes}
use Rattle.oz_core.specs.Coherent.{IsOnDisk}
use Rattle.oz_core.specs.Nodes.{was_held}
use Rattle.oz_fields.specs.declared.block.Block.{Block}
use Rattle.oz_namespace.specs.Namespace.{nothing}
use Rattle.oz_rows.specs.declared.key.RowKey.{RowKey}
use Rattle.oz_rows.specs.RowMaps.{row_of}
use Rattle.oz_sound.specs.Sound.{IsSoundButRenames, IsUsing, StandsIn, AtMost, SnapshotHas}
use Rattle.oz_sound.specs.StandsFor.{StandsFor, IsLive}
use Rattle.oz_store.specs.Store.{IsStore, IsInARow, empty_store}
use Rattle.oz_store.specs.laws.Found.{reached_is_found}

no_row : {X : Type 0} (block : Block) (key : RowKey) → StandsIn (row_of []) block key → X
no_row block key is = let there : None ≡ Some is.row = is.there in absurd (cc)

no_live : {X : Type 0} (volume bucket : List ℕ) (number : ℕ) → IsLive (row_of []) volume bucket number → X
no_live volume bucket number is = let there : None ≡ Some _ = is.2 in absurd (cc)

none_at_most : {A : Type 0} (most : ℕ) (Holds : A → Type 0) → ((x : A) → Holds x → ⊥) → AtMost most Holds
none_at_most most Holds none [] differ each = omega arith
none_at_most most Holds none (x ∷ xs) differ each = absurd (none x each.0)

no_snapshot_has : {X : Type 0} (volume bucket name : List ℕ) (number : ℕ) (block : Block) → SnapshotHas (row_of []) volume bucket number block name → X
no_snapshot_has volume bucket name number block has = no_live volume bucket number has.live

pub nothing_is_sound : IsSoundButRenames (row_of [])
nothing_is_sound = record {
  blocks = record {
    one_bucket = λ block key other here there. no_row block key here;
    one_home = λ block key other home also here there. no_row block key here;
    one_local = λ block twin key other here there same. no_row block key here;
    kept = λ volume bucket name number block has. no_snapshot_has volume bucket name number block has;
    deleted_together = λ volume bucket key owner local block other here there. no_row block _ here;
    key_together = λ volume bucket key block other here there. no_row block _ here;
  };
  names = record {
    one_snapshot = λ volume bucket name number previous other before is also. absurd (cc);
    one_name = λ volume bucket name another number block has also. no_snapshot_has volume bucket name number block has;
    open_name = λ volume bucket key name session number block here has. no_row block _ here;
  };
  numbers = record {
    sessions = λ volume bucket key number is. absurd (cc);
    snapshots = λ volume bucket number is. absurd (cc);
    deleted = λ volume bucket key owner local is owned. absurd (cc);
    renamed = λ volume bucket owner local is owned. absurd (cc);
    snapshot_keys = λ volume bucket key number is. absurd (cc);
  };
  counts = record {
    buckets = λ volume. none_at_most _ _ (λ bucket is. absurd (cc));
    keys_and_sessions = λ volume bucket. none_at_most _ _ (none_uses volume bucket);
    snapshots = λ volume bucket. none_at_most _ _ (λ number live. no_live volume bucket number live);
    snapshot_keys = λ volume bucket number live. no_live volume bucket number live;
  };
}
  where
    none_uses : (volume bucket : List ℕ) (it : List ℕ × Option ℕ) → IsUsing (row_of []) volume bucket it → ⊥
    none_uses volume bucket (key, None) is = absurd (cc)
    none_uses volume bucket (key, Some number) is = absurd (cc)

none_held : {X : Type 0} (dn : ℕ) (block : Block) → was_held empty_store dn block ≡ true → X
none_held dn block is = absurd (cc)

none_on_disk : {X : Type 0} (stands : StandsFor (row_of []) nothing) (block : Block) → IsOnDisk empty_store block → X
none_on_disk stands block on =
    ⊎_elim (λ reached. none_named (reached_is_found (row_of []) nothing block stands reached))
    (λ others. ⊎_elim (λ left. absurd (omega (arith, left.1))) (λ there. none_held there.0 block there.1) others) on
  where
    none_named : {Y : Type 0} → IsInARow (row_of []) block → Y
    none_named is = no_row block is.0 is.1

pub empty_is_store : (stands : StandsFor (row_of []) nothing) (bytes : OpeningBytes) → IsStore (row_of []) empty_store bytes
empty_is_store stands bytes = record {
  stands = stands;
  sound = nothing_is_sound;
  left = λ block. (λ is. absurd (omega (arith, is.1)), λ is. no_row block _ is.has);
  rows = record {
    made = λ block is. no_row block is.0 is.1;
    fresh = λ block is. no_row block is.0 is.1;
    fresh_in_keys = λ key local is of. absurd (cc);
  };
  disks = record {
    log = record { unreached = λ block is. absurd (cc); granted = λ block is. absurd (cc) };
    blocks = record {
      made = λ block on. none_on_disk stands block on;
      placed = λ block dn held. none_held dn block held;
      digests_match = λ block dn held. none_held dn block held;
      alike = λ block dn other held also. none_held dn block held;
      whole = λ piece dn content of held are. none_held dn piece.block held;
    };
    fresh = λ block on. none_on_disk stands block on;
  };
}

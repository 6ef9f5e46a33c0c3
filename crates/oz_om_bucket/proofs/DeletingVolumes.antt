-- A volume goes on which no bucket stands.
use Rattle.std.proofs.Common.{◌≡◌, ℕ, Bool, true, List, [], ◌∷◌, None, Some, is_some, cond, refl, sym, ◌∙◌, ap}
use mathlib.Core.Bool.{false≢true}
use Rattle.std.proofs.lemmas.Cmp.{nat_list_cmp_total}
use Rattle.std.specs.FinMap.{get-remove}
use Rattle.oz_effects.specs.Build.{base_of}
use Rattle.oz_names.specs.Names.{IsVolumeName}
use Rattle.oz_namespace.specs.declared.namespace.Namespace.{Namespace}
use Rattle.oz_namespace.specs.Namespace.{has_volume, buckets_of}
use Rattle.oz_requests.specs.declared.request.Request.TheVariants.{DeleteVolume}
use Rattle.oz_rows.specs.declared.key.RowKey.{RowKey}
use Rattle.oz_rows.specs.declared.key.RowKey.TheVariants as keys
use Rattle.oz_rows.specs.declared.operation.Operation.TheVariants.{Remove}
use Rattle.oz_rows.specs.declared.row.Row.{Row}
use Rattle.oz_rows.specs.declared.row.Row.TheVariants as rows
use Rattle.oz_rows.specs.declared.row.SnapshotState.TheVariants.{Live}
use Rattle.oz_rows.specs.Operations.{batch_bytes}
use Rattle.oz_rows.specs.RowMaps.{Rows, gone}
use Rattle.oz_sound.specs.Sound.{IsSoundButRenames}
use Rattle.oz_sound.specs.laws.BucketChanges.{itself, replaced, volume_goes}
use Rattle.oz_decision.specs.Meets.{AreInGrammar, IsSafe, Stand}
use Rattle.oz_decision.specs.laws.OneRow.{removal_is_safe}
use Rattle.oz_om_bucket.specs.Allowed.{IsAllowed}
use Rattle.oz_om_bucket.proofs.Changing.{some_apart, Does}

-- what stands on a volume is its buckets
on_volume : (other : RowKey) (row : Row) (v : List ℕ) → base_of other row ≡ Some (keys.Volume v) → (b : List ℕ) × (other ≡ keys.Bucket v b)
on_volume (keys.Bucket w b) row v e = (b, (cc))
on_volume (keys.Volume w) row v e = absurd (cc)
on_volume (keys.Key w b k) row v e = absurd (cc)
on_volume (keys.Open w b k n) row v e = absurd (cc)
on_volume (keys.Snapshot w b n) (rows.Snapshot name previous Live) v e = absurd (cc)
on_volume other row v e = absurd (some_apart (sym e))

module _ (all : Rows) (v : List ℕ) (allowed : IsAllowed all (DeleteVolume v)) where
  pub is_safe : AreInGrammar all → IsVolumeName v → IsSafe all (batch_bytes (Remove (keys.Volume v) ∷ [])) (gone (keys.Volume v) ∷ [])
  is_safe fit fits = removal_is_safe all fit (keys.Volume v) fits allowed.0 (λ other row e base.
      let on = on_volume other row v base in
      some_apart (sym e ∙ ap all on.1 ∙ allowed.1 on.0))

  pub does : (namespace : Namespace) → Stand IsSoundButRenames all namespace → Does all namespace (DeleteVolume v)
  does namespace stand =
      let there : has_volume namespace v ≡ true = stand.stands.volumes v ∙ allowed.0 in
      record {
        stands = volume_goes all (replaced all (keys.Volume v) None) namespace v stand.stands (λ b. stand.stands.buckets v b ∙ ap is_some (allowed.1 b)) (λ key. refl);
        few = stand.sound.counts.buckets;
        keeps = λ e. absurd (false≢true (sym (ap is_some (get-remove nat_list_cmp_total namespace.volumes v v) ∙ ap (λ (t : Bool). is_some (cond t None (buckets_of namespace v))) (itself v)) ∙ ap (λ (n : Namespace). has_volume n v) e ∙ there));
      }

-- A volume is created: it needs nothing, and has no buckets.
use Rattle.std.proofs.Common.{◌≡◌, ℕ, Bool, false, List, [], ◌∷◌, None, Some, is_some, cond, refl, sym, ◌∙◌, ap}
use mathlib.Core.Bool.{false≢true}
use Rattle.std.proofs.lemmas.Cmp.{nat_list_cmp_total}
use Rattle.std.specs.FinMap.{empty, get-insert}
use Rattle.oz_names.specs.Names.{IsVolumeName}
use Rattle.oz_namespace.specs.declared.namespace.Namespace.{Namespace}
use Rattle.oz_namespace.specs.Namespace.{has_volume, buckets_of}
use Rattle.oz_model.specs.Refusals.{refusal, refusals}
use Rattle.oz_model.specs.Scope.{scope_of}
use Rattle.oz_requests.specs.declared.request.Request.TheVariants.{CreateVolume}
use Rattle.oz_rows.specs.declared.key.RowKey.TheVariants as keys
use Rattle.oz_rows.specs.declared.operation.Operation.TheVariants.{Put}
use Rattle.oz_rows.specs.declared.row.Row.TheVariants as rows
use Rattle.oz_rows.specs.Operations.{batch_bytes}
use Rattle.oz_rows.specs.RowMaps.{Rows, put}
use Rattle.oz_sound.specs.Sound.{IsSoundButRenames}
use Rattle.oz_sound.specs.laws.BucketChanges.{itself, replaced}
use Rattle.oz_sound.specs.laws.VolumeRows.{makes_a_volume}
use Rattle.oz_decision.specs.Meets.{AreInGrammar, IsSafe, Stand}
use Rattle.oz_decision.specs.laws.OneRow.{put_is_safe}
use Rattle.oz_decision.specs.laws.Refusing.{passed}
use Rattle.oz_om_bucket.proofs.Changing.{some_apart, Does}

module _ (all : Rows) (v : List ℕ) where
  pub is_safe : AreInGrammar all → IsVolumeName v → IsSafe all (batch_bytes (Put (keys.Volume v) rows.Volume ∷ [])) (put (keys.Volume v) rows.Volume ∷ [])
  is_safe fit fits = put_is_safe all fit (keys.Volume v) rows.Volume (fits, tt) (λ base e. absurd (some_apart (sym e)))

  pub does : (namespace : Namespace) → Stand IsSoundButRenames all namespace → refusal (scope_of namespace v) (CreateVolume v) ≡ None → Does all namespace (CreateVolume v)
  does namespace stand none =
      let missing : has_volume namespace v ≡ false = (passed (refusals (scope_of namespace v) (CreateVolume v)) none).1.0 in
      record {
        stands = makes_a_volume all (replaced all (keys.Volume v) (Some rows.Volume)) namespace v stand.stands missing (λ key. refl);
        few = stand.sound.counts.buckets;
        keeps = λ e. absurd (false≢true (sym missing ∙ sym (ap (λ (n : Namespace). has_volume n v) e) ∙ ap is_some (get-insert nat_list_cmp_total namespace.volumes v empty v) ∙ ap (λ (t : Bool). is_some (cond t (Some empty) (buckets_of namespace v))) (itself v)));
      }

-- What is put back where it was seen changes nothing.
use Rattle.std.proofs.Common.{◌≡◌, ◌∙◌, ℕ, Bool, true, false, cond, List, Option, None, Some, refl, sym, ap}
use Rattle.std.proofs.lemmas.List.{set-get_or}
use Rattle.std.specs.declared.cmp.Ordering.{Ordering}
use Rattle.std.specs.declared.cmp.Ordering.TheVariants.{Less, Equal, Greater}
use Rattle.std.specs.Ordering.{nat_cmp, is_eq, eq_by_cmp}
use Rattle.std.specs.Cmp.Lexicographic.{slice_cmp, nat_list_cmp_total}
use Rattle.std.specs.FinMap.{get, get_tied, get-insert, get-remove, same_map, slice_cmp-IsAntisymmetric, nat_cmp-IsAntisymmetric}
use mathlib.Core.Bool.{false≢true}
use Rattle.oz_names.specs.Names.{stripe_of}
use Rattle.oz_namespace.specs.declared.namespace.Bucket.{Bucket}
use Rattle.oz_namespace.specs.declared.namespace.Namespace.{Namespace}
use Rattle.oz_namespace.specs.Namespace.{ByName, with_volume, without_volume}
use Rattle.oz_requests.specs.declared.reply.Reply.{Reply}
use Rattle.oz_requests.specs.declared.request.Request.{Request}
use Rattle.oz_requests.specs.Names.{volume_in}
use Rattle.oz_model.specs.Scope.{drawn_in, scope_of, volumes_with, with_scope}
use Rattle.oz_model.specs.Answers.{scope_after, after}

equal : (o : Ordering) → is_eq o ≡ true → o ≡ Equal
equal Less e = absurd (false≢true e)
equal Equal e = refl
equal Greater e = absurd (false≢true e)

-- a map in which one name has what it has
put_back : (volumes : ByName (ByName Bucket)) (volume : List ℕ) (found : Option (ByName Bucket)) → get volumes volume ≡ found
    → volumes_with volumes volume found ≡ volumes
put_back volumes volume found is = by_case found is
  where
    kept : (found : Option (ByName Bucket)) (q : List ℕ) (t : Bool) → eq_by_cmp (slice_cmp nat_cmp) q volume ≡ t → get volumes volume ≡ found
        → cond t found (get volumes q) ≡ get volumes q
    kept found q true tied is = sym is ∙ get_tied nat_list_cmp_total volumes q volume (equal (slice_cmp nat_cmp q volume) tied)
    kept found q false tied is = refl

    by_case : (found : Option (ByName Bucket)) → get volumes volume ≡ found → volumes_with volumes volume found ≡ volumes
    by_case None is = same_map nat_list_cmp_total (slice_cmp-IsAntisymmetric nat_cmp-IsAntisymmetric) _ _
        (λ q. get-remove nat_list_cmp_total volumes volume q ∙ kept None q (eq_by_cmp (slice_cmp nat_cmp) q volume) refl is)
    by_case (Some buckets) is =
        same_map nat_list_cmp_total (slice_cmp-IsAntisymmetric nat_cmp-IsAntisymmetric) _ _
        (λ q. get-insert nat_list_cmp_total volumes volume buckets q ∙ kept (Some buckets) q (eq_by_cmp (slice_cmp nat_cmp) q volume) refl is)

pub same_scope : (namespace : Namespace) (volume : List ℕ) → with_scope namespace volume (scope_of namespace volume) ≡ namespace
same_scope namespace volume = λ i. record {
  volumes = put_back namespace.volumes volume (get namespace.volumes volume) refl i;
  stripes = set-get_or namespace.stripes (stripe_of volume) 0 i;
}

-- where no number is drawn, the volume alone changes
pub has_buckets : (namespace : Namespace) (volume : List ℕ) (buckets : ByName Bucket)
    → with_scope namespace volume (record { buckets = Some buckets; drawn = drawn_in namespace (stripe_of volume) }) ≡ with_volume namespace volume buckets
has_buckets namespace volume buckets = λ i. record {
  volumes = volumes_with namespace.volumes volume (Some buckets);
  stripes = set-get_or namespace.stripes (stripe_of volume) 0 i;
}

pub is_gone : (namespace : Namespace) (volume : List ℕ)
    → with_scope namespace volume (record { buckets = None; drawn = drawn_in namespace (stripe_of volume) }) ≡ without_volume namespace volume
is_gone namespace volume = λ i. record {
  volumes = volumes_with namespace.volumes volume None;
  stripes = set-get_or namespace.stripes (stripe_of volume) 0 i;
}

-- a request whose scope stays leaves all as it was
pub stays : (namespace : Namespace) (request : Request) (reply : Reply)
    → scope_after (scope_of namespace (volume_in request)) request reply ≡ scope_of namespace (volume_in request)
    → after namespace request reply ≡ namespace
unfolding after
stays namespace request reply same = ap (with_scope namespace (volume_in request)) same ∙ same_scope namespace (volume_in request)

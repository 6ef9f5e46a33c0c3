-- A reply and what it leaves rest on the request's own stripe alone.
use Rattle.std.proofs.Common.{◌≡◌, ◌≢◌, ◌∙◌, ℕ, zero, suc, Bool, true, false, cond, List, [], ◌∷◌, Option, None, Some, refl, sym, ap, subst}
use Rattle.std.proofs.Math.ListN.{set, get_or}
use Rattle.std.proofs.lemmas.Option.{unwrap_or-slice_get}
use Rattle.std.specs.Option.{unwrap_or}
use Rattle.std.specs.List.{slice_get}
use Rattle.std.specs.declared.cmp.Ordering.{Ordering}
use Rattle.std.specs.declared.cmp.Ordering.TheVariants.{Less, Equal, Greater}
use Rattle.std.specs.Ordering.{nat_cmp, is_eq, eq_by_cmp}
use Rattle.std.specs.Cmp.Lexicographic.{slice_cmp, nat_list_cmp_total}
use Rattle.std.specs.FinMap.{get, get-insert, get-remove, slice_cmp-IsAntisymmetric, nat_cmp-IsAntisymmetric}
use mathlib.Core.Bool.{false≢true}
use Rattle.oz_names.specs.Names.{stripe_of}
use Rattle.oz_namespace.specs.declared.namespace.Bucket.{Bucket}
use Rattle.oz_namespace.specs.declared.namespace.Namespace.{Namespace}
use Rattle.oz_namespace.specs.Namespace.{ByName, buckets_of}
use Rattle.oz_requests.specs.declared.reply.Reply.{Reply}
use Rattle.oz_requests.specs.declared.request.Request.{Request}
use Rattle.oz_requests.specs.Names.{volume_in}
use Rattle.oz_model.specs.declared.scope.Scope.{Scope}
use Rattle.oz_model.specs.Answers.{scope_after, AnswersIn, Answers, after}
use Rattle.oz_model.specs.Scope.{scope_of, volumes_with, with_scope}
use Rattle.oz_model.specs.Stripes.{AgreeOn}

equal : (o : Ordering) → is_eq o ≡ true → o ≡ Equal
equal Less e = absurd (false≢true e)
equal Equal e = refl
equal Greater e = absurd (false≢true e)

-- what is found where one volume was changed
pub found_with : (volumes : ByName (ByName Bucket)) (name : List ℕ) (buckets : Option (ByName Bucket)) (volume : List ℕ)
    → get (volumes_with volumes name buckets) volume ≡ cond (eq_by_cmp (slice_cmp nat_cmp) volume name) buckets (get volumes volume)
found_with volumes name None volume = get-remove nat_list_cmp_total volumes name volume
found_with volumes name (Some buckets) volume = get-insert nat_list_cmp_total volumes name buckets volume

-- another volume is as it was
pub others_stay : (volumes : ByName (ByName Bucket)) (name : List ℕ) (buckets : Option (ByName Bucket)) (volume : List ℕ) → volume ≢ name
    → get (volumes_with volumes name buckets) volume ≡ get volumes volume
others_stay volumes name buckets volume apart = found_with volumes name buckets volume ∙ by_test (eq_by_cmp (slice_cmp nat_cmp) volume name) refl
  where
    by_test : (t : Bool) → eq_by_cmp (slice_cmp nat_cmp) volume name ≡ t → cond t buckets (get volumes volume) ≡ get volumes volume
    by_test true is = absurd (apart (slice_cmp-IsAntisymmetric nat_cmp-IsAntisymmetric volume name (equal (slice_cmp nat_cmp volume name) is)))
    by_test false is = refl

set_alike : (xs ys : List ℕ) (i : ℕ) (a : ℕ) → slice_get xs i ≡ slice_get ys i → slice_get (set xs i a) i ≡ slice_get (set ys i a) i
set_alike [] [] i a e = refl
set_alike [] (y ∷ ys) zero a e = absurd cc
set_alike [] (y ∷ ys) (suc i) a e = set_alike [] ys i a e
set_alike (x ∷ xs) [] zero a e = absurd cc
set_alike (x ∷ xs) [] (suc i) a e = set_alike xs [] i a e
set_alike (x ∷ xs) (y ∷ ys) zero a e = refl
set_alike (x ∷ xs) (y ∷ ys) (suc i) a e = set_alike xs ys i a e

set_elsewhere : (xs : List ℕ) (i j : ℕ) (a : ℕ) → j ≢ i → slice_get (set xs i a) j ≡ slice_get xs j
set_elsewhere [] i j a apart = refl
set_elsewhere (x ∷ xs) zero zero a apart = absurd (apart refl)
set_elsewhere (x ∷ xs) zero (suc j) a apart = refl
set_elsewhere (x ∷ xs) (suc i) zero a apart = refl
set_elsewhere (x ∷ xs) (suc i) (suc j) a apart = set_elsewhere xs i j a (λ e. apart (ap suc e))

scopes_agree : (one other : Namespace) (volume : List ℕ) → AgreeOn (stripe_of volume) one other → scope_of one volume ≡ scope_of other volume
scopes_agree one other volume agree = λ i. record { buckets = agree.volumes volume refl i; drawn = drawn i }
  where
    drawn : get_or one.stripes (stripe_of volume) 0 ≡ get_or other.stripes (stripe_of volume) 0
    drawn = sym (unwrap_or-slice_get one.stripes (stripe_of volume) 0) ∙ ap (λ o. unwrap_or o 0) agree.drawn
        ∙ unwrap_or-slice_get other.stripes (stripe_of volume) 0

pub replies_agree : (one other : Namespace) (request : Request) (reply : Reply) → AgreeOn (stripe_of (volume_in request)) one other
    → Answers one request reply → Answers other request reply
unfolding Answers
replies_agree one other request reply agree answers =
    subst (λ (scope : Scope). AnswersIn scope request reply) (scopes_agree one other (volume_in request) agree) answers

with_alike : (one other : Namespace) (volume : List ℕ) (scope : Scope) → AgreeOn (stripe_of volume) one other
    → AgreeOn (stripe_of volume) (with_scope one volume scope) (with_scope other volume scope)
with_alike one other volume scope agree = record {
  volumes = λ name of. found_with one.volumes volume scope.buckets name
      ∙ ap (cond (eq_by_cmp (slice_cmp nat_cmp) name volume) scope.buckets) (agree.volumes name of)
      ∙ sym (found_with other.volumes volume scope.buckets name);
  drawn = set_alike one.stripes other.stripes (stripe_of volume) scope.drawn agree.drawn;
}

pub left_agree : (one other : Namespace) (request : Request) (reply : Reply) → AgreeOn (stripe_of (volume_in request)) one other
    → AgreeOn (stripe_of (volume_in request)) (after one request reply) (after other request reply)
unfolding after
left_agree one other request reply agree =
    let volume = volume_in request in
    subst (λ (scope : Scope). AgreeOn (stripe_of volume) (after one request reply) (with_scope other volume (scope_after scope request reply)))
    (scopes_agree one other volume agree)
    (with_alike one other volume (scope_after (scope_of one volume) request reply) agree)

pub elsewhere : (namespace : Namespace) (request : Request) (reply : Reply) (stripe : ℕ) → stripe ≢ stripe_of (volume_in request)
    → AgreeOn stripe (after namespace request reply) namespace
unfolding after
elsewhere namespace request reply stripe apart =
    let volume = volume_in request in
    let scope = scope_after (scope_of namespace volume) request reply in
    record {
      volumes = λ name of. others_stay namespace.volumes volume scope.buckets name (λ same. apart (sym of ∙ ap stripe_of same));
      drawn = set_elsewhere namespace.stripes (stripe_of volume) stripe scope.drawn apart;
    }

pub other_volumes : (namespace : Namespace) (request : Request) (reply : Reply) (volume : List ℕ) → volume ≢ volume_in request
    → buckets_of (after namespace request reply) volume ≡ buckets_of namespace volume
unfolding after
other_volumes namespace request reply volume apart =
    others_stay namespace.volumes (volume_in request) (scope_after (scope_of namespace (volume_in request)) request reply).buckets volume apart

-- To a request of its stripe a share is as the whole namespace; requests of others leave it as it was.
use Rattle.std.proofs.Common.{◌≡◌, ◌≢◌, ◌↔◌, ◌==◌, ℕ, ◌<◌, Bool, true, false, List, length, Option, None, cond, get_or, set, refl, sym, ◌∙◌, ap, subst, arith}
use Rattle.std.proofs.lemmas.Bool.{eq-eqb, eqb-true}
use Rattle.std.proofs.lemmas.List.{length-set, get_or-set_same, get_or-set_other}
use Rattle.std.specs.Ordering.{nat_cmp, is_eq, eq_by_cmp}
use Rattle.std.specs.Cmp.{tied_itself}
use Rattle.std.specs.Cmp.Lexicographic.{slice_cmp, nat_list_cmp_total}
use mathlib.Core.Bool.{false≢true}
use Rattle.oz_names.specs.Names.{stripe_of}
use Rattle.oz_namespace.specs.declared.namespace.Bucket.{Bucket}
use Rattle.oz_namespace.specs.declared.namespace.Namespace.{Namespace}
use Rattle.oz_namespace.specs.Namespace.{ByName, buckets_of}
use Rattle.oz_requests.specs.declared.reply.Reply.{Reply}
use Rattle.oz_requests.specs.declared.request.Request.{Request}
use Rattle.oz_requests.specs.Names.{volume_in}
use Rattle.oz_model.specs.declared.scope.Scope.{Scope}
use Rattle.oz_model.specs.Answers.{scope_after, AnswersIn, Answers, after, WritesNothing}
use Rattle.oz_model.specs.Scope.{scope_of, with_scope}
use Rattle.oz_model.specs.laws.Stripes.{found_with, others_stay, elsewhere}
use Rattle.oz_model.specs.laws.Scopes.{stays}
use Rattle.oz_store.specs.striped.Shares.{IsOfStripe, HasAllStripes}
use Rattle.oz_store.specs.striped.laws.Shares.{agreeing_share, are_numbers, its_buckets, no_buckets, none_drawn, one_of_sixteen, same_drawn, share_has_all}

-- ---- what is put into a scope

scope_put_has_all : (namespace : Namespace) (volume : List ℕ) (scope : Scope) → HasAllStripes namespace → HasAllStripes (with_scope namespace volume scope)
scope_put_has_all namespace volume scope all = length-set namespace.stripes (stripe_of volume) scope.drawn ∙ all

pub after_has_all : (namespace : Namespace) (request : Request) (reply : Reply) → HasAllStripes namespace → HasAllStripes (after namespace request reply)
unfolding after
after_has_all namespace request reply all =
    scope_put_has_all namespace (volume_in request) (scope_after (scope_of namespace (volume_in request)) request reply) all

-- it is seen there
scope_put : (namespace : Namespace) (volume : List ℕ) (scope : Scope) → HasAllStripes namespace → scope_of (with_scope namespace volume scope) volume ≡ scope
scope_put namespace volume scope all = λ i. record { buckets = buckets i; drawn = drawn i }
  where
    buckets : buckets_of (with_scope namespace volume scope) volume ≡ scope.buckets
    buckets = found_with namespace.volumes volume scope.buckets volume
        ∙ ap (λ o. cond (is_eq o) scope.buckets (buckets_of namespace volume)) (tied_itself nat_list_cmp_total volume)

    drawn : get_or (set namespace.stripes (stripe_of volume) scope.drawn) (stripe_of volume) 0 ≡ scope.drawn
    drawn = get_or-set_same namespace.stripes (stripe_of volume) scope.drawn 0 (let few = one_of_sixteen volume in omega (arith, few, all))

-- so a request that leaves all as it was leaves its scope
scope_stays : (namespace : Namespace) (request : Request) (reply : Reply) → HasAllStripes namespace → after namespace request reply ≡ namespace
    → scope_after (scope_of namespace (volume_in request)) request reply ≡ scope_of namespace (volume_in request)
unfolding after
scope_stays namespace request reply all same =
    let volume = volume_in request in
    sym (scope_put namespace volume (scope_after (scope_of namespace volume) request reply) all) ∙ ap (λ (n : Namespace). scope_of n volume) same

-- ---- a request of the stripe

module _ (volume : List ℕ) (namespace part : Namespace) (of : IsOfStripe (stripe_of volume) namespace part) where
  scopes_alike : scope_of namespace volume ≡ scope_of part volume
  scopes_alike = λ i. record { buckets = buckets i; drawn = drawn i }
    where
      buckets : buckets_of namespace volume ≡ buckets_of part volume
      buckets = sym (its_buckets (stripe_of volume) namespace part of volume (eq-eqb (stripe_of volume) (stripe_of volume) refl))

      drawn : get_or namespace.stripes (stripe_of volume) 0 ≡ get_or part.stripes (stripe_of volume) 0
      drawn = sym (same_drawn (stripe_of volume) namespace part of (one_of_sixteen volume))

  shared_put : (scope : Scope) → HasAllStripes namespace → IsOfStripe (stripe_of volume) (with_scope namespace volume scope) (with_scope part volume scope)
  shared_put scope all = record {
    volumes = λ name. found name (stripe_of name == stripe_of volume) refl;
    stripes = are_numbers (set part.stripes (stripe_of volume) scope.drawn)
        (λ number. cond (number == stripe_of volume) (get_or (set namespace.stripes (stripe_of volume) scope.drawn) number 0) 0)
        (length-set part.stripes (stripe_of volume) scope.drawn ∙ share_has_all (stripe_of volume) namespace part of)
        (λ s few. drawn s few (s == stripe_of volume) refl);
  }
    where
      put_in : (n : Namespace) (name : List ℕ)
          → buckets_of (with_scope n volume scope) name ≡ cond (eq_by_cmp (slice_cmp nat_cmp) name volume) scope.buckets (buckets_of n name)
      put_in n name = found_with n.volumes volume scope.buckets name

      apart : (name : List ℕ) → (stripe_of name == stripe_of volume) ≡ false → name ≢ volume
      apart name e same = false≢true (sym e ∙ eq-eqb (stripe_of name) (stripe_of volume) (ap stripe_of same))

      found : (name : List ℕ) (t : Bool) → (stripe_of name == stripe_of volume) ≡ t
          → buckets_of (with_scope part volume scope) name ≡ cond t (buckets_of (with_scope namespace volume scope) name) None
      found name true e = put_in part name
          ∙ ap (λ (o : Option (ByName Bucket)). cond (eq_by_cmp (slice_cmp nat_cmp) name volume) scope.buckets o)
          (its_buckets (stripe_of volume) namespace part of name e) ∙ sym (put_in namespace name)
      found name false e = others_stay part.volumes volume scope.buckets name (apart name e) ∙ no_buckets (stripe_of volume) namespace part of name e

      here : (l : List ℕ) → length l ≡ 16 → (s : ℕ) → s ≡ stripe_of volume → get_or (set l (stripe_of volume) scope.drawn) s 0 ≡ scope.drawn
      here l many s is = ap (λ n. get_or (set l (stripe_of volume) scope.drawn) n 0) is
          ∙ get_or-set_same l (stripe_of volume) scope.drawn 0 (let few = one_of_sixteen volume in omega (arith, few, many))

      drawn : (s : ℕ) → s < 16 → (t : Bool) → (s == stripe_of volume) ≡ t
          → get_or (set part.stripes (stripe_of volume) scope.drawn) s 0 ≡ cond t (get_or (set namespace.stripes (stripe_of volume) scope.drawn) s 0) 0
      drawn s few true e =
          let is = eqb-true s (stripe_of volume) e in
          here part.stripes (share_has_all (stripe_of volume) namespace part of) s is ∙ sym (here namespace.stripes all s is)
      drawn s few false e =
          get_or-set_other part.stripes (stripe_of volume) s scope.drawn 0 (λ same. false≢true (sym e ∙ eq-eqb s (stripe_of volume) same))
          ∙ none_drawn (stripe_of volume) namespace part of s few e

module _ (stripe : ℕ) (namespace part : Namespace) (request : Request) (reply : Reply) (its : stripe_of (volume_in request) ≡ stripe)
    (of : IsOfStripe stripe namespace part) where
  own : IsOfStripe (stripe_of (volume_in request)) namespace part
  own = subst (λ s. IsOfStripe s namespace part) (sym its) of

  alike : scope_of namespace (volume_in request) ≡ scope_of part (volume_in request)
  alike = scopes_alike (volume_in request) namespace part own

  pub share_answers : Answers namespace request reply ↔ Answers part request reply
  unfolding Answers
  share_answers = (
    λ answers. subst (λ scope. AnswersIn scope request reply) alike answers,
    λ answers. subst (λ scope. AnswersIn scope request reply) (sym alike) answers,
  )

  pub share_after : HasAllStripes namespace → IsOfStripe stripe (after namespace request reply) (after part request reply)
  unfolding after
  share_after all =
      let volume = volume_in request in
      subst (λ s. IsOfStripe s (after namespace request reply) (after part request reply)) its
      (subst (λ (scope : Scope). IsOfStripe (stripe_of volume) (after namespace request reply) (with_scope part volume (scope_after scope request reply))) alike
      (shared_put volume namespace part own (scope_after (scope_of namespace volume) request reply) all))

  pub share_stays : HasAllStripes namespace → ((after namespace request reply ≡ namespace) ↔ (after part request reply ≡ part))
  share_stays all = (
    λ same. stays part request reply
        (moved (scope_of namespace (volume_in request)) (scope_of part (volume_in request)) alike (scope_stays namespace request reply all same)),
    λ same. stays namespace request reply (moved (scope_of part (volume_in request)) (scope_of namespace (volume_in request)) (sym alike)
        (scope_stays part request reply (share_has_all stripe namespace part of) same)),
  )
    where
      moved : (one other : Scope) → one ≡ other → scope_after one request reply ≡ one → scope_after other request reply ≡ other
      moved one other same e = subst (λ (scope : Scope). scope_after scope request reply ≡ scope) same e

  pub share_writes_nothing : HasAllStripes namespace → (WritesNothing namespace request reply ↔ WritesNothing part request reply)
  share_writes_nothing all = let both = share_stays all in (λ none. (both.0 none.0, none.1), λ none. (both.1 none.0, none.1))

-- ---- a request of another stripe

pub share_elsewhere : (stripe : ℕ) (namespace part : Namespace) (request : Request) (reply : Reply) → stripe ≢ stripe_of (volume_in request)
    → IsOfStripe stripe namespace part → IsOfStripe stripe (after namespace request reply) part
share_elsewhere stripe namespace part request reply apart of =
    let agree = elsewhere namespace request reply stripe apart in
    agreeing_share stripe namespace (after namespace request reply) part
    (record { volumes = λ volume is. sym (agree.volumes volume is); drawn = sym agree.drawn }) of

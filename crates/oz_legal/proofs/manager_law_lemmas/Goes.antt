-- How the index goes on, told by a test.
use Rattle.std.proofs.Common.{◌≡◌, ◌≢◌, ◌⊎◌, ⊎_elim, inl, inr, ◌∙◌, ℕ, ◌+◌, ◌<◌, Bool, true, false, ◌||◌, ◌==◌, List, length, refl, sym, ap}
use mathlib.Core.Bool.{false≢true}
use Rattle.std.proofs.lemmas.Bool.{eqb-true, eq-eqb}
use Rattle.oz_names.specs.Names.{stripe_of}
use Rattle.oz_requests.specs.declared.reply.Reply.{Reply}
use Rattle.oz_requests.specs.declared.request.Family.{Family}
use Rattle.oz_requests.specs.declared.request.Family.TheVariants.{Buckets, Keys, Allocation, Snapshots, Service}
use Rattle.oz_requests.specs.declared.request.Request.{Request}
use Rattle.oz_requests.specs.Families.{family_of}
use Rattle.oz_requests.specs.Names.{volume_in}
use Rattle.oz_model.specs.Answers.{Answers}
use Rattle.oz_model.specs.laws.Service.{service_leaves}
use Rattle.oz_core.specs.declared.event.Event.{Event}
use Rattle.oz_core.specs.declared.opening.Opening.{Opening}
use Rattle.oz_core.specs.Law.{IndexGoesOn}
use Rattle.oz_core.specs.Manager.{last_index, namespace_of}
use Rattle.oz_legal.specs.manager_law.Words.{changes, goes_on, is_next, is_service}
use Rattle.oz_legal.proofs.manager_law_lemmas.Changes.{changed, unchanged}

service-told : (family : Family) → is_service family ≡ true → family ≡ Service
service-told Buckets e = absurd (false≢true e)
service-told Keys e = absurd (false≢true e)
service-told Allocation e = absurd (false≢true e)
service-told Snapshots e = absurd (false≢true e)
service-told Service e = refl

other-told : (family : Family) → is_service family ≡ false → family ≢ Service
other-told family e is = false≢true (sym e ∙ ap is_service is)

either : (a b : Bool) → (a || b) ≡ true → (a ≡ true) ⊎ (b ≡ true)
either true b e = inl refl
either false b e = inr e

or-true : (a : Bool) → (a || true) ≡ true
or-true true = refl
or-true false = refl

module _ (opening : Opening) (story : List Event) (request : Request) (reply : Reply) (index : ℕ)
    (within : stripe_of (volume_in request) < length (namespace_of opening story).stripes) (answers : Answers (namespace_of opening story) request reply) where
  pub goes : goes_on (is_service (family_of request)) (changes request reply) (last_index opening story) index ≡ true → IndexGoesOn opening story request reply index
  goes is = by (is_service (family_of request)) refl (changes request reply) refl is
    where
      by : (s : Bool) → is_service (family_of request) ≡ s → (t : Bool) → changes request reply ≡ t → goes_on s t (last_index opening story) index ≡ true → IndexGoesOn opening story request reply index
      by true service t e is = record {
        changes = λ apart. absurd (apart (service_leaves (namespace_of opening story) request reply (service-told (family_of request) service)));
        stays = λ same other. absurd (other (service-told (family_of request) service));
        service = λ family. ⊎_elim (λ a. inl (eqb-true index (last_index opening story) a)) (λ b. inr (eqb-true index (last_index opening story + 1) b))
            (either (index == last_index opening story) (is_next (last_index opening story) index) is);
      }
      by false other true e is = record {
        changes = λ apart. eqb-true index (last_index opening story + 1) is;
        stays = λ same family. absurd (changed (namespace_of opening story) request reply within answers e same);
        service = λ family. absurd (other-told (family_of request) other family);
      }
      by false other false e is = record {
        changes = λ apart. absurd (apart (unchanged (namespace_of opening story) request reply answers e));
        stays = λ same family. eqb-true index (last_index opening story) is;
        service = λ family. absurd (other-told (family_of request) other family);
      }

  pub goes-finds : IndexGoesOn opening story request reply index → goes_on (is_service (family_of request)) (changes request reply) (last_index opening story) index ≡ true
  goes-finds is = by (is_service (family_of request)) refl (changes request reply) refl
    where
      by : (s : Bool) → is_service (family_of request) ≡ s → (t : Bool) → changes request reply ≡ t → goes_on s t (last_index opening story) index ≡ true
      by true service t e = ⊎_elim
          (λ a. ap (λ (b : Bool). b || is_next (last_index opening story) index) (eq-eqb index (last_index opening story) a))
          (λ b. ap (λ (t : Bool). index == last_index opening story || t) (eq-eqb index (last_index opening story + 1) b) ∙ or-true (index == last_index opening story))
          (is.service (service-told (family_of request) service))
      by false other true e = eq-eqb index (last_index opening story + 1) (is.changes (λ same. changed (namespace_of opening story) request reply within answers e same))
      by false other false e = eq-eqb index (last_index opening story) (is.stays (unchanged (namespace_of opening story) request reply answers e) (other-told (family_of request) other))

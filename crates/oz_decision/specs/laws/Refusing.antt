-- What a refusal owes, and what stands where none applies.
use Rattle.std.proofs.Common.{◌≡◌, ◌≢◌, ℕ, Bool, true, false, List, [], ◌∷◌, Option, None, Some, is_some, cond, refl, sym, ◌∙◌, ap}
use mathlib.Core.Bool.{false≢true}
use Rattle.std.specs.List.{AllByRecursion}
use Rattle.oz_names.specs.declared.code.Code.{Code}
use Rattle.oz_names.specs.Names.{IsVolumeName}
use Rattle.oz_names.specs.laws.NameTests.{volume_name-passes}
use Rattle.oz_model.specs.Answers.{reply_from, Answers}
use Rattle.oz_model.specs.Refusals.{Refusal, first_of}
use Rattle.oz_model.specs.Scope.{scope_of}
use Rattle.oz_model.specs.laws.Order.{refused_by_name, refused_so}
use Rattle.oz_model.specs.laws.Scopes.{stays}
use Rattle.oz_namespace.specs.declared.namespace.Namespace.{Namespace}
use Rattle.oz_requests.specs.declared.reply.Reply.{Reply}
use Rattle.oz_requests.specs.declared.reply.Reply.TheVariants as replies
use Rattle.oz_requests.specs.declared.request.Request.{Request}
use Rattle.oz_requests.specs.Names.{Named, volume_named, bucket_named, is_name_of, name_code, name_fault, first_fault, volume_in}
use Rattle.oz_rows.specs.RowMaps.{Rows}
use Rattle.oz_decision.specs.Meets.{Stand, Meets}
use Rattle.oz_decision.specs.laws.OneRow.{nothing_changes}

some_apart : {A : Type 0} {a : A} → Some a ≡ None → ⊥
some_apart e = false≢true (sym (ap is_some e))

-- names that were tested are names
first_named : (first : Named) (others : List Named) → first_fault (first ∷ others) ≡ None → is_name_of first.kind first.name ≡ true
first_named first others e = by_test (is_name_of first.kind first.name) refl
  where
    by_test : (t : Bool) → is_name_of first.kind first.name ≡ t → is_name_of first.kind first.name ≡ true
    by_test true is = is
    by_test false is = absurd (some_apart (sym (ap (λ (t : Bool). cond t (first_fault others) (Some (name_code first.kind))) is) ∙ e))

others_named : (first : Named) (others : List Named) → first_fault (first ∷ others) ≡ None → first_fault others ≡ None
others_named first others e = sym (ap (λ (t : Bool). cond t (first_fault others) (Some (name_code first.kind))) (first_named first others e)) ∙ e

pub volume_fits : (v : List ℕ) (others : List Named) → first_fault (volume_named v ∷ others) ≡ None → IsVolumeName v
volume_fits v others e = volume_name-passes v (first_named (volume_named v) others e)

pub bucket_fits : (v b : List ℕ) (others : List Named) → first_fault (volume_named v ∷ bucket_named b ∷ others) ≡ None → IsVolumeName b
bucket_fits v b others e = volume_name-passes b (first_named (bucket_named b) others (others_named (volume_named v) (bucket_named b ∷ others) e))

-- where no refusal applies, none of the list does
pub passed : (l : List Refusal) → first_of l ≡ None → AllByRecursion (λ (r : Refusal). r.applies ≡ false) l
passed [] e = tt
passed (r ∷ l) e = by_test r.applies refl (passed l)
  where
    by_test : (t : Bool) → r.applies ≡ t → (first_of l ≡ None → AllByRecursion (λ (r : Refusal). r.applies ≡ false) l) → (r.applies ≡ false)
        × AllByRecursion (λ (r : Refusal). r.applies ≡ false) l
    by_test false is later = (is, later (sym (ap (λ (t : Bool). cond t (Some r.code) (first_of l)) is) ∙ e))
    by_test true is later = absurd (false≢true (sym (ap is_some (sym (ap (λ (t : Bool). cond t (Some r.code) (first_of l)) is) ∙ e))))

-- no refusal applies where the reply is no code
pub not_refused : (o : Option Code) (reply result : Reply) → ((code : Code) → reply ≢ replies.Code code) → reply ≡ reply_from o result → o ≡ None
not_refused None reply result apart e = refl
not_refused (Some code) reply result apart e = absurd (apart code e)

-- a name that is none is what is refused first
pub refused : (Sound : Rows → Type 0) (all : Rows) (namespace : Namespace) (request : Request) (code : Code) → name_fault request ≡ Some code
    → Stand Sound all namespace → Meets Sound all namespace request (replies.Code code) [] []
unfolding Answers
refused Sound all namespace request code e stand =
    let scope = scope_of namespace (volume_in request) in
    nothing_changes Sound all namespace request (replies.Code code) stand (refused_so scope request code (refused_by_name scope request code e))
    (stays namespace request (replies.Code code) refl)

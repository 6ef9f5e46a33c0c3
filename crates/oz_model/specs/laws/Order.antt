-- Names are tested before all else.
use Rattle.std.proofs.Common.{◌≡◌, ◌∙◌, Bool, true, false, not, cond, List, [], ◌∷◌, ◌++◌, map, Option, None, Some, refl, sym, ap, subst}
use Rattle.oz_names.specs.declared.code.Code.{Code}
use Rattle.oz_requests.specs.declared.request.Request.{Request}
use Rattle.oz_requests.specs.Names.{Named, names_of, is_name_of, name_code, first_fault, name_fault}
use Rattle.oz_model.specs.declared.scope.Scope.{Scope}
use Rattle.oz_requests.specs.declared.reply.Reply.TheVariants as replies
use Rattle.oz_requests.specs.declared.request.Request.TheVariants.{AllocateBlock}
use Rattle.oz_model.specs.Answers.{Replies, AnswersIn}
use Rattle.oz_model.specs.Refusals.{Refusal, first_of, bad_name, missing, codes, refusal}

-- the first code, or else the other
abbrev pub or_then : Option Code → Option Code → Option Code
or_then None other = other
or_then (Some code) other = Some code

turned : (t : Bool) (first rest other : Option Code) → cond (not t) first (or_then rest other) ≡ cond t (or_then rest other) first
turned true first rest other = refl
turned false first rest other = refl

within : (t : Bool) (code : Code) (rest other : Option Code) → cond t (or_then rest other) (Some code) ≡ or_then (cond t rest (Some code)) other
within true code rest other = refl
within false code rest other = refl

within_first : (t : Bool) (code : Code) (rest other : Option Code) → cond t (Some code) (or_then rest other) ≡ or_then (cond t (Some code) rest) other
within_first true code rest other = refl
within_first false code rest other = refl

-- what stands before is tested before
pub one_then_other : (some others : List Refusal) → first_of (some ++ others) ≡ or_then (first_of some) (first_of others)
one_then_other [] others = refl
one_then_other (it ∷ some) others = ap (cond it.applies (Some it.code)) (one_then_other some others)
    ∙ within_first it.applies it.code (first_of some) (first_of others)

pub names_then : (names : List Named) (others : List Refusal) → first_of (map bad_name names ++ others) ≡ or_then (first_fault names) (first_of others)
names_then [] others = refl
names_then (it ∷ names) others =
    let good = is_name_of it.kind it.name in
    let code = name_code it.kind in
    ap (cond (not good) (Some code)) (names_then names others) ∙ turned good (Some code) (first_fault names) (first_of others)
    ∙ within good code (first_fault names) (first_of others)

pub in_order : (scope : Scope) (request : Request)
    → refusal scope request ≡ or_then (name_fault request) (or_then (first_of (missing scope request)) (first_of (codes scope request)))
in_order scope request =
    names_then (names_of request) (missing scope request ++ codes scope request)
    ∙ ap (or_then (name_fault request)) (one_then_other (missing scope request) (codes scope request))

pub refused_by_name : (scope : Scope) (request : Request) (code : Code) → name_fault request ≡ Some code → refusal scope request ≡ Some code
refused_by_name scope request code is = in_order scope request
    ∙ ap (λ fault. or_then fault (or_then (first_of (missing scope request)) (first_of (codes scope request)))) is

-- a code answers each request that it refuses
code_replies : (scope : Scope) (request : Request) (code : Code) → Replies (Some code) scope request (replies.Code code)
code_replies scope (AllocateBlock volume bucket key session exclude) code = (record { container = 0; local = 0 }, 0, refl)
code_replies scope request code = refl

pub refused_so : (scope : Scope) (request : Request) (code : Code) → refusal scope request ≡ Some code → AnswersIn scope request (replies.Code code)
refused_so scope request code is = subst (λ o. Replies o scope request (replies.Code code)) (sym is) (code_replies scope request code)

-- what isn't there comes behind the names, and the request's own codes behind that
pub refused_missing : (scope : Scope) (request : Request) (code : Code) → name_fault request ≡ None → first_of (missing scope request) ≡ Some code
    → refusal scope request ≡ Some code
refused_missing scope request code named is = in_order scope request ∙ (λ i. or_then (named i) (or_then (is i) (first_of (codes scope request))))

pub refused_by_row : (scope : Scope) (request : Request) → name_fault request ≡ None → first_of (missing scope request) ≡ None
    → refusal scope request ≡ first_of (codes scope request)
refused_by_row scope request named there = in_order scope request ∙ (λ i. or_then (named i) (or_then (there i) (first_of (codes scope request))))

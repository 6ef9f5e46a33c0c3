-- Stories that go on from others, and what their events tell.
use Rattle.std.proofs.Common.{
  ◌≡◌,
  ◌⊎◌,
  ⊎_elim,
  inl,
  inr,
  ◌≤◌,
  Contains,
  ◌+◌,
  Bool,
  true,
  List,
  [],
  ◌∷◌,
  ◌++◌,
  length,
  Option,
  None,
  refl,
  sym,
  ap,
  ◌∙◌,
  subst,
  append_assoc,
  append-nil,
  length-append,
  arith,
}
use Rattle.std.proofs.lemmas.Bool.{or_left}
use Rattle.std.proofs.lemmas.List.Elements.{Contains-append_left, Contains-push, filter_map-append}
use Rattle.std.proofs.lemmas.List.Folds.{list_any-append}
use Rattle.std.specs.List.{cons_option}
use Rattle.oz_core.specs.declared.event.Event.{Event}
use Rattle.oz_core.specs.declared.event.EventKind.{EventKind}
use Rattle.oz_core.specs.Stories.{all_told, has_event}
use Rattle.oz_buffer.specs.Buffer.{AllFollow}
use Rattle.oz_buffer.specs.laws.Following.{follow-push}
use Rattle.oz_turn.specs.Told.{BeginsWith}

module _ {E : Type 0} where
  pub begins_itself : (l : List E) → BeginsWith l l
  begins_itself l = ([], sym (append-nil l))

  pub begins_push : (story seen : List E) (e : E) → BeginsWith story seen → BeginsWith (story ++ e ∷ []) seen
  begins_push story seen e begins = (begins.0 ++ e ∷ [], ap (λ l. l ++ e ∷ []) begins.1 ∙ append_assoc seen begins.0 (e ∷ []))

  pub begins_through : (a b c : List E) → BeginsWith a b → BeginsWith b c → BeginsWith a c
  begins_through a b c first then =
      (then.0 ++ first.0, first.1 ∙ (ap (λ l. l ++ first.0) then.1 ∙ append_assoc c then.0 first.0))

  -- a list that begins with another as long as itself is that one
  pub no_longer : (l seen more : List E) → l ≡ seen ++ more → length l ≡ length seen → l ≡ seen
  no_longer l seen [] is same = is ∙ append-nil seen
  no_longer l seen (e ∷ more) is same = absurd (omega (arith, same, ap length is, length-append seen (e ∷ more)))

-- an entry behind a front of a list is among what came since an earlier front
pub among_since : {E : Type 0} (story since front : List E) (e : E) → BeginsWith front since → BeginsWith story (front ++ e ∷ [])
    → (begins : BeginsWith story since) × Contains begins.0 e
among_since story since front e begins later = (
  (
    (begins.0 ++ e ∷ []) ++ later.0,
    later.1 ∙ (ap (λ l. (l ++ e ∷ []) ++ later.0) begins.1
        ∙ (ap (λ l. l ++ later.0) (append_assoc since begins.0 (e ∷ [])) ∙ append_assoc since (begins.0 ++ e ∷ []) later.0)),
  ),
  Contains-append_left (begins.0 ++ e ∷ []) later.0 e (Contains-push begins.0 e),
)

-- of two fronts of a list one begins with the other
pub either_way : {E : Type 0} (a b c d : List E) → a ++ b ≡ c ++ d → BeginsWith a c ⊎ BeginsWith c a
either_way a b [] d e = inl (a, refl)
either_way [] b (y ∷ c) d e = inr (y ∷ c, refl)
either_way (x ∷ a) b (y ∷ c) d e =
    let heads : x ≡ y = cc in
    let tails : a ++ b ≡ c ++ d = cc in
    ⊎_elim
    (λ (first : BeginsWith a c). inl (first.0, let same = first.1 in cc))
    (λ (then : BeginsWith c a). inr (then.0, let same = then.1 in cc))
    (either_way a b c d tails)

-- ---- what events tell

pub told_parts : {X : Type 0} (tells : EventKind → Option X) (a b : List Event) → all_told tells (a ++ b) ≡ all_told tells a ++ all_told tells b
told_parts tells a b = filter_map-append (λ (event : Event). tells event.kind) a b

pub told_longer : {X : Type 0} (tells : EventKind → Option X) (story seen : List Event) (begins : BeginsWith story seen)
    → all_told tells story ≡ all_told tells seen ++ all_told tells begins.0
told_longer tells story seen begins = ap (all_told tells) begins.1 ∙ told_parts tells seen begins.0

pub told_more : {X : Type 0} (tells : EventKind → Option X) (story : List Event) (event : Event)
    → all_told tells (story ++ event ∷ []) ≡ all_told tells story ++ cons_option (tells event.kind) []
told_more tells story event = told_parts tells story (event ∷ [])

-- an event that tells nothing leaves what was told
pub none_more : {X : Type 0} (tells : EventKind → Option X) (story : List Event) (event : Event) (before : List X) → tells event.kind ≡ None
    → all_told tells story ≡ before → all_told tells (story ++ event ∷ []) ≡ before
none_more {X} tells story event before none was =
    told_more tells story event
    ∙ (ap (λ (o : Option X). all_told tells story ++ cons_option o []) none
    ∙ (append-nil (all_told tells story) ∙ was))

pub count_more : {X : Type 0} (tells : EventKind → Option X) (story : List Event) (event : Event)
    → length (all_told tells (story ++ event ∷ [])) ≡ length (all_told tells story) + length (cons_option (tells event.kind) [])
count_more tells story event =
    ap length (told_more tells story event) ∙ length-append (all_told tells story) (cons_option (tells event.kind) [])

pub no_fewer : {X : Type 0} (tells : EventKind → Option X) (story seen : List Event) → BeginsWith story seen
    → length (all_told tells seen) ≤ length (all_told tells story)
no_fewer tells story seen begins =
    omega (arith, ap length (told_longer tells story seen begins), length-append (all_told tells seen) (all_told tells begins.0))

pub same_by_count : {X : Type 0} (tells : EventKind → Option X) (story seen : List Event) → BeginsWith story seen
    → length (all_told tells story) ≡ length (all_told tells seen) → all_told tells story ≡ all_told tells seen
same_by_count tells story seen begins same =
    no_longer (all_told tells story) (all_told tells seen) (all_told tells begins.0) (told_longer tells story seen begins) same

-- what has happened stays so
pub happened_still : (is : EventKind → Bool) (story seen : List Event) → BeginsWith story seen → has_event is seen ≡ true → has_event is story ≡ true
happened_still is story seen begins so =
    ap (has_event is) begins.1
    ∙ (list_any-append (λ (event : Event). is event.kind) seen begins.0
    ∙ or_left (has_event is seen) (has_event is begins.0) so)

-- ---- events that follow

module _ (Follow : List Event → Event → Type 0) where
  pub follow_front : (before a b : List Event) → AllFollow Follow before (a ++ b) → AllFollow Follow before a
  unfolding AllFollow
  follow_front before [] b all = tt
  follow_front before (event ∷ a) b all = (all.0, follow_front (before ++ event ∷ []) a b all.1)

  pub follow_behind : (before a b : List Event) → AllFollow Follow before (a ++ b) → AllFollow Follow (before ++ a) b
  unfolding AllFollow
  follow_behind before [] b all = subst (λ (l : List Event). AllFollow Follow l b) (sym (append-nil before)) all
  follow_behind before (event ∷ a) b all =
      subst (λ (l : List Event). AllFollow Follow l b) (append_assoc before (event ∷ []) a)
      (follow_behind (before ++ event ∷ []) a b all.1)

  pub follow_before : (story seen : List Event) → BeginsWith story seen → AllFollow Follow [] story → AllFollow Follow [] seen
  follow_before story seen begins all =
      follow_front [] seen begins.0 (subst (λ (l : List Event). AllFollow Follow [] l) begins.1 all)

  pub follow_first : (before : List Event) (event : Event) (rest : List Event) → AllFollow Follow before (event ∷ rest) → Follow before event
  unfolding AllFollow
  follow_first before event rest all = all.0

  -- what each event keeps that may follow behind what was seen
  abbrev pub Keeps : List Event → (List Event → Type 0) → Type 0
  Keeps seen P =
      (front : List Event) (event : Event) → BeginsWith front seen → AllFollow Follow [] front → Follow front event → P front → P (front ++ event ∷ [])

  from : (P : List Event → Type 0) (seen : List Event) → Keeps seen P → (more before : List Event) → BeginsWith before seen
      → AllFollow Follow [] before → P before → AllFollow Follow before more → P (before ++ more)
  unfolding AllFollow
  from P seen keeps [] before begins all have rest = subst P (sym (append-nil before)) have
  from P seen keeps (event ∷ more) before begins all have rest =
      subst P (append_assoc before (event ∷ []) more)
      (from P seen keeps more (before ++ event ∷ []) (begins_push before seen event begins) (follow-push Follow before event all rest.0)
      (keeps before event begins all rest.0 have) rest.1)

  pub kept_on : (P : List Event → Type 0) (story seen : List Event) → BeginsWith story seen → AllFollow Follow [] story
      → Keeps seen P → P seen → P story
  kept_on P story seen begins all keeps have =
      let parts : AllFollow Follow [] (seen ++ begins.0) = subst (λ (l : List Event). AllFollow Follow [] l) begins.1 all in
      subst P (sym begins.1)
      (from P seen keeps begins.0 seen (begins_itself seen) (follow_front [] seen begins.0 parts) have (follow_behind [] seen begins.0 parts))

  -- and from the beginning on
  pub kept_always : (P : List Event → Type 0) (story : List Event) → AllFollow Follow [] story → Keeps [] P → P [] → P story
  kept_always P story all keeps have = kept_on P story [] (story, refl) all keeps have

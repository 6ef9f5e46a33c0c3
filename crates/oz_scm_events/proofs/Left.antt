-- What a stop leaves, from one call to the next.
use Rattle.std.specs.Prelude.{◌==◌, ◌≢◌, Bool, true, false, IfSome}
use Rattle.std.specs.List.{AllByRecursion}
use Rattle.std.proofs.Common.{◌≡◌, ℕ, List, [], ◌∷◌, ◌++◌, Option, None, Some, refl, sym, ap, ◌∙◌, cond, subst, eq-eqb, arith, append_assoc}
use Rattle.std.proofs.lemmas.Bool.{false≢true}
use Rattle.std.proofs.lemmas.List.{append_cancel_left, append-nil}
use Rattle.std.proofs.lemmas.List.Elements.{All-append, All-nil, filter-append}
use Rattle.oz_core.specs.declared.event.Event.{Event}
use Rattle.oz_core.specs.declared.event.EventKind.TheVariants as events
use Rattle.oz_core.specs.declared.event.Node.TheVariants.{Scm}
use Rattle.oz_core.specs.declared.opening.Opening.{Opening}
use Rattle.oz_core.specs.Seats.{scm_seat}
use Rattle.oz_scm.specs.Scm.{State, StandsFor}
use Rattle.oz_scm_events.specs.Granted.{by_scm}
use Rattle.oz_scm_events.specs.Left.{IsMadeOf, IsUpOrDown, LoadsAs, LoadsAsOrOneMore, ScmHalted}
use Rattle.oz_scm_events.specs.Tracked.{up_event}
use Rattle.oz_scm_events.proofs.Kept.{known}
use Rattle.oz_scm_events.proofs.Needed.{to_all}
use Rattle.oz_turn.specs.Told.{BeginsWith}
use Rattle.oz_world.specs.Disk.{Seen, TellsAsBefore}
use Rattle.oz_world.specs.Moments.{Elapses, LeavesOnly}

abbrev IsQuiet : Event → Type 0
IsQuiet event = event.seat ≡ scm_seat → IsUpOrDown event.kind

abbrev OnlyTracks : List Event → Type 0
OnlyTracks told = AllByRecursion (λ (event : Event). IsUpOrDown event.kind) told

are_quiet : (more : List Event) → OnlyTracks (known more) → AllByRecursion IsQuiet more
are_quiet [] all = tt
are_quiet (event ∷ more) all = by (event.seat == scm_seat) refl all (are_quiet more)
  where
    by : (t : Bool) → (event.seat == scm_seat) ≡ t → OnlyTracks (cond t (event ∷ known more) (known more)) → (OnlyTracks (known more) → AllByRecursion IsQuiet more) → AllByRecursion IsQuiet (event ∷ more)
    by true is all rest = ((λ same. all.0), rest all.1)
    by false not all rest = ((λ same. absurd (false≢true (sym not ∙ eq-eqb event.seat scm_seat same))), rest all)

-- where the seat saw more, and gave nothing but who is up
halted_on : (disk : Seen) (opening : Opening) (seen mine seen_after mine_after told : List Event) → ScmHalted disk opening seen → known seen ≡ mine → BeginsWith seen_after seen
    → known seen_after ≡ mine_after → mine_after ≡ mine ++ told → OnlyTracks told → ScmHalted disk opening seen_after
halted_on disk opening seen mine seen_after mine_after told halted own begins own_after grown tracks =
    let more = begins.0 in
    let same : known seen ++ known more ≡ known seen ++ told =
    sym (filter-append (λ (event : Event). event.seat == scm_seat) seen more) ∙ ap known (sym begins.1) ∙ own_after ∙ grown ∙ ap (λ (l : List Event). l ++ told) (sym own) in
    let is = append_cancel_left (known seen) (known more) told same in
    record {
      before = halted.before;
      count = halted.count;
      behind = halted.behind ++ more;
      parts = begins.1 ∙ ap (λ (l : List Event). l ++ more) halted.parts ∙ append_assoc halted.before (by_scm (events.Halt Scm halted.count) ∷ halted.behind) more;
      quiet = All-append IsQuiet halted.behind more halted.quiet (to_all IsQuiet more (are_quiet more (subst OnlyTracks (sym is) tracks)));
      images = halted.images;
    }

pub halted_later : (disk : Seen) (opening : Opening) (seen mine seen_after mine_after : List Event) → ScmHalted disk opening seen → known seen ≡ mine → BeginsWith seen_after seen
    → known seen_after ≡ mine_after → mine_after ≡ mine → ScmHalted disk opening seen_after
halted_later disk opening seen mine seen_after mine_after halted own begins own_after same =
    halted_on disk opening seen mine seen_after mine_after [] halted own begins own_after (same ∙ sym (append-nil mine)) tt

pub halted_tracked : (disk : Seen) (opening : Opening) (seen mine seen_after mine_after : List Event) (dn : ℕ) (up : Bool) → ScmHalted disk opening seen → known seen ≡ mine
    → BeginsWith seen_after seen → known seen_after ≡ mine_after → mine_after ≡ mine ++ by_scm (up_event dn up) ∷ [] → ScmHalted disk opening seen_after
halted_tracked disk opening seen mine seen_after mine_after dn up halted own begins own_after told =
    halted_on disk opening seen mine seen_after mine_after (by_scm (up_event dn up) ∷ []) halted own begins own_after told (tracks up, tt)
  where
    tracks : (up : Bool) → IsUpOrDown (up_event dn up)
    tracks true = tt
    tracks false = tt

-- ---- as it halts

pub told_still : (before after : Option (List ℕ)) → TellsAsBefore before after → after ≢ None → before ≢ None
told_still before after as_before told none = told (as_before.0 none)

of_told : (told : Option (List ℕ)) (P : Type 0) → told ≢ None → IfSome told (λ bytes. P) → P
of_told None P is it = absurd (is refl)
of_told (Some bytes) P is it = it

-- each image after the call is of one of two kinds
pub halts_now : (opening : Opening) (story : List Event) (count : ℕ) (before after : Seen) (P : List ℕ → Type 0) → TellsAsBefore before.told after.told
    → Elapses before.clock after.clock before.image after.image → IfSome before.told (λ bytes. LeavesOnly P before.clock after.clock after.image)
    → ((left : List ℕ) → P left → LoadsAsOrOneMore opening story left) → ScmHalted after opening (story ++ by_scm (events.Halt Scm count) ∷ [])
halts_now opening story count before after P telling time stands each = record {
  before = story;
  count = count;
  behind = [];
  parts = refl;
  quiet = All-nil IsQuiet;
  images = λ told left image.
      each left (of_told before.told (LeavesOnly P before.clock after.clock after.image) (told_still before.told after.told telling told) stands after.clock left time.later (omega arith) image);
}

-- ---- while nothing failed

pub at_rest : {D : Type 0} (opening : Opening) (story : List Event) (scm : State D) (told : Option (List ℕ)) (image : List ℕ → Type 0) → IsMadeOf opening story scm.made
    → ((bytes : List ℕ) → told ≡ Some bytes → StandsFor scm.made.nodes bytes scm.made × ((left : List ℕ) → image left → left ≡ bytes))
    → told ≢ None → (left : List ℕ) → image left → LoadsAs opening story left
at_rest opening story scm None image made rests is left of = absurd (is refl)
at_rest opening story scm (Some bytes) image made rests is left of =
    let it = rests bytes refl in
    (scm.made, made, subst (λ (n : ℕ). StandsFor n left scm.made) made.nodes (subst (λ (l : List ℕ). StandsFor scm.made.nodes l scm.made) (sym (it.1 left of)) it.0))

-- ---- as the seat's record has it

module _ {D : Type 0} (see : D → Seen) (opening : Opening) (scm new : State D) where
  -- where nothing but the seat changes
  pub left_later : (seen mine seen_after mine_after : List Event) → new ≡ scm → known seen ≡ mine → BeginsWith seen_after seen → known seen_after ≡ mine_after → mine_after ≡ mine
      → (scm.stopped ≡ true → ScmHalted (see scm.disk) opening seen) → new.stopped ≡ true → ScmHalted (see new.disk) opening seen_after
  left_later seen mine seen_after mine_after is own begins own_after same before stopped =
      subst (λ (s : State D). ScmHalted (see s.disk) opening seen_after) (sym is)
      (halted_later (see scm.disk) opening seen mine seen_after mine_after (before (ap (λ (s : State D). s.stopped) (sym is) ∙ stopped)) own begins own_after same)

  -- where it is noted who is up
  pub left_tracked : (ups : List Bool) (seen mine seen_after mine_after : List Event) (dn : ℕ) (up : Bool) → new ≡ record scm { up = ups } → known seen ≡ mine → BeginsWith seen_after seen
      → known seen_after ≡ mine_after → mine_after ≡ mine ++ by_scm (up_event dn up) ∷ [] → (scm.stopped ≡ true → ScmHalted (see scm.disk) opening seen) → new.stopped ≡ true
      → ScmHalted (see new.disk) opening seen_after
  left_tracked ups seen mine seen_after mine_after dn up is own begins own_after told before stopped =
      subst (λ (s : State D). ScmHalted (see s.disk) opening seen_after) (sym is)
      (halted_tracked (see scm.disk) opening seen mine seen_after mine_after dn up (before (ap (λ (s : State D). s.stopped) (sym is) ∙ stopped)) own begins own_after told)

  -- where nothing changes at all
  pub left_same : (seen : List Event) → new ≡ scm → (scm.stopped ≡ true → ScmHalted (see scm.disk) opening seen) → new.stopped ≡ true → ScmHalted (see new.disk) opening seen
  left_same seen is before stopped =
      subst (λ (s : State D). ScmHalted (see s.disk) opening seen) (sym is) (before (ap (λ (s : State D). s.stopped) (sym is) ∙ stopped))

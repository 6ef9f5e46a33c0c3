-- What the steps of a call that leads a container on come to, and what a disk stands for after it.
use Rattle.std.proofs.Common.{◌≡◌, inl, inr, IfSome, ℕ, ◌<◌, ◌^◌, Bool, true, false, List, [], ◌∷◌, ◌++◌, Option, None, Some, Result, Ok, Err, refl, sym, ap, subst, ◌∙◌, arith}
use Rattle.std.proofs.lemmas.Bool.{false≢true}
use Rattle.std.specs.Option.{is_some, ok_or, option_map}
use Rattle.oz_container.specs.Steps.{next}
use Rattle.oz_container.specs.declared.state.Event.{Event}
use Rattle.oz_container.specs.declared.state.State.{State as Reached}
use Rattle.oz_container.specs.declared.state.WrongState.{WrongState as Wrong}
use Rattle.oz_scm.specs.declared.grants.container.Container.{Container}
use Rattle.oz_scm.specs.declared.grants.entry.Entry.TheVariants.{Stepped}
use Rattle.oz_scm.specs.grants.Build.{Makes}
use Rattle.oz_scm.specs.grants.Entries.{entry_bytes}
use Rattle.oz_scm.specs.grants.Made.{Made, MayStep, after_step, container_at, state_at, stepped}
use Rattle.oz_scm.specs.grants.laws.Journals.{step_made}
use Rattle.oz_journal.specs.Appends.{Appends}
use Rattle.oz_journal.specs.Grammar.{IsJournal, TellsBodies}
use Rattle.oz_journal.specs.Journal.{IsBeforeOrAfter}
use Rattle.oz_world.specs.Disk.{Images, Seen, seen, IsStable}
use Rattle.oz_world.specs.Moments.{LeavesOnly}
use Rattle.oz_scm.specs.declared.fault.ApplyFault.{ApplyFault}
use Rattle.oz_scm.specs.declared.fault.ApplyFault.TheVariants.{Stopped, WrongState}
use Rattle.oz_scm.specs.Applying.{Applies, IsBeforeOrStepped, IsWrongFor, StandsOrStepped, says_halted, with_step}
use Rattle.oz_scm.specs.Scm.{Keeps, StandsFor}
use Rattle.oz_scm.proofs.Granting.{journal_of, now, rests, stands_made, tells_of, told_before}

-- a step that is one body more
abbrev pub Adds : Made → ℕ → Event → Type 0
Adds made container event = (bodies : List (List ℕ)) → Makes bodies (Some made) → Makes (with_step bodies container event) (Some (after_step container event made))

pub step_adds : (made : Made) (container : ℕ) (event : Event) → MayStep made container event → container < 2 ^ 64 → Adds made container event
step_adds made container event may fits bodies makes = step_made bodies made container event makes may fits

-- what a stop leaves, told by bodies, is told by what they make
stands_by : (told : Option (List ℕ)) (made : Made) (container : ℕ) (event : Event) (first last : ℕ) (image : Images) → Keeps told made → MayStep made container event → Adds made container event
    → ((bodies : List (List ℕ)) → TellsBodies told bodies → LeavesOnly (IsBeforeOrAfter bodies (entry_bytes (Stepped container event))) first last image)
    → IfSome told (λ bytes. LeavesOnly (StandsOrStepped made container event) first last image)
stands_by None made container event first last image keeps may adds leaves = tt
stands_by (Some bytes) made container event first last image keeps may adds leaves =
    let there = keeps bytes refl in
    λ t left from to has. elim (leaves there.0 there.1 t left from to has) [
      | inl same ↦ inl (stands_made left there.0 made made.nodes same there.2 refl)
      | inr one ↦ inr (may, stands_made left (with_step there.0 container event) (after_step container event made) made.nodes one (adds there.0 there.2) refl)
    ]

leaves_by : (made : Made) (container : ℕ) (event : Event) (first last : ℕ) (image : Images) (bodies : List (List ℕ)) → MayStep made container event
    → LeavesOnly (IsBeforeOrAfter bodies (entry_bytes (Stepped container event))) first last image → LeavesOnly (IsBeforeOrStepped made container event bodies) first last image
leaves_by made container event first last image bodies may leaves t left from to has = elim (leaves t left from to has) [
  | inl same ↦ inl same
  | inr one ↦ inr (may, one)
]

-- nothing was added
still_stands : (told : Option (List ℕ)) (made : Made) (container : ℕ) (event : Event) (clock : ℕ) (image : Images) → Keeps told made → ((bytes : List ℕ) → told ≡ Some bytes → IsStable image clock bytes)
    → IfSome told (λ bytes. LeavesOnly (StandsOrStepped made container event) clock clock image)
still_stands None made container event clock image keeps stable = tt
still_stands (Some bytes) made container event clock image keeps stable =
    let there = keeps bytes refl in
    λ t left from to has.
    let only : t ≡ clock = omega (arith, from, to) in
    let same : left ≡ bytes = stable bytes refl left (subst (λ (n : ℕ). image n left) only has) in
    inl (subst (λ (b : List ℕ). StandsFor made.nodes b made) (sym same) (stands_made bytes there.0 made made.nodes there.1 there.2 refl))

-- a body more keeps what it makes
pub kept_after : {T E : Type 0} (container : ℕ) (event : Event) (body : List ℕ) (before after : Seen) (made later : Made) (x : T) → body ≡ entry_bytes (Stepped container event) → Keeps before.told made → Adds made container event → Appends {T = T} {E = E} body before after (Ok x) → later ≡ after_step container event made
    → Keeps after.told later
kept_after {T} {E} container event body before after made later x spelled keeps adds appends made_so bytes is =
    let old = told_before before.told after.told bytes appends.settled.telling is in
    let there = keeps old.0 old.1 in
    let tells : TellsBodies after.told (there.0 ++ body ∷ []) = appends.tells there.0 (tells_of before.told old.0 there.0 old.1 there.1) in (
      with_step there.0 container event,
      journal_of after.told bytes (with_step there.0 container event) is (subst (λ (b : List ℕ). TellsBodies after.told (there.0 ++ b ∷ [])) spelled tells),
      subst (λ (m : Made). Makes (with_step there.0 container event) (Some m)) (sym made_so) (adds there.0 there.2),
    )

-- an event that was refused isn't possible
pub not_next : (from : Reached) (event : Event) (wrong : Wrong) → ◌≡◌ {A = Result Reached Wrong} (Err wrong) (ok_or (next from event) (record { state = from; event = event }))
    → (from ≡ wrong.state) × (wrong.event ≡ event) × (next wrong.state event ≡ None)
not_next from event wrong is = of (next from event) refl is
  where
    of : (to : Option Reached) → next from event ≡ to → ◌≡◌ {A = Result Reached Wrong} (Err wrong) (ok_or to (record { state = from; event = event })) → (from ≡ wrong.state) × (wrong.event ≡ event) × (next wrong.state event ≡ None)
    of (Some state) to is = absurd (cc is)
    of None to is =
        let same : ◌≡◌ {A = Wrong} wrong (record { state = from; event = event }) = cc is in
        (ap (λ (w : Wrong). w.state) (sym same), ap (λ (w : Wrong). w.event) same, ap (λ (w : Wrong). next w.state event) same ∙ to)

-- an event that isn't possible
not_possible : (made : Made) (container : ℕ) (event : Event) (from : Reached) → MayStep made container event → state_at made.containers container ≡ Some from → next from event ≡ None → ⊥
not_possible made container event from may is none = of (container_at made.containers container) may is
  where
    of : (o : Option Container) → is_some (stepped o event) ≡ true → option_map (λ (c : Container). c.state) o ≡ Some from → ⊥
    of None may is = absurd (cc is)
    of (Some c) may is =
        let same : c.state ≡ from = cc is in
        absurd (false≢true (sym (ap (λ (o : Option Reached). is_some (option_map (λ (state : Reached). record c { state = state }) o)) (ap (λ (s : Reached). next s event) same ∙ none)) ∙ may))

module _ {D : Type 0} (told : D → Option (List ℕ)) (clock : D → ℕ) (image : D → Images) (faults : D → ℕ) where
  abbrev at : D → Seen
  at disk = seen (told disk) (clock disk) (image disk) (faults disk)

  module _ (container : ℕ) (event : Event) (made : Made) (up : List Bool) where
    -- the event isn't possible
    pub refused : (disk : D) (stopped : Bool) (x : ApplyFault) → stopped ≡ false → says_halted {T = Reached} (Err x) ≡ false → IsWrongFor made container event x
        → ((bytes : List ℕ) → told disk ≡ Some bytes → IsStable (image disk) (clock disk) bytes) → Keeps (told disk) made
        → Applies {D = D} container event (now disk stopped made up) (now disk stopped made up) (at disk) (at disk) (Err x)
    refused disk stopped x running going why stable keeps = record {
      reached = tt;
      made = tt;
      tells = λ bodies tells. tt;
      acknowledged = λ bodies tells. tt;
      moments = tt;
      wrong = λ runs from is none. says x going why from is;
      refused = why;
      untouched = λ goes. refl;
      same = refl;
      ups = refl;
      leaves = λ runs. λ bodies tells t left from to has.
          let only : t ≡ clock disk = omega (arith, from, to) in
          inl (rests (told disk) (clock disk) (image disk) stable bodies tells left (subst (λ (n : ℕ). image disk n left) only has));
      stands = λ runs. still_stands (told disk) made container event (clock disk) (image disk) keeps stable;
      telling = (λ e. e, λ e. e);
      time = record { later = omega arith; kept = λ t left le. (λ e. e, λ e. e) };
      stops = running ∙ sym going;
      still = λ was. absurd (false≢true (sym running ∙ was));
      count = λ count one. absurd (false≢true (sym going ∙ ap (says_halted {T = Reached}) one));
      cause = λ runs was. absurd (false≢true (sym running ∙ was));
      never_falls = omega arith;
    }
      where
        says : (x : ApplyFault) → says_halted {T = Reached} (Err x) ≡ false → IsWrongFor made container event x → (from : Reached) → state_at made.containers container ≡ Some from → ◌≡◌ {A = Result Reached ApplyFault} (Err x) (Err (WrongState from event))
        says (Stopped count) going why from is = absurd (false≢true (sym going))
        says (WrongState state of) going why from is =
            let same : state ≡ from = cc (sym why.0 ∙ is) in
            ap (λ (s : Reached). Err (WrongState s of)) same ∙ ap (λ (e : Event). Err (WrongState from e)) why.1

    module _ (body : List ℕ) (before after : D) (stopped stops : Bool) (running : stopped ≡ false) (spelled : body ≡ entry_bytes (Stepped container event)) (keeps : Keeps (told before) made) (may : MayStep made container event) (adds : Adds made container event) where
      -- the disk failed
      pub halted : {U E : Type 0} (x : E) (count : ℕ) → stops ≡ true → count ≡ faults after → Appends {T = U} {E = E} body (at before) (at after) (Err x)
          → Applies {D = D} container event (now before stopped made up) (now after stops made up) (at before) (at after) (Err (Stopped count))
      halted {U} {E} x count stopping is appends = record {
        reached = tt;
        made = tt;
        tells = λ bodies tells. tt;
        acknowledged = λ bodies tells. tt;
        moments = tt;
        wrong = λ runs from there none. absurd (not_possible made container event from may there none);
        refused = tt;
        untouched = λ goes. absurd (false≢true (sym goes));
        same = refl;
        ups = refl;
        leaves = λ runs. λ bodies tells. leaves_by made container event (clock before) (clock after) (image after) bodies may (left_by bodies tells);
        stands = λ runs. stands_by (told before) made container event (clock before) (clock after) (image after) keeps may adds left_by;
        telling = appends.settled.telling;
        time = appends.settled.time;
        stops = stopping;
        still = λ was. absurd (false≢true (sym running ∙ was));
        count = λ other one. sym (cc one) ∙ is;
        cause = λ runs was. appends.settled.cause.failed;
        never_falls = appends.settled.cause.never_falls;
      }
        where
          left_by : (bodies : List (List ℕ)) → TellsBodies (told before) bodies → LeavesOnly (IsBeforeOrAfter bodies (entry_bytes (Stepped container event))) (clock before) (clock after) (image after)
          left_by bodies tells = subst (λ (b : List ℕ). LeavesOnly (IsBeforeOrAfter bodies b) (clock before) (clock after) (image after)) spelled (appends.leaves bodies tells)

      -- it goes on
      pub went : {U E : Type 0} (later : Made) (x : U) (state : Reached) → stops ≡ false → ((from : Reached) × (state_at made.containers container ≡ Some from) × (next from event ≡ Some state))
          → later ≡ after_step container event made → Appends {T = U} {E = E} body (at before) (at after) (Ok x)
          → Applies {D = D} container event (now before stopped made up) (now after stops later up) (at before) (at after) (Ok state)
      went {U} {E} later x state going reached made_so appends = record {
        reached = reached;
        made = made_so;
        tells = λ bodies tells. subst (λ (b : List ℕ). TellsBodies (told after) (bodies ++ b ∷ [])) spelled (appends.tells bodies tells);
        acknowledged = λ bodies tells left has. subst (λ (b : List ℕ). IsJournal left (bodies ++ b ∷ [])) spelled (appends.acknowledged bodies tells left has);
        moments = appends.settled.moments;
        wrong = λ runs from there none. absurd (not_possible made container event from may there none);
        refused = tt;
        untouched = tt;
        same = tt;
        ups = refl;
        leaves = λ runs. λ bodies tells. leaves_by made container event (clock before) (clock after) (image after) bodies may (left_by bodies tells);
        stands = λ runs. stands_by (told before) made container event (clock before) (clock after) (image after) keeps may adds left_by;
        telling = appends.settled.telling;
        time = appends.settled.time;
        stops = going;
        still = λ was. absurd (false≢true (sym running ∙ was));
        count = λ count none. absurd (cc none);
        cause = λ runs was. absurd (false≢true (sym going ∙ was));
        never_falls = appends.settled.cause.never_falls;
      }
        where
          left_by : (bodies : List (List ℕ)) → TellsBodies (told before) bodies → LeavesOnly (IsBeforeOrAfter bodies (entry_bytes (Stepped container event))) (clock before) (clock after) (image after)
          left_by bodies tells = subst (λ (b : List ℕ). LeavesOnly (IsBeforeOrAfter bodies b) (clock before) (clock after) (image after)) spelled (appends.leaves bodies tells)

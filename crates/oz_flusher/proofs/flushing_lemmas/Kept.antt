-- What is kept, from one flush to the next.
use Rattle.std.specs.Prelude.{Bool, true, false, if◌then◌else◌}
use Rattle.std.proofs.Common.{◌≡◌, ℕ, ◌≤◌, List, [], ◌∷◌, ◌++◌, Option, None, Some, Ok, Err, IfSome, IsSome, refl, sym, ap, ◌∙◌, subst, append_assoc, arith}
use Rattle.std.proofs.lemmas.Bool.{false≢true}
use Rattle.std.proofs.lemmas.List.{append-nil}
use Rattle.std.proofs.lemmas.List.Elements.{filter_map-append}
use Rattle.std.proofs.lemmas.List.Sums.{fold-append}
use Rattle.oz_buffer.specs.laws.Following.{told-push}
use Rattle.oz_core.specs.declared.event.Event.{Event}
use Rattle.oz_core.specs.declared.event.Node.TheVariants.{Manager}
use Rattle.oz_core.specs.declared.opening.Opening.{Opening}
use Rattle.oz_core.specs.Manager.{taken_index, stable_index, stable_moment, halt_count, swapped_index, durable_index, halt_of, flushed_moment}
use Rattle.oz_core.specs.Stories.{all_told, last_in}
use Rattle.oz_flusher.specs.Flushes.{FlushEnds}
use Rattle.oz_flusher.specs.Steps.{swap_event, flushed_event, halt_event}
use Rattle.oz_flusher.specs.Stops.{StopsHold}
use Rattle.oz_flusher.specs.Taken.{bodies_from, bodies_of}
use Rattle.oz_flusher.specs.declared.flushed.Flushed.{Flushed}
use Rattle.oz_flusher.specs.flushing.Kept.{IsKept}
use Rattle.oz_flusher.proofs.flushing_lemmas.Own.{own}
use Rattle.oz_journal.specs.Grammar.{IsJournal}
use Rattle.oz_journal.specs.Journal.{State}
use Rattle.oz_turn.specs.Told.{BeginsWith}
use Rattle.oz_world.specs.Disk.{Images, IsStable, Seen, TellsAsBefore}
use Rattle.oz_world.specs.laws.Moments.{elapses_then}
use Rattle.oz_world.specs.laws.Telling.{same_tells, tells_then}
use Rattle.oz_world.specs.Moments.{Elapses}
use Rattle.oz_world.specs.declared.failed.Failed.{Failed}

-- the moment that was told last, with a Swap, a Halt or a Flushed more
no_moment : (story : List Event) (event : Event) → all_told stable_moment (event ∷ []) ≡ [] → flushed_moment (story ++ event ∷ []) ≡ flushed_moment story
no_moment story event none =
    ap (λ (l : List ℕ). last_in l)
    (filter_map-append (λ (e : Event). stable_moment e.kind) story (event ∷ [])
    ∙ (ap (λ l. all_told stable_moment story ++ l) none ∙ append-nil (all_told stable_moment story)))

moment_told : (story : List Event) (index moment : ℕ) → flushed_moment (story ++ flushed_event index moment ∷ []) ≡ Some moment
moment_told story index moment =
    ap (λ (l : List ℕ). last_in l) (filter_map-append (λ (e : Event). stable_moment e.kind) story (flushed_event index moment ∷ []))
    ∙ fold-append (λ (before : Option ℕ) (x : ℕ). Some x) None (all_told stable_moment story) (moment ∷ [])

by_later : (moment : Option ℕ) (clock later : ℕ) → clock ≤ later → IfSome moment (λ at. at ≤ clock) → IfSome moment (λ at. at ≤ later)
by_later None clock later goes by = tt
by_later (Some at) clock later goes by = omega (arith, goes, by)

told_before : (before after : Option (List ℕ)) → TellsAsBefore before after → IsSome after → IsSome before
told_before None after alike some = subst (λ (o : Option (List ℕ)). IsSome o) (alike.0 refl) some
told_before (Some bytes) after alike some = refl

pub not_stopped : (stopped : Bool) (halt : Option ℕ) (faults : ℕ) → halt ≡ None → halt ≡ (if stopped then Some faults else None) → stopped ≡ false
not_stopped true halt faults none is = absurd (cc (sym none ∙ is))
not_stopped false halt faults none is = refl

pub no_halt : (stopped : Bool) (halt : Option ℕ) (faults : ℕ) → stopped ≡ false → halt ≡ (if stopped then Some faults else None) → halt ≡ None
no_halt stopped halt faults running is = is ∙ ap (λ (b : Bool). if b then Some faults else None) running

pub halted_of : (mine front : List Event) (count : ℕ) → mine ≡ front ++ halt_event count ∷ [] → halt_of Manager mine ≡ Some count
halted_of mine front count is = ap (halt_of Manager) is ∙ told-push (halt_count Manager) None front (halt_event count)

-- the story went on
after_swap : (seen before more all : List Event) (swap end : Event) → BeginsWith before seen → all ≡ ((before ++ swap ∷ []) ++ more) ++ end ∷ [] → BeginsWith all seen
after_swap seen before more all swap end begins is =
    let rest = swap ∷ (more ++ end ∷ []) in (
      begins.0 ++ rest,
      is
          ∙ (append_assoc (before ++ swap ∷ []) more (end ∷ [])
          ∙ (append_assoc before (swap ∷ []) (more ++ end ∷ [])
          ∙ (ap (λ (l : List Event). l ++ rest) begins.1 ∙ append_assoc seen begins.0 rest))),
    )

pub goes_on : (opening : Opening) (seen mine seen_after mine_after : List Event) (now later : Seen) (answer : Option Flushed) → FlushEnds opening seen mine seen_after mine_after now later (Ok answer) → BeginsWith seen_after seen
goes_on opening seen mine seen_after mine_after now later None ends = ends.0
goes_on opening seen mine seen_after mine_after now later (Some flushed) ends =
    let flush = ends.1 in
    after_swap seen flush.before flush.more seen_after (swap_event flushed.index) (flushed_event flushed.index flushed.moment) flush.begins flush.story

pub halt_goes_on : (opening : Opening) (seen mine until mine_after story : List Event) (now later : Seen) (failed : Failed) → FlushEnds opening seen mine until mine_after now later (Err failed) → BeginsWith story until → BeginsWith story seen
halt_goes_on opening seen mine until mine_after story now later failed ends begins =
    let flush = ends.1 in
    let goes = after_swap seen flush.before flush.more until (swap_event ends.0) (halt_event later.faults) flush.begins flush.story in
    (goes.0 ++ begins.0, begins.1 ∙ (ap (λ (l : List Event). l ++ begins.0) goes.1 ∙ append_assoc seen goes.0 begins.0))

pub begins_as : (story one other : List Event) → one ≡ other → BeginsWith story one → BeginsWith story other
begins_as story one other same begins = (begins.0, begins.1 ∙ ap (λ (l : List Event). l ++ begins.0) same)

-- a disk that is as it was
pub still : {D : Type 0} (clock : D → ℕ) (image : D → Images) {before after : State D} → after ≡ before → Elapses (clock before.disk) (clock after.disk) (image before.disk) (image after.disk)
still {D} clock image {before} same =
    subst (λ (s : State D). Elapses (clock before.disk) (clock s.disk) (image before.disk) (image s.disk)) (sym same)
    (record { later = omega arith; kept = λ t left le. (λ h. h, λ h. h) })

none_taken : bodies_of [] ≡ []
unfolding bodies_from
none_taken = refl

pub at_rest : (bytes : List ℕ) (bodies : List (List ℕ)) (clock : ℕ) (image : Images) → IsJournal bytes bodies → IsStable image clock bytes → StopsHold bodies [] clock clock image
at_rest bytes bodies clock image is stable moment left from by h =
    let same : left ≡ bytes = stable left (subst (λ n. image n left) (omega (arith, from, by)) h) in record {
      front = [];
      behind = [];
      parts = refl;
      journal = subst (λ (l : List ℕ). IsJournal l (bodies ++ bodies_of [])) (sym same) (subst (λ (l : List (List ℕ)). IsJournal bytes l) (sym (ap (λ l. bodies ++ l) none_taken ∙ append-nil bodies)) is);
      later = tt;
    }

module _ (Coherent : Type 0) (opening : Opening) (loaded : List (List ℕ)) (begun : Seen) where
  abbrev Keeps : Bool → List Event → List Event → Seen → Type 0
  Keeps stopped seen mine disk = IsKept Coherent opening loaded begun stopped seen mine disk

  empty : (disk : Seen) → disk.faults ≡ begun.faults → TellsAsBefore begun.told disk.told → Elapses begun.clock disk.clock begun.image disk.image
      → (Coherent → IfSome disk.told (λ bytes. IsJournal bytes loaded)) → (Coherent → IsSome disk.told → StopsHold loaded [] begun.clock disk.clock disk.image)
      → IsKept Coherent opening loaded begun false [] [] disk
  empty disk counted telling time journal stops = record {
    own = refl;
    halt = refl;
    rose = λ stopped. absurd (false≢true stopped);
    no_fewer = omega (arith, counted);
    all_flushed = λ running. refl;
    by_now = tt;
    telling = telling;
    time = time;
    journal = λ coherent running. subst (λ (l : List (List ℕ)). IfSome disk.told (λ bytes. IsJournal bytes l)) (sym (ap (λ l. loaded ++ l) none_taken ∙ append-nil loaded)) (journal coherent);
    stops = stops;
  }

  pub kept_new : (disk : Seen) (stopped : Bool) (seen mine : List Event) → stopped ≡ false → seen ≡ [] → mine ≡ [] → disk.faults ≡ begun.faults → TellsAsBefore begun.told disk.told → Elapses begun.clock disk.clock begun.image disk.image
      → (Coherent → IfSome disk.told (λ bytes. IsJournal bytes loaded)) → (Coherent → IsSome disk.told → StopsHold loaded [] begun.clock disk.clock disk.image)
      → Keeps stopped seen mine disk
  kept_new disk stopped seen mine running none given counted telling time journal stops =
      subst (λ (b : Bool). Keeps b seen mine disk) (sym running)
      (subst (λ (s : List Event). Keeps false s mine disk) (sym none)
      (subst (λ (m : List Event). Keeps false [] m disk) (sym given) (empty disk counted telling time journal stops)))

  module _ (seen mine seen_after mine_after : List Event) (now later : Seen) (was : Bool) (running : was ≡ false) (kept_was : Keeps was seen mine now) (known : own seen_after ≡ mine_after)
      (stops : Coherent → IsSome now.told → StopsHold loaded seen begun.clock now.clock now.image → StopsHold loaded seen_after begun.clock later.clock later.image) where
    kept : Keeps false seen mine now
    kept = subst (λ (b : Bool). Keeps b seen mine now) running kept_was

    -- nothing was taken
    kept_none : mine_after ≡ mine → (later.told ≡ now.told) → later.clock ≡ now.clock → later.faults ≡ now.faults → Elapses now.clock later.clock now.image later.image
        → (Coherent → IfSome later.told (λ bytes. IsJournal bytes (loaded ++ bodies_of seen_after))) → Keeps false seen_after mine_after later
    kept_none same told clock counted goes journal = record {
      own = known;
      halt = ap (halt_of Manager) same ∙ kept.halt;
      rose = λ stopped. absurd (false≢true stopped);
      no_fewer = (let was = kept.no_fewer in omega (arith, was, counted));
      all_flushed = λ running. ap (swapped_index opening) same ∙ (kept.all_flushed refl ∙ sym (ap (durable_index opening) same));
      by_now = by_later (flushed_moment mine_after) now.clock later.clock (omega (arith, clock)) (subst (λ (l : List Event). IfSome (flushed_moment l) (λ at. at ≤ now.clock)) (sym same) kept.by_now);
      telling = tells_then begun.told now.told later.told kept.telling (same_tells now.told later.told told);
      time = elapses_then begun.clock now.clock later.clock begun.image now.image later.image kept.time goes;
      journal = λ coherent running. journal coherent;
      stops = λ coherent some. (let some_now = subst (λ (o : Option (List ℕ)). IsSome o) told some in stops coherent some_now (kept.stops coherent some_now));
    }

    -- what was taken is flushed
    kept_flushed : (flushed : Flushed) → FlushEnds opening seen mine seen_after mine_after now later (Ok (Some flushed))
        → (Coherent → IfSome later.told (λ bytes. IsJournal bytes (loaded ++ bodies_of seen_after))) → Keeps false seen_after mine_after later
    kept_flushed flushed ends journal =
        let written = ends.1.written.settled in
        let index = flushed.index in
        let moment = flushed.moment in
        let one = mine ++ swap_event index ∷ [] in
        let given = ends.1.given in
        record {
          own = known;
          halt = ap (halt_of Manager) given ∙ (told-push (halt_count Manager) None one (flushed_event index moment) ∙ (told-push (halt_count Manager) None mine (swap_event index) ∙ kept.halt));
          rose = λ stopped. absurd (false≢true stopped);
          no_fewer = (let was = kept.no_fewer in let more = written.cause.never_falls in omega (arith, was, more));
          all_flushed = λ running. ap (swapped_index opening) given
              ∙ (told-push taken_index opening.last_index one (flushed_event index moment)
              ∙ (told-push taken_index opening.last_index mine (swap_event index)
              ∙ (sym (told-push stable_index opening.last_index one (flushed_event index moment)) ∙ sym (ap (durable_index opening) given))));
          by_now = subst (λ (o : Option ℕ). IfSome o (λ at. at ≤ later.clock)) (sym (ap flushed_moment given ∙ moment_told one index moment)) (let at = ends.0 in omega (arith, at));
          telling = tells_then begun.told now.told later.told kept.telling written.telling;
          time = elapses_then begun.clock now.clock later.clock begun.image now.image later.image kept.time written.time;
          journal = λ coherent running. journal coherent;
          stops = λ coherent some. (let some_now = told_before now.told later.told written.telling some in stops coherent some_now (kept.stops coherent some_now));
        }

    of_answer : (answer : Option Flushed) → FlushEnds opening seen mine seen_after mine_after now later (Ok answer)
        → (answer ≡ None → (later.told ≡ now.told) × (later.clock ≡ now.clock) × (later.faults ≡ now.faults) × Elapses now.clock later.clock now.image later.image)
        → (Coherent → IfSome later.told (λ bytes. IsJournal bytes (loaded ++ bodies_of seen_after))) → Keeps false seen_after mine_after later
    of_answer None ends same journal = (let all = same refl in kept_none ends.2 all.0 all.1 all.2 all.3 journal)
    of_answer (Some flushed) ends same journal = kept_flushed flushed ends journal

    pub kept_ok : (stopped : Bool) → stopped ≡ false → (answer : Option Flushed) → FlushEnds opening seen mine seen_after mine_after now later (Ok answer)
        → (answer ≡ None → (later.told ≡ now.told) × (later.clock ≡ now.clock) × (later.faults ≡ now.faults) × Elapses now.clock later.clock now.image later.image)
        → (Coherent → IfSome later.told (λ bytes. IsJournal bytes (loaded ++ bodies_of seen_after))) → Keeps stopped seen_after mine_after later
    kept_ok stopped is answer ends same journal = subst (λ (b : Bool). Keeps b seen_after mine_after later) (sym is) (of_answer answer ends same journal)

    -- the write failed
    of_halt : (failed : Failed) → FlushEnds opening seen mine seen_after mine_after now later (Err failed) → Keeps true seen_after mine_after later
    of_halt failed ends =
        let flush = ends.1 in
        let written = flush.written.settled in
        let index = ends.0 in
        let one = mine ++ swap_event index ∷ [] in
        record {
          own = known;
          halt = halted_of mine_after one later.faults flush.given;
          rose = λ stopped. (let was = kept.no_fewer in let more = written.cause.failed in omega (arith, was, more));
          no_fewer = (let was = kept.no_fewer in let more = written.cause.never_falls in omega (arith, was, more));
          all_flushed = λ running. absurd (false≢true (sym running));
          by_now = by_later (flushed_moment mine_after) now.clock later.clock written.time.later
              (subst (λ (o : Option ℕ). IfSome o (λ at. at ≤ now.clock)) (sym (ap flushed_moment flush.given ∙ (no_moment one (halt_event later.faults) refl ∙ no_moment mine (swap_event index) refl))) kept.by_now);
          telling = tells_then begun.told now.told later.told kept.telling written.telling;
          time = elapses_then begun.clock now.clock later.clock begun.image now.image later.image kept.time written.time;
          journal = λ coherent running. absurd (false≢true (sym running));
          stops = λ coherent some. (let some_now = told_before now.told later.told written.telling some in stops coherent some_now (kept.stops coherent some_now));
        }

    pub kept_halted : (stopped : Bool) → stopped ≡ true → (failed : Failed) → FlushEnds opening seen mine seen_after mine_after now later (Err failed) → Keeps stopped seen_after mine_after later
    kept_halted stopped is failed ends = subst (λ (b : Bool). Keeps b seen_after mine_after later) (sym is) (of_halt failed ends)

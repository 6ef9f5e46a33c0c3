-- One flush as a whole.
use Rattle.std.proofs.Common.{◌≡◌, ◌⊎◌, inl, inr, ℕ, ◌+◌, ◌<◌, ◌≤◌, List, [], ◌∷◌, ◌++◌, length, Option, None, Some, Result, Ok, Err, is_err, IfSome, IsSome, refl, sym, ap, ◌∙◌, subst, arith, length-append, append_assoc}
use Rattle.std.proofs.lemmas.Bool.{cases_lt, false≢true}
use Rattle.oz_journal.specs.batches.Body.{body_bytes}
use Rattle.oz_buffer.specs.Buffer.{buffer_of}
use Rattle.oz_core.specs.declared.event.Event.{Event}
use Rattle.oz_core.specs.declared.event.EventKind.{EventKind}
use Rattle.oz_core.specs.declared.event.EventKind.TheVariants.{Flushed, Halt}
use Rattle.oz_core.specs.declared.event.Node.TheVariants.{Manager}
use Rattle.oz_core.specs.declared.opening.Opening.{Opening}
use Rattle.oz_core.specs.Manager.{flushed_moment}
use Rattle.oz_flusher.specs.Quiet.{IsSettled, IsQuiet}
use Rattle.oz_flusher.specs.Steps.{by_flusher, swap_event, flushed_event, halt_event, IsSwapped, IsNoted}
use Rattle.oz_flusher.specs.Stops.{IsLater, StopsHold}
use Rattle.oz_flusher.specs.Taken.{body_taken, bodies_of}
use Rattle.oz_flusher.proofs.Own.{AreOurs, AreOthers, own, own_append, none_own, no_length, ours_front, ours_behind}
use Rattle.oz_flusher.proofs.Bodies.{bodies_longer, bodies_flushed}
use Rattle.oz_flusher.proofs.Quieting.{moment-push, settled_flushed}
use Rattle.oz_flusher.proofs.Stopping.{stops_flushed}
use Rattle.oz_journal.specs.Appends.{Appends}
use Rattle.oz_journal.specs.Grammar.{IsJournal, TellsBodies}
use Rattle.oz_journal.specs.Journal.{State}
use Rattle.oz_world.specs.Disk.{Images, Seen, TellsAsBefore}

-- what adding a body promises, whatever the call that hands it on answers beside
pub appends_as : {T E U F : Type 0} (one other : List ℕ) (before after : Seen) (first : Result T E) (next : Result U F) → one ≡ other → is_err first ≡ is_err next → Appends one before after first → Appends other before after next
appends_as {T} {E} {U} {F} one other before after (Ok x) (Ok y) is same adds = subst (λ (l : List ℕ). Appends {T = U} {E = F} l before after (Ok y)) is record {
  settled = record {
    telling = adds.settled.telling;
    stable = adds.settled.stable;
    time = adds.settled.time;
    moments = adds.settled.moments;
    cause = record { never_falls = adds.settled.cause.never_falls; failed = tt };
  };
  tells = adds.tells;
  leaves = adds.leaves;
  acknowledged = adds.acknowledged;
}
appends_as {T} {E} {U} {F} one other before after (Err x) (Err y) is same adds = subst (λ (l : List ℕ). Appends {T = U} {E = F} l before after (Err y)) is record {
  settled = record {
    telling = adds.settled.telling;
    stable = tt;
    time = adds.settled.time;
    moments = tt;
    cause = record { never_falls = adds.settled.cause.never_falls; failed = adds.settled.cause.failed };
  };
  tells = λ bodies stands. tt;
  leaves = adds.leaves;
  acknowledged = λ bodies stands. tt;
}
appends_as one other before after (Ok x) (Err y) is same adds = absurd (cc same)
appends_as one other before after (Err x) (Ok y) is same adds = absurd (cc same)

module _ (opening : Opening) (index : ℕ) (kind : EventKind) (seen mine seen_swapped mine_swapped seen_after mine_after : List Event) (ready : List ℕ)
    (swapped : IsSwapped opening index seen mine seen_swapped mine_swapped ready) (noted : IsNoted (by_flusher kind) seen_swapped mine_swapped seen_after mine_after) where
  pub story_is : seen_after ≡ ((swapped.before ++ swap_event index ∷ []) ++ noted.more) ++ by_flusher kind ∷ []
  story_is = noted.story ∙ ap (λ (l : List Event). (l ++ noted.more) ++ by_flusher kind ∷ []) swapped.story

  pub given_is : mine_after ≡ (mine ++ swap_event index ∷ []) ++ by_flusher kind ∷ []
  given_is = noted.given ∙ ap (λ (l : List Event). l ++ by_flusher kind ∷ []) swapped.given

  -- nobody else gave an event of the flusher's meanwhile
  pub record Others : Type 0 where
    pub before : AreOthers swapped.begins.0
    pub between : AreOthers noted.more

  pub others : AreOurs seen_after → own seen ≡ mine → own seen_after ≡ mine_after → Others
  others ours known known_after =
      let more0 = swapped.begins.0 in
      let swap = swap_event index ∷ [] in
      let end = by_flusher kind ∷ [] in
      let front = swapped.before ++ swap in
      let whole : AreOurs ((front ++ noted.more) ++ end) = subst AreOurs story_is ours in
      let inner : AreOurs (front ++ noted.more) = ours_front (front ++ noted.more) end whole in
      let at_swap : AreOurs front = ours_front front noted.more inner in
      let at_before : AreOurs (seen ++ more0) = subst AreOurs swapped.begins.1 (ours_front swapped.before swap at_swap) in
      let a = own_append (front ++ noted.more) end in
      let b = own_append front noted.more in
      let c = own_append swapped.before swap in
      let d = ap (λ (l : List Event). length (own l)) swapped.begins.1 ∙ own_append seen more0 in
      let e = ap (λ (l : List Event). length (own l)) (sym story_is) in
      let f = ap length (known_after ∙ given_is) in
      let g = length-append (mine ++ swap) end in
      let h = length-append mine swap in
      let i = ap length known in
      let none0 : length (own more0) ≡ 0 = omega (arith, a, b, c, d, e, f, g, h, i) in
      let none1 : length (own noted.more) ≡ 0 = omega (arith, a, b, c, d, e, f, g, h, i) in
      record {
        before = none_own more0 (ours_behind seen more0 at_before) (no_length (own more0) none0);
        between = none_own noted.more (ours_behind front noted.more inner) (no_length (own noted.more) none1);
      }

  module _ (apart : Others) where
    pub same_bodies : bodies_of swapped.before ≡ bodies_of seen
    same_bodies = ap bodies_of swapped.begins.1 ∙ bodies_longer seen swapped.begins.0 apart.before

    pub one_body : body_taken ((swapped.before ++ swap_event index ∷ []) ++ noted.more) kind ≡ [] → bodies_of seen_after ≡ bodies_of seen ++ body_bytes index (buffer_of swapped.before) ∷ []
    one_body none = bodies_flushed seen swapped.before noted.more seen_after swapped.begins.0 index kind swapped.begins.1 apart.before apart.between none story_is

    pub ready_taken : body_taken ((swapped.before ++ swap_event index ∷ []) ++ noted.more) kind ≡ [] → bodies_of seen_after ≡ bodies_of seen ++ body_bytes index ready ∷ []
    ready_taken none = one_body none ∙ ap (λ (l : List ℕ). bodies_of seen ++ body_bytes index l ∷ []) (sym swapped.taken)

    pub stops_after : {T E : Type 0} (result : Result T E) (loaded : List (List ℕ)) (old new : Seen) (first : ℕ) → Appends (body_bytes index ready) old new result
        → body_taken ((swapped.before ++ swap_event index ∷ []) ++ noted.more) kind ≡ [] → TellsBodies old.told (loaded ++ bodies_of seen)
        → ((moment : ℕ) → moment ≤ old.clock → IsLater moment kind)
        → ((moment : ℕ) (left : List ℕ) → moment ≤ new.clock → new.image moment left → IsLater moment kind ⊎ IsJournal left ((loaded ++ bodies_of seen) ++ body_bytes index ready ∷ []))
        → StopsHold loaded seen first old.clock old.image → StopsHold loaded seen_after first new.clock new.image
    stops_after result loaded old new first appended none tells earlier at_end hold =
        stops_flushed loaded seen swapped.before swapped.begins.0 noted.more seen_after index kind (body_bytes index ready) first old.clock new.clock old.image new.image
        swapped.begins.1 apart.before apart.between story_is same_bodies (ready_taken none) appended.settled.time (appended.leaves (loaded ++ bodies_of seen) tells) earlier at_end hold

-- a disk that tells what it contains tells these bodies, where that stands for them
pub tells_them : (told : Option (List ℕ)) (bodies : List (List ℕ)) → IsSome told → IfSome told (λ bytes. IsJournal bytes bodies) → TellsBodies told bodies
tells_them None bodies some is = absurd (false≢true some)
tells_them (Some bytes) bodies some is = is

-- up to a moment, each is earlier, or it is that one
pub at_last : (later at : ℕ) (new : Images) (P : List ℕ → Type 0) → at ≡ later → ((left : List ℕ) → new later left → P left)
    → (moment : ℕ) (left : List ℕ) → moment ≤ later → new moment left → (moment < at) ⊎ P left
at_last later at new P is have moment left by h = elim (cases_lt moment at) [
  | inl less ↦ inl less
  | inr most ↦ inr (have left (subst (λ (n : ℕ). new n left) (omega (arith, is, by, most)) h))
]

-- stops where the disk failed
pub stops_halted : {T E : Type 0} (opening : Opening) (index count : ℕ) (seen mine seen_swapped mine_swapped seen_after mine_after : List Event) (ready : List ℕ)
    (swapped : IsSwapped opening index seen mine seen_swapped mine_swapped ready) (noted : IsNoted (halt_event count) seen_swapped mine_swapped seen_after mine_after)
    (apart : Others opening index (Halt Manager count) seen mine seen_swapped mine_swapped seen_after mine_after ready swapped noted)
    (loaded : List (List ℕ)) (old new : Seen) (first : ℕ) (result : Result T E)
    → Appends (body_bytes index ready) old new result → IsSome old.told → IfSome old.told (λ bytes. IsJournal bytes (loaded ++ bodies_of seen))
    → StopsHold loaded seen first old.clock old.image → StopsHold loaded seen_after first new.clock new.image
stops_halted opening index count seen mine seen_swapped mine_swapped seen_after mine_after ready swapped noted apart loaded old new first result appended some told hold =
    stops_after opening index (Halt Manager count) seen mine seen_swapped mine_swapped seen_after mine_after ready swapped noted apart result loaded old new first appended refl
    (tells_them old.told (loaded ++ bodies_of seen) some told) (λ moment by. tt) (λ moment left by h. inl tt) hold

-- and where it didn't
pub stops_stable : {E : Type 0} (opening : Opening) (index at : ℕ) (seen mine seen_swapped mine_swapped seen_after mine_after : List Event) (ready : List ℕ)
    (swapped : IsSwapped opening index seen mine seen_swapped mine_swapped ready) (noted : IsNoted (flushed_event index at) seen_swapped mine_swapped seen_after mine_after)
    (apart : Others opening index (Flushed index at) seen mine seen_swapped mine_swapped seen_after mine_after ready swapped noted)
    (loaded : List (List ℕ)) (old new : Seen) (first : ℕ)
    → Appends {T = ℕ} {E = E} (body_bytes index ready) old new (Ok at) → at ≡ new.clock → IsSome old.told → IfSome old.told (λ bytes. IsJournal bytes (loaded ++ bodies_of seen))
    → StopsHold loaded seen first old.clock old.image → StopsHold loaded seen_after first new.clock new.image
stops_stable opening index at seen mine seen_swapped mine_swapped seen_after mine_after ready swapped noted apart loaded old new first appended is some told hold =
    let bodies = loaded ++ bodies_of seen in
    let tells = tells_them old.told bodies some told in
    let takes = appended.settled.moments in
    stops_after opening index (Flushed index at) seen mine seen_swapped mine_swapped seen_after mine_after ready swapped noted apart (Ok at) loaded old new first appended refl tells
    (λ moment by. omega (arith, is, takes, by))
    (at_last new.clock at new.image (λ left. IsJournal left (bodies ++ body_bytes index ready ∷ [])) is (appended.acknowledged bodies tells)) hold

-- The same of a state that is equal.
module _ {D : Type 0} (tells : D → Option (List ℕ)) (clock_of : D → ℕ) (image_of : D → Images) (faults_of : D → ℕ) (one other : State D) (is : one ≡ other) where
  abbrev pub seen_in : State D → Seen
  seen_in state = record { told = tells state.disk; clock = clock_of state.disk; image = image_of state.disk; faults = faults_of state.disk }

  pub appends_of : {T E : Type 0} (body : List ℕ) (after : Seen) (result : Result T E) → Appends body (seen_in one) after result → Appends body (seen_in other) after result
  appends_of body after result adds = subst (λ (state : State D). Appends body (seen_in state) after result) is adds

  pub quiet_of : (opening : Opening) (loaded : List (List ℕ)) (story mine : List Event) → IsQuiet opening loaded story mine (tells other.disk) (clock_of other.disk)
      → IsQuiet opening loaded story mine (tells one.disk) (clock_of one.disk)
  quiet_of opening loaded story mine quiet = subst (λ (state : State D). IsQuiet opening loaded story mine (tells state.disk) (clock_of state.disk)) (sym is) quiet

  pub stops_of : (loaded : List (List ℕ)) (story : List Event) (first : ℕ) → StopsHold loaded story first (clock_of other.disk) (image_of other.disk)
      → StopsHold loaded story first (clock_of one.disk) (image_of one.disk)
  stops_of loaded story first hold = subst (λ (state : State D). StopsHold loaded story first (clock_of state.disk) (image_of state.disk)) (sym is) hold

pub noted_count : (count faults : ℕ) (seen mine seen_after mine_after : List Event) → count ≡ faults → IsNoted (halt_event count) seen mine seen_after mine_after
    → IsNoted (halt_event faults) seen mine seen_after mine_after
noted_count count faults seen mine seen_after mine_after is noted = subst (λ (n : ℕ). IsNoted (halt_event n) seen mine seen_after mine_after) is noted

-- a write takes four moments
pub later_than : (earlier : Option ℕ) (clock moment : ℕ) → moment ≡ clock + 4 → IfSome earlier (λ at. at ≤ clock) → IfSome earlier (λ at. at < moment)
later_than None clock moment is by = tt
later_than (Some at) clock moment is by = omega (arith, is, by)

-- what a seat sees more, without an event of its own, is others' alone
pub others_more : (seen more all : List Event) → all ≡ seen ++ more → AreOurs all → own all ≡ own seen → AreOthers more
others_more seen more all is ours same =
    let parts = ap (λ (l : List Event). length (own l)) is ∙ own_append seen more in
    let none : length (own more) ≡ 0 = omega (arith, parts, ap length same) in
    none_own more (ours_behind seen more (subst AreOurs is ours)) (no_length (own more) none)

pub quiet_longer : (opening : Opening) (loaded : List (List ℕ)) (seen more all mine mine_after : List Event) (told : Option (List ℕ)) (clock : ℕ)
    → all ≡ seen ++ more → AreOthers more → mine_after ≡ mine → IsQuiet opening loaded seen mine told clock → IsQuiet opening loaded all mine_after told clock
quiet_longer opening loaded seen more all mine mine_after told clock is others same was =
    let bodies : bodies_of seen ≡ bodies_of all = sym (ap bodies_of is ∙ bodies_longer seen more others) in
    record {
      settled = subst (λ (l : List Event). IsSettled opening l) (sym same) was.settled;
      by_now = subst (λ (l : List Event). IfSome (flushed_moment l) (λ moment. moment ≤ clock)) (sym same) was.by_now;
      journal = subst (λ (l : List (List ℕ)). IfSome told (λ bytes. IsJournal bytes (loaded ++ l))) bodies was.journal;
    }

-- what a disk tells with a body more
told_more : (told later : Option (List ℕ)) (bodies more : List (List ℕ)) → TellsAsBefore told later → IfSome told (λ bytes. IsJournal bytes bodies)
    → (TellsBodies told bodies → TellsBodies later more) → IfSome later (λ bytes. IsJournal bytes more)
told_more None later bodies more alike was tells = subst (λ (o : Option (List ℕ)). IfSome o (λ bytes. IsJournal bytes more)) (sym (alike.0 refl)) tt
told_more (Some bytes) None bodies more alike was tells = tt
told_more (Some bytes) (Some after) bodies more alike was tells = tells was

-- after a flush all is as before it, with one body more
pub quiet_flushed : (opening : Opening) (loaded : List (List ℕ)) (index moment : ℕ) (body : List ℕ) (seen mine seen_after mine_after : List Event) (told later : Option (List ℕ)) (clock : ℕ)
    → mine_after ≡ (mine ++ swap_event index ∷ []) ++ flushed_event index moment ∷ [] → bodies_of seen_after ≡ bodies_of seen ++ body ∷ [] → moment ≡ clock
    → TellsAsBefore told later → (TellsBodies told (loaded ++ bodies_of seen) → TellsBodies later ((loaded ++ bodies_of seen) ++ body ∷ []))
    → IsSettled opening mine → IfSome told (λ bytes. IsJournal bytes (loaded ++ bodies_of seen)) → IsQuiet opening loaded seen_after mine_after later clock
quiet_flushed opening loaded index moment body seen mine seen_after mine_after told later clock given taken at alike tells settled was = record {
  settled = subst (λ (l : List Event). IsSettled opening l) (sym given) (settled_flushed opening mine index moment settled);
  by_now = subst (λ (o : Option ℕ). IfSome o (λ t. t ≤ clock)) (sym (ap flushed_moment given ∙ moment-push (mine ++ swap_event index ∷ []) index moment)) (omega (arith, at));
  journal = subst (λ (l : List (List ℕ)). IfSome later (λ bytes. IsJournal bytes l)) (append_assoc loaded (bodies_of seen) (body ∷ []) ∙ ap (λ (l : List (List ℕ)). loaded ++ l) (sym taken))
      (told_more told later (loaded ++ bodies_of seen) ((loaded ++ bodies_of seen) ++ body ∷ []) alike was tells);
}

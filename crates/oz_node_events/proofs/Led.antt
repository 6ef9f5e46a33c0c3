-- Each Stop, Start and Wipe of a datanode stays a line's, and one more is where a line comes that none was before.
use Rattle.std.proofs.Common.{◌≡◌, ◌≢◌, ℕ, zero, suc, ◌+◌, ◌<◌, ◌≤◌, Bool, true, false, ◌==◌, cond, List, [], ◌∷◌, ◌++◌, length, replicate, slice_index, slice_set, ◌⊎◌, eq-eqb, refl, sym, ap, ◌∙◌, subst, append-nil, inl, inr, arith, get_or-set_same, get_or-set_other}
use Rattle.std.proofs.lemmas.Bool.{cases_eq}
use Rattle.std.proofs.lemmas.List.{length-set, length-replicate}
use Rattle.std.proofs.lemmas.List.Elements.{All-cons, All-nil, All-weaker, Contains-append_left, Contains-push}
use Rattle.std.proofs.lemmas.List.Kept.{AllPairs-cons}
use Rattle.std.proofs.lemmas.List.Sums.{sum_by-append, sum_by-cons}
use Rattle.std.specs.Prelude.{All, Contains}
use Rattle.oz_buffer.specs.Buffer.{AllFollow, Follows}
use Rattle.oz_buffer.specs.laws.Following.{follow-each}
use Rattle.oz_command.specs.declared.command.Command.TheVariants.{Admin}
use Rattle.oz_core.specs.declared.event.Event.{Event}
use Rattle.oz_core.specs.declared.event.EventKind.{EventKind}
use Rattle.oz_core.specs.declared.event.EventKind.TheVariants.{Stop, Start, Wipe}
use Rattle.oz_core.specs.declared.opening.Opening.{Opening}
use Rattle.oz_core.specs.Contents.{OpeningBytes}
use Rattle.oz_core.specs.Fits.{EventFits, IsCommanded}
use Rattle.oz_core.specs.Law.{KindIsEnabled}
use Rattle.oz_core.specs.Lines.{HasStarted}
use Rattle.oz_core.specs.Seats.{datanode_seat}
use Rattle.oz_core.specs.Stories.{count_events}
use Rattle.oz_script.specs.declared.lines.script.Line.{Line}
use Rattle.oz_script.specs.declared.lines.script.Script.{Script}
use Rattle.oz_script.specs.declared.lines.script.TheConstants.{MOST_CLIENTS}
use Rattle.oz_turn.specs.Told.{BeginsWith}
use Rattle.oz_node_events.specs.declared.command.NodeCommand.{NodeCommand}
use Rattle.oz_node_events.specs.declared.command.NodeCommand.TheVariants as command
use Rattle.oz_node_events.specs.Commands.{by_node}
use Rattle.oz_node_events.specs.Led.{AreForLines, AreLed, HasItDone, HasLed, HaveLed, IsUncommanded, admin_command, done_kind, is_done, last_of, no_lines}
use Rattle.oz_node_events.specs.NodeSeat.{events_of}
use Rattle.oz_node_events.specs.laws.Lines.{done_later, started_later}
use Rattle.oz_node_events.proofs.Telling.{is_its, its_kept, its_left, its_parts, not_its}

-- ---- how many events there are

-- an event that is one counts 1
abbrev one_if : Bool → ℕ
one_if t = cond t 1 0

count_push : (same : EventKind → Bool) (story : List Event) (event : Event) → count_events same (story ++ event ∷ []) ≡ count_events same story + one_if (same event.kind)
count_push same story event =
    let f = λ (e : Event). one_if (same e.kind) in
    let parts = sum_by-append f story (event ∷ []) in
    let one = sum_by-cons f event [] in
    omega (arith, parts, one)

pub uncommanded_none : (dn : ℕ) (done : NodeCommand) (kind : EventKind) → IsUncommanded kind → is_done dn done kind ≡ false
uncommanded_none dn done (Stop other) none = absurd none
uncommanded_none dn done (Start other) none = absurd none
uncommanded_none dn done (Wipe other) none = absurd none
uncommanded_none dn command.Stop kind none = refl
uncommanded_none dn command.Start kind none = refl
uncommanded_none dn command.Wipe kind none = refl

pub its_own : (dn : ℕ) (done : NodeCommand) → is_done dn done (done_kind dn done) ≡ true
its_own dn command.Stop = eq-eqb dn dn refl
its_own dn command.Start = eq-eqb dn dn refl
its_own dn command.Wipe = eq-eqb dn dn refl

pub away : (opening : Opening) (front : List Event) (dn : ℕ) (done : NodeCommand) (seat : ℕ) (kind : EventKind) → KindIsEnabled opening front seat kind
    → (seat == datanode_seat dn) ≡ false → is_done dn done kind ≡ false
away opening front dn command.Stop seat (Stop other) may not = not_its dn seat other not may.of_datanode.its
away opening front dn command.Start seat (Start other) may not = not_its dn seat other not may.of_datanode.its
away opening front dn command.Wipe seat (Wipe other) may not = not_its dn seat other not may.of_datanode.its
away opening front dn command.Stop seat kind may not = refl
away opening front dn command.Start seat kind may not = refl
away opening front dn command.Wipe seat kind may not = refl

-- two are the same, or the event of one doesn't tell of the other
alike : (dn : ℕ) (done other : NodeCommand) → (done ≡ other) ⊎ (is_done dn other (done_kind dn done) ≡ false)
alike dn command.Stop command.Stop = inl refl
alike dn command.Stop command.Start = inr refl
alike dn command.Stop command.Wipe = inr refl
alike dn command.Start command.Stop = inr refl
alike dn command.Start command.Start = inl refl
alike dn command.Start command.Wipe = inr refl
alike dn command.Wipe command.Stop = inr refl
alike dn command.Wipe command.Start = inr refl
alike dn command.Wipe command.Wipe = inl refl

-- the datanode's seat gives all of them
module _ (Coherent : Type 0) (opening : Opening) (bytes : OpeningBytes) (script : Script) (dn : ℕ) (done : NodeCommand) where
  abbrev Follow : List Event → Event → Type 0
  Follow = Follows Coherent opening bytes script

  abbrev many : List Event → ℕ
  many story = count_events (is_done dn done) story

  count_step : Coherent → (front : List Event) (event : Event) → many front ≡ many (events_of dn front) → Follow front event
      → many (front ++ event ∷ []) ≡ many (events_of dn (front ++ event ∷ []))
  count_step coherent front event was follows = by (is_its dn event) refl
    where
      by : (t : Bool) → is_its dn event ≡ t → many (front ++ event ∷ []) ≡ many (events_of dn (front ++ event ∷ []))
      by true is =
          count_push (is_done dn done) front event
          ∙ (ap (λ (n : ℕ). n + one_if (is_done dn done event.kind)) was
          ∙ (sym (count_push (is_done dn done) (events_of dn front) event)
          ∙ ap many (sym (its_parts dn front (event ∷ []) ∙ ap (λ l. events_of dn front ++ l) (its_kept dn event [] is)))))
      by false not =
          let none = away opening front dn done event.seat event.kind (follows.enabled coherent) not in
          let same : events_of dn (front ++ event ∷ []) ≡ events_of dn front =
          its_parts dn front (event ∷ []) ∙ (ap (λ l. events_of dn front ++ l) (its_left dn event [] not) ∙ append-nil (events_of dn front)) in
          let pushed = count_push (is_done dn done) front event in
          let nothing = ap one_if none in
          let own = ap many same in
          omega (arith, pushed, nothing, own, was)

  pub count_own : Coherent → (story : List Event) → AllFollow Follow [] story → many story ≡ many (events_of dn story)
  count_own coherent story all = follow-each Follow (λ front. many front ≡ many (events_of dn front)) story (count_step coherent) refl all

-- ---- the last lines

zeros : (n i : ℕ) → slice_index (replicate n 0) i ≡ 0
zeros zero i = refl
zeros (suc n) zero = refl
zeros (suc n) (suc i) = zeros n i

-- a line that isn't behind the last of its client isn't behind a later one
pub still_old : (last : List ℕ) (client number other at : ℕ) → client < length last → last_of last client < number → at ≤ last_of last other → at ≤ last_of (slice_set last client number) other
still_old last client number other at within behind old = by (cases_eq other client)
  where
    by : (other ≡ client) ⊎ (other ≢ client) → at ≤ last_of (slice_set last client number) other
    by (inl same) =
        let now : last_of (slice_set last client number) client ≡ number = get_or-set_same last client number 0 within in
        let here = ap (last_of (slice_set last client number)) same in
        let was = ap (last_of last) same in
        omega (arith, now, here, was, behind, old)
    by (inr apart) =
        let now : last_of (slice_set last client number) other ≡ last_of last other = get_or-set_other last client other number 0 apart in
        omega (arith, now, old)

-- a line that is behind the last of its client is none of those that aren't
fresh : (by : Line) (last : List ℕ) → last_of last by.client < by.number
    → (lines : List Line) → All (λ (line : Line). line.number ≤ last_of last line.client) lines → All (λ (line : Line). by ≢ line) lines
fresh by last behind lines old =
    All-weaker (λ (line : Line). line.number ≤ last_of last line.client) (λ (line : Line). by ≢ line)
    (λ line was same.
    let number_is = ap (λ (l : Line). l.number) same in
    let last_is = ap (λ (l : Line). last_of last l.client) same in
    omega (arith, number_is, last_is, was, behind)) lines old

-- ---- what is led

module _ (script : Script) (dn : ℕ) where
  led_by_none : (seen : List Event) (done : NodeCommand) → AreLed script dn no_lines seen [] done
  led_by_none seen done = record {
    lines = [];
    apart = λ i j d lt within. absurd (omega (arith, within));
    there = All-nil (Contains script.lines);
    so = All-nil (λ (line : Line). line.command ≡ Admin (admin_command dn done));
    started = All-nil (HasStarted seen);
    enough = omega arith;
    old = All-nil (λ (line : Line). line.number ≤ last_of no_lines line.client);
  }

  pub led_new : (seen mine : List Event) → AreForLines script dn no_lines seen → mine ≡ [] → HaveLed script dn no_lines seen mine
  led_new seen mine for_lines none = subst (λ (l : List Event). HaveLed script dn no_lines seen l) (sym none) (record {
    many = length-replicate {A = ℕ} (MOST_CLIENTS + 1) 0;
    each = led_by_none seen;
    for_lines = for_lines;
    latest = λ client some. absurd (omega (arith, some, zeros (MOST_CLIENTS + 1) client));
  })

  module _ (last : List ℕ) (seen mine later : List Event) (begins : BeginsWith later seen) where
    has_led_later : (given : List Event) → BeginsWith given mine → (client number : ℕ) → HasLed script dn seen mine client number → HasLed script dn later given client number
    has_led_later given goes client number has = record {
      line = has.line;
      of_client = has.of_client;
      not_before = has.not_before;
      done = has.done;
      by = done_later script seen later dn has.done has.line begins has.by;
      told = subst (λ (l : List Event). Contains l (by_node dn (done_kind dn has.done))) (sym goes.1)
          (Contains-append_left mine goes.0 (by_node dn (done_kind dn has.done)) has.told);
    }

    led_later : (done : NodeCommand) (given : List Event) → count_events (is_done dn done) given ≡ count_events (is_done dn done) mine
        → AreLed script dn last seen mine done → AreLed script dn last later given done
    led_later done given same led = record {
      lines = led.lines;
      apart = led.apart;
      there = led.there;
      so = led.so;
      started = All-weaker (HasStarted seen) (HasStarted later) (λ line started. started_later seen later line begins started) led.lines led.started;
      enough = omega (arith, same, led.enough);
      old = led.old;
    }

    -- nothing was done since, as far as this seat tells
    pub led_on : AreForLines script dn last later → HaveLed script dn last seen mine → HaveLed script dn last later mine
    led_on for_lines led = record {
      many = led.many;
      each = λ done. led_later done mine refl (led.each done);
      for_lines = for_lines;
      latest = λ client some. has_led_later mine ([], sym (append-nil mine)) client (last_of last client) (led.latest client some);
    }

    pub led_noted : (kind : EventKind) → IsUncommanded kind → AreForLines script dn last later → HaveLed script dn last seen mine
        → HaveLed script dn last later (mine ++ by_node dn kind ∷ [])
    led_noted kind none for_lines led = record {
      many = led.many;
      each = λ done.
          let pushed = count_push (is_done dn done) mine (by_node dn kind) in
          let nothing = ap one_if (uncommanded_none dn done kind none) in
          led_later done (mine ++ by_node dn kind ∷ []) (omega (arith, pushed, nothing)) (led.each done);
      for_lines = for_lines;
      latest = λ client some. has_led_later (mine ++ by_node dn kind ∷ []) (by_node dn kind ∷ [], refl) client (last_of last client) (led.latest client some);
    }

    module _ (line : Line) (few : line.client ≤ MOST_CLIENTS) (behind : last_of last line.client < line.number) (done : NodeCommand) (by : HasItDone script later dn done line)
        (led : HaveLed script dn last seen mine) where
      within : line.client < length last
      within = omega (arith, few, led.many)

      abbrev event : Event
      event = by_node dn (done_kind dn done)

      abbrev then : List ℕ
      then = slice_set last line.client line.number

      now : last_of then line.client ≡ line.number
      now = get_or-set_same last line.client line.number 0 within

      grown_old : (lines : List Line) → All (λ (line : Line). line.number ≤ last_of last line.client) lines → All (λ (line : Line). line.number ≤ last_of then line.client) lines
      grown_old lines old =
          All-weaker (λ (line : Line). line.number ≤ last_of last line.client) (λ (line : Line). line.number ≤ last_of then line.client)
          (λ other was. still_old last line.client line.number other.client other.number within behind was) lines old

      led_more : AreLed script dn last seen mine done → AreLed script dn then later (mine ++ event ∷ []) done
      led_more was =
          let pushed = count_push (is_done dn done) mine event in
          let one = ap one_if (its_own dn done) in
          record {
            lines = line ∷ was.lines;
            apart = AllPairs-cons ◌≢◌ line was.lines (fresh line last behind was.lines was.old) was.apart;
            there = All-cons (Contains script.lines) line was.lines by.there was.there;
            so = All-cons (λ (other : Line). other.command ≡ Admin (admin_command dn done)) line was.lines by.so was.so;
            started = All-cons (HasStarted later) line was.lines by.started
                (All-weaker (HasStarted seen) (HasStarted later) (λ line started. started_later seen later line begins started) was.lines was.started);
            enough = omega (arith, pushed, one, was.enough);
            old = All-cons (λ (other : Line). other.number ≤ last_of then other.client) line was.lines (omega (arith, now)) (grown_old was.lines was.old);
          }

      led_beside : (other : NodeCommand) → is_done dn other (done_kind dn done) ≡ false → AreLed script dn last seen mine other → AreLed script dn then later (mine ++ event ∷ []) other
      led_beside other none was =
          let pushed = count_push (is_done dn other) mine event in
          let nothing = ap one_if none in
          let so : AreLed script dn last later (mine ++ event ∷ []) other = led_later other (mine ++ event ∷ []) (omega (arith, pushed, nothing)) was in
          record { lines = so.lines; apart = so.apart; there = so.there; so = so.so; started = so.started; enough = so.enough; old = grown_old so.lines so.old }

      each_then : (other : NodeCommand) → AreLed script dn then later (mine ++ event ∷ []) other
      each_then other = from (alike dn done other)
        where
          from : (done ≡ other) ⊎ (is_done dn other (done_kind dn done) ≡ false) → AreLed script dn then later (mine ++ event ∷ []) other
          from (inl same) = subst (AreLed script dn then later (mine ++ event ∷ [])) same (led_more (led.each done))
          from (inr none) = led_beside other none (led.each other)

      pub led_done : AreForLines script dn then later → HaveLed script dn then later (mine ++ event ∷ [])
      led_done for_lines = record {
        many = length-set last line.client line.number ∙ led.many;
        each = each_then;
        for_lines = for_lines;
        latest = λ other some. by_client other some (cases_eq other line.client);
      }
        where
          its : HasLed script dn later (mine ++ event ∷ []) line.client line.number
          its = record { line = line; of_client = refl; not_before = omega arith; done = done; by = by; told = Contains-push mine event }

          by_client : (other : ℕ) → 1 ≤ last_of then other → (other ≡ line.client) ⊎ (other ≢ line.client) → HasLed script dn later (mine ++ event ∷ []) other (last_of then other)
          by_client other some (inl same) =
              subst (λ (c : ℕ). HasLed script dn later (mine ++ event ∷ []) c (last_of then c)) (sym same)
              (subst (HasLed script dn later (mine ++ event ∷ []) line.client) (sym now) its)
          by_client other some (inr apart) =
              let still : last_of then other ≡ last_of last other = get_or-set_other last line.client other line.number 0 apart in
              subst (HasLed script dn later (mine ++ event ∷ []) other) (sym still)
              (has_led_later (mine ++ event ∷ []) (event ∷ [], refl) other (last_of last other) (led.latest other (omega (arith, some, still))))

-- ---- the script leads to one more

fits_as : (opening : Opening) (bytes : OpeningBytes) (script : Script) (story : List Event) (dn : ℕ) (done : NodeCommand)
    → IsCommanded script story (admin_command dn done) (is_done dn done) → EventFits opening bytes script story (done_kind dn done)
fits_as opening bytes script story dn command.Stop is = is
fits_as opening bytes script story dn command.Start is = is
fits_as opening bytes script story dn command.Wipe is = is

pub led_fits : (Coherent : Type 0) (opening : Opening) (bytes : OpeningBytes) (script : Script) (dn : ℕ) (last : List ℕ) (seen mine other story : List Event) (line : Line) (done : NodeCommand)
    → HaveLed script dn last seen mine → last_of last line.client < line.number → HasItDone script other dn done line
    → BeginsWith story seen → BeginsWith story other → AllFollow (Follows Coherent opening bytes script) [] story → events_of dn story ≡ mine
    → Coherent → EventFits opening bytes script story (done_kind dn done)
led_fits Coherent opening bytes script dn last seen mine other story line done led behind by begins others all own coherent =
    let was = led.each done in
    let many = count_own Coherent opening bytes script dn done coherent story all ∙ ap (count_events (is_done dn done)) own in
    fits_as opening bytes script story dn done (record {
      lines = line ∷ was.lines;
      apart = AllPairs-cons ◌≢◌ line was.lines (fresh line last behind was.lines was.old) was.apart;
      there = All-cons (Contains script.lines) line was.lines by.there was.there;
      so = All-cons (λ (l : Line). l.command ≡ Admin (admin_command dn done)) line was.lines by.so was.so;
      started = All-cons (HasStarted story) line was.lines (started_later other story line others by.started)
          (All-weaker (HasStarted seen) (HasStarted story) (λ l started. started_later seen story l begins started) was.lines was.started);
      more = omega (arith, many, was.enough);
    })

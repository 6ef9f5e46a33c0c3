-- What an id asked stays undecided, and asked in time, while its stripe gives nothing.
use Rattle.std.proofs.Common.{◌≡◌, ◌≢◌, ℕ, ◌==◌, Bool, true, false, List, [], ◌∷◌, ◌++◌, None, Some, is_some, cond, refl, sym, ap, ◌∙◌, subst, append_assoc, append-nil, eq-eqb}
use Rattle.std.proofs.lemmas.Bool.{and_from}
use Rattle.std.proofs.lemmas.Option.{none-some}
use Rattle.oz_core.specs.declared.event.Event.{Event}
use Rattle.oz_core.specs.declared.event.EventKind.{EventKind}
use Rattle.oz_core.specs.declared.event.EventKind.TheVariants.{Ask, Decide}
use Rattle.oz_core.specs.declared.event.Node.TheVariants.{Manager}
use Rattle.oz_core.specs.declared.opening.Opening.{Opening}
use Rattle.oz_core.specs.Asks.{is_id, is_of_line, is_script, pending, pending_after}
use Rattle.oz_core.specs.Contents.{OpeningBytes}
use Rattle.oz_core.specs.Law.{KindIsEnabled}
use Rattle.oz_core.specs.Manager.{asked_late, halt_of, late_step}
use Rattle.oz_core.specs.Seats.{stripe_seat}
use Rattle.oz_script.specs.declared.lines.script.Script.{Script}
use Rattle.oz_names.specs.Names.{stripe_of}
use Rattle.oz_requests.specs.declared.request.AskId.{AskId}
use Rattle.oz_requests.specs.declared.request.Request.{Request}
use Rattle.oz_requests.specs.Names.{volume_in}
use Rattle.oz_kept.specs.laws.Granted.{one_ask_id}
use Rattle.oz_buffer.specs.Buffer.{AllFollow, Follows}
use Rattle.oz_buffer.specs.laws.Courses.{late-push, pending-push}
use Rattle.oz_line_blocks.proofs.granting_lemmas.Still.{none_own_parts, own}

some_request : (one other : Request) → Some one ≡ Some other → one ≡ other
some_request one other same = cc

its_line : (id : AskId) → is_of_line id.client id.line id ≡ true
its_line id = and_from (id.client == id.client) (id.line == id.line) (eq-eqb id.client id.client refl) (eq-eqb id.line id.line refl)

module _ (Coherent : Type 0) (opening : Opening) (bytes : OpeningBytes) (script : Script) (coherent : Coherent) (id : AskId) (of_script : is_script id ≡ true)
    (request : Request) where
  abbrev Follow : List Event → Event → Type 0
  Follow = Follows Coherent opening bytes script

  abbrev its_seat : ℕ
  its_seat = stripe_seat (stripe_of (volume_in request))

  pub record Waits (story : List Event) : Type 0 where
    pub undecided : pending id story ≡ Some request
    pub in_time : asked_late id story ≡ false

  -- what the next event makes of it
  record Stays (front : List Event) (kind : EventKind) : Type 0 where
    pends : pending_after id (pending id front) kind ≡ Some request
    in_time : late_step id front (asked_late id front) kind ≡ false

  stays : (front : List Event) (seat : ℕ) (kind : EventKind) → Waits front → KindIsEnabled opening front seat kind → seat ≢ its_seat → Stays front kind
  stays front seat (Ask other asked) waits enabled apart = by (is_id id other) refl
    where
      by : (t : Bool) → is_id id other ≡ t → Stays front (Ask other asked)
      by true same =
          let one : other ≡ id = sym (one_ask_id id other same) in
          let none = subst (λ (i : AskId). is_script i ≡ true → (earlier : AskId) → is_of_line i.client i.line earlier ≡ true → pending earlier front ≡ None) one enabled.decided
          of_script id (its_line id) in
          absurd (none-some request (sym none ∙ waits.undecided))
      by false apart = record {
        pends = ap (λ (t : Bool). cond t (Some asked) (pending id front)) apart ∙ waits.undecided;
        in_time = ap (λ (t : Bool). cond t (is_some (halt_of Manager front)) (asked_late id front)) apart ∙ waits.in_time;
      }
  stays front seat (Decide other index reply batch) waits enabled apart = by (is_id id other) refl
    where
      by : (t : Bool) → is_id id other ≡ t → Stays front (Decide other index reply batch)
      by true same =
          let one : other ≡ id = sym (one_ask_id id other same) in
          let asked : enabled.request ≡ request = some_request enabled.request request (sym enabled.undecided ∙ (ap (λ (i : AskId). pending i front) one ∙ waits.undecided)) in
          absurd (apart (enabled.of_stripe ∙ ap (λ (r : Request). stripe_seat (stripe_of (volume_in r))) asked))
      by false not = record {
        pends = ap (λ (t : Bool). cond t None (pending id front)) not ∙ waits.undecided;
        in_time = waits.in_time;
      }
  stays front seat kind waits enabled apart = record { pends = waits.undecided; in_time = waits.in_time }

  next : (front : List Event) (event : Event) → Waits front → Follow front event → event.seat ≢ its_seat → Waits (front ++ event ∷ [])
  next front event waits follows apart =
      let so = stays front event.seat event.kind waits (follows.enabled coherent) apart in
      record {
        undecided = pending-push id front event ∙ so.pends;
        in_time = late-push id front event ∙ so.in_time;
      }

  pub waits_on : (front more : List Event) → Waits front → AllFollow Follow front more → own its_seat more ≡ [] → Waits (front ++ more)
  unfolding AllFollow
  waits_on front [] waits all none = subst Waits (sym (append-nil front)) waits
  waits_on front (event ∷ more) waits all none =
      let parts = none_own_parts its_seat event more none in
      subst Waits (append_assoc front (event ∷ []) more)
      (waits_on (front ++ event ∷ []) more (next front event waits all.0 parts.0) all.1 parts.1)

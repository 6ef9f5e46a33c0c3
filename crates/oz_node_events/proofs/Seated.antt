-- What holds of a datanode's seat, and of what lines had done to the datanode, once the seat has seen and given more.
use Rattle.std.proofs.Common.{◌≡◌, ℕ, ◌+◌, ◌<◌, ◌≤◌, false, List, [], ◌∷◌, ◌++◌, slice_set, refl, sym, ap, ◌∙◌, subst, arith}
use Rattle.oz_buffer.specs.Buffer.{AllFollow, Follows}
use Rattle.oz_core.specs.declared.event.Event.{Event}
use Rattle.oz_core.specs.declared.event.EventKind.{EventKind}
use Rattle.oz_core.specs.declared.opening.Opening.{Opening}
use Rattle.oz_core.specs.Asks.{is_told}
use Rattle.oz_core.specs.Contents.{OpeningBytes}
use Rattle.oz_core.specs.Stories.{has_event}
use Rattle.oz_script.specs.declared.lines.script.Line.{Line}
use Rattle.oz_script.specs.declared.lines.script.Script.{Script}
use Rattle.oz_script.specs.declared.lines.script.TheConstants.{MOST_CLIENTS}
use Rattle.oz_repl.specs.views.Away.{StaysAway}
use Rattle.oz_turn.specs.Told.{own_entries, BeginsWith}
use Rattle.oz_node_events.specs.declared.command.NodeCommand.{NodeCommand}
use Rattle.oz_node_events.specs.Commands.{by_node}
use Rattle.oz_node_events.specs.Led.{HasItDone, HaveLed, IsUncommanded, done_kind, last_of}
use Rattle.oz_node_events.specs.NodeSeat.{IsAppended, IsKept, PutsUntold, events_of, is_bad}
use Rattle.oz_node_events.specs.laws.Lines.{done_later}
use Rattle.oz_node_events.proofs.Away.{away_noted, away_on}
use Rattle.oz_node_events.proofs.ForLines.{for_done, for_noted, for_on, same_rest}
use Rattle.oz_node_events.proofs.Led.{led_done, led_noted, led_on}
use Rattle.oz_node_events.proofs.Moving.{follow_front}
use Rattle.oz_node_events.proofs.Noted.{begins_through, own_before, own_behind}
use Rattle.oz_node_events.proofs.Own.{kept_later}
use Rattle.oz_node_events.proofs.Sound.{none_more}
use Rattle.oz_node_events.proofs.Telling.{its_parts, others_go_on}

-- what a seat had seen is seen behind an event that it gave
pub seen_behind : (event : Event) (seen other after : List Event) → IsAppended event seen other after → BeginsWith after seen
seen_behind event seen other after told_so =
    begins_through after (told_so.before ++ event ∷ []) seen told_so.goes_on
    (begins_through (told_so.before ++ event ∷ []) told_so.before seen (event ∷ [], refl) told_so.begins)

module _ (Coherent : Type 0) (opening : Opening) (bytes : OpeningBytes) (script : Script) (dn room : ℕ) (last : List ℕ) (seen mine : List Event)
    (kept : IsKept Coherent opening bytes script (record { dn = dn; seen = seen; mine = mine; room = room; last = last })) (led : Coherent → HaveLed script dn last seen mine)
    (number : ℕ) (its : number ≡ dn) (later : List Event) (begins : BeginsWith later seen) (follow : AllFollow (Follows Coherent opening bytes script) [] later) (given : List Event) (places : ℕ)
    (own : own_entries (λ (event : Event). event.seat) (4 + number) later ≡ given) where
  known : events_of dn later ≡ given
  known = ap (λ (n : ℕ). events_of n later) (sym its) ∙ own

  pub kept_on : given ≡ mine → IsKept Coherent opening bytes script (record { dn = dn; seen = later; mine = given; room = places; last = last })
  kept_on same =
      kept_later Coherent opening bytes script dn room last seen mine kept (record { dn = dn; seen = later; mine = given; room = places; last = last }) refl known follow
      (λ coherent. ap (has_event is_bad) same ∙ kept.no_bad coherent)

  pub done_on : given ≡ mine → Coherent → HaveLed script dn last later given
  done_on same coherent =
      let was = led coherent in
      subst (λ (l : List Event). HaveLed script dn last later l) (sym same)
      (led_on script dn last seen mine later begins
      (for_on script dn Coherent opening bytes coherent last seen later begins follow (known ∙ (same ∙ sym kept.own)) was.for_lines) was)

  since_follow : AllFollow (Follows Coherent opening bytes script) [] (seen ++ begins.0)
  since_follow = subst (λ (l : List Event). AllFollow (Follows Coherent opening bytes script) [] l) begins.1 follow

  -- and it stays away from what it deleted
  pub stays_on : given ≡ mine → (Coherent → StaysAway opening dn seen) → Coherent → StaysAway opening dn later
  stays_on same away coherent =
      subst (StaysAway opening dn) (sym begins.1)
      (away_on Coherent opening bytes script coherent (kept.numbered coherent) dn seen begins.0 since_follow
      (others_go_on dn seen begins.0 mine kept.own (ap (events_of dn) (sym begins.1) ∙ (known ∙ same))) (away coherent))

  module _ (kind : EventKind) (no_bad : Coherent → is_bad kind ≡ false) (more : given ≡ mine ++ by_node dn kind ∷ []) where
    pub kept_more : (then : List ℕ) → IsKept Coherent opening bytes script (record { dn = dn; seen = later; mine = given; room = places; last = then })
    kept_more then =
        kept_later Coherent opening bytes script dn room last seen mine kept (record { dn = dn; seen = later; mine = given; room = places; last = then }) refl known follow
        (λ coherent. ap (has_event is_bad) more ∙ none_more mine (by_node dn kind) (kept.no_bad coherent) (no_bad coherent))

    pub stays_more : PutsUntold kind seen → (Coherent → StaysAway opening dn seen) → Coherent → StaysAway opening dn later
    stays_more untold away coherent =
        let own = known ∙ (more ∙ ap (λ (l : List Event). l ++ by_node dn kind ∷ []) (sym kept.own)) in
        subst (StaysAway opening dn) (sym begins.1)
        (away_noted Coherent opening bytes script coherent (kept.numbered coherent) dn seen begins.0 kind since_follow
        (same_rest (events_of dn seen) (events_of dn begins.0) (by_node dn kind ∷ []) (sym (its_parts dn seen begins.0) ∙ (ap (events_of dn) (sym begins.1) ∙ own)))
        untold (away coherent))

    pub noted_more : IsUncommanded kind → Coherent → HaveLed script dn last later given
    noted_more none coherent =
        let was = led coherent in
        subst (λ (l : List Event). HaveLed script dn last later l) (sym more)
        (led_noted script dn last seen mine later begins kind none
        (for_noted script dn Coherent opening bytes coherent last seen later kind none begins follow
        (known ∙ (more ∙ ap (λ (l : List Event). l ++ by_node dn kind ∷ []) (sym kept.own))) was.for_lines) was)

  -- a line had something done, right behind what was seen then
  pub done_more : (line : Line) (done : NodeCommand) → line.client ≤ MOST_CLIENTS → last_of last line.client < line.number
      → (before : List Event) → BeginsWith before seen → BeginsWith later (before ++ by_node dn (done_kind dn done) ∷ [])
      → (Coherent → HasItDone script before dn done line) → is_told line.client line.number before ≡ false
      → given ≡ mine ++ by_node dn (done_kind dn done) ∷ []
      → Coherent → HaveLed script dn (slice_set last line.client line.number) later given
  done_more line done few behind before begun ends by untold more coherent =
      let Follow = Follows Coherent opening bytes script in
      let event = by_node dn (done_kind dn done) in
      let was = led coherent in
      let all : AllFollow Follow [] ((before ++ event ∷ []) ++ ends.0) = subst (λ (l : List Event). AllFollow Follow [] l) ends.1 follow in
      let all_behind : AllFollow Follow [] (before ++ event ∷ []) = follow_front Follow [] (before ++ event ∷ []) ends.0 all in
      let all_before : AllFollow Follow [] before = follow_front Follow [] before (event ∷ []) all_behind in
      let own = own_before dn event refl seen before ends.0 mine later kept.own begun ends.1 (known ∙ more) in
      let own_then = own_behind dn event refl seen before ends.0 mine later kept.own begun ends.1 (known ∙ more) in
      let here = for_on script dn Coherent opening bytes coherent last seen before begun all_before (own ∙ sym kept.own) was.for_lines in
      let now = for_done script dn last before line done (omega (arith, few, was.many)) behind (by coherent) untold here in
      let then = for_on script dn Coherent opening bytes coherent (slice_set last line.client line.number) (before ++ event ∷ []) later ends follow
      (known ∙ (more ∙ sym own_then)) now in
      let by_then = done_later script before later dn done line (begins_through later (before ++ event ∷ []) before ends (event ∷ [], refl)) (by coherent) in
      subst (λ (l : List Event). HaveLed script dn (slice_set last line.client line.number) later l) (sym more)
      (led_done script dn last seen mine later begins line few behind done by_then was then)

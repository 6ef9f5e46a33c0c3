-- A datanode stays away from what it deleted in each story that goes on, where what its seat puts is for a line that wasn't told.
use Rattle.std.proofs.Common.{◌≡◌, ◌≢◌, ℕ, Bool, true, false, List, [], ◌∷◌, ◌++◌, eq-eqb, refl, sym, ap, ◌∙◌, subst, append_assoc}
use Rattle.std.proofs.lemmas.Bool.{false≢true}
use Rattle.std.proofs.lemmas.List.Elements.{All-cons, All-contains, All-nil}
use Rattle.std.specs.Prelude.{All}
use Rattle.oz_asker.specs.laws.Asks.{legal_of_follow}
use Rattle.oz_buffer.specs.Buffer.{AllFollow, Follows}
use Rattle.oz_core.specs.declared.event.Event.{Event}
use Rattle.oz_core.specs.declared.event.EventKind.{EventKind}
use Rattle.oz_core.specs.declared.event.EventKind.TheVariants.{CloseCommand, Delete, Halt, Put}
use Rattle.oz_core.specs.declared.event.Node.TheVariants.{Datanode}
use Rattle.oz_core.specs.declared.opening.Opening.{Opening}
use Rattle.oz_core.specs.Contents.{OpeningBytes}
use Rattle.oz_core.specs.Seats.{datanode_seat}
use Rattle.oz_repl.specs.views.Away.{StaysAway}
use Rattle.oz_repl.specs.views.laws.Untold.{away_behind, away_unput}
use Rattle.oz_script.specs.declared.lines.script.Script.{Script}
use Rattle.oz_node_events.specs.declared.command.NodeCommand.{NodeCommand}
use Rattle.oz_node_events.specs.declared.command.NodeCommand.TheVariants as command
use Rattle.oz_node_events.specs.Commands.{by_node}
use Rattle.oz_node_events.specs.Led.{done_kind}
use Rattle.oz_node_events.specs.NodeSeat.{NumbersAreOld, PutsUntold, events_of}
use Rattle.oz_node_events.proofs.Moving.{follow_front}
use Rattle.oz_node_events.proofs.Telling.{is_its, its_kept, its_left}

-- ---- events that put nothing

pub halt_untold : (dn count : ℕ) (story : List Event) → PutsUntold (Halt (Datanode dn) count) story
halt_untold dn count story n block id first size is = absurd (cc is)

pub delete_untold : (dn number : ℕ) (locals : List ℕ) (story : List Event) → PutsUntold (Delete dn number locals) story
delete_untold dn number locals story n block id first size is = absurd (cc is)

pub close_untold : (dn container : ℕ) (story : List Event) → PutsUntold (CloseCommand dn container) story
close_untold dn container story n block id first size is = absurd (cc is)

pub done_untold : (dn : ℕ) (done : NodeCommand) (story : List Event) → PutsUntold (done_kind dn done) story
done_untold dn command.Stop story n block id first size is = absurd (cc is)
done_untold dn command.Start story n block id first size is = absurd (cc is)
done_untold dn command.Wipe story n block id first size is = absurd (cc is)

-- ---- the datanode's events in a part of a story

-- where it gave none each is another's
others_all : (dn : ℕ) (more : List Event) → events_of dn more ≡ [] → All (λ (event : Event). event.seat ≢ datanode_seat dn) more
others_all dn [] none = All-nil (λ (event : Event). event.seat ≢ datanode_seat dn)
others_all dn (event ∷ more) none = by (is_its dn event) refl (others_all dn more)
  where
    by : (t : Bool) → is_its dn event ≡ t → (events_of dn more ≡ [] → All (λ (event : Event). event.seat ≢ datanode_seat dn) more)
        → All (λ (event : Event). event.seat ≢ datanode_seat dn) (event ∷ more)
    by true is rest = absurd (cc (sym (its_kept dn event more is) ∙ none))
    by false not rest =
        All-cons (λ (event : Event). event.seat ≢ datanode_seat dn) event more (λ same. false≢true (sym not ∙ eq-eqb event.seat (datanode_seat dn) same))
        (rest (sym (its_left dn event more not) ∙ none))

-- where it gave one, others' events stand before it and behind it
record IsOne (dn : ℕ) (event : Event) (more : List Event) : Type 0 where
  before : List Event
  behind : List Event
  parts : more ≡ before ++ event ∷ behind
  none_before : events_of dn before ≡ []
  none_behind : events_of dn behind ≡ []

same_first : (one other : Event) (ones others : List Event) → one ∷ ones ≡ other ∷ others → one ≡ other
same_first one other ones others same = cc

same_others : (one other : Event) (ones others : List Event) → one ∷ ones ≡ other ∷ others → ones ≡ others
same_others one other ones others same = cc

one_of : (dn : ℕ) (event : Event) (more : List Event) → events_of dn more ≡ event ∷ [] → IsOne dn event more
one_of dn event [] one = absurd cc
one_of dn event (head ∷ more) one = by (is_its dn head) refl (one_of dn event more)
  where
    by : (t : Bool) → is_its dn head ≡ t → (events_of dn more ≡ event ∷ [] → IsOne dn event more) → IsOne dn event (head ∷ more)
    by true is rest =
        let same : head ∷ events_of dn more ≡ event ∷ [] = sym (its_kept dn head more is) ∙ one in
        record {
          before = [];
          behind = more;
          parts = ap (λ (e : Event). e ∷ more) (same_first head event (events_of dn more) [] same);
          none_before = refl;
          none_behind = same_others head event (events_of dn more) [] same;
        }
    by false not rest =
        let found = rest (sym (its_left dn head more not) ∙ one) in
        record {
          before = head ∷ found.before;
          behind = found.behind;
          parts = ap (λ (l : List Event). head ∷ l) found.parts;
          none_before = its_left dn head found.before not ∙ found.none_before;
          none_behind = found.none_behind;
        }

-- ---- a story that goes on

module _ (Coherent : Type 0) (opening : Opening) (bytes : OpeningBytes) (script : Script) (coherent : Coherent) (numbered : NumbersAreOld opening) (dn : ℕ) where
  abbrev All-follow : List Event → Type 0
  All-follow story = AllFollow (Follows Coherent opening bytes script) [] story

  -- by others' events
  pub away_on : (seen more : List Event) → AllFollow (Follows Coherent opening bytes script) [] (seen ++ more) → events_of dn more ≡ []
      → StaysAway opening dn seen → StaysAway opening dn (seen ++ more)
  away_on seen more all none away =
      away_unput opening dn more seen (legal_of_follow Coherent opening bytes script (seen ++ more) coherent all) numbered away
      (λ block id first count there.
      All-contains (λ (event : Event). event.seat ≢ datanode_seat dn) more (record { seat = datanode_seat dn; kind = Put dn block id first count })
      (others_all dn more none) there refl)

  -- by one of its own, which puts nothing for a line that was told
  pub away_noted : (seen since : List Event) (kind : EventKind) → AllFollow (Follows Coherent opening bytes script) [] (seen ++ since)
      → events_of dn since ≡ by_node dn kind ∷ [] → PutsUntold kind seen → StaysAway opening dn seen → StaysAway opening dn (seen ++ since)
  away_noted seen since kind all one untold away =
      let Follow = Follows Coherent opening bytes script in
      let event = by_node dn kind in
      let found = one_of dn event since one in
      let here = seen ++ found.before in
      let parts : seen ++ since ≡ (here ++ event ∷ []) ++ found.behind =
      ap (λ (l : List Event). seen ++ l) found.parts
      ∙ (sym (append_assoc seen found.before (event ∷ found.behind)) ∙ sym (append_assoc here (event ∷ []) found.behind)) in
      let whole : All-follow ((here ++ event ∷ []) ++ found.behind) = subst All-follow parts all in
      let all_then : All-follow (here ++ event ∷ []) = follow_front Follow [] (here ++ event ∷ []) found.behind whole in
      let away_here = away_on seen found.before (follow_front Follow [] here (event ∷ []) all_then) found.none_before away in
      let away_then =
      away_behind opening dn here event (legal_of_follow Coherent opening bytes script (here ++ event ∷ []) coherent all_then) numbered away_here
      (λ block id first count is. record {
        place = seen;
        since = found.before;
        parts = refl;
        none = others_all dn found.before found.none_before;
        untold = untold dn block id first count is;
      }) in
      subst (StaysAway opening dn) (sym parts) (away_on (here ++ event ∷ []) found.behind whole found.none_behind away_then)

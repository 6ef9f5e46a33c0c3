-- Each answer of a member stands in the story that who noted it has seen.
use Rattle.std.proofs.Common.{◌≡◌, ⊎_elim, inl, inr, ℕ, Bool, true, ◌||◌, ◌==◌, List, [], ◌∷◌, ◌++◌, Option, None, Some, Contains, eq-eqb, refl, sym, ap, ◌∙◌, subst, append_assoc, append-nil, arith}
use Rattle.std.proofs.Math.Bool.{or-true}
use Rattle.std.proofs.lemmas.Bool.{and_from, or_left}
use Rattle.std.proofs.lemmas.List.Elements.{Contains-append_left, Contains-append_right}
use Rattle.std.proofs.lemmas.List.Folds.{list_any-append}
use Rattle.std.specs.Prelude.{length, map, take}
use Rattle.oz_core.specs.declared.event.Event.{Event}
use Rattle.oz_core.specs.declared.event.EventKind.{EventKind}
use Rattle.oz_core.specs.declared.event.Node.{Node}
use Rattle.oz_core.specs.declared.event.PutRefusal.{PutRefusal}
use Rattle.oz_core.specs.declared.opening.Opening.{Opening}
use Rattle.oz_core.specs.Contents.{OpeningBytes}
use Rattle.oz_core.specs.Law.{puts}
use Rattle.oz_core.specs.Nodes.{holds, is_block}
use Rattle.oz_core.specs.Stories.{has_event}
use Rattle.oz_datanode.specs.Datanode.{State, count_of, is_halted}
use Rattle.oz_fields.specs.declared.block.Block.{Block}
use Rattle.oz_entries.specs.Node.{is_held}
use Rattle.oz_script.specs.declared.lines.script.Script.{Script}
use Rattle.oz_replicas.specs.Notes.{Goes, Subject}
use Rattle.oz_replicas.specs.Outcomes.{HasAlready}
use Rattle.oz_replicas.specs.Reading.{IsFirstGiven, ReadsShort}
use Rattle.oz_replicas.specs.Stays.{Stays}
use Rattle.oz_replicas.specs.Writing.{Answered, AllAnswered, ComesWith, StopsShort}
use Rattle.oz_replicas.specs.declared.note.Note.{Note}
use Rattle.oz_replicas.specs.declared.note.Note.TheVariants as notes
use Rattle.oz_requests.specs.declared.request.AskId.{AskId}
use Rattle.oz_turn.specs.Told.{BeginsWith}
use Rattle.oz_world.specs.Disk.{Images}
use Rattle.oz_node_events.specs.Answers.{AnswerStands, AnswersStand, HadIt}
use Rattle.oz_node_events.specs.NodeSeat.{SeatView, StandsFor}
use Rattle.oz_node_events.specs.Noting.{AreTold, HasSeen, IsNotedBy, IsSameNoter, NotingView, StandIn, event_of}
use Rattle.oz_node_events.proofs.Following.{not_halted}

-- ---- an event that stands in a story

among : (front behind : List Event) (event : Event) (story : List Event) → story ≡ front ++ event ∷ behind → Contains story event
among front behind event story is =
    subst (λ (l : List Event). Contains l event) (sym is)
    (Contains-append_right front (event ∷ behind) event (Contains-append_left (event ∷ []) behind event (0, omega arith, refl)))

happened : (is : EventKind → Bool) (front behind : List Event) (event : Event) (story : List Event) → story ≡ front ++ event ∷ behind
    → is event.kind ≡ true → has_event is story ≡ true
happened is front behind event story parts so =
    ap (has_event is) parts
    ∙ (list_any-append (λ (e : Event). is e.kind) front (event ∷ behind)
    ∙ (ap (λ (t : Bool). has_event is front || (t || has_event is behind)) so ∙ or-true (has_event is front)))

pub same_block : (block : Block) → is_block block block ≡ true
same_block block =
    and_from (block.container == block.container) (block.local == block.local) (eq-eqb block.container block.container refl) (eq-eqb block.local block.local refl)

-- ---- in longer stories

longer : (a b c : List Event) → c ≡ b → BeginsWith b a → BeginsWith c a
longer a b c same begins = (begins.0, same ∙ begins.1)

module _ (Coherent : Type 0) (opening : Opening) (id : AskId) (block : Block) where
  had_later : (seen since : List Event) (dn : ℕ) → HadIt Coherent opening block seen dn → HadIt Coherent opening block (seen ++ since) dn
  had_later seen since dn had = record {
    moment = had.moment;
    goes_on = (had.goes_on.0 ++ since, ap (λ l. l ++ since) had.goes_on.1 ∙ append_assoc had.moment had.goes_on.0 since);
    held = had.held;
  }

  stands_later : (seen since : List Event) (dn : ℕ) (answer : Option PutRefusal) → AnswerStands Coherent opening id block seen dn answer
      → AnswerStands Coherent opening id block (seen ++ since) dn answer
  stands_later seen since dn None stands =
      ⊎_elim
      (λ put. inl (list_any-append (λ (e : Event). puts dn block e.kind) seen since ∙ or_left (has_event (puts dn block) seen) (has_event (puts dn block) since) put))
      (λ had. inr (had_later seen since dn had)) stands
  stands_later seen since dn (Some refusal) stands = Contains-append_left seen since _ stands

  -- ---- one member

  put_told : (first dn size : ℕ) (since : List Event) → StandIn (event_of id first (notes.Put dn block size) ∷ []) since
      → has_event (puts dn block) since ≡ true
  put_told first dn size since stand =
      happened (puts dn block) stand.0 stand.1.0 (event_of id first (notes.Put dn block size)) since stand.1.1.0
      (and_from (dn == dn) (is_block block block) (eq-eqb dn dn refl) (same_block block))

  refused_told : (first dn : ℕ) (refusal : PutRefusal) (since : List Event) → StandIn (event_of id first (notes.Refused dn block refusal) ∷ []) since
      → Contains since (event_of id first (notes.Refused dn block refusal))
  refused_told first dn refusal since stand = among stand.0 stand.1.0 (event_of id first (notes.Refused dn block refusal)) since stand.1.1.0

  after_halt : (first dn count : ℕ) (refusal : PutRefusal) (since : List Event)
      → StandIn (event_of id first (notes.Halt dn count) ∷ event_of id first (notes.Refused dn block refusal) ∷ []) since
      → Contains since (event_of id first (notes.Refused dn block refusal))
  after_halt first dn count refusal since stand =
      subst (λ (l : List Event). Contains l (event_of id first (notes.Refused dn block refusal))) (sym stand.1.1.0)
      (Contains-append_right stand.0 (event_of id first (notes.Halt dn count) ∷ stand.1.0) (event_of id first (notes.Refused dn block refusal))
      (Contains-append_right (event_of id first (notes.Halt dn count) ∷ []) stand.1.0 (event_of id first (notes.Refused dn block refusal))
      (refused_told first dn refusal stand.1.0 stand.1.1.1)))

  put_behind : (seen since : List Event) (dn : ℕ) → has_event (puts dn block) since ≡ true → has_event (puts dn block) (seen ++ since) ≡ true
  put_behind seen since dn put =
      list_any-append (λ (e : Event). puts dn block e.kind) seen since
      ∙ (ap (λ (t : Bool). has_event (puts dn block) seen || t) put ∙ or-true (has_event (puts dn block) seen))

  -- what a member answered stands behind what was seen before
  answer_told : (dn size first : ℕ) (answer : Option PutRefusal) (said : List Note) (seen since : List Event)
      → ComesWith dn block size answer said → StandIn (map (event_of id first) said) since
      → (said ≡ [] → HadIt Coherent opening block (seen ++ since) dn) → AnswerStands Coherent opening id block (seen ++ since) dn answer
  answer_told dn size first None said seen since comes stand had =
      ⊎_elim
      (λ none. inr (had none))
      (λ put. inl (put_behind seen since dn (put_told first dn size since (subst (λ (l : List Note). StandIn (map (event_of id first) l) since) put stand))))
      comes
  answer_told dn size first (Some refusal) said seen since comes stand had =
      Contains-append_right seen since _ (⊎_elim
      (λ is. refused_told first dn refusal since (subst (λ (l : List Note). StandIn (map (event_of id first) l) since) is stand))
      (λ halt. after_halt first dn halt.0 refusal since (subst (λ (l : List Note). StandIn (map (event_of id first) l) since) halt.2 stand))
      comes)

-- ---- all members

same_told : (id other : AskId) (first place : ℕ) (said : List Note) (seen later : List Event) → other ≡ id → place ≡ first
    → AreTold other place said seen later → AreTold id first said seen later
same_told id other first place said seen later same at told =
    subst (λ (i : AskId). AreTold i first said seen later) same (subst (λ (n : ℕ). AreTold other n said seen later) at told)

-- a noter is as it was, but for what it has seen, and that goes on
pub same_itself : (one : NotingView) → IsSameNoter one one
same_itself one = record { same = refl; goes_on = ([], sym (append-nil one.seen)) }

same_through : (one two three : NotingView) → IsSameNoter one two → IsSameNoter two three → IsSameNoter one three
same_through one two three first then = record {
  same = then.same ∙ ap (λ (v : NotingView). record { reference = v.reference; by = v.by; seen = three.seen; mine = v.mine; room = v.room; id = v.id; first = v.first; subject = v.subject }) first.same;
  goes_on = (
    first.goes_on.0 ++ then.goes_on.0,
    then.goes_on.1 ∙ (ap (λ l. l ++ then.goes_on.0) first.goes_on.1 ∙ append_assoc one.seen first.goes_on.0 then.goes_on.0),
  );
}

same_by : (one other : NotingView) (said : List Note) → IsNotedBy one said other → IsSameNoter one other
same_by one other said so = record { same = so.same; goes_on = (so.told.since, so.told.goes_on) }

module _ {D : Type 0} (told : D → Option (List ℕ)) (clock : D → ℕ) (image : D → Images) (faults : D → ℕ) (Coherent : Type 0) (opening : Opening)
    (bytes : OpeningBytes) (script : Script) (loaded : Node → ℕ) (subject : Subject) where
  abbrev Stands : SeatView → State D → Type 0
  Stands = StandsFor told clock image faults Coherent opening bytes script loaded

  pub all_same : (members : List ℕ) (answers : List (Option PutRefusal)) (before after : NotingView)
      → AllAnswered told clock image faults (StandsFor told clock image faults Coherent opening bytes script loaded) IsNotedBy HasSeen subject members answers before after → IsSameNoter before after
  all_same [] [] before after all = subst (IsSameNoter before) (sym all) (same_itself before)
  all_same [] (answer ∷ answers) before after all = absurd all
  all_same (dn ∷ members) [] before after all = absurd all
  all_same (dn ∷ members) (answer ∷ answers) before after all =
      same_through before all.0 after (same_by before all.0 all.1.0.said all.1.0.told_so) (all_same members answers all.0 after all.1.1)

  pub short_same : (members : List ℕ) (before after : NotingView)
      → StopsShort told clock image faults (StandsFor told clock image faults Coherent opening bytes script loaded) IsNotedBy HasSeen subject members before after → IsSameNoter before after
  short_same members before after short =
      same_through before short.reached after (all_same (take (length short.answers) members) short.answers before short.reached short.all) (same_by short.reached after [] short.none)

  pub given_same : (size : ℕ) (members : List ℕ) (given : Option (List ℕ)) (before after : NotingView)
      → IsFirstGiven told clock image faults (StandsFor told clock image faults Coherent opening bytes script loaded) IsNotedBy HasSeen subject size members given before after → IsSameNoter before after
  given_same size [] given before after first = subst (IsSameNoter before) (sym first.1) (same_itself before)
  given_same size (dn ∷ members) given before after first =
      ⊎_elim
      (λ gave. same_by before after gave.1.1.said gave.1.1.told_so)
      (λ none. same_through before none.0 after (same_by before none.0 none.1.0.said none.1.0.told_so) (given_same size members given none.0 after none.1.1))
      first

  pub reads_short_same : (size : ℕ) (members : List ℕ) (before after : NotingView)
      → ReadsShort told clock image faults (StandsFor told clock image faults Coherent opening bytes script loaded) IsNotedBy HasSeen subject size members before after → IsSameNoter before after
  reads_short_same size members before after short =
      same_through before short.reached after (given_same size (take short.count members) None before short.reached short.none_gave) (same_by short.reached after [] short.none)

  held_now : (dn : ℕ) (story : List Event) (old node : State D) (value : SeatView) → old.id ≡ dn → Stays told clock image faults old node
      → StandsFor told clock image faults Coherent opening bytes script loaded value node → BeginsWith story value.seen → HasAlready faults subject.block old
      → HadIt Coherent opening subject.block story dn
  held_now dn story old node value its same stood begins has = record {
    moment = value.seen;
    goes_on = begins;
    held = λ coherent.
        ap (λ (n : ℕ). holds opening value.seen n subject.block) (sym its ∙ (sym same.id ∙ stood.number))
        ∙ (stood.held coherent (same.halted ∙ not_halted (is_halted old) (count_of faults old) _ has.served.ran) subject.block
        ∙ (ap (λ n. is_held n subject.block) same.node ∙ has.held));
  }

  one_stands : (id : AskId) (first dn : ℕ) (answer : Option PutRefusal) (before after : NotingView) → before.id ≡ id → before.first ≡ first
      → Answered told clock image faults (StandsFor told clock image faults Coherent opening bytes script loaded) IsNotedBy HasSeen subject dn answer before after → AnswerStands Coherent opening id subject.block after.seen dn answer
  one_stands id first dn answer before after its at so =
      let is = same_told id before.id first before.first so.said before.seen after.seen its at so.told_so.told in
      let comes = subst (λ (n : ℕ). ComesWith n subject.block (length subject.bytes) answer so.said) so.member so.answers.noted_so in
      subst (λ (l : List Event). AnswerStands Coherent opening id subject.block l dn answer) (sym is.goes_on)
      (answer_told Coherent opening id subject.block dn (length subject.bytes) first answer so.said before.seen is.since comes is.told
      (λ none. subst (λ (l : List Event). HadIt Coherent opening subject.block l dn) is.goes_on
      (held_now dn after.seen so.old so.new so.left.0 so.member
      (subst (λ (l : List Note). Goes told clock image faults subject l so.old so.new) none so.answers.goes)
      so.left.1.0 so.left.1.1 (so.answers.already none))))

  pub answers_stand : (id : AskId) (first : ℕ) (members : List ℕ) (answers : List (Option PutRefusal)) (before after : NotingView) → before.id ≡ id → before.first ≡ first
      → AllAnswered told clock image faults (StandsFor told clock image faults Coherent opening bytes script loaded) IsNotedBy HasSeen subject members answers before after
      → AnswersStand Coherent opening id subject.block after.seen members answers
  answers_stand id first [] [] before after its at all = tt
  answers_stand id first [] (answer ∷ answers) before after its at all = absurd all
  answers_stand id first (dn ∷ members) [] before after its at all = absurd all
  answers_stand id first (dn ∷ members) (answer ∷ answers) before after its at all =
      let rest = (all_same members answers all.0 after all.1.1).goes_on in (
        subst (λ (l : List Event). AnswerStands Coherent opening id subject.block l dn answer) (sym rest.1)
            (stands_later Coherent opening id subject.block all.0.seen rest.0 dn answer (one_stands id first dn answer before all.0 its at all.1.0)),
        answers_stand id first members answers all.0 after (ap (λ (v : NotingView). v.id) all.1.0.told_so.same ∙ its) (ap (λ (v : NotingView). v.first) all.1.0.told_so.same ∙ at) all.1.1,
      )

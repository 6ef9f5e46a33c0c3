-- What members answer stands in the story behind what was seen before, but of one that had the block already.
use Rattle.std.proofs.Common.{◌≡◌, ◌⊎◌, ⊎_elim, inl, inr, ℕ, Bool, true, false, ◌||◌, ◌==◌, List, [], ◌∷◌, ◌++◌, Option, None, Some, Contains, eq-eqb, refl, sym, ap, ◌∙◌, subst, append_assoc, append-nil, cond, arith}
use Rattle.std.proofs.Math.Bool.{or-true}
use Rattle.std.proofs.Math.Seq.{drop-append_seam}
use Rattle.std.proofs.lemmas.Bool.{and_from}
use Rattle.std.proofs.lemmas.List.{take-append-drop}
use Rattle.std.proofs.lemmas.List.Elements.{Contains-append_left, Contains-append_right}
use Rattle.std.proofs.lemmas.List.Folds.{list_any-append}
use Rattle.std.specs.Prelude.{drop, length, map, take}
use Rattle.oz_core.specs.declared.event.Event.{Event}
use Rattle.oz_core.specs.declared.event.EventKind.{EventKind}
use Rattle.oz_core.specs.declared.event.EventKind.TheVariants.{Refused}
use Rattle.oz_core.specs.declared.event.Node.{Node}
use Rattle.oz_core.specs.declared.event.PutRefusal.{PutRefusal}
use Rattle.oz_core.specs.declared.opening.Opening.{Opening}
use Rattle.oz_core.specs.Contents.{OpeningBytes}
use Rattle.oz_core.specs.Law.{puts}
use Rattle.oz_core.specs.Nodes.{holds, is_block}
use Rattle.oz_core.specs.Seats.{datanode_seat}
use Rattle.oz_core.specs.Stories.{has_event}
use Rattle.oz_datanode.specs.Datanode.{State, count_of, is_halted}
use Rattle.oz_entries.specs.Node.{is_held}
use Rattle.oz_fields.specs.declared.block.Block.{Block}
use Rattle.oz_node_events.specs.Answers.{HadIt}
use Rattle.oz_node_events.specs.NodeSeat.{SeatView, StandsFor}
use Rattle.oz_node_events.specs.Noting.{HasSeen, IsNotedBy, IsSameNoter, NotingView, StandIn, event_of}
use Rattle.oz_replicas.specs.Notes.{Goes, Subject}
use Rattle.oz_replicas.specs.Outcomes.{HasAlready}
use Rattle.oz_replicas.specs.Stays.{Stays}
use Rattle.oz_replicas.specs.Writing.{AllAnswered, Answered, ComesWith}
use Rattle.oz_replicas.specs.declared.note.Note.{Note}
use Rattle.oz_replicas.specs.declared.note.Note.TheVariants as notes
use Rattle.oz_requests.specs.declared.request.AskId.{AskId}
use Rattle.oz_script.specs.declared.lines.script.Script.{Script}
use Rattle.oz_turn.specs.Told.{BeginsWith}
use Rattle.oz_underway.specs.UnderWay.{HasAnswered, HaveAnswered}
use Rattle.oz_world.specs.Disk.{Images}
use Rattle.oz_line_blocks.specs.writing.Unknown.{AllCame, Came, HadItAlready}

-- ---- an event that stands in a story

among : (front behind : List Event) (event : Event) (story : List Event) → story ≡ front ++ event ∷ behind → Contains story event
among front behind event story is =
    subst (λ (l : List Event). Contains l event) (sym is)
    (Contains-append_right front (event ∷ behind) event (Contains-append_left (event ∷ []) behind event (0, omega arith, refl)))

happened : (is : EventKind → Bool) (front behind : List Event) (event : Event) (story : List Event) → story ≡ front ++ event ∷ behind
    → is event.kind ≡ true → has_event is story ≡ true
happened is front behind event story parts so =
    ap (has_event is) parts
    ∙ (list_any-append (λ (e : Event). is e.kind) front (event ∷ behind)
    ∙ (ap (λ (t : Bool). has_event is front || (t || has_event is behind)) so ∙ or-true (has_event is front)))

same_block : (block : Block) → is_block block block ≡ true
same_block block =
    and_from (block.container == block.container) (block.local == block.local) (eq-eqb block.container block.container refl) (eq-eqb block.local block.local refl)

-- what happened within a part of a list of events happened in it
has_in : (is : EventKind → Bool) (front part behind : List Event) → has_event is part ≡ true → has_event is (front ++ (part ++ behind)) ≡ true
has_in is front part behind so =
    list_any-append (λ (e : Event). is e.kind) front (part ++ behind)
    ∙ (ap (λ (t : Bool). has_event is front || t)
    (list_any-append (λ (e : Event). is e.kind) part behind ∙ ap (λ (t : Bool). t || has_event is behind) so)
    ∙ or-true (has_event is front))

module _ (id : AskId) (block : Block) (front part behind : List Event) where
  answered_in : (dn : ℕ) (answer : Option PutRefusal) → HasAnswered part id block dn answer → HasAnswered (front ++ (part ++ behind)) id block dn answer
  answered_in dn None put = has_in (puts dn block) front part behind put
  answered_in dn (Some refusal) there =
      let event : Event = record { seat = datanode_seat dn; kind = Refused dn block id refusal } in
      Contains-append_right front (part ++ behind) event (Contains-append_left part behind event there)

  pub all_answered_in : (dns : List ℕ) (answers : List (Option PutRefusal)) → HaveAnswered part id block dns answers
      → HaveAnswered (front ++ (part ++ behind)) id block dns answers
  all_answered_in [] [] have = have
  all_answered_in [] (answer ∷ answers) have = have
  all_answered_in (dn ∷ dns) [] have = have
  all_answered_in (dn ∷ dns) (answer ∷ answers) have = (answered_in dn answer have.0, all_answered_in dns answers have.1)

-- what stands behind a front of a story stands in it
pub answered_whole : (id : AskId) (block : Block) (n : ℕ) (story : List Event) (dns : List ℕ) (answers : List (Option PutRefusal))
    → HaveAnswered (drop n story) id block dns answers → HaveAnswered story id block dns answers
answered_whole id block n story dns answers have =
    subst (λ (l : List Event). HaveAnswered l id block dns answers) (ap (λ (l : List Event). take n story ++ l) (append-nil (drop n story)) ∙ take-append-drop n story)
    (all_answered_in id block (take n story) (drop n story) [] dns answers have)

-- what is behind the first list once more is behind the second
behind_both : (a b c one two : List Event) → b ≡ a ++ one → c ≡ b ++ two → drop (length a) c ≡ one ++ two
behind_both a b c one two first then =
    ap (drop (length a)) (then ∙ (ap (λ l. l ++ two) first ∙ append_assoc a one two)) ∙ drop-append_seam a (one ++ two)

module _ (Coherent : Type 0) (opening : Opening) (id : AskId) (block : Block) where
  -- ---- in longer stories

  had_later : (story later : List Event) (dn : ℕ) → BeginsWith later story → HadIt Coherent opening block story dn → HadIt Coherent opening block later dn
  had_later story later dn begins had = record {
    moment = had.moment;
    goes_on = (
      had.goes_on.0 ++ begins.0,
      begins.1 ∙ (ap (λ l. l ++ begins.0) had.goes_on.1 ∙ append_assoc had.moment had.goes_on.0 begins.0),
    );
    held = had.held;
  }

  came_in : (story later front part behind : List Event) (dn : ℕ) (answer : Option PutRefusal) → BeginsWith later story
      → Came Coherent opening id block story part dn answer → Came Coherent opening id block later (front ++ (part ++ behind)) dn answer
  came_in story later front part behind dn answer begins came = ⊎_elim
      (λ answered. inl (answered_in id block front part behind dn answer answered))
      (λ had. inr (had.0, had_later story later dn begins had.1))
      came

  pub all_came_in : (story later front part behind : List Event) (dns : List ℕ) (answers : List (Option PutRefusal)) → BeginsWith later story
      → AllCame Coherent opening id block story part dns answers → AllCame Coherent opening id block later (front ++ (part ++ behind)) dns answers
  all_came_in story later front part behind [] [] begins all = all
  all_came_in story later front part behind [] (answer ∷ answers) begins all = all
  all_came_in story later front part behind (dn ∷ dns) [] begins all = all
  all_came_in story later front part behind (dn ∷ dns) (answer ∷ answers) begins all =
      (came_in story later front part behind dn answer begins all.0, all_came_in story later front part behind dns answers begins all.1)

  pub all_came_longer : (seen mid later : List Event) → BeginsWith mid seen → BeginsWith later mid → (dns : List ℕ) (answers : List (Option PutRefusal))
      → AllCame Coherent opening id block mid (drop (length seen) mid) dns answers → AllCame Coherent opening id block later (drop (length seen) later) dns answers
  all_came_longer seen mid later first then dns answers all =
      let part = ap (drop (length seen)) first.1 ∙ drop-append_seam seen first.0 in
      subst (λ (l : List Event). AllCame Coherent opening id block later l dns answers) (sym (behind_both seen mid later first.0 then.0 first.1 then.1))
      (all_came_in mid later [] first.0 then.0 dns answers then
      (subst (λ (l : List Event). AllCame Coherent opening id block mid l dns answers) part all))

  -- ---- one member

  put_told : (first dn size : ℕ) (since : List Event) → StandIn (event_of id first (notes.Put dn block size) ∷ []) since
      → has_event (puts dn block) since ≡ true
  put_told first dn size since stand =
      happened (puts dn block) stand.0 stand.1.0 (event_of id first (notes.Put dn block size)) since stand.1.1.0
      (and_from (dn == dn) (is_block block block) (eq-eqb dn dn refl) (same_block block))

  refused_told : (first dn : ℕ) (refusal : PutRefusal) (since : List Event) → StandIn (event_of id first (notes.Refused dn block refusal) ∷ []) since
      → Contains since (event_of id first (notes.Refused dn block refusal))
  refused_told first dn refusal since stand = among stand.0 stand.1.0 (event_of id first (notes.Refused dn block refusal)) since stand.1.1.0

  after_halt : (first dn count : ℕ) (refusal : PutRefusal) (since : List Event)
      → StandIn (event_of id first (notes.Halt dn count) ∷ event_of id first (notes.Refused dn block refusal) ∷ []) since
      → Contains since (event_of id first (notes.Refused dn block refusal))
  after_halt first dn count refusal since stand =
      subst (λ (l : List Event). Contains l (event_of id first (notes.Refused dn block refusal))) (sym stand.1.1.0)
      (Contains-append_right stand.0 (event_of id first (notes.Halt dn count) ∷ stand.1.0) (event_of id first (notes.Refused dn block refusal))
      (Contains-append_right (event_of id first (notes.Halt dn count) ∷ []) stand.1.0 (event_of id first (notes.Refused dn block refusal))
      (refused_told first dn refusal stand.1.0 stand.1.1.1)))

  came_told : (dn size first : ℕ) (answer : Option PutRefusal) (said : List Note) (story since : List Event)
      → ComesWith dn block size answer said → StandIn (map (event_of id first) said) since
      → (said ≡ [] → HadIt Coherent opening block story dn) → Came Coherent opening id block story since dn answer
  came_told dn size first None said story since comes stand had = ⊎_elim
      (λ none. inr (refl, had none))
      (λ put. inl (put_told first dn size since (subst (λ (l : List Note). StandIn (map (event_of id first) l) since) put stand)))
      comes
  came_told dn size first (Some refusal) said story since comes stand had =
      inl (⊎_elim
      (λ is. refused_told first dn refusal since (subst (λ (l : List Note). StandIn (map (event_of id first) l) since) is stand))
      (λ halt. after_halt first dn halt.0 refusal since (subst (λ (l : List Note). StandIn (map (event_of id first) l) since) halt.2 stand))
      comes)

  -- ---- all answers stand, or a member had the block

  first_of : (dn : ℕ) (dns : List ℕ) → Contains (dn ∷ dns) dn
  first_of dn dns = (0, omega arith, refl)

  unput_or_not : (dn : ℕ) (dns : List ℕ) (answer : Option PutRefusal) (since story : List Event) (put : Bool) → has_event (puts dn block) since ≡ put
      → answer ≡ None → HadIt Coherent opening block story dn
      → HasAnswered since id block dn answer ⊎ HadItAlready Coherent opening block (dn ∷ dns) since story
  unput_or_not dn dns answer since story true put none had = inl (subst (HasAnswered since id block dn) (sym none) put)
  unput_or_not dn dns answer since story false unput none had = inr (record { dn = dn; member = first_of dn dns; had = had; unput = unput })

  one_or_had : (dn : ℕ) (dns : List ℕ) (answer : Option PutRefusal) (since story : List Event) → Came Coherent opening id block story since dn answer
      → HasAnswered since id block dn answer ⊎ HadItAlready Coherent opening block (dn ∷ dns) since story
  one_or_had dn dns answer since story came = ⊎_elim
      (λ answered. inl answered)
      (λ had. unput_or_not dn dns answer since story (has_event (puts dn block) since) refl had.0 had.1)
      came

  one_more : (dn : ℕ) (dns : List ℕ) (since story : List Event) → HadItAlready Coherent opening block dns since story
      → HadItAlready Coherent opening block (dn ∷ dns) since story
  one_more dn dns since story had = record {
    dn = had.dn;
    member = Contains-append_right (dn ∷ []) dns had.dn had.member;
    had = had.had;
    unput = had.unput;
  }

  pub all_or_had : (dns : List ℕ) (answers : List (Option PutRefusal)) (since story : List Event) → AllCame Coherent opening id block story since dns answers
      → HaveAnswered since id block dns answers ⊎ HadItAlready Coherent opening block dns since story
  all_or_had [] [] since story all = inl tt
  all_or_had [] (answer ∷ answers) since story all = absurd all
  all_or_had (dn ∷ dns) [] since story all = absurd all
  all_or_had (dn ∷ dns) (answer ∷ answers) since story all = ⊎_elim
      (λ answered. ⊎_elim
      (λ rest. inl (answered, rest))
      (λ had. inr (one_more dn dns since story had))
      (all_or_had dns answers since story all.1))
      (λ had. inr had)
      (one_or_had dn dns answer since story all.0)

-- ---- what was noted

not_halted : (h : Bool) (count : ℕ) (rest : Option ℕ) → cond h (Some count) rest ≡ None → h ≡ false
not_halted true count rest none = absurd cc
not_halted false count rest none = refl

module _ {D : Type 0} (told : D → Option (List ℕ)) (clock : D → ℕ) (image : D → Images) (faults : D → ℕ) (Coherent : Type 0) (opening : Opening)
    (bytes : OpeningBytes) (script : Script) (loaded : Node → ℕ) (subject : Subject) where
  abbrev All : List ℕ → List (Option PutRefusal) → NotingView → NotingView → Type 0
  All = AllAnswered told clock image faults (StandsFor told clock image faults Coherent opening bytes script loaded) IsNotedBy HasSeen subject

  held_then : (dn : ℕ) (story : List Event) (old node : State D) (value : SeatView) → old.id ≡ dn → Stays told clock image faults old node
      → StandsFor told clock image faults Coherent opening bytes script loaded value node → BeginsWith story value.seen → HasAlready faults subject.block old
      → HadIt Coherent opening subject.block story dn
  held_then dn story old node value its same stood begins has = record {
    moment = value.seen;
    goes_on = begins;
    held = λ coherent.
        ap (λ (n : ℕ). holds opening value.seen n subject.block) (sym its ∙ (sym same.id ∙ stood.number))
        ∙ (stood.held coherent (same.halted ∙ not_halted (is_halted old) (count_of faults old) _ has.served.ran) subject.block
        ∙ (ap (λ n. is_held n subject.block) same.node ∙ has.held));
  }

  one_came : (id : AskId) (first dn : ℕ) (answer : Option PutRefusal) (before after : NotingView) → before.id ≡ id → before.first ≡ first
      → (so : Answered told clock image faults (StandsFor told clock image faults Coherent opening bytes script loaded) IsNotedBy HasSeen subject dn answer before after)
      → Came Coherent opening id subject.block after.seen so.told_so.told.since dn answer
  one_came id first dn answer before after its at so =
      let comes = subst (λ (n : ℕ). ComesWith n subject.block (length subject.bytes) answer so.said) so.member so.answers.noted_so in
      let stand : StandIn (map (event_of id first) so.said) so.told_so.told.since =
      subst (λ (i : AskId). StandIn (map (event_of i first) so.said) so.told_so.told.since) its
      (subst (λ (n : ℕ). StandIn (map (event_of before.id n) so.said) so.told_so.told.since) at so.told_so.told.told) in
      came_told Coherent opening id subject.block dn (length subject.bytes) first answer so.said after.seen so.told_so.told.since comes stand
      (λ none. held_then dn after.seen so.old so.new so.left.0 so.member
      (subst (λ (l : List Note). Goes told clock image faults subject l so.old so.new) none so.answers.goes)
      so.left.1.0 so.left.1.1 (so.answers.already none))

  pub all_came : (id : AskId) (first : ℕ) (same : (dns : List ℕ) (answers : List (Option PutRefusal)) (before after : NotingView) → All dns answers before after → IsSameNoter before after)
      → (dns : List ℕ) (answers : List (Option PutRefusal)) (before after : NotingView) → before.id ≡ id → before.first ≡ first → All dns answers before after
      → AllCame Coherent opening id subject.block after.seen (drop (length before.seen) after.seen) dns answers
  all_came id first same [] [] before after its at all = tt
  all_came id first same [] (answer ∷ answers) before after its at all = absurd all
  all_came id first same (dn ∷ dns) [] before after its at all = absurd all
  all_came id first same (dn ∷ dns) (answer ∷ answers) before after its at all =
      let mid = all.0 in
      let said = all.1.0.told_so.told in
      let rest = (same dns answers mid after all.1.1).goes_on in
      let parts = behind_both before.seen mid.seen after.seen said.since rest.0 said.goes_on rest.1 in
      let tail : drop (length mid.seen) after.seen ≡ rest.0 = ap (drop (length mid.seen)) rest.1 ∙ drop-append_seam mid.seen rest.0 in
      let others = all_came id first same dns answers mid after (ap (λ (v : NotingView). v.id) all.1.0.told_so.same ∙ its) (ap (λ (v : NotingView). v.first) all.1.0.told_so.same ∙ at) all.1.1 in
      subst (λ (l : List Event). AllCame Coherent opening id subject.block after.seen l (dn ∷ dns) (answer ∷ answers)) (sym parts) (
        came_in Coherent opening id subject.block mid.seen after.seen [] said.since rest.0 dn answer rest (one_came id first dn answer before mid its at all.1.0),
        subst (λ (l : List Event). AllCame Coherent opening id subject.block after.seen l dns answers) (append-nil_inside said.since rest.0)
            (all_came_in Coherent opening id subject.block after.seen after.seen said.since rest.0 [] dns answers (begins_self after.seen)
            (subst (λ (l : List Event). AllCame Coherent opening id subject.block after.seen l dns answers) tail others)),
      )
    where
      append-nil_inside : (a b : List Event) → a ++ (b ++ []) ≡ a ++ b
      append-nil_inside a b = ap (λ l. a ++ l) (append-nil b)

      begins_self : (l : List Event) → BeginsWith l l
      begins_self l = ([], sym (append-nil l))

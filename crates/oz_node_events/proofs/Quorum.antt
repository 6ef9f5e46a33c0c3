-- Two members that have a block have put it.
use Rattle.std.proofs.Common.{◌≡◌, ◌⊎◌, ⊎_elim, inl, inr, ℕ, zero, suc, ◌≤◌, Bool, true, false, ◌||◌, ◌&&◌, ◌==◌, cond, List, [], ◌∷◌, ◌++◌, Option, None, Some, Contains, eq-eqb, refl, sym, ap, ◌∙◌, subst, arith}
use Rattle.std.proofs.lemmas.Bool.{and_from, false≢true, or_left, or_right}
use Rattle.std.proofs.lemmas.List.Elements.{All-cons, All-nil}
use Rattle.std.proofs.lemmas.List.Folds.{list_any-append}
use Rattle.std.proofs.lemmas.List.Sums.{sum_by-cons}
use Rattle.std.specs.Prelude.{All, count_by, is_none}
use Rattle.oz_asker.specs.laws.Asks.{legal_of_follow, same_id}
use Rattle.oz_buffer.specs.Buffer.{AllFollow, Follows}
use Rattle.oz_core.specs.declared.event.Event.{Event}
use Rattle.oz_core.specs.declared.event.EventKind.{EventKind}
use Rattle.oz_core.specs.declared.event.EventKind.TheVariants.{Put, Copy, Refused}
use Rattle.oz_core.specs.declared.event.PutRefusal.{PutRefusal}
use Rattle.oz_core.specs.declared.opening.Opening.{Opening}
use Rattle.oz_core.specs.Asks.{is_id}
use Rattle.oz_core.specs.Coherent.{IdsAreFresh}
use Rattle.oz_core.specs.Contents.{OpeningBytes, WasGranted, WasThere}
use Rattle.oz_core.specs.Law.{WroteIsEnabled, puts, puts_or_copies, refuses}
use Rattle.oz_core.specs.Nodes.{is_block}
use Rattle.oz_core.specs.Seats.{datanode_seat}
use Rattle.oz_core.specs.Stories.{has_event}
use Rattle.oz_fields.specs.declared.block.Block.{Block}
use Rattle.oz_kept.specs.laws.Contents.{holder_got, its_grant}
use Rattle.oz_kept.specs.laws.Granted.{was_nowhere}
use Rattle.oz_script.specs.declared.lines.script.Script.{Script}
use Rattle.oz_requests.specs.declared.request.AskId.{AskId}
use Rattle.oz_turn.specs.Told.{BeginsWith}
use Rattle.oz_node_events.specs.Answers.{AnswerStands, AnswersStand, HadIt, HasQuorum, copies}
use Rattle.oz_node_events.proofs.Answering.{same_block}

-- ---- a block that came, and by no copy

neither : (a b : Bool) → (a || b) ≡ false → (a ≡ false) × (b ≡ false)
neither true b so = absurd (false≢true (sym so))
neither false b so = (refl, so)

more_told : (is : EventKind → Bool) (seen since : List Event) → has_event is seen ≡ true → has_event is (seen ++ since) ≡ true
more_told is seen since so =
    list_any-append (λ (event : Event). is event.kind) seen since ∙ or_left (has_event is seen) (has_event is since) so

by_put : (dn : ℕ) (block : Block) (kind : EventKind) → puts_or_copies dn block kind ≡ true → copies block kind ≡ false → puts dn block kind ≡ true
by_put dn block (Put other put id first count) so none = so
by_put dn block (Copy source target copied) so none = absurd (both (target == dn) (is_block block copied) so none)
  where
    both : (a b : Bool) → (a && b) ≡ true → b ≡ false → ⊥
    both true b so none = false≢true (sym none ∙ so)
    both false b so none = false≢true so
by_put dn block kind so none = absurd (false≢true so)

all_put : (dn : ℕ) (block : Block) (story : List Event) → has_event (puts_or_copies dn block) story ≡ true → has_event (copies block) story ≡ false
    → has_event (puts dn block) story ≡ true
all_put dn block [] so none = so
all_put dn block (event ∷ story) so none =
    by (puts_or_copies dn block event.kind) refl so
    (λ rest. all_put dn block story rest (neither (copies block event.kind) (has_event (copies block) story) none).1)
  where
    by : (t : Bool) → puts_or_copies dn block event.kind ≡ t → (t || has_event (puts_or_copies dn block) story) ≡ true
        → (has_event (puts_or_copies dn block) story ≡ true → has_event (puts dn block) story ≡ true)
        → (puts dn block event.kind || has_event (puts dn block) story) ≡ true
    by true is so rest =
        or_left (puts dn block event.kind) (has_event (puts dn block) story)
        (by_put dn block event.kind is (neither (copies block event.kind) (has_event (copies block) story) none).0)
    by false is so rest = or_right (puts dn block event.kind) (has_event (puts dn block) story) (rest so)

-- ---- a block that was granted

module _ (Coherent : Type 0) (opening : Opening) (bytes : OpeningBytes) (script : Script) (coherent : Coherent) (fresh : IdsAreFresh opening)
    (story before : List Event) (id : AskId) (block : Block) (all : AllFollow (Follows Coherent opening bytes script) [] story) (granted : WasGranted story id block before) where
  new : WasThere opening block → ⊥
  new =
      let legal = legal_of_follow Coherent opening bytes script story coherent all in
      was_nowhere opening story legal block id (its_grant opening story legal id block before granted) fresh

  came_then : (seen : List Event) (dn : ℕ) → HadIt Coherent opening block seen dn → has_event (puts_or_copies dn block) seen ≡ true
  came_then seen dn had =
      ⊎_elim
      (λ got. ap (has_event (puts_or_copies dn block)) had.goes_on.1 ∙ more_told (puts_or_copies dn block) had.moment had.goes_on.0 got)
      (λ was. absurd (new (dn, was)))
      (holder_got opening had.moment block dn (had.held coherent))

  pub granted_came : (dn : ℕ) → HadIt Coherent opening block story dn → has_event (puts_or_copies dn block) story ≡ true
  granted_came dn had = came_then story dn had

  module _ (seen : List Event) (goes_on : BeginsWith story seen) (uncopied : has_event (copies block) seen ≡ false) where
    later : (is : EventKind → Bool) → has_event is seen ≡ true → has_event is story ≡ true
    later is so = ap (has_event is) goes_on.1 ∙ more_told is seen goes_on.0 so

    has_put : (dn : ℕ) → AnswerStands Coherent opening id block seen dn None → has_event (puts dn block) story ≡ true
    has_put dn stands =
        later (puts dn block) (⊎_elim (λ put. put) (λ had. all_put dn block seen (came_then seen dn had) uncopied) stands)

    abbrev Answered : ℕ → Type 0
    Answered dn = (has_event (puts dn block) story ≡ true) ⊎ (has_event (refuses dn block id) story ≡ true)

    answered_one : (dn : ℕ) (answer : Option PutRefusal) → AnswerStands Coherent opening id block seen dn answer → Answered dn
    answered_one dn None stands = inl (has_put dn stands)
    answered_one dn (Some refusal) stands = inr (later (refuses dn block id) (told seen stands))
      where
        told : (l : List Event) → Contains l (record { seat = datanode_seat dn; kind = Refused dn block id refusal }) → has_event (refuses dn block id) l ≡ true
        told [] there = absurd (omega (arith, there.1))
        told (x ∷ l) (zero, lt, is) =
            or_left (refuses dn block id x.kind) (has_event (refuses dn block id) l)
            (ap (λ (e : Event). refuses dn block id e.kind) is
            ∙ and_from (dn == dn && is_block block block) (is_id id id) (and_from (dn == dn) (is_block block block) (eq-eqb dn dn refl) (same_block block)) (same_id id))
        told (x ∷ l) (suc k, lt, is) =
            or_right (refuses dn block id x.kind) (has_event (refuses dn block id) l) (told l (k, omega (arith, lt), is))

    all_answered : (dns : List ℕ) (answers : List (Option PutRefusal)) → AnswersStand Coherent opening id block seen dns answers → All Answered dns
    all_answered [] [] stand = All-nil Answered
    all_answered [] (answer ∷ answers) stand = absurd stand
    all_answered (dn ∷ dns) [] stand = absurd stand
    all_answered (dn ∷ dns) (answer ∷ answers) stand = All-cons Answered dn dns (answered_one dn answer stand.0) (all_answered dns answers stand.1)

    counts_one : (dn : ℕ) (answer : Option PutRefusal) → AnswerStands Coherent opening id block seen dn answer
        → cond (is_none answer) 1 0 ≤ cond (has_event (puts dn block) story) 1 0
    counts_one dn None stands = subst (λ (t : Bool). 1 ≤ cond t 1 0) (sym (has_put dn stands)) (omega arith)
    counts_one dn (Some refusal) stands = omega arith

    as_many : (dns : List ℕ) (answers : List (Option PutRefusal)) → AnswersStand Coherent opening id block seen dns answers
        → count_by is_none answers ≤ count_by (λ (dn : ℕ). has_event (puts dn block) story) dns
    as_many [] [] stand = omega arith
    as_many [] (answer ∷ answers) stand = absurd stand
    as_many (dn ∷ dns) [] stand = absurd stand
    as_many (dn ∷ dns) (answer ∷ answers) stand =
        let one = sum_by-cons (λ (a : Option PutRefusal). cond (is_none a) 1 0) answer answers in
        let other = sum_by-cons (λ (dn : ℕ). cond (has_event (puts dn block) story) 1 0) dn dns in
        let rest = as_many dns answers stand.1 in
        let first = counts_one dn answer stand.0 in
        omega (arith, one, other, rest, first)

pub may_be_written : (Coherent : Type 0) (opening : Opening) (bytes : OpeningBytes) (script : Script) → Coherent → IdsAreFresh opening
    → (id : AskId) (block : Block) (dns : List ℕ) (answers : List (Option PutRefusal)) (seen story : List Event) (seat : ℕ)
    → AllFollow (Follows Coherent opening bytes script) [] story → AnswersStand Coherent opening id block seen dns answers
    → HasQuorum opening id block dns answers seen story seat → WroteIsEnabled opening story seat block id
may_be_written Coherent opening bytes script coherent fresh id block dns answers seen story seat all stand has =
    let answered = all_answered Coherent opening bytes script coherent fresh story has.before id block all has.granted seen has.goes_on has.uncopied dns answers stand in
    let many = as_many Coherent opening bytes script coherent fresh story has.before id block all has.granted seen has.goes_on has.uncopied dns answers stand in
    let two = has.two in
    let quorum : 2 ≤ count_by (λ (dn : ℕ). has_event (puts dn block) story) dns = omega (arith, many, two) in
    record {
      of_line = has.of_line;
      before = has.before;
      granted = has.granted;
      answered = subst (λ (l : List ℕ). All (λ (dn : ℕ). (has_event (puts dn block) story ≡ true) ⊎ (has_event (refuses dn block id) story ≡ true)) l) (sym has.its_members) answered;
      quorum = subst (λ (l : List ℕ). 2 ≤ count_by (λ (dn : ℕ). has_event (puts dn block) story) l) (sym has.its_members) quorum;
      unwritten = has.unwritten;
    }

-- What was said of a line's blocks, and what stays as long as no more is said.
use Rattle.std.proofs.Common.{
  ◌≡◌,
  ◌≢◌,
  ℕ,
  ◌+◌,
  ◌≤◌,
  Bool,
  true,
  false,
  ◌||◌,
  ◌&&◌,
  ◌==◌,
  List,
  [],
  ◌∷◌,
  ◌++◌,
  Option,
  None,
  Some,
  cond,
  refl,
  sym,
  ap,
  ◌∙◌,
  subst,
  append-nil,
  arith,
}
use Rattle.std.proofs.Math.Bool.{or-false}
use Rattle.std.proofs.lemmas.Bool.{and_parts, eqb-true, false≢true}
use Rattle.std.proofs.lemmas.List.Folds.{list_any-append}
use Rattle.std.proofs.lemmas.List.Sums.{sum_by-append}
use Rattle.std.specs.List.{cons_option}
use Rattle.oz_fields.specs.declared.block.Block.{Block}
use Rattle.oz_script.specs.declared.lines.script.Line.{Line}
use Rattle.oz_script.specs.declared.lines.script.Script.{Script}
use Rattle.oz_requests.specs.declared.request.AskId.{AskId}
use Rattle.oz_core.specs.declared.event.Event.{Event}
use Rattle.oz_core.specs.declared.event.EventKind.{EventKind}
use Rattle.oz_core.specs.declared.event.EventKind.TheVariants.{Put, Refused, Wrote}
use Rattle.oz_core.specs.declared.event.PutRefusal.{PutRefusal}
use Rattle.oz_core.specs.declared.limits.TheConstants.{SERVICE_CLIENT}
use Rattle.oz_core.specs.declared.opening.Opening.{Opening}
use Rattle.oz_core.specs.Asks.{is_id, is_of_line}
use Rattle.oz_core.specs.Contents.{OpeningBytes, WasGranted, written_for, wrote}
use Rattle.oz_core.specs.Law.{KindIsEnabled, puts}
use Rattle.oz_core.specs.Nodes.{is_block}
use Rattle.oz_core.specs.Steps.{GrantedBlock, refuses_so}
use Rattle.oz_core.specs.Stories.{all_told, has_event}
use Rattle.oz_client.specs.declared.progress.Progress.{Progress}
use Rattle.oz_asker.specs.laws.Asks.{legal_of_follow}
use Rattle.oz_buffer.specs.Buffer.{AllFollow, Follows}
use Rattle.oz_buffer.specs.Became.{says, times_said}
use Rattle.oz_buffer.specs.laws.Courses.{said-push}
use Rattle.oz_kept.specs.laws.Contents.{one_grant}
use Rattle.oz_turn.specs.Told.{BeginsWith}
use Rattle.oz_underway.specs.UnderWay.{IsSaid, is_all_written}
use Rattle.oz_underway.specs.laws.Asks.{its_line, of_line, script_of_line}
use Rattle.oz_underway.specs.laws.Contents.{granted_still}
use Rattle.oz_underway.specs.laws.Going.{kept_on, told_longer}

pub said_longer : (client line : ℕ) (story seen : List Event) (begins : BeginsWith story seen)
    → times_said client line story ≡ times_said client line seen + times_said client line begins.0
said_longer client line story seen begins =
    ap (times_said client line) begins.1 ∙ sum_by-append (λ (e : Event). cond (says client line e.kind) 1 0) seen begins.0

pub no_fewer_said : (client line : ℕ) (story seen : List Event) → BeginsWith story seen → times_said client line seen ≤ times_said client line story
no_fewer_said client line story seen begins = omega (arith, said_longer client line story seen begins)

-- ---- what a line knows of it

pub said_of_written : (story : List Event) (line : Line) (said : ℕ) (progress : Progress) → is_all_written progress ≡ true → IsSaid story line said progress
said_of_written story line said progress all unwritten = absurd (false≢true (sym unwritten ∙ all))

-- between two places with the same count it is that count
pub said_between : (story front since : List Event) (line : Line) (said : ℕ) (progress : Progress) → BeginsWith story front → BeginsWith front since
    → IsSaid since line said progress → IsSaid story line said progress → IsSaid front line said progress
said_between story front since line said progress later begins before after unwritten =
    let few = no_fewer_said line.client line.number front since begins in
    let more = no_fewer_said line.client line.number story front later in
    let first = before unwritten in
    let last = after unwritten in
    omega (arith, few, more, first, last)

-- ---- events of which none says anything

quiet_first : (client line : ℕ) (event : Event) (more : List Event) → times_said client line (event ∷ more) ≡ 0
    → (says client line event.kind ≡ false) × (times_said client line more ≡ 0)
quiet_first client line event more none = by (says client line event.kind) parts
  where
    parts : times_said client line (event ∷ more) ≡ cond (says client line event.kind) 1 0 + times_said client line more
    parts = let both = sum_by-append (λ (e : Event). cond (says client line e.kind) 1 0) (event ∷ []) more in omega (arith, both)

    by : (t : Bool) → times_said client line (event ∷ more) ≡ cond t 1 0 + times_said client line more → (t ≡ false) × (times_said client line more ≡ 0)
    by false is = (refl, omega (arith, is, none))
    by true is = absurd (omega (arith, is, none))

quiet_tells : {X : Type 0} (client line : ℕ) (tells : EventKind → Option X) → ((kind : EventKind) → says client line kind ≡ false → tells kind ≡ None)
    → (more : List Event) → times_said client line more ≡ 0 → all_told tells more ≡ []
quiet_tells client line tells silent [] none = refl
quiet_tells {X} client line tells silent (event ∷ more) none =
    let parts = quiet_first client line event more none in
    ap (λ (o : Option X). cons_option o (all_told tells more)) (silent event.kind parts.0) ∙ quiet_tells client line tells silent more parts.1

quiet_has : (client line : ℕ) (is : EventKind → Bool) → ((kind : EventKind) → says client line kind ≡ false → is kind ≡ false)
    → (more : List Event) → times_said client line more ≡ 0 → has_event is more ≡ false
quiet_has client line is silent [] none = refl
quiet_has client line is silent (event ∷ more) none =
    let parts = quiet_first client line event more none in
    ap (λ (t : Bool). t || has_event is more) (silent event.kind parts.0) ∙ quiet_has client line is silent more parts.1

quiet_since : (client line : ℕ) (story seen : List Event) (begins : BeginsWith story seen) → times_said client line story ≡ times_said client line seen
    → times_said client line begins.0 ≡ 0
quiet_since client line story seen begins same = omega (arith, said_longer client line story seen begins, same)

-- ---- what stays

no_wrote : (client line : ℕ) (kind : EventKind) → says client line kind ≡ false → wrote client line kind ≡ None
no_wrote client line (Wrote block id) none = ap (λ (t : Bool). cond t (Some block) None) none
no_wrote client line kind none = refl

pub written_stay : (client line : ℕ) (seen story : List Event) → BeginsWith story seen → times_said client line story ≡ times_said client line seen
    → written_for client line story ≡ written_for client line seen
written_stay client line seen story begins same =
    let none = quiet_tells client line (wrote client line) (no_wrote client line) begins.0 (quiet_since client line story seen begins same) in
    told_longer (wrote client line) story seen begins
    ∙ (ap (λ (blocks : List Block). written_for client line seen ++ blocks) none ∙ append-nil (written_for client line seen))

same_block : (block other : Block) → is_block block other ≡ true → other ≡ block
same_block block other same =
    let parts = and_parts (other.container == block.container) (other.local == block.local) same in
    rw (eqb-true other.container block.container parts.0, eqb-true other.local block.local parts.1) refl

module _ (client line dn : ℕ) (counts : PutRefusal → Bool) (grant : GrantedBlock) (of : is_of_line client line grant.id ≡ true) where
  no_refused : (kind : EventKind) → says client line kind ≡ false → refuses_so counts grant dn kind ≡ false
  no_refused (Refused other block id refusal) none = by (is_id grant.id id) refl
    where
      whole : (a b c : Bool) → (a && b && false && c) ≡ false
      whole true true c = refl
      whole true false c = refl
      whole false b c = refl

      by : (t : Bool) → is_id grant.id id ≡ t → (other == dn && is_block grant.block block && t && counts refusal) ≡ false
      by false apart = whole (other == dn) (is_block grant.block block) (counts refusal)
      by true same =
          let first = of_line client line grant.id of in
          let then = and_parts (is_of_line grant.id.client grant.id.line id) (id.step == grant.id.step) same in
          let its = of_line grant.id.client grant.id.line id then.0 in
          absurd (false≢true (sym none ∙ its_line client line id (its.0 ∙ first.0) (its.1 ∙ first.1)))
  no_refused kind none = refl

  pub refused_stay : (seen story : List Event) → BeginsWith story seen → times_said client line story ≡ times_said client line seen
      → has_event (refuses_so counts grant dn) story ≡ has_event (refuses_so counts grant dn) seen
  refused_stay seen story begins same =
      let none = quiet_has client line (refuses_so counts grant dn) no_refused begins.0 (quiet_since client line story seen begins same) in
      ap (has_event (refuses_so counts grant dn)) begins.1
      ∙ (list_any-append (λ (event : Event). refuses_so counts grant dn event.kind) seen begins.0
      ∙ (ap (λ (t : Bool). has_event (refuses_so counts grant dn) seen || t) none ∙ or-false (has_event (refuses_so counts grant dn) seen)))

module _ (Coherent : Type 0) (opening : Opening) (bytes : OpeningBytes) (script : Script) where
  abbrev Follow : List Event → Event → Type 0
  Follow = Follows Coherent opening bytes script

  -- a block is put for the ask that it was granted to
  no_put : (client line dn : ℕ) (front before : List Event) (id : AskId) (block : Block) → Coherent → AllFollow Follow [] front
      → is_of_line client line id ≡ true → WasGranted front id block before → (seat : ℕ) (kind : EventKind)
      → KindIsEnabled opening front seat kind → says client line kind ≡ false → puts dn block kind ≡ false
  no_put client line dn front before id block coherent all of was seat (Put other put asked first count) enabled none = by (is_block block put) refl
    where
      whole : (a : Bool) → (a && false) ≡ false
      whole true = refl
      whole false = refl

      by : (t : Bool) → is_block block put ≡ t → (other == dn && t) ≡ false
      by false apart = whole (other == dn)
      by true same =
          let one : put ≡ block = same_block block put same in
          let its = subst (λ (b : Block). WasGranted front asked b enabled.before) one enabled.granted in
          let ids = one_grant opening front (legal_of_follow Coherent opening bytes script front coherent all) block id asked before enabled.before was its in
          absurd (false≢true (sym none ∙ subst (λ (i : AskId). is_of_line client line i ≡ true) ids.0 of))
  no_put client line dn front before id block coherent all of was seat kind enabled none = refl

  pub put_stay : (client line dn : ℕ) (seen before : List Event) (id : AskId) (block : Block) → Coherent → client ≢ SERVICE_CLIENT
      → is_of_line client line id ≡ true → WasGranted seen id block before → (story : List Event) → BeginsWith story seen → AllFollow Follow [] story
      → times_said client line story ≡ times_said client line seen → has_event (puts dn block) story ≡ has_event (puts dn block) seen
  put_stay client line dn seen before id block coherent other of was story begins all =
      kept_on Follow (λ front. times_said client line front ≡ times_said client line seen → has_event (puts dn block) front ≡ has_event (puts dn block) seen)
      story seen begins all
      (λ front event goes follow follows so now.
      let few = no_fewer_said client line front seen goes in
      let more = said-push client line front event in
      let same : times_said client line front ≡ times_said client line seen = omega (arith, few, more, now) in
      let none : ◌≡◌ {A = ℕ} (cond (says client line event.kind) 1 0) 0 = omega (arith, few, more, now) in
      let there = granted_still Coherent opening bytes script front seen id block before (script_of_line client line id other of) coherent follow goes was in
      let quiet : says client line event.kind ≡ false = silent (says client line event.kind) none in
      list_any-append (λ (e : Event). puts dn block e.kind) front (event ∷ [])
      ∙ (ap (λ (t : Bool). has_event (puts dn block) front || (t || false))
      (no_put client line dn front before id block coherent follow of there event.seat event.kind (follows.enabled coherent) quiet)
      ∙ (or-false (has_event (puts dn block) front) ∙ so same)))
      (λ same. refl)
    where
      silent : (t : Bool) → ◌≡◌ {A = ℕ} (cond t 1 0) 0 → t ≡ false
      silent false none = refl
      silent true none = absurd (omega (arith, none))

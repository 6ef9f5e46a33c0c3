-- The containers that a line excludes were made.
use Rattle.std.proofs.Common.{◌≡◌, ⊎_elim, ℕ, suc, Bool, true, false, List, [], ◌∷◌, cond, map, Option, None, Some, IsSome, Contains, refl, sym, subst, arith}
use Rattle.std.proofs.lemmas.Option.{none-some}
use Rattle.std.specs.Prelude.{filter}
use Rattle.std.specs.FinMap.{get}
use Rattle.oz_asker.specs.laws.Asks.{legal_of_follow}
use Rattle.oz_buffer.specs.Buffer.{AllFollow, Follows}
use Rattle.oz_client.specs.declared.progress.Progress.{Progress}
use Rattle.oz_command.specs.declared.command.Command.{Command}
use Rattle.oz_core.specs.declared.event.Event.{Event}
use Rattle.oz_core.specs.declared.event.EventKind.{EventKind}
use Rattle.oz_core.specs.declared.event.EventKind.TheVariants.{Decide}
use Rattle.oz_core.specs.declared.opening.Opening.{Opening}
use Rattle.oz_core.specs.Asks.{is_of_line}
use Rattle.oz_core.specs.Contents.{OpeningBytes}
use Rattle.oz_core.specs.Law.{IsLegal}
use Rattle.oz_core.specs.Scm.{containers}
use Rattle.oz_core.specs.Steps.{GrantedBlock, grant_in, grant_to, granted_to}
use Rattle.oz_fields.specs.declared.block.Block.{Block}
use Rattle.oz_line_blocks.specs.granting.Granting.{AreMade}
use Rattle.oz_kept.specs.laws.Deleted.{first_or_later}
use Rattle.oz_kept.specs.laws.Reached.{in_none}
use Rattle.oz_script.specs.declared.lines.script.Line.{Line}
use Rattle.oz_script.specs.declared.lines.script.Script.{Script}
use Rattle.oz_kept.specs.reopened.laws.Named.{granted_on, told_event}
use Rattle.oz_requests.specs.declared.reply.Reply.{Reply}
use Rattle.oz_requests.specs.declared.reply.Reply.TheVariants as replies
use Rattle.oz_requests.specs.declared.request.AskId.{AskId}
use Rattle.oz_steps.specs.declared.came.Attempt.{Attempt}
use Rattle.oz_steps.specs.declared.came.Granted.{Granted}
use Rattle.oz_steps.specs.Grants.{AreGrants, excluded_by, is_of_container}
use Rattle.oz_turn.specs.Told.{BeginsWith}
use Rattle.oz_underway.specs.UnderWay.{IsUnderWay}
use Rattle.oz_underway.specs.laws.Going.{begins_itself, begins_through, follow_before}
use Rattle.oz_underway.specs.laws.Made.{made_longer}

-- ---- a block that was granted lies in a container that was made

module _ (opening : Opening) (story : List Event) (legal : IsLegal opening story) where
  abbrev IsMade : ℕ → Type 0
  IsMade number = IsSome (get (containers opening story) number)

  decided_made : (seat index : ℕ) (id : AskId) (reply : Reply) (batch : List ℕ) (grant : GrantedBlock)
      → Contains story (record { seat = seat; kind = Decide id index reply batch }) → grant_in id reply ≡ Some grant → IsMade grant.block.container
  decided_made seat index id (replies.Granted block pipeline) batch grant there is =
      let on = granted_on opening story legal block
      (record { id = id; grant = record { seat = seat; index = index; pipeline = pipeline; batch = batch; there = there } }) in
      let same : block ≡ grant.block = cc in
      subst (λ (b : Block). IsMade b.container) same (subst IsSome (sym on.made) refl)
  decided_made seat index id reply batch grant there is = absurd (none-some grant is)

  granted_made : (client line : ℕ) (grant : GrantedBlock) → Contains (granted_to client line story) grant → IsMade grant.block.container
  granted_made client line grant among =
      let it = told_event (grant_to client line) story grant among in
      by it.event.seat it.event.kind it.there it.told
    where
      by_line : (t : Bool) (seat index : ℕ) (id : AskId) (reply : Reply) (batch : List ℕ) → Contains story (record { seat = seat; kind = Decide id index reply batch })
          → cond t (grant_in id reply) None ≡ Some grant → IsMade grant.block.container
      by_line true seat index id reply batch there is = decided_made seat index id reply batch grant there is
      by_line false seat index id reply batch there is = absurd (none-some grant is)

      by : (seat : ℕ) (kind : EventKind) → Contains story (record { seat = seat; kind = kind }) → grant_to client line kind ≡ Some grant → IsMade grant.block.container
      by seat (Decide id index reply batch) there is = by_line (is_of_line client line id) seat index id reply batch there is
      by seat kind there is = absurd (none-some grant is)

  -- ---- so do those that were given up

  attempts_made : (attempts : List Attempt) (writing : Option Granted) (grants : List GrantedBlock) → AreGrants opening story attempts writing grants
      → ((grant : GrantedBlock) → Contains grants grant → IsMade grant.block.container)
      → (number : ℕ) → Contains (map (λ (attempt : Attempt). attempt.granted.block.container) (filter is_of_container attempts)) number → IsMade number
  attempts_made [] writing grants are made number among = absurd (in_none number among)
  attempts_made (attempt ∷ attempts) writing grants (grant, others, is, its, rest) made number among =
      by (is_of_container attempt) (attempts_made attempts writing others rest others_made number) among
    where
      others_made : (other : GrantedBlock) → Contains others other → IsMade other.block.container
      others_made other there =
          made other (subst (λ (l : List GrantedBlock). Contains l other) (sym is) (suc there.0, omega (arith, there.1), there.2))

      its_made : IsMade attempt.granted.block.container
      its_made = subst (λ (b : Block). IsMade b.container) its.block
          (made grant (subst (λ (l : List GrantedBlock). Contains l grant) (sym is) (0, omega arith, refl)))

      Excludes : List Attempt → Type 0
      Excludes given_up = Contains (map (λ (attempt : Attempt). attempt.granted.block.container) given_up) number

      by : (t : Bool) → (Excludes (filter is_of_container attempts) → IsMade number)
          → Excludes (cond t (attempt ∷ filter is_of_container attempts) (filter is_of_container attempts)) → IsMade number
      by true behind there = ⊎_elim
          (λ same. subst IsMade same its_made)
          (λ later. behind later)
          (first_or_later attempt.granted.block.container number (map (λ (attempt : Attempt). attempt.granted.block.container) (filter is_of_container attempts)) there)
      by false behind there = behind there

module _ (Coherent : Type 0) (opening : Opening) (bytes : OpeningBytes) (script : Script) where
  pub excluded_made : (seen : List Event) (line : Line) (asked said : ℕ) (command : Command) (progress : Progress) → Coherent
      → IsUnderWay Coherent opening bytes script seen line asked said command progress
      → (story : List Event) → BeginsWith story seen → AllFollow (Follows Coherent opening bytes script) [] story → AreMade opening story (excluded_by progress.came.attempts)
  excluded_made seen line asked said command progress coherent way story begins all number among =
      let goes = begins_through story seen way.since begins way.goes_on in
      let follow = follow_before (Follows Coherent opening bytes script) story way.since goes all in
      let at = way.has way.since (begins_itself way.since) follow way.asked_so way.said_so in
      let legal = legal_of_follow Coherent opening bytes script way.since coherent follow in
      made_longer opening way.since story number goes
      (attempts_made opening way.since legal progress.came.attempts progress.came.writing (granted_to line.client line.number way.since) at.of_line.grants
      (granted_made opening way.since legal line.client line.number) number among)

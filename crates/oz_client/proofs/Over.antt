-- A line that asks nothing more has asked, and has written all of its data.
use Rattle.std.proofs.Common.{◌≡◌, ℕ, ◌+◌, ◌≤◌, Bool, true, false, nat_lt, List, [], ◌∷◌, ◌++◌, length, map, Option, Some, None, refl, sym, ◌∙◌, ap, arith}
use Rattle.std.proofs.lemmas.Bool.{ltb-false}
use mathlib.Core.Bool.{false≢true}
use Rattle.oz_command.specs.declared.command.Command.{Command}
use Rattle.oz_command.specs.declared.command.Command.TheVariants as commands
use Rattle.oz_core.specs.Steps.{Target, target, pieces_needed, session_in}
use Rattle.oz_core.specs.Stories.{last_in}
use Rattle.oz_requests.specs.declared.request.Request.{Request}
use Rattle.oz_requests.specs.declared.request.Request.TheVariants as requests
use Rattle.oz_requests.specs.declared.reply.Reply.{Reply}
use Rattle.oz_steps.specs.declared.came.Attempt.{Attempt}
use Rattle.oz_steps.specs.declared.came.Came.{Came}
use Rattle.oz_steps.specs.declared.label.Label.{Label}
use Rattle.oz_steps.specs.Grants.{excluded_by, has_fate_written, written_blocks}
use Rattle.oz_steps.specs.Lines.{commit_of_label}
use Rattle.oz_steps.specs.Requests.{block_by, command_by, once_by, put_by}
use Rattle.oz_steps.specs.laws.Chosen.{left-one, taken-one}
use Rattle.oz_client.specs.inner.Ready.{is_commit, is_get, is_plain, is_writing}

-- ---- how much was written

pub needs-none : (command : Command) → is_writing command ≡ false → pieces_needed command ≡ 0
needs-none (commands.KeyPut v b k payload) not_so = absurd (false≢true (sym not_so))
needs-none (commands.KeyOpen name v b k payload) not_so = absurd (false≢true (sym not_so))
needs-none _ not_so = refl

put-all : (command : Command) (came : Came) (to : Target) (commits : Bool) (session : Option ℕ)
    → came.writing ≡ None → put_by command came to commits session ≡ None
    → nat_lt (length (written_blocks came.attempts)) (pieces_needed command) ≡ false
put-all command came to commits None idle none = absurd cc
put-all command came to commits (Some session) idle none = by (nat_lt (length (written_blocks came.attempts)) (pieces_needed command)) refl
  where
    asked : Option Request
    asked = block_by came to session

    is-some : block_by came to session ≡ Some (requests.AllocateBlock to.volume to.bucket to.key session (excluded_by came.attempts))
    is-some = rw idle refl

    by : (b : Bool) → nat_lt (length (written_blocks came.attempts)) (pieces_needed command) ≡ b
        → nat_lt (length (written_blocks came.attempts)) (pieces_needed command) ≡ false
    by false so = so
    by true so = absurd (some-none (sym is-some ∙ (rw so at none)))
      where
        some-none : Some (requests.AllocateBlock to.volume to.bucket to.key session (excluded_by came.attempts)) ≡ None → ⊥
        some-none e = cc

writes-all : (command : Command) (label : Option Label) (came : Came) → is_writing command ≡ true
    → came.writing ≡ None → command_by command label came ≡ None
    → nat_lt (length (written_blocks came.attempts)) (pieces_needed command) ≡ false
writes-all (commands.KeyPut v b k payload) label came so idle none =
    put-all (commands.KeyPut v b k payload) came (target v b k) true (session_in came.replies) idle none
writes-all (commands.KeyOpen name v b k payload) label came so idle none =
    put-all (commands.KeyOpen name v b k payload) came (target v b k) false (session_in came.replies) idle none
writes-all _ label came so idle none = absurd (false≢true so)

pub all-written : (command : Command) (label : Option Label) (came : Came) → came.writing ≡ None
    → command_by command label came ≡ None → length (written_blocks came.attempts) ≤ pieces_needed command
    → length (written_blocks came.attempts) ≡ pieces_needed command
all-written command label came idle none within = by (is_writing command) refl
  where
    by : (b : Bool) → is_writing command ≡ b → length (written_blocks came.attempts) ≡ pieces_needed command
    by true so = omega (arith, within, ltb-false (length (written_blocks came.attempts)) (pieces_needed command) (writes-all command label came so idle none))
    by false so = omega (arith, within, needs-none command so)

-- one attempt more
written-if : (attempt : Attempt) (attempts : List Attempt) → has_fate_written attempt ≡ true
    → written_blocks (attempt ∷ attempts) ≡ attempt.granted.block ∷ written_blocks attempts
written-if attempt attempts so =
    ap (map (λ (a : Attempt). a.granted.block)) (taken-one has_fate_written attempt attempts so)

written-unless : (attempt : Attempt) (attempts : List Attempt) → has_fate_written attempt ≡ false
    → written_blocks (attempt ∷ attempts) ≡ written_blocks attempts
written-unless attempt attempts so =
    ap (map (λ (a : Attempt). a.granted.block)) (left-one has_fate_written attempt attempts so)

pub written-more : (attempts : List Attempt) (attempt : Attempt)
    → length (written_blocks (attempts ++ attempt ∷ [])) ≤ length (written_blocks attempts) + 1
written-more [] attempt = by (has_fate_written attempt) refl
  where
    by : (b : Bool) → has_fate_written attempt ≡ b → length (written_blocks (attempt ∷ [])) ≤ length (written_blocks []) + 1
    by true so = omega (arith, ap length (written-if attempt [] so))
    by false so = omega (arith, ap length (written-unless attempt [] so))
written-more (first ∷ attempts) attempt = by (has_fate_written first) refl (written-more attempts attempt)
  where
    by : (b : Bool) → has_fate_written first ≡ b
        → length (written_blocks (attempts ++ attempt ∷ [])) ≤ length (written_blocks attempts) + 1
        → length (written_blocks (first ∷ (attempts ++ attempt ∷ []))) ≤ length (written_blocks (first ∷ attempts)) + 1
    by true so later = omega (arith, later, ap length (written-if first (attempts ++ attempt ∷ []) so), ap length (written-if first attempts so))
    by false so later = omega (arith, later, ap length (written-unless first (attempts ++ attempt ∷ []) so), ap length (written-unless first attempts so))

-- ---- that something was replied

pub some-last : (given : List Reply) → (given ≡ [] → ⊥) → (reply : Reply) × (last_in given ≡ Some reply)
some-last [] some = absurd (some refl)
some-last (first ∷ given) some = last-of first given
  where
    last-of : (reply : Reply) (given : List Reply) → (last : Reply) × (last_in (reply ∷ given) ≡ Some last)
    last-of reply [] = (reply, refl)
    last-of reply (next ∷ given) = last-of next given

put-replied : (command : Command) (came : Came) (to : Target) (commits : Bool)
    → put_by command came to commits (session_in came.replies) ≡ None → came.replies ≡ [] → ⊥
put-replied command came to commits none e = some-none (rw e at none)
  where
    some-none : Some (requests.CreateKey to.volume to.bucket to.key) ≡ None → ⊥
    some-none e = cc

once-replied : (came : Came) (request : Request) → once_by came (Some request) ≡ None → came.replies ≡ [] → ⊥
once-replied came request none e = some-none (rw e at none)
  where
    some-none : Some request ≡ None → ⊥
    some-none e = cc

pub plain-replied : (command : Command) (label : Option Label) (came : Came) → is_plain command ≡ true
    → command_by command label came ≡ None → came.replies ≡ [] → ⊥
plain-replied (commands.KeyPut v b k payload) label came so none e = absurd (false≢true so)
plain-replied (commands.KeyOpen name v b k payload) label came so none e = absurd (false≢true so)
plain-replied (commands.KeyCommit name) label came so none e = absurd (false≢true so)
plain-replied (commands.KeyGet v b s k) label came so none e = absurd (false≢true so)
plain-replied (commands.Admin command) label came so none e = absurd (false≢true so)
plain-replied _ label came so none e = once-replied came _ none e

pub get-replied : (command : Command) (label : Option Label) (came : Came) → is_get command ≡ true
    → command_by command label came ≡ None → came.replies ≡ [] → ⊥
get-replied (commands.KeyGet v b s k) label came so none e = once-replied came (requests.LookupKey v b s k) none e
get-replied _ label came so none e = absurd (false≢true so)

pub commit-replied : (command : Command) (label : Label) (came : Came) → is_commit command ≡ true
    → command_by command (Some label) came ≡ None → came.replies ≡ [] → ⊥
commit-replied (commands.KeyCommit name) label came so none e = once-replied came (commit_of_label label) none e
commit-replied _ label came so none e = absurd (false≢true so)

pub write-replied : (command : Command) (label : Option Label) (came : Came) → is_writing command ≡ true
    → command_by command label came ≡ None → came.replies ≡ [] → ⊥
write-replied (commands.KeyPut v b k payload) label came so none e =
    put-replied (commands.KeyPut v b k payload) came (target v b k) true none e
write-replied (commands.KeyOpen name v b k payload) label came so none e =
    put-replied (commands.KeyOpen name v b k payload) came (target v b k) false none e
write-replied _ label came so none e = absurd (false≢true so)

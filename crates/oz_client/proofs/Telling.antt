-- When a line is told OK.
use Rattle.std.proofs.Common.{◌≡◌, ℕ, ◌≤◌, Bool, true, false, List, [], length, slice_get, Option, Some, None, is_some, ⊎_elim, refl, sym, ◌∙◌, ap, arith}
use Rattle.std.proofs.lemmas.Option.{slice_get_cases}
use mathlib.Core.Bool.{false≢true}
use Rattle.std.specs.List.{flat_map}
use Rattle.std.specs.Option.{option_map_or}
use Rattle.oz_command.specs.declared.command.Command.{Command}
use Rattle.oz_command.specs.declared.command.Command.TheVariants as commands
use Rattle.oz_command.specs.Payload.{data_length}
use Rattle.oz_core.specs.Due.{values_of}
use Rattle.oz_core.specs.Steps.{is_code}
use Rattle.oz_core.specs.Stories.{last_in}
use Rattle.oz_fields.specs.declared.block.Piece.{Piece}
use Rattle.oz_requests.specs.declared.answer.Values.{Values}
use Rattle.oz_requests.specs.declared.answer.Values.TheVariants as values
use Rattle.oz_requests.specs.declared.reply.Reply.{Reply}
use Rattle.oz_requests.specs.declared.reply.Reply.TheVariants as replies
use Rattle.oz_steps.specs.declared.came.Came.{Came}
use Rattle.oz_steps.specs.declared.label.Label.{Label}
use Rattle.oz_steps.specs.Requests.{command_by}
use Rattle.oz_client.specs.declared.progress.Progress.{Progress}
use Rattle.oz_client.specs.LineState.{pieces_in}
use Rattle.oz_client.specs.Onward.{AreValuesBy, IsIdle, IsOver, IsUnopened}
use Rattle.oz_client.specs.declared.kinds.ReplyKind.TheVariants as kinds
use Rattle.oz_client.specs.Replies.{is_of_kind, pieces_of_reply}
use Rattle.oz_client.specs.inner.Ready.{IsReady, has_values, is_commit, is_get, is_plain, is_writing, last_gives}
use Rattle.oz_client.proofs.Asked.{by-command}
use Rattle.oz_client.proofs.Lists.{last-fails}
use Rattle.oz_client.proofs.Over.{all-written, commit-replied, get-replied, plain-replied, some-last, write-replied}

no-step : (command : Command) (progress : Progress) → IsReady command progress → IsIdle command progress
    → command_by command progress.label progress.came ≡ None
no-step command progress ready idle =
    by-command command progress.label progress.came None ready.no_code idle.no_step

over : (command : Command) (progress : Progress) (it : Values) → IsReady command progress → IsIdle command progress
    → (IsUnopened command progress.label → ⊥) → (progress.came.replies ≡ [] → ⊥)
    → ((reply : Reply) → last_in progress.came.replies ≡ Some reply → AreValuesBy command progress reply it)
    → IsOver command progress it
over command progress it ready idle opened some its =
    let last : (reply : Reply) × (last_in progress.came.replies ≡ Some reply) = some-last progress.came.replies some in
    record {
      opened = opened;
      idle = idle;
      reply = last.0;
      last = last.1;
      no_code = last-fails is_code progress.came.replies last.0 ready.no_code last.1;
      written = all-written command progress.label progress.came idle.unwritten (no-step command progress ready idle) ready.within;
      values = its last.0 last.1;
    }

not-unopened : (command : Command) (label : Option Label) → is_commit command ≡ false → IsUnopened command label → ⊥
not-unopened (commands.KeyCommit name) label not_so un = absurd (false≢true (sym not_so))
not-unopened _ label not_so un = un

-- ---- a line that writes

put-values : (command : Command) (progress : Progress) (reply : Reply) → is_writing command ≡ true
    → AreValuesBy command progress reply (values.Length (data_length command))
put-values (commands.KeyPut v b k payload) progress reply so = refl
put-values (commands.KeyOpen name v b k payload) progress reply so = refl
put-values _ progress reply so = absurd (false≢true so)

writing-commits-none : (command : Command) → is_writing command ≡ true → is_commit command ≡ false
writing-commits-none (commands.KeyPut v b k payload) so = refl
writing-commits-none (commands.KeyOpen name v b k payload) so = refl
writing-commits-none _ so = absurd (false≢true so)

pub put-over : (command : Command) (progress : Progress) → IsReady command progress → IsIdle command progress
    → is_writing command ≡ true → IsOver command progress (values.Length (data_length command))
put-over command progress ready idle so =
    over command progress (values.Length (data_length command)) ready idle
    (not-unopened command progress.label (writing-commits-none command so))
    (write-replied command progress.label progress.came so (no-step command progress ready idle))
    (λ reply last. put-values command progress reply so)

-- ---- a line that asks once

plain-values : (command : Command) (progress : Progress) (reply : Reply) (it : Values) → is_plain command ≡ true
    → values_of command reply ≡ Some it → AreValuesBy command progress reply it
plain-values (commands.KeyPut v b k payload) progress reply it so e = absurd (false≢true so)
plain-values (commands.KeyOpen name v b k payload) progress reply it so e = absurd (false≢true so)
plain-values (commands.KeyCommit name) progress reply it so e = absurd (false≢true so)
plain-values (commands.KeyGet v b s k) progress reply it so e = absurd (false≢true so)
plain-values (commands.Admin command) progress reply it so e = absurd (false≢true so)
plain-values _ progress reply it so e = e

plain-commits-none : (command : Command) → is_plain command ≡ true → is_commit command ≡ false
plain-commits-none (commands.KeyCommit name) so = absurd (false≢true so)
plain-commits-none _ so = refl

same-last : (given : List Reply) (one other : Reply) → last_in given ≡ Some one → last_in given ≡ Some other → one ≡ other
same-last given one other e f = cc

pub plain-over : (command : Command) (progress : Progress) (it : Values) → IsReady command progress
    → IsIdle command progress → is_plain command ≡ true
    → (reply : Reply) × (last_in progress.came.replies ≡ Some reply) × (values_of command reply ≡ Some it)
    → IsOver command progress it
plain-over command progress it ready idle so (reply, last, its) =
    over command progress it ready idle
    (not-unopened command progress.label (plain-commits-none command so))
    (plain-replied command progress.label progress.came so (no-step command progress ready idle))
    (λ other last_too. plain-values command progress other it so
    (rw (same-last progress.came.replies other reply last_too last) its))

-- ---- a commit

commit-values : (command : Command) (progress : Progress) (reply : Reply) (it : Values) → is_commit command ≡ true
    → values_of command reply ≡ Some it → AreValuesBy command progress reply it
commit-values (commands.KeyCommit name) progress reply it so e = e
commit-values _ progress reply it so e = absurd (false≢true so)

opened-by : (command : Command) (label : Label) → IsUnopened command (Some label) → ⊥
opened-by (commands.KeyCommit name) label un = un
opened-by _ label un = un

pub commit-over : (command : Command) (progress : Progress) (label : Label) (it : Values) → progress.label ≡ Some label
    → IsReady command progress → IsIdle command progress → is_commit command ≡ true
    → (reply : Reply) × (last_in progress.came.replies ≡ Some reply) × (values_of command reply ≡ Some it)
    → IsOver command progress it
commit-over command progress label it is ready idle so (reply, last, its) =
    over command progress it ready idle
    (λ un. opened-by command label (rw is at un))
    (commit-replied command label progress.came so (rw is at (no-step command progress ready idle)))
    (λ other last_too. commit-values command progress other it so
    (rw (same-last progress.came.replies other reply last_too last) its))

pub commit-unopened : (command : Command) (label : Option Label) → label ≡ None → is_commit command ≡ true
    → IsUnopened command label
commit-unopened (commands.KeyCommit name) label is so = rw is tt
commit-unopened _ label is so = absurd (false≢true so)

-- ---- a get

pieces-of : (reply : Reply) → is_of_kind kinds.Pieces reply ≡ true → reply ≡ replies.Pieces (pieces_of_reply reply)
pieces-of (replies.Pieces pieces) so = refl
pieces-of _ so = absurd (false≢true so)

none-some : (piece : Piece) → Some piece ≡ None → ⊥
none-some piece e = cc

all-read : (pieces : List Piece) (read : ℕ) → slice_get pieces read ≡ None → read ≤ length pieces → length pieces ≡ read
all-read pieces read none within =
    ⊎_elim (λ found. absurd (none-some found.0 (sym found.2 ∙ none)))
    (λ past. longest past.0) (slice_get_cases pieces read).1
  where
    longest : length pieces ≤ read → length pieces ≡ read
    longest past = omega (arith, past, within)

get-has : (command : Command) (reply : Reply) → is_get command ≡ true → has_values command reply ≡ true
    → is_of_kind kinds.Pieces reply ≡ true
get-has (commands.KeyGet v b s k) reply so has = has
get-has _ reply so has = absurd (false≢true so)

get-values : (command : Command) (progress : Progress) (reply : Reply) → is_get command ≡ true
    → reply ≡ replies.Pieces (pieces_of_reply reply) → length (pieces_of_reply reply) ≡ length progress.read
    → AreValuesBy command progress reply (values.Bytes (flat_map (λ content. content) progress.read))
get-values (commands.KeyGet v b s k) progress reply so is all = (pieces_of_reply reply, is, all, refl)
get-values _ progress reply so is all = absurd (false≢true so)

get-commits-none : (command : Command) → is_get command ≡ true → is_commit command ≡ false
get-commits-none (commands.KeyGet v b s k) so = refl
get-commits-none _ so = absurd (false≢true so)

last-has : (command : Command) (progress : Progress) (reply : Reply) → IsReady command progress
    → last_in progress.came.replies ≡ Some reply → has_values command reply ≡ true
last-has command progress reply ready last =
    ⊎_elim (λ none. absurd (none-some (rw none at last))) (λ has. rw last at has) ready.values
  where
    none-some : None ≡ Some reply → ⊥
    none-some e = cc

pub get-over : (command : Command) (progress : Progress) → IsReady command progress → IsIdle command progress
    → is_get command ≡ true → slice_get (pieces_in progress.came.replies) (length progress.read) ≡ None
    → IsOver command progress (values.Bytes (flat_map (λ content. content) progress.read))
get-over command progress ready idle so none =
    over command progress (values.Bytes (flat_map (λ content. content) progress.read)) ready idle
    (not-unopened command progress.label (get-commits-none command so))
    (get-replied command progress.label progress.came so (no-step command progress ready idle))
    (λ reply last. get-values command progress reply so
    (pieces-of reply (get-has command reply so (last-has command progress reply ready last)))
    (ap length (sym (of-last reply last)) ∙ all-read (pieces_in progress.came.replies) (length progress.read) none ready.read))
  where
    of-last : (reply : Reply) → last_in progress.came.replies ≡ Some reply
        → pieces_in progress.came.replies ≡ pieces_of_reply reply
    of-last reply last = rw last refl

-- ---- what was replied gives the values

plain-has : (command : Command) (reply : Reply) → is_plain command ≡ true
    → has_values command reply ≡ is_some (values_of command reply)
plain-has (commands.KeyPut v b k payload) reply so = absurd (false≢true so)
plain-has (commands.KeyOpen name v b k payload) reply so = absurd (false≢true so)
plain-has (commands.KeyCommit name) reply so = absurd (false≢true so)
plain-has (commands.KeyGet v b s k) reply so = absurd (false≢true so)
plain-has (commands.Admin command) reply so = absurd (false≢true so)
plain-has _ reply so = refl

commit-has : (command : Command) (reply : Reply) → is_commit command ≡ true
    → has_values command reply ≡ is_some (values_of command reply)
commit-has (commands.KeyCommit name) reply so = refl
commit-has _ reply so = absurd (false≢true so)

map-same : (f g : Reply → Bool) → ((reply : Reply) → f reply ≡ g reply) → (o : Option Reply)
    → option_map_or f o false ≡ true → option_map_or g o false ≡ true
map-same f g same None so = so
map-same f g same (Some reply) so = sym (same reply) ∙ so

last-gives : (command : Command) (progress : Progress) → IsReady command progress
    → (progress.came.replies ≡ [] → ⊥)
    → ((reply : Reply) → has_values command reply ≡ is_some (values_of command reply))
    → last_gives command progress.came ≡ true
last-gives command progress ready some same =
    map-same (has_values command) (λ reply. is_some (values_of command reply)) same (last_in progress.came.replies)
    (⊎_elim (λ none. absurd (some none)) (λ has. has) ready.values)

pub plain-gives : (command : Command) (progress : Progress) → IsReady command progress → IsIdle command progress
    → is_plain command ≡ true → last_gives command progress.came ≡ true
plain-gives command progress ready idle so =
    last-gives command progress ready
    (plain-replied command progress.label progress.came so (no-step command progress ready idle))
    (λ reply. plain-has command reply so)

pub commit-gives : (command : Command) (progress : Progress) (label : Label) → progress.label ≡ Some label
    → IsReady command progress → IsIdle command progress → is_commit command ≡ true
    → last_gives command progress.came ≡ true
commit-gives command progress label is ready idle so =
    last-gives command progress ready
    (commit-replied command label progress.came so (rw is at (no-step command progress ready idle)))
    (λ reply. commit-has command reply so)

pub gives-not : (command : Command) (came : Came) (reply : Reply) → last_gives command came ≡ true
    → last_in came.replies ≡ Some reply → values_of command reply ≡ None → ⊥
gives-not command came reply so last none =
    let here : is_some (values_of command reply) ≡ true = rw last at so in
    false≢true (rw none at here)

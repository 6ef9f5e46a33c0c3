-- What a line asked says of the reply, and of what it may write.
use Rattle.std.proofs.Common.{◌≡◌, ℕ, Bool, true, false, not, ◌&&◌, nat_lt, List, length, Option, Some, None, is_some, refl, sym, ◌∙◌, ap, if◌then◌else◌}
use mathlib.Core.Bool.{false≢true}
use Rattle.std.specs.List.{list_any}
use Rattle.std.specs.Option.{option_map_or}
use Rattle.oz_command.specs.declared.command.Command.{Command}
use Rattle.oz_command.specs.declared.command.Command.TheVariants as commands
use Rattle.oz_core.specs.Due.{counted, values_of}
use Rattle.oz_core.specs.Steps.{Target, target, is_code, is_done, pieces_from, pieces_needed, session_in}
use Rattle.oz_fields.specs.declared.block.Block.{Block}
use Rattle.oz_requests.specs.declared.request.Request.{Request}
use Rattle.oz_requests.specs.declared.request.Request.TheVariants as requests
use Rattle.oz_requests.specs.declared.reply.Reply.{Reply}
use Rattle.oz_requests.specs.declared.reply.Reply.TheVariants as replies
use Rattle.oz_steps.specs.declared.came.Came.{Came}
use Rattle.oz_steps.specs.declared.label.Label.{Label}
use Rattle.oz_steps.specs.Grants.{written_blocks}
use Rattle.oz_steps.specs.Lines.{commit_of_label}
use Rattle.oz_steps.specs.Requests.{command_by, commit_by, once_by, put_by, request_by}
use Rattle.oz_steps.specs.Single.{single_of}
use Rattle.oz_client.specs.declared.kinds.ReplyKind.TheVariants as kinds
use Rattle.oz_client.specs.Replies.{is_of_kind, kind_for}
use Rattle.oz_client.specs.inner.Ready.{has_values}

-- nothing is asked behind a code
pub by-command : (command : Command) (label : Option Label) (came : Came) (o : Option Request)
    → list_any is_code came.replies ≡ false → request_by command label came ≡ o → command_by command label came ≡ o
by-command command label came o no_code e = rw no_code at e

none-some : (request : Request) → None ≡ Some request → ⊥
none-some request e = cc

-- what is asked once
once-is : (came : Came) (o : Option Request) (request : Request) → once_by came o ≡ Some request → o ≡ Some request
once-is came o request e = by (list_any (λ (reply : Reply). true) came.replies) refl
  where
    by : (b : Bool) → list_any (λ (reply : Reply). true) came.replies ≡ b → o ≡ Some request
    by true so = absurd (none-some request (rw so at e))
    by false so = rw so at e

kind-of : (is request : Request) (reply : Reply) → Some is ≡ Some request → is_of_kind (kind_for request) reply ≡ true
    → is_of_kind (kind_for is) reply ≡ true
kind-of is request reply e kind = let same : request ≡ is = cc in rw same at kind

-- ---- a reply to what was asked once gives what stands behind OK

done-values : (command : Command) (reply : Reply) → is_of_kind kinds.Done reply ≡ true → is_some (values_of command reply) ≡ true
done-values command replies.Done so = refl
done-values command _ so = absurd (false≢true so)

names-values : (command : Command) (reply : Reply) → is_of_kind kinds.Names reply ≡ true → is_some (values_of command reply) ≡ true
names-values command (replies.Names names) so = refl
names-values command _ so = absurd (false≢true so)

counts-values : (command : Command) (reply : Reply) → is_of_kind kinds.Counts reply ≡ true → is_some (values_of command reply) ≡ true
counts-values command (replies.Counts counts) so = refl
counts-values command _ so = absurd (false≢true so)

count-values : (command : Command) (reply : Reply) → ((count : ℕ) → is_some (counted command count) ≡ true)
    → is_of_kind kinds.Count reply ≡ true → is_some (values_of command reply) ≡ true
count-values command (replies.Count count) its so = its count
count-values command _ its so = absurd (false≢true so)

single-values : (command : Command) (request : Request) (reply : Reply) → single_of command ≡ Some request
    → is_of_kind (kind_for request) reply ≡ true → has_values command reply ≡ true
single-values (commands.VolumeCreate v) request reply e kind =
    done-values (commands.VolumeCreate v) reply (kind-of (requests.CreateVolume v) request reply e kind)
single-values (commands.VolumeDelete v) request reply e kind =
    done-values (commands.VolumeDelete v) reply (kind-of (requests.DeleteVolume v) request reply e kind)
single-values (commands.VolumeInfo v) request reply e kind =
    count-values (commands.VolumeInfo v) reply (λ count. refl) (kind-of (requests.InfoVolume v) request reply e kind)
single-values (commands.BucketCreate v b) request reply e kind =
    done-values (commands.BucketCreate v b) reply (kind-of (requests.CreateBucket v b) request reply e kind)
single-values (commands.BucketDelete v b) request reply e kind =
    done-values (commands.BucketDelete v b) reply (kind-of (requests.DeleteBucket v b) request reply e kind)
single-values (commands.BucketInfo v b) request reply e kind =
    counts-values (commands.BucketInfo v b) reply (kind-of (requests.InfoBucket v b) request reply e kind)
single-values (commands.BucketList v) request reply e kind =
    names-values (commands.BucketList v) reply (kind-of (requests.ListBuckets v) request reply e kind)
single-values (commands.KeyPut v b k payload) request reply e kind = refl
single-values (commands.KeyOpen name v b k payload) request reply e kind = refl
single-values (commands.KeyCommit name) request reply e kind = absurd cc
single-values (commands.KeyGet v b s k) request reply e kind = kind-of (requests.LookupKey v b s k) request reply e kind
single-values (commands.KeyDelete v b k) request reply e kind =
    done-values (commands.KeyDelete v b k) reply (kind-of (requests.DeleteKey v b k) request reply e kind)
single-values (commands.KeyRename v b k to) request reply e kind =
    done-values (commands.KeyRename v b k to) reply (kind-of (requests.RenameKey v b k to) request reply e kind)
single-values (commands.KeyList v b s prefix start count) request reply e kind =
    names-values (commands.KeyList v b s prefix start count) reply
    (kind-of (requests.ListKeys v b s prefix start count) request reply e kind)
single-values (commands.KeyExpire v b) request reply e kind =
    count-values (commands.KeyExpire v b) reply (λ count. refl) (kind-of (requests.ExpireOpen v b) request reply e kind)
single-values (commands.SnapshotCreate v b s) request reply e kind =
    done-values (commands.SnapshotCreate v b s) reply (kind-of (requests.CreateSnapshot v b s) request reply e kind)
single-values (commands.SnapshotDelete v b s) request reply e kind =
    done-values (commands.SnapshotDelete v b s) reply (kind-of (requests.DeleteSnapshot v b s) request reply e kind)
single-values (commands.SnapshotInfo v b s) request reply e kind =
    count-values (commands.SnapshotInfo v b s) reply (λ count. refl)
    (kind-of (requests.InfoSnapshot v b s) request reply e kind)
single-values (commands.SnapshotList v b) request reply e kind =
    names-values (commands.SnapshotList v b) reply (kind-of (requests.ListSnapshots v b) request reply e kind)
single-values (commands.Admin command) request reply e kind = refl

commit-values : (name : List ℕ) (label : Option Label) (came : Came) (request : Request) (reply : Reply)
    → once_by came (commit_by label) ≡ Some request → is_of_kind (kind_for request) reply ≡ true
    → is_some (values_of (commands.KeyCommit name) reply) ≡ true
commit-values name None came request reply e kind = absurd (none-some request (once-is came None request e))
commit-values name (Some label) came request reply e kind =
    done-values (commands.KeyCommit name) reply
    (kind-of (commit_of_label label) request reply (once-is came (Some (commit_of_label label)) request e) kind)

pub has-values : (command : Command) (label : Option Label) (came : Came) (request : Request) (reply : Reply)
    → command_by command label came ≡ Some request → is_of_kind (kind_for request) reply ≡ true → has_values command reply ≡ true
has-values (commands.KeyPut v b k payload) label came request reply e kind = refl
has-values (commands.KeyOpen name v b k payload) label came request reply e kind = refl
has-values (commands.KeyCommit name) label came request reply e kind = commit-values name label came request reply e kind
has-values (commands.Admin command) label came request reply e kind = refl
has-values command label came request reply e kind =
    single-values command request reply (once-is came (single_of command) request e) kind

-- ---- a block is granted to a line alone that has data left

abbrev grants : Block → ℕ → Option Request → Bool
grants block pipeline o = option_map_or (λ (request : Request). is_of_kind (kind_for request) (replies.Granted block pipeline)) o false

never-single : (command : Command) (block : Block) (pipeline : ℕ) → grants block pipeline (single_of command) ≡ false
never-single (commands.VolumeCreate v) block pipeline = refl
never-single _ block pipeline = refl

never-commit : (label : Option Label) (block : Block) (pipeline : ℕ) → grants block pipeline (commit_by label) ≡ false
never-commit None block pipeline = refl
never-commit (Some label) block pipeline = refl

not-granted : (o : Option Request) (request : Request) (block : Block) (pipeline : ℕ) → o ≡ Some request
    → is_of_kind (kind_for request) (replies.Granted block pipeline) ≡ true → grants block pipeline o ≡ false → ⊥
not-granted o request block pipeline e kind not_so = false≢true (sym not_so ∙ (ap (grants block pipeline) e ∙ kind))

commit-grants-none : (b : Bool) (commit request : Request) (block : Block) (pipeline : ℕ)
    → (if b then Some commit else None) ≡ Some request
    → is_of_kind (kind_for commit) (replies.Granted block pipeline) ≡ false
    → is_of_kind (kind_for request) (replies.Granted block pipeline) ≡ true → ⊥
commit-grants-none true commit request block pipeline e not_so kind = not-granted (Some commit) request block pipeline e kind not_so
commit-grants-none false commit request block pipeline e not_so kind = none-some request e

put-grants : (command : Command) (came : Came) (to : Target) (commits : Bool) (session : Option ℕ) (request : Request)
    (block : Block) (pipeline : ℕ) → put_by command came to commits session ≡ Some request
    → is_of_kind (kind_for request) (replies.Granted block pipeline) ≡ true
    → nat_lt (length (written_blocks came.attempts)) (pieces_needed command) ≡ true
put-grants command came to commits None request block pipeline e kind =
    absurd (not-granted (Some (requests.CreateKey to.volume to.bucket to.key)) request block pipeline e kind refl)
put-grants command came to commits (Some session) request block pipeline e kind =
    by (nat_lt (length (written_blocks came.attempts)) (pieces_needed command)) refl
  where
    by : (b : Bool) → nat_lt (length (written_blocks came.attempts)) (pieces_needed command) ≡ b
        → nat_lt (length (written_blocks came.attempts)) (pieces_needed command) ≡ true
    by true so = so
    by false so =
        absurd (commit-grants-none (commits && not (list_any is_done came.replies))
        (requests.CommitKey to.volume to.bucket to.key session (pieces_from 0 command (written_blocks came.attempts)))
        request block pipeline (rw so at e) refl kind)

pub grants-more : (command : Command) (label : Option Label) (came : Came) (request : Request) (block : Block)
    (pipeline : ℕ) → command_by command label came ≡ Some request
    → is_of_kind (kind_for request) (replies.Granted block pipeline) ≡ true
    → nat_lt (length (written_blocks came.attempts)) (pieces_needed command) ≡ true
grants-more (commands.KeyPut v b k payload) label came request block pipeline e kind =
    put-grants (commands.KeyPut v b k payload) came (target v b k) true (session_in came.replies) request block pipeline e kind
grants-more (commands.KeyOpen name v b k payload) label came request block pipeline e kind =
    put-grants (commands.KeyOpen name v b k payload) came (target v b k) false (session_in came.replies) request block pipeline e kind
grants-more (commands.KeyCommit name) label came request block pipeline e kind =
    absurd (not-granted (commit_by label) request block pipeline (once-is came (commit_by label) request e) kind (never-commit label block pipeline))
grants-more (commands.Admin command) label came request block pipeline e kind = absurd (none-some request e)
grants-more command label came request block pipeline e kind =
    absurd (not-granted (single_of command) request block pipeline (once-is came (single_of command) request e) kind (never-single command block pipeline))

-- The text that a run prints of its story.
use Rattle.std.specs.Prelude.{ℕ, Bool, true, false, List, [], ◌∷◌, ◌++◌, codes, decimal, length, slice_index, Option}
use Rattle.std.specs.Prelude.{None, Some, if◌then◌else◌}
use Rattle.std.specs.List.{flat_map}
use Rattle.hex.specs.Hex.{encode_lower}
use Rattle.sha2.specs.Sha256.{sha256}
use Rattle.oz_core.specs.declared.event.Event.{Event}
use Rattle.oz_core.specs.declared.event.EventKind.{EventKind}
use Rattle.oz_core.specs.declared.event.EventKind.TheVariants.{Decide, Halt, Told}
use Rattle.oz_core.specs.declared.event.Node.{Node}
use Rattle.oz_core.specs.declared.event.Node.TheVariants.{Manager, Scm, Datanode}
use Rattle.oz_names.specs.Codes.{code_text}
use Rattle.oz_requests.specs.declared.answer.Answer.{Answer}
use Rattle.oz_requests.specs.declared.answer.Answer.TheVariants as told
use Rattle.oz_requests.specs.declared.answer.Values.{Values}
use Rattle.oz_requests.specs.declared.answer.Values.TheVariants as values
use Rattle.oz_requests.specs.declared.reply.Counts.{Counts}
use Rattle.oz_requests.specs.declared.reply.Reply.{Reply}
use Rattle.oz_requests.specs.declared.reply.Reply.TheVariants as reply
use Rattle.oz_requests.specs.declared.request.AskId.{AskId}
use Rattle.oz_requests.specs.declared.request.Request.{Request}
use Rattle.oz_requests.specs.declared.request.Request.TheVariants as request
use Rattle.oz_core.specs.Asks.{is_script, pending}
use Rattle.oz_core.specs.Stories.{count_events}

-- ---- what was decided

abbrev pub request_name : Request → List ℕ
request_name (request.CreateVolume volume) = codes "CreateVolume"
request_name (request.InfoVolume volume) = codes "InfoVolume"
request_name (request.DeleteVolume volume) = codes "DeleteVolume"
request_name (request.CreateBucket volume bucket) = codes "CreateBucket"
request_name (request.InfoBucket volume bucket) = codes "InfoBucket"
request_name (request.DeleteBucket volume bucket) = codes "DeleteBucket"
request_name (request.ListBuckets volume) = codes "ListBuckets"
request_name (request.CreateKey volume bucket key) = codes "CreateKey"
request_name (request.AllocateBlock volume bucket key session exclude) = codes "AllocateBlock"
request_name (request.CommitKey volume bucket key session pieces) = codes "CommitKey"
request_name (request.DeleteKey volume bucket key) = codes "DeleteKey"
request_name (request.RenameKey volume bucket key to) = codes "RenameKey"
request_name (request.LookupKey volume bucket snapshot key) = codes "LookupKey"
request_name (request.ListKeys volume bucket snapshot prefix start count) = codes "ListKeys"
request_name (request.ExpireOpen volume bucket) = codes "ExpireOpen"
request_name (request.CreateSnapshot volume bucket snapshot) = codes "CreateSnapshot"
request_name (request.DeleteSnapshot volume bucket snapshot) = codes "DeleteSnapshot"
request_name (request.ListSnapshots volume bucket) = codes "ListSnapshots"
request_name (request.InfoSnapshot volume bucket snapshot) = codes "InfoSnapshot"
request_name (request.Purge volume rows) = codes "Purge"
request_name (request.MoveDeleted volume bucket number to) = codes "MoveDeleted"
request_name (request.PurgeSnapshot volume bucket number) = codes "PurgeSnapshot"

-- the name of what is pending; nothing stands where nothing is
abbrev pub request_text : Option Request → List ℕ
request_text None = []
request_text (Some asked) = request_name asked

-- a reply; what it gives is told and not printed here
abbrev pub reply_text : Reply → List ℕ
reply_text (reply.Code code) = code_text code
reply_text _ = codes "OK"

-- the line of a Decide: its client, line and step, the request and the reply
abbrev pub decide_text : AskId → Option Request → Reply → List ℕ
decide_text id asked given =
    codes "d " ++ decimal id.client ++ codes " " ++ decimal id.line ++ codes " " ++ decimal id.step
    ++ codes " " ++ request_text asked ++ codes " " ++ reply_text given ++ codes "\n"

-- ---- what a line was told

-- how many bytes were read, and their digest
abbrev pub bytes_text : List ℕ → List ℕ
bytes_text bytes = codes "OK " ++ decimal (length bytes) ++ codes " " ++ encode_lower (sha256 bytes)

-- how many keys, sessions and snapshots a bucket has
abbrev pub counts_text : Counts → List ℕ
counts_text counts =
    codes "OK keys " ++ decimal counts.keys ++ codes " sessions " ++ decimal counts.sessions ++ codes " snapshots "
    ++ decimal counts.snapshots

-- how many names, and a blank before each
abbrev pub list_text : List (List ℕ) → List ℕ
list_text names = codes "OK " ++ decimal (length names) ++ flat_map (λ name. codes " " ++ name) names

-- how many containers are in each state
abbrev pub states_text : List ℕ → List ℕ
states_text counts =
    codes "OK open " ++ decimal (slice_index counts 0) ++ codes " closing " ++ decimal (slice_index counts 1)
    ++ codes " quasi_closed " ++ decimal (slice_index counts 2) ++ codes " closed " ++ decimal (slice_index counts 3)
    ++ codes " deleting " ++ decimal (slice_index counts 4) ++ codes " deleted " ++ decimal (slice_index counts 5)

abbrev pub values_text : Values → List ℕ
values_text values.Done = codes "OK"
values_text (values.Length count) = codes "OK " ++ decimal count
values_text (values.Bytes bytes) = bytes_text bytes
values_text (values.Buckets count) = codes "OK buckets " ++ decimal count
values_text (values.Counts counts) = counts_text counts
values_text (values.Sessions count) = codes "OK " ++ decimal count
values_text (values.Keys count) = codes "OK keys " ++ decimal count
values_text (values.Names names) = list_text names
values_text (values.States counts) = states_text counts

abbrev pub answer_text : Answer → List ℕ
answer_text (told.Ok given) = values_text given
answer_text (told.Code code) = code_text code
answer_text told.NoPipeline = codes "NO_PIPELINE"
answer_text told.NoQuorum = codes "NO_QUORUM"
answer_text (told.NoReplica piece block) = codes "NO_REPLICA piece " ++ decimal piece
answer_text told.IdsSpent = codes "IDS_SPENT"
answer_text told.Unacknowledged = codes "UNACKNOWLEDGED"
answer_text told.ManagerStopped = codes "MANAGER_STOPPED"
answer_text told.ScmStopped = codes "SCM_STOPPED"
answer_text (told.Held dn) = codes "HELD dn " ++ decimal dn
answer_text told.NoSuchNode = codes "NO_SUCH_NODE"
answer_text (told.NodeHalted dn count) = codes "NODE_HALTED dn " ++ decimal dn ++ codes " count " ++ decimal count
answer_text told.NotOpen = codes "NOT_OPEN"
answer_text told.OutOfMemory = codes "OUT_OF_MEMORY"

-- the line of a Told: its client and line, and the answer
abbrev pub told_text : ℕ → ℕ → Answer → List ℕ
told_text client line answer =
    codes "t " ++ decimal client ++ codes " " ++ decimal line ++ codes " " ++ answer_text answer ++ codes "\n"

-- ---- which node halted

abbrev pub node_text : Node → List ℕ
node_text Manager = codes "manager"
node_text Scm = codes "scm"
node_text (Datanode number) = codes "dn" ++ decimal number

-- the line of a Halt: its node, and how often the node's disks had failed
abbrev pub halt_text : Node → ℕ → List ℕ
halt_text node count = codes "h " ++ node_text node ++ codes " " ++ decimal count ++ codes "\n"

-- ---- the report

-- What is printed of an event behind these events: three kinds have a line, and of the Decides those of a script's lines.
abbrev pub event_text : List Event → EventKind → List ℕ
event_text before (Decide id index given batch) =
    if is_script id then decide_text id (pending id before) given else []
event_text before (Halt node count) = halt_text node count
event_text before (Told client line answer) = told_text client line answer
event_text before _ = []

-- what is printed of a story behind these events
unfoldable pub lines_from : List Event → List Event → List ℕ
lines_from before [] = []
lines_from before (event ∷ story) = event_text before event.kind ++ lines_from (before ++ event ∷ []) story

-- a Told
abbrev pub is_told_kind : EventKind → Bool
is_told_kind (Told client line answer) = true
is_told_kind _ = false

-- how many Tolds a story has
abbrev pub told_count : List Event → ℕ
told_count story = count_events is_told_kind story

-- the report of a story over a script of so many lines
abbrev pub report_of : ℕ → List Event → List ℕ
report_of lines story =
    codes "story 1\n" ++ lines_from [] story
    ++ codes "end " ++ decimal (told_count story) ++ codes " of " ++ decimal lines ++ codes "\n"

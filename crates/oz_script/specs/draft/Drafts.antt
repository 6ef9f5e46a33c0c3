-- The lines of a script as they are written, or the first that is in no form, is one too many or commits an unknown label.
use Rattle.std.specs.Prelude.{◌≡◌, ℕ, ◌+◌, Bool, true, false, nat_lt, ◌==◌, ◌&&◌, ◌||◌, List, [], ◌∷◌, ◌++◌, length, count_by}
use Rattle.std.specs.Prelude.{Option, None, Some, Result, Ok, Err, if◌then◌else◌}
use Rattle.std.specs.List.{list_all, list_any, position_or_len}
use Rattle.std.specs.Option.{ok_or}
use Rattle.std.specs.Str.{bytes_eq}
use Rattle.std.specs.Str.Lines.{lines}
use Rattle.oz_command.specs.declared.command.Command.{Command}
use Rattle.oz_command.specs.declared.command.Command.TheVariants.{VolumeCreate, VolumeDelete, VolumeInfo, BucketCreate}
use Rattle.oz_command.specs.declared.command.Command.TheVariants.{BucketDelete, BucketInfo, BucketList, KeyPut, KeyOpen}
use Rattle.oz_command.specs.declared.command.Command.TheVariants.{KeyCommit, KeyGet, KeyDelete, KeyRename, KeyList}
use Rattle.oz_command.specs.declared.command.Command.TheVariants.{KeyExpire, SnapshotCreate, SnapshotDelete, SnapshotInfo}
use Rattle.oz_command.specs.declared.command.Command.TheVariants.{SnapshotList, Admin}
use Rattle.oz_command.specs.Words.{is_blank, is_visible, words}
use Rattle.oz_script.specs.declared.draft.drafting.Draft.{Draft}
use Rattle.oz_script.specs.declared.draft.drafting.Entry.{Entry}
use Rattle.oz_script.specs.declared.draft.drafting.TheConstants.{MOST_BYTES}
use Rattle.oz_script.specs.declared.lines.script.TheConstants.{MOST_LINES, MOST_CLIENTS}
use Rattle.oz_script.specs.declared.draft.fault.Cause.TheVariants.{Long, Form, Many, Label}
use Rattle.oz_script.specs.declared.draft.fault.ScriptFault.{ScriptFault}
use Rattle.oz_script.specs.declared.draft.fault.ScriptFault.TheVariants.{At, OutOfMemory}
use Rattle.oz_script.specs.declared.draft.said.Said.{Said}
use Rattle.oz_script.specs.draft.Said.{said_of}

-- one after the other, up to the first fault
infixl 10 ◌>>=◌
abbrev pub ◌>>=◌ : {A B : Type 0} → Result A ScriptFault → (A → Result B ScriptFault) → Result B ScriptFault
(Ok value) >>= next = next value
(Err fault) >>= next = Err fault

-- what was returned, seen by view, is the answer, unless memory ran out
abbrev pub Fails : {A : Type 0} → ScriptFault → Result A ScriptFault → Type 0
Fails (At line cause) answer = answer ≡ Err (At line cause)
Fails OutOfMemory answer = Unit {0}

-- the line begins with `#`
abbrev pub is_remark : List ℕ → Bool
is_remark [] = false
is_remark (first ∷ rest) = first == 35

-- how many of these lines are a client's
abbrev pub count_in : List Entry → ℕ → ℕ
count_in entries client = count_by (λ entry. entry.client == client) entries

-- the command opens the label
abbrev pub opens : List ℕ → Command → Bool
opens label (KeyOpen other volume bucket key payload) = bytes_eq other label
opens label _ = false

-- the label that a command takes up
abbrev pub label_used : Command → Option (List ℕ)
label_used (VolumeCreate volume) = None
label_used (VolumeDelete volume) = None
label_used (VolumeInfo volume) = None
label_used (BucketCreate volume bucket) = None
label_used (BucketDelete volume bucket) = None
label_used (BucketInfo volume bucket) = None
label_used (BucketList volume) = None
label_used (KeyPut volume bucket key payload) = None
label_used (KeyOpen label volume bucket key payload) = None
label_used (KeyCommit label) = Some label
label_used (KeyGet volume bucket snapshot key) = None
label_used (KeyDelete volume bucket key) = None
label_used (KeyRename volume bucket key to) = None
label_used (KeyList volume bucket snapshot prefix start count) = None
label_used (KeyExpire volume bucket) = None
label_used (SnapshotCreate volume bucket snapshot) = None
label_used (SnapshotDelete volume bucket snapshot) = None
label_used (SnapshotInfo volume bucket snapshot) = None
label_used (SnapshotList volume bucket) = None
label_used (Admin command) = None

-- a line of the client opens the label, if there is one
abbrev pub is_opened : List Entry → ℕ → Option (List ℕ) → Bool
is_opened entries client None = true
is_opened entries client (Some label) =
    list_any (λ entry. entry.client == client && opens label entry.command) entries

-- which client this is, counted from 0: one that has spoken, or the next
abbrev pub client_place : List (List ℕ) → List ℕ → ℕ
client_place clients name = position_or_len (λ client. bytes_eq client name) clients

-- the clients, with this one at the end where it hasn't spoken
abbrev pub with_client : List (List ℕ) → List ℕ → List (List ℕ)
with_client clients name = if client_place clients name == length clients then clients ++ name ∷ [] else clients

-- the line that comes next
abbrev pub next_entry : Draft → ℕ → ℕ → Said → Entry
next_entry draft place client said = record {
  place = place;
  client = client;
  number = count_in draft.entries client + 1;
  after = said.after;
  command = said.command;
}

abbrev pub longer : Draft → ℕ → ℕ → Said → Draft
longer draft place client said = record {
  clients = with_client draft.clients said.client;
  entries = draft.entries ++ next_entry draft place (client + 1) said ∷ [];
}

-- a draft, and then a line at this place that says this
unfoldable pub with_said : Draft → ℕ → Said → Result Draft ScriptFault
with_said draft place said =
    let client = client_place draft.clients said.client in
    if nat_lt client MOST_CLIENTS && nat_lt (length draft.entries) MOST_LINES then
    if is_opened draft.entries (client + 1) (label_used said.command)
    then Ok (longer draft place client said) else Err (At place Label)
    else Err (At place Many)

-- a draft, and then a line of these words at this place
unfoldable pub with_words : Draft → ℕ → List (List ℕ) → Result Draft ScriptFault
with_words draft place [] = Ok draft
with_words draft place (client ∷ words) = do
  said ← ok_or (said_of client words) (At place Form)
  with_said draft place said

-- a draft, and then this line at this place
unfoldable pub with_line : Draft → ℕ → List ℕ → Result Draft ScriptFault
with_line draft place line =
    if is_remark line then Ok draft
    else if list_all (λ byte. is_blank byte || is_visible byte) line then with_words draft place (words line)
    else Err (At place Form)

-- a draft, and then these lines from this place on
unfoldable pub with_lines : Draft → ℕ → List (List ℕ) → Result Draft ScriptFault
with_lines draft place [] = Ok draft
with_lines draft place (line ∷ rest) = do
  next ← with_line draft place line
  with_lines next (place + 1) rest

-- The lines of these bytes. They end with a line feed, which the last may lack, and a carriage return right before a
-- line feed is dropped.
unfoldable pub draft_of : List ℕ → Result Draft ScriptFault
draft_of bytes =
    if nat_lt MOST_BYTES (length bytes) then Err (At 0 Long)
    else with_lines (record { clients = []; entries = [] }) 1 (lines bytes)

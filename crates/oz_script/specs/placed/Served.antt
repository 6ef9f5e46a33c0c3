-- Which lines are served today.
use Rattle.std.specs.Prelude.{ℕ, Bool, true, false, not, List, Option}
use Rattle.std.specs.List.{position}
use Rattle.oz_command.specs.declared.command.AdminCommand.{AdminCommand}
use Rattle.oz_command.specs.declared.command.AdminCommand.TheVariants.{Stop, Start, Wipe, Close, Containers, Drain}
use Rattle.oz_command.specs.declared.command.Command.{Command}
use Rattle.oz_command.specs.declared.command.Command.TheVariants.{VolumeCreate, VolumeDelete, VolumeInfo, BucketCreate}
use Rattle.oz_command.specs.declared.command.Command.TheVariants.{BucketDelete, BucketInfo, BucketList, KeyPut, KeyOpen}
use Rattle.oz_command.specs.declared.command.Command.TheVariants.{KeyCommit, KeyGet, KeyDelete, KeyRename, KeyList}
use Rattle.oz_command.specs.declared.command.Command.TheVariants.{KeyExpire, SnapshotCreate, SnapshotDelete, SnapshotInfo}
use Rattle.oz_command.specs.declared.command.Command.TheVariants.{SnapshotList, Admin}
use Rattle.oz_script.specs.declared.lines.script.Line.{Line}

-- The command of the admin is served: one that is done to a datanode. Those on containers aren't.
abbrev pub is_served_admin : AdminCommand → Bool
is_served_admin (Stop dn) = true
is_served_admin (Start dn) = true
is_served_admin (Wipe dn) = true
is_served_admin Close = false
is_served_admin Containers = false
is_served_admin Drain = false

-- The command is served: all but those of the admin on containers.
abbrev pub is_served_command : Command → Bool
is_served_command (VolumeCreate volume) = true
is_served_command (VolumeDelete volume) = true
is_served_command (VolumeInfo volume) = true
is_served_command (BucketCreate volume bucket) = true
is_served_command (BucketDelete volume bucket) = true
is_served_command (BucketInfo volume bucket) = true
is_served_command (BucketList volume) = true
is_served_command (KeyPut volume bucket key payload) = true
is_served_command (KeyOpen label volume bucket key payload) = true
is_served_command (KeyCommit label) = true
is_served_command (KeyGet volume bucket snapshot key) = true
is_served_command (KeyDelete volume bucket key) = true
is_served_command (KeyRename volume bucket key to) = true
is_served_command (KeyList volume bucket snapshot prefix start count) = true
is_served_command (KeyExpire volume bucket) = true
is_served_command (SnapshotCreate volume bucket snapshot) = true
is_served_command (SnapshotDelete volume bucket snapshot) = true
is_served_command (SnapshotInfo volume bucket snapshot) = true
is_served_command (SnapshotList volume bucket) = true
is_served_command (Admin command) = is_served_admin command

-- so is the line that has it
abbrev pub is_served : Line → Bool
is_served line = is_served_command line.command

-- which line is the first that isn't served, counted from 0
abbrev pub later_index : List Line → Option ℕ
later_index lines = position (λ line. not (is_served line)) lines

-- What a command reads is a piece that it was told, and a get reads each of them.
use Rattle.std.proofs.Common.{◌≡◌, ℕ, true, List, slice_get, Some, None}
use mathlib.Core.Bool.{false≢true}
use Rattle.oz_command.specs.declared.command.Command.{Command}
use Rattle.oz_command.specs.declared.command.Command.TheVariants as commands
use Rattle.oz_core.specs.Due.{reads_piece}
use Rattle.oz_fields.specs.declared.block.Piece.{Piece}
use Rattle.oz_client.specs.inner.Ready.{is_get}

pub read_is_there : (command : Command) (pieces : List Piece) (number : ℕ) (piece : Piece) → reads_piece command pieces number ≡ Some piece
    → slice_get pieces number ≡ Some piece
read_is_there (commands.KeyGet volume bucket snapshot key) pieces number piece read = read
read_is_there _ pieces number piece read = absurd cc

pub get_reads : (command : Command) (pieces : List Piece) (number : ℕ) (piece : Piece) → is_get command ≡ true
    → slice_get pieces number ≡ Some piece → reads_piece command pieces number ≡ Some piece
get_reads (commands.KeyGet volume bucket snapshot key) pieces number piece so there = there
get_reads _ pieces number piece so there = absurd (false≢true so)

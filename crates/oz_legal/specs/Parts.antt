-- For private calls: which part of the store an event is of.
use Rattle.oz_core.specs.declared.event.EventKind.{EventKind}
use Rattle.oz_core.specs.declared.event.EventKind.TheVariants.{Ask, Decide, Swap, Flushed, Halt, Grant, Up, Down, Put}
use Rattle.oz_core.specs.declared.event.EventKind.TheVariants.{Refused, Wrote, Bad, PurgeAsk, Log, Delete, AckDel}
use Rattle.oz_core.specs.declared.event.EventKind.TheVariants.{Retire, Copy, Stop, Start, Wipe, CloseCommand, Closed, Told}
use Rattle.oz_legal.specs.declared.parts.Part.{Part}
use Rattle.oz_legal.specs.declared.parts.Part.TheVariants as parts

abbrev pub part_of : EventKind → Part
part_of (Ask id request) = parts.Manager
part_of (Decide id index reply batch) = parts.Manager
part_of (Swap index) = parts.Manager
part_of (Flushed index moment) = parts.Manager
part_of (PurgeAsk blocks) = parts.Manager
part_of (Told client line answer) = parts.Manager
part_of (Grant stripe container pipeline first count) = parts.Scm
part_of (Up dn) = parts.Scm
part_of (Down dn) = parts.Scm
part_of (Log txn container locals) = parts.Scm
part_of (AckDel dn txn) = parts.Scm
part_of (Retire txn) = parts.Scm
part_of (Closed container state) = parts.Scm
part_of (Put dn block id first length) = parts.Blocks
part_of (Refused dn block id refusal) = parts.Blocks
part_of (Wrote block id) = parts.Blocks
part_of (Bad dn block id) = parts.Blocks
part_of (Delete dn txn locals) = parts.Blocks
part_of (Copy source target block) = parts.Blocks
part_of (Halt node count) = parts.Nodes
part_of (Stop dn) = parts.Nodes
part_of (Start dn) = parts.Nodes
part_of (Wipe dn) = parts.Nodes
part_of (CloseCommand dn container) = parts.Nodes

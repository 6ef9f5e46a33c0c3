pub mod AllLoad
pub mod Disks
pub mod Ids
pub mod Loads
pub mod Refused
pub mod Steps
pub mod store_opening
pub use Rattle.oz_node_events.specs.Led
pub use Rattle.oz_node_events.specs.NodeSeat
pub use Rattle.oz_node_events.specs.full
pub use Rattle.oz_scm_events.specs.Kept as ScmKept

pub mod ClientLines
pub mod Labels
pub mod Served
pub mod Workers
pub use Rattle.oz_at_work.specs.servers

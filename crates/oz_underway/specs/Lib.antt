pub mod GoingOn
pub mod Lengths
pub mod UnderWay
pub mod laws
pub use Rattle.oz_store.specs.granted
pub use Rattle.oz_store.specs.striped

pub mod AtWork
pub mod Part
pub mod inner
pub mod servers
pub use Rattle.oz_underway.specs.UnderWay
pub use Rattle.oz_underway.specs.laws.Going

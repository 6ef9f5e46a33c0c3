pub mod FaultPlaces
pub mod Heads
pub mod StepLists
pub mod Bodies
pub mod Journals
pub mod OneThing
pub mod EachBody

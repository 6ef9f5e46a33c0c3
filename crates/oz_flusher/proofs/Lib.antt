pub mod Own
pub mod Quieting
pub mod Laws
pub mod Bodies
pub mod Stopping
pub mod WholeFlush
pub mod flushing_lemmas

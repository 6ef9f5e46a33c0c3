pub mod Afters
pub mod Numbers

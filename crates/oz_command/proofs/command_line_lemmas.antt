pub mod Exact
pub mod OptionsLemmas
pub mod WordsLemmas

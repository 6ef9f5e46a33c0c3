mod Comparing
mod Itself
mod Loading
mod Putting
mod Refusing
mod Saying
mod Seen
mod Standing
pub mod nodes_opened_lemmas

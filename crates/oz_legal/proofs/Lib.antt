pub mod Going
pub mod manager_law_lemmas

pub mod Views
pub mod built_lemmas

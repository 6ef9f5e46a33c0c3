pub mod granting_lemmas
mod writing_lemmas
mod reading_lemmas

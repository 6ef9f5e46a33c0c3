pub mod example_lemmas

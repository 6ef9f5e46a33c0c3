mod Counting
mod Finds
mod Parses
mod Steps
mod draft_lemmas
mod placed_lemmas
mod circles_lemmas

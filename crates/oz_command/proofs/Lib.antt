mod DigitFacts
mod Fills
mod Parts
mod command_line_lemmas

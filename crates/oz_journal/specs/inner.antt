-- Definitions that only private calls cite, and what types keep. No public contract rests on them.
pub mod Parts
pub mod Rest

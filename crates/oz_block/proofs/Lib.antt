pub mod Changing
pub mod Handing
pub mod Listed
pub mod Places
pub mod Sizes
pub mod shelf_lemmas

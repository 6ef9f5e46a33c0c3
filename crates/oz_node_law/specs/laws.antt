-- Laws and their proofs, which the proofs of other crates cite. For a reader there is nothing in them to believe.
pub mod Held

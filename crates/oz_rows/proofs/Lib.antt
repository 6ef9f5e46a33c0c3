pub mod Loop
pub mod Spellings
pub mod Tests
pub mod TextField
pub mod WholeRows
pub mod EachBody

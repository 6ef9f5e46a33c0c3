pub mod HeldEdits
pub mod Looking
pub mod Loop
pub mod MapEdits
pub mod SlotLists
pub mod SlotUsers
pub mod SlotUses

pub mod Rising
pub mod Numbers
pub mod Sound

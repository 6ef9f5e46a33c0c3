pub mod Folder
pub use Rattle.oz_cluster.specs.declared.files as file_types
pub use Rattle.oz_cluster.specs.files

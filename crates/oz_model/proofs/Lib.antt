mod Blocks
mod Empty

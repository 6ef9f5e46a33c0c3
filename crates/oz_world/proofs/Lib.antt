mod Pushes
mod Records

mod Cut
mod Fates
mod Firsts
mod Once

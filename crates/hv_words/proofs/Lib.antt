mod Walked
mod Taken

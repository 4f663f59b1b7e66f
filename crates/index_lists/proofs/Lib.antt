mod Arrays
mod Calls
mod Items
mod Moves
mod Starts
mod Walks

mod Chosen
mod Members
mod Nodes
mod Placing
mod Walks
mod Whole

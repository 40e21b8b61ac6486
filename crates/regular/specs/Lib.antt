pub mod Sets
pub mod Words
pub mod Automaton
pub mod States

pub mod Log
pub mod WorldState
pub mod PeerStates
pub mod Simulator

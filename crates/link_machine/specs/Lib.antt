pub mod LinkMachine

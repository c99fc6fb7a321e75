pub mod DeliversInOrder

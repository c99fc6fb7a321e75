pub mod SessionNumbers
pub mod SessionsArePaired
pub mod CalmRuns

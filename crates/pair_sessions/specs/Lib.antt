pub mod CalmRuns
pub mod Numbers

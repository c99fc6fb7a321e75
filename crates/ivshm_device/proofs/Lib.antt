pub mod AnswerCauses
pub mod Pushed
pub mod Accesses
pub mod AppliedEvents

pub mod AnswerCauses
pub mod NumbersDetermineValues
pub mod Sessions

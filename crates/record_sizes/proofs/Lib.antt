pub mod LineBytes
pub mod StepsPay
pub mod Interrupts
pub mod EventsPay
pub mod MarksPay
pub mod Sharing
pub mod RecordIsShort

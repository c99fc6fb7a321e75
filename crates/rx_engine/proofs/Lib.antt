pub mod ModularNumbers
pub mod GatheredFrame
pub mod FrameReads
pub mod FrameBursts

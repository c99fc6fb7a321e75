pub mod QueueHasBounds
pub mod FramesAreLaidOut
pub mod QueueIsWellFormed
pub mod QueuesAreLaidOut
pub mod QueueSizeIsGreatest
pub mod TestsDecideRanges

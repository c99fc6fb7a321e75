pub mod PlacedFramesFit
pub mod FramesInOrder
pub mod AllocatorRefinesSession
pub mod DescriptorsAreReusedInOrder

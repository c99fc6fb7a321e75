pub mod Bodies
pub mod Bytes
pub mod CutImages
pub mod ExactFaults
pub mod Items
pub mod OneListing

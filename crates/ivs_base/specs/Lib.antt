pub mod SourceAndSink
pub mod MemorySourceAndSink
pub mod Numbers

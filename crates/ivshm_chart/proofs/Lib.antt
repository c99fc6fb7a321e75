mod KeptLines
pub mod Causes

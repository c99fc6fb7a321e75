pub mod Playing
pub mod RecordWriting

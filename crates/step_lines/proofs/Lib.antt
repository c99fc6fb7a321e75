pub mod FramesOfMarks
pub mod NotesAreMarks
pub mod DrawnAccess

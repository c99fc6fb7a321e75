pub mod LawNames
pub mod BrokenLaw
pub mod Difference
pub mod Taken
pub mod ScenarioParts
pub mod ExpectedRun

pub mod NumberBytes
pub mod UnmaskedBitsAreKept
pub mod FieldsEndInside
pub mod PointerMarks
pub mod WalkIsUnique
pub mod DeviceRowsAreTable
pub mod WalkFindsDevice

pub mod SizesAreShape
pub mod SectionsAreApart
pub mod TestDecidesWrites
